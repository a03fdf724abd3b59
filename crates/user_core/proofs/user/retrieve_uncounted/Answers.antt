use Rattle.std.proofs.Common.{sym, ◌∙◌}
use Rattle.std.proofs.lemmas.Bool.{false≢true}
use Rattle.user_core.proofs.OnePlace.{no_retrieval}
use Rattle.user_core.proofs.user.retrieve_uncounted.Goals as goal

pub returns-clause-with_room : goal.returns-clause-with_room
returns-clause-with_room g c = λ is room. absurd (false≢true (sym (no_retrieval c.args.entry.now.call c.requires.group) ∙ is))
