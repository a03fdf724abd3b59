use Rattle.std.proofs.Common.{sym, ◌∙◌}
use Rattle.std.proofs.lemmas.Bool.{false≢true}
use Rattle.user_core.proofs.OnePlace.{no_status}
use Rattle.user_core.proofs.user.status_uncounted.Goals as goal

pub returns-clause-with_room : goal.returns-clause-with_room
returns-clause-with_room g c = λ is room. absurd (false≢true (sym (no_status c.args.call.now c.requires.group) ∙ is))
