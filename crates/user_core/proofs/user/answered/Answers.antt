use Rattle.std.proofs.Common.{ap, sym, ◌∙◌}
use Rattle.std.proofs.lemmas.Bool.{false≢true}
use Rattle.core_deliver.specs.Groups.{are_drawings}
use Rattle.user_core.proofs.OnePlace.{no_drawing}
use Rattle.user_core.proofs.user.answered.Goals as goal

pub returns-in-Drawing-clause-with_room : goal.returns-in-Drawing-clause-with_room
returns-in-Drawing-clause-with_room c = λ is room. absurd (false≢true (sym (no_drawing c.args.call.now (ap are_drawings (sym c.group_of.ensures ∙ c.in-Drawing.is))) ∙ is))
