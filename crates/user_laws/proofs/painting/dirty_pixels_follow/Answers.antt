use Rattle.user_model.proofs.DirtyLaws.{dirty-next}
use Rattle.user_laws.proofs.KeptByRefusals.{changes_nothing}
use Rattle.user_laws.proofs.painting.dirty_pixels_follow.Goals as goal

pub returns-clause-changed : goal.returns-clause-changed
returns-clause-changed c = λ setup past e w p is. dirty-next setup e past w p is

pub returns-clause-refused : goal.returns-clause-refused
returns-clause-refused c = λ setup past e w p is. (changes_nothing past e is).same_dirty setup w p
