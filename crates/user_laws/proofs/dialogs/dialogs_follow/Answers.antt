use Rattle.std.proofs.Common.{None, ap}
use Rattle.std.specs.Prelude.{unwrap_or}
use Rattle.user_model.specs.declared.entry.Entry.{Entry}
use Rattle.user_model.specs.Past.{Past}
use Rattle.user_model.specs.Dialogs.{turned}
use Rattle.user_model.proofs.DirtyLaws.{last_refused, last_says}
use Rattle.user_laws.proofs.dialogs.dialogs_follow.Goals as goal

pub returns-clause-next : goal.returns-clause-next
returns-clause-next c = λ past e w h. last_says (λ (e : Entry) (before : Past). turned w e.answer e.call) e past None h

pub returns-clause-refused : goal.returns-clause-refused
returns-clause-refused c = λ past e w h. ap (λ o. unwrap_or o None) (last_refused (λ (e : Entry) (before : Past). turned w e.answer e.call) e past h)
