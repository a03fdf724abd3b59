use Rattle.std.proofs.Common.{refl}
use Rattle.user_model.proofs.ColourLaws.{bare_is_0, colour-refused}
use Rattle.user_laws.proofs.Coloured.{painted_by}
use Rattle.user_laws.proofs.colours.colours_follow.Goals as goal

pub returns-clause-first : goal.returns-clause-first
returns-clause-first c = λ setup p. refl

pub returns-clause-painted : goal.returns-clause-painted
returns-clause-painted c = painted_by

pub returns-clause-unowned : goal.returns-clause-unowned
returns-clause-unowned c = bare_is_0

pub returns-clause-refused : goal.returns-clause-refused
returns-clause-refused c = λ setup past e p is. colour-refused setup e past p is
