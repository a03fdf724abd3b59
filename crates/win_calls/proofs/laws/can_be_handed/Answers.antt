use Rattle.win_calls.proofs.TableLaws.{handed}
use Rattle.win_calls.proofs.laws.can_be_handed.Goals as goal

pub returns : goal.returns
returns c s n stage ps st g h a = handed s n stage ps st g h a
