use Rattle.user_model.proofs.DirtyOwners.{dirty_owned}
use Rattle.user_laws.proofs.Painted.{owner_lives}
use Rattle.user_laws.proofs.painting.painted_windows_are_live.Goals as goal

pub returns-clause-live : goal.returns-clause-live
returns-clause-live c = λ setup past w p lawful is. owner_lives setup past w p lawful (dirty_owned setup past w p is)

pub returns-clause-owned : goal.returns-clause-owned
returns-clause-owned c = λ setup past w p is. dirty_owned setup past w p is
