use Rattle.user_model.proofs.TellerLaws.{tells_all, stands_still}
use Rattle.user_model.proofs.teller.alone_tells_all.Goals as goal

pub returns-clause-told : goal.returns-clause-told
returns-clause-told c = tells_all

pub returns-clause-still : goal.returns-clause-still
returns-clause-still c = stands_still
