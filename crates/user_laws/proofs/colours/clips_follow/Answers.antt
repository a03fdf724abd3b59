use Rattle.user_laws.proofs.Coloured.{clip_all, clip_begun, clip_kept}
use Rattle.user_laws.proofs.colours.clips_follow.Goals as goal

pub returns-clause-all : goal.returns-clause-all
returns-clause-all c = clip_all

pub returns-clause-begun : goal.returns-clause-begun
returns-clause-begun c = clip_begun

pub returns-clause-kept : goal.returns-clause-kept
returns-clause-kept c = clip_kept
