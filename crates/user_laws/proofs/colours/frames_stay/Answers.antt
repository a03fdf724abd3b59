use Rattle.std.proofs.Common.{[]}
use Rattle.user_model.proofs.FrameLaws.{frame_kept}
use Rattle.user_laws.proofs.Coloured.{frame_stays, no_frame}
use Rattle.user_laws.proofs.colours.frames_stay.Goals as goal

pub returns-clause-snapped : goal.returns-clause-snapped
returns-clause-snapped c = λ setup past e k lawful is. frame_kept setup [] e past k lawful is

pub returns-clause-stays : goal.returns-clause-stays
returns-clause-stays c = frame_stays

pub returns-clause-others : goal.returns-clause-others
returns-clause-others c = no_frame
