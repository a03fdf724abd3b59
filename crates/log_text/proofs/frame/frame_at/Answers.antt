use Rattle.std.proofs.Common.{◌∙◌}
use Rattle.log_text.proofs.FrameTexts.{frame_shown}
use Rattle.log_text.proofs.frame.frame_at.Goals as goal

pub returns-in-Snap : goal.returns-in-Snap
returns-in-Snap g c later before lawful is = c.frame.ensures ∙ frame_shown (g.M.Machine.setup c.args.machine.now) (g.M.Machine.past c.args.machine.now) later before c.args.entry c.in-Snap.number lawful is c.in-Snap.is
