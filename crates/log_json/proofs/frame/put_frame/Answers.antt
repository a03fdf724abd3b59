use Rattle.log_json.proofs.FrameLines.{frame_plain}
use Rattle.log_json.proofs.frame.put_frame.Goals as goal

pub put_line-requires : goal.put_line-requires
put_line-requires c = frame_plain c.width.result c.height.result c.in-Some.colours.now _ c.in_ok-object.ensures
