use Rattle.log_json.proofs.FrameLines.{added_digits}
use Rattle.log_json.proofs.frame.row_text.Goals as goal

pub text_of-requires : goal.text_of-requires
text_of-requires c = added_digits c.args.row.now _ _ c.new-text.ensures.items c.in_ok-put_digits.ensures
