use Rattle.log_json.proofs.Utf8Texts.{added_waits}
use Rattle.log_json.proofs.ending.waits_text.Goals as goal

pub text_of-requires : goal.text_of-requires
text_of-requires c = added_waits c.args.words.now.script.now c.requires c.from.result c.args.call _ _ _ _ c.new-text.ensures.items c.in_ok-put_number.ensures c.in_ok-put_text.ensures c.in_ok-put_call.ensures
