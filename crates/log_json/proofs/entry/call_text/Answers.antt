use Rattle.log_json.proofs.Utf8Texts.{added_call}
use Rattle.log_json.proofs.entry.call_text.Goals as goal

pub text_of-requires : goal.text_of-requires
text_of-requires c = added_call c.args.words.now.script.now c.requires c.args.call _ _ c.new-text.ensures.items c.in_ok-put_call.ensures
