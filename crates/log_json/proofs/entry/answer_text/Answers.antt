use Rattle.log_json.proofs.Utf8Texts.{added_answer}
use Rattle.log_json.proofs.entry.answer_text.Goals as goal

pub text_of-requires : goal.text_of-requires
text_of-requires c = added_answer c.args.words.now.script.now c.requires c.args.answer _ _ c.new-text.ensures.items c.in_ok-put_answer.ensures
