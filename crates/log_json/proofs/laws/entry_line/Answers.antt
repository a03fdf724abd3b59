use Rattle.log_json.proofs.LineTexts.{entry_line_is}
use Rattle.log_json.proofs.laws.entry_line.Goals as goal

pub returns : goal.returns
returns c s e = entry_line_is s e
