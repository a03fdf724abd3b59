use Rattle.log_json.proofs.NameTexts.{known_texts}
use Rattle.log_json.proofs.laws.names_are_texts.Goals as goal

pub returns : goal.returns
returns c s h = known_texts s h
