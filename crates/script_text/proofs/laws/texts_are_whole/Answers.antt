use Rattle.std.proofs.Common.{refl}
use Rattle.script_text.specs.Spelling.{spelling}
use Rattle.script_text.proofs.WholeTexts.{whole_of}
use Rattle.script_text.proofs.laws.texts_are_whole.Goals as goal

pub returns : goal.returns
returns c = λ s h. whole_of s (spelling s) h refl
