use Rattle.std.proofs.Common.{inr}
use Rattle.script_text.proofs.WholeTexts.{whole_of}
use Rattle.script_text.proofs.reader.refused.Goals as goal

pub returns-in-Ok : goal.returns-in-Ok
returns-in-Ok c = (λ s h e. c.requires.other (whole_of s c.args.bytes.now h e), inr c.in-Ok.ensures)
