use Rattle.std.proofs.Common.{length, ap, arith, inl, refl}
use Rattle.script_text.proofs.WholeTexts.{whole_of}
use Rattle.script_text.proofs.reader.read.Goals as goal

pub returns-then-bytes-gt-SCRIPT_LIMIT-clause-cause : goal.returns-then-bytes-gt-SCRIPT_LIMIT-clause-cause
returns-then-bytes-gt-SCRIPT_LIMIT-clause-cause c = (λ s h e. omega (arith, h.short, ap length e), inl (record { many = omega arith; told = refl }))

pub returns-clause-whole : goal.returns-clause-whole
returns-clause-whole c = whole_of c.in-Some.script c.args.bytes.now (rw c.in-Some.is at c.in_ok-script.ensures.script) (rw c.in-Some.is at c.in_ok-script.ensures.text)
