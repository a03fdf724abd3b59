use Rattle.std.proofs.Common.{length, decimal, drop, ap, arith}
use Rattle.std.proofs.lemmas.List.{length-append, length-drop}
use Rattle.log_text.proofs.Lengths.{short}
use Rattle.log_text.proofs.line.Line.prepend_number.Goals as goal

pub write_digits-self-inside-requires : goal.write_digits-self-inside-requires
write_digits-self-inside-requires c = (omega (arith, short c.args.number c.ranges.number.fits, ap length c.self.view_is, length-drop c.self.inside.start c.self.inside.bytes), omega arith)

pub returns-else-number-lt10-clause-room : goal.returns-else-number-lt10-clause-room
returns-else-number-lt10-clause-room c = omega (arith, short c.args.number c.ranges.number.fits, ap length c.write_digits-self-inside.ensures.written, length-append (decimal c.args.number) (drop c.self.inside.start c.self.inside.bytes), ap length c.self.view_is)
