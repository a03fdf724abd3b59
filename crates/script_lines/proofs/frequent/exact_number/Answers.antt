use Rattle.std.proofs.Common.{sym, ◌∙◌, arith}
use Rattle.script_lines.proofs.FrequentLines.{exact_some}
use Rattle.script_lines.proofs.frequent.exact_number.Goals as goal

pub returns : goal.returns
returns c = exact_some c.digits_value.result c.args.word.now c.args.first c.digits_value.ensures c.requires (omega (arith, c.if-word-gt-DIGIT_LIMIT.false)) (sym c.has_leading_zero.ensures ∙ c.if-has_leading_zero.false)
