use Rattle.std.proofs.Common.{◌∙◌, sym, arith}
use Rattle.script_lines.proofs.Fronts.{value_small, front_value, whole_value, value_more, digits_more}
use Rattle.script_lines.proofs.front.front_digits.Goals as goal

pub returns-then-digits-eq-DIGIT_LIMIT-clause-value : goal.returns-then-digits-eq-DIGIT_LIMIT-clause-value
returns-then-digits-eq-DIGIT_LIMIT-clause-value c =
    let l = c.loop-digits in
    front_value c.args.text.now l.value l.digits l.invariant.value l.invariant.all l.auto.digits-end l.invariant.few

pub overflow_mul-value : goal.overflow_mul-value
overflow_mul-value c =
    let l = c.loop-digits in
    omega (arith, l.invariant.value, value_small c.args.text.now l.digits 18 l.auto.digits-end (omega (arith, l.invariant.few, c.if-digits-eq-DIGIT_LIMIT.false)) l.invariant.all)

pub overflow_add-value : goal.overflow_add-value
overflow_add-value c =
    let l = c.loop-digits in
    omega (arith, l.invariant.value, c.type_inv.text l.digits, value_small c.args.text.now l.digits 18 l.auto.digits-end (omega (arith, l.invariant.few, c.if-digits-eq-DIGIT_LIMIT.false)) l.invariant.all)

pub loop-digits-preserved : goal.loop-digits-preserved
loop-digits-preserved c =
    let l = c.loop-digits in
    let text = c.args.text.now in
    record {
      value = value_more text l.value l.digits c.loop-digits-test.true l.invariant.value;
      all = digits_more text l.digits c.loop-digits-test.true l.invariant.all (sym c.is_ascii_digit.ensures.value ∙ c.if-not-is_ascii_digit.false);
      few = omega (arith, l.invariant.few, c.if-digits-eq-DIGIT_LIMIT.false);
    }

pub returns-clause-value : goal.returns-clause-value
returns-clause-value c =
    let l = c.loop-digits in
    whole_value c.args.text.now l.value l.digits l.invariant.value l.invariant.all l.auto.digits-end l.invariant.few c.loop-digits-test.false
