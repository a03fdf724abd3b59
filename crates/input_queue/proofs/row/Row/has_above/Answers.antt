use Rattle.std.proofs.Common.{◌≡◌, ◌<◌, ◌∙◌, length, get_or, ap, sym, arith}
use Rattle.input_queue.specs.declared.element.Element.{Element}
use Rattle.input_queue.proofs.Above.{above_fails, above_low, above_none, above_passes, stands_at}
use Rattle.input_queue.proofs.row.Row.has_above.Goals as goal
use Rattle.input_queue.proofs.row.Row.has_above.Goals.{else-number-via-then-number+else-pass, else-number-via-else-number}

pub returns-then-pass : goal.returns-then-pass
returns-then-pass g c = λ test tests.
    let xs = c.args.self.now in
    let i = c.loop-at.at in
    let y : Element = c.index.result.now in
    let here : y ≡ get_or xs i y = c.index.ensures ∙ ap (λ m. get_or m i y) c.self.view_is in
    let low : i < length xs = omega (arith, c.loop-at-test.true, c.len-at-end.ensures, c.self.inside.elements.ok.0, ap length c.self.view_is) in
    sym (sym (c.loop-at.invariant test tests) ∙ above_passes c.args.number test xs i y low (omega (arith, c.if-number.true, c.number.ensures, ap (λ (x : Element). x.number) here)) (ap test (stands_at xs i c.read.result y c.read.ensures.element) ∙ sym (tests _ _ c.pass.ensures) ∙ c.if-pass.true))

pub loop-at-preserved : goal.loop-at-preserved
loop-at-preserved g c = λ test tests.
    let xs = c.args.self.now in
    let i = c.loop-at.at in
    let y : Element = c.index.result.now in
    let here : y ≡ get_or xs i y = c.index.ensures ∙ ap (λ m. get_or m i y) c.self.view_is in
    let low : i < length xs = omega (arith, c.loop-at-test.true, c.len-at-end.ensures, c.self.inside.elements.ok.0, ap length c.self.view_is) in
    elim c.else-number.branch [
      | else-number-via-then-number+else-pass w ↦ sym (above_fails c.args.number test xs i y low (omega (arith, w.if-number.true, c.number.ensures, ap (λ (x : Element). x.number) here)) (ap test (stands_at xs i w.read.result y w.read.ensures.element) ∙ sym (tests _ _ w.pass.ensures) ∙ w.if-pass.false)) ∙ c.loop-at.invariant test tests
      | else-number-via-else-number w ↦ sym (above_low c.args.number test xs i y low (omega (arith, w.if-number.false, c.number.ensures, ap (λ (x : Element). x.number) here))) ∙ c.loop-at.invariant test tests
    ]

pub returns : goal.returns
returns g c = λ test tests.
    let xs = c.args.self.now in
    sym (above_none c.args.number test xs c.loop-at.at (omega (arith, c.loop-at-test.false, c.len-at-end.ensures, c.self.inside.elements.ok.0, ap length c.self.view_is))) ∙ c.loop-at.invariant test tests
