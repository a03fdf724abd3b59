use Rattle.std.proofs.Common.{◌≡◌, ℕ, List, length, take, drop, ap, ◌∙◌, arith}
use Rattle.std.specs.Prelude.{min}
use Rattle.log_text.proofs.FrameTexts.{row_added, rows_added}
use Rattle.log_text.proofs.frame.put_frame.Goals as goal

pub loop-preserved : goal.loop-preserved
loop-preserved c =
    let rest : List ℕ = c.loop.rest.now in
    let cut : c.min.result ≡ min (length rest) c.args.width = grind (arith, c.min.ensures, c.from.ensures) in
    row_added c.args.width c.args.height c.loop.counter c.loop.out.items c.put_row.new.out.items rest c.split_at.result.0.now c.split_at.result.1.now _ c.loop-test.true c.loop.invariant c.in_ok-put_row.ensures
    (c.split_at.ensures.front ∙ ap (λ k. take k rest) cut) (c.split_at.ensures.back ∙ ap (λ k. drop k rest) cut)

pub returns : goal.returns
returns c = rows_added c.args.width c.args.height c.loop.counter c.loop.out.items c.loop.rest.now c.args.out.now.items _ c.loop-test.false c.loop.invariant
