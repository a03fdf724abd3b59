use Rattle.std.proofs.Common.{◌≡◌, ◌*◌, List, ℕ, length, Option, Some, take, ap, ◌∙◌, refl, arith}
use Rattle.log_read.proofs.FrameRows.{frame_read, enough_lines, read_fits}
use Rattle.log_read.proofs.LineWords.{from_nothing}
use Rattle.log_read.proofs.frames.frame_at.Goals as goal

pub returns-then-lines-height-clause-again : goal.returns-then-lines-height-clause-again
returns-then-lines-height-clause-again c colours rest fits lines =
    absurd (omega (arith, enough_lines (λ w. w.now) c.args.script.now c.args.lines.now colours rest lines))

pub returns-then-len-size-clause-again : goal.returns-then-len-size-clause-again
returns-then-len-size-clause-again c colours rest fits lines =
    let read = from_nothing _ _ _ _ c.in_ok-add_rows.ensures c.new-colours.ensures.items refl in
    let same = frame_read (λ w. w.now) c.args.script.now c.args.lines.now c.from-height.result colours rest _ (c.from-height.ensures ∙ c.height.ensures) fits lines read in
    let size : c.from-height.result * c.from.result ≡ c.args.script.now.height * c.args.script.now.width = ap (λ (k : ℕ). k * c.from.result) (c.from-height.ensures ∙ c.height.ensures) ∙ ap (λ (k : ℕ). c.args.script.now.height * k) (c.from.ensures ∙ c.width.ensures) in
    absurd (omega (arith, ap length same, fits.size, size))

pub returns-clause-fits : goal.returns-clause-fits
returns-clause-fits c =
    let read = from_nothing _ _ _ _ c.in_ok-add_rows.ensures c.new-colours.ensures.items refl in
    let size : c.from-height.result * c.from.result ≡ c.args.script.now.height * c.args.script.now.width = ap (λ (k : ℕ). k * c.from.result) (c.from-height.ensures ∙ c.height.ensures) ∙ ap (λ (k : ℕ). c.args.script.now.height * k) (c.from.ensures ∙ c.width.ensures) in
    read_fits (λ w. w.now) c.args.script.now (take c.from-height.result c.args.lines.now) _ read (omega (arith, size))

pub returns-clause-again : goal.returns-clause-again
returns-clause-again c colours rest fits lines =
    let read = from_nothing _ _ _ _ c.in_ok-add_rows.ensures c.new-colours.ensures.items refl in
    let same = frame_read (λ w. w.now) c.args.script.now c.args.lines.now c.from-height.result colours rest _ (c.from-height.ensures ∙ c.height.ensures) fits lines read in
    ap (λ (l : List ℕ). let o : Option (List ℕ) = Some l in o) same
