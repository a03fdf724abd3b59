use Rattle.std.proofs.Common.{◌≡◌, ◌≢◌, ◌+◌, ℕ, List, take, drop, sym, ◌∙◌, subst}
use Rattle.std.proofs.lemmas.Bool.{false≢true}
use Rattle.log_text.specs.Frames.{rows}
use Rattle.log_replay.specs.Replays.{DifferAt}
use Rattle.log_replay.proofs.Differing.{Alike, alike_more, differ_here, alike_all}
use Rattle.log_replay.proofs.differences.first_row.Goals as goal

pub returns-then-not-same_text-clause-differ : goal.returns-then-not-same_text-clause-differ
returns-then-not-same_text-clause-differ c =
    let w = c.args.width in
    let h = c.args.height in
    let l = c.loop-row in
    let other : take w l.found_rest.now ≢ take w l.right_rest.now = λ same. false≢true (sym c.if-not-same_text.true ∙ c.same_text.ensures.1 (c.split_row.ensures.row ∙ same ∙ sym c.split_row-in-loop-row.ensures.row)) in
    subst (λ (k : ℕ). DifferAt (rows w h c.args.found.now) (rows w h c.args.right.now) k) (sym c.from.ensures) (differ_here w h l.row c.args.found.now c.args.right.now l.found_rest.now l.right_rest.now c.loop-row-test.true l.invariant other)

pub loop-row-preserved : goal.loop-row-preserved
loop-row-preserved c =
    let w = c.args.width in
    let h = c.args.height in
    let l = c.loop-row in
    let same : take w l.found_rest.now ≡ take w l.right_rest.now = sym c.split_row.ensures.row ∙ c.same_text.ensures.0 c.if-not-same_text.false ∙ c.split_row-in-loop-row.ensures.row in
    let more = alike_more w h l.row c.args.found.now c.args.right.now l.found_rest.now l.right_rest.now c.loop-row-test.true l.invariant same in
    subst (λ (x : List ℕ). Alike w h (l.row + 1) c.args.found.now c.args.right.now x c.split_row-in-loop-row.result.1.now) (sym c.split_row.ensures.below)
    (subst (λ (y : List ℕ). Alike w h (l.row + 1) c.args.found.now c.args.right.now (drop w l.found_rest.now) y) (sym c.split_row-in-loop-row.ensures.below) more)

pub returns-clause-same : goal.returns-clause-same
returns-clause-same c = λ _. alike_all c.args.width c.args.height c.loop-row.row c.args.found.now c.args.right.now c.loop-row.found_rest.now c.loop-row.right_rest.now c.loop-row-test.false c.loop-row.invariant
