use Rattle.std.proofs.Common.{ℕ, List, Bor, take, arith, subst}
use Rattle.std.specs.Prelude.{map}
use Rattle.std.proofs.lemmas.List.{take_all}
use Rattle.script_text.specs.Judging.{nest_in, IsReading}
use Rattle.script_text.proofs.Judging.{one_taken, taken_length, bad_at}
use Rattle.script_text.proofs.judge.first_bad.Goals as goal

pub line_reason-requires : goal.line_reason-requires
line_reason-requires c = c.loop-before.invariant.front.stood.named

pub take_next-requires : goal.take_next-requires
take_next-requires c = record {
  known = c.loop-before.invariant.front.stood.named;
  sound = c.loop-before.invariant.sound;
  few = c.loop-before.invariant.front.stood.few;
}

pub returns-then-not-branch-clause-bad : goal.returns-then-not-branch-clause-bad
returns-then-not-branch-clause-bad c =
    let read : Bor (List ℕ) → List ℕ = λ w. w.now in
    let texts = c.args.texts.now in
    let i = c.loop-before.before in
    let r = c.loop-before.reading in
    let bad = c.in_ok-take_next.ensures.bad (map read (take i texts)) (taken_length read texts i c.loop-before-test.true) c.loop-before.invariant c.if-not-branch.true in
    bad_at read texts i _ r.known (nest_in r.builder) r.threads c.in_ok-reason.reason c.loop-before-test.true c.loop-before.invariant.front bad c.in_ok-reason.ensures

pub loop-before-preserved : goal.loop-before-preserved
loop-before-preserved c =
    let read : Bor (List ℕ) → List ℕ = λ w. w.now in
    let texts = c.args.texts.now in
    let i = c.loop-before.before in
    let P : List (List ℕ) → Type 0 = λ l. IsReading l c.take_next.new.self in
    let good = c.in_ok-take_next.ensures.good (map read (take i texts)) (taken_length read texts i c.loop-before-test.true) c.loop-before.invariant c.if-not-branch.false in
    subst P (one_taken read texts i _ c.loop-before-test.true) good

pub returns-clause-good : goal.returns-clause-good
returns-clause-good c = λ e.
    let read : Bor (List ℕ) → List ℕ = λ w. w.now in
    let P : List (Bor (List ℕ)) → Type 0 = λ l. IsReading (map read l) c.loop-before.reading in
    subst P (take_all c.loop-before.before c.args.texts.now (omega arith)) c.loop-before.invariant
