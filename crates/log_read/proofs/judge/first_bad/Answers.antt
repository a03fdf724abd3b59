use Rattle.std.proofs.Common.{ℕ, List, Bor, take, sym, ◌∙◌, subst}
use Rattle.std.specs.Prelude.{map}
use Rattle.script_text.proofs.Judging.{one_taken}
use Rattle.log_read.proofs.FirstBad.{bad_at}
use Rattle.log_read.proofs.Rests.{Lines, IsRead, nothing_read, one_read, none_begins}
use Rattle.log_read.proofs.judge.first_bad.Goals as goal

pub loop-before-init : goal.loop-before-init
loop-before-init c = nothing_read c.args.words.now.script.now

pub returns-in_default-clause-bad : goal.returns-in_default-clause-bad
returns-in_default-clause-bad c =
    let read : Bor (List ℕ) → List ℕ = λ w. w.now in
    let s = c.args.words.now.script.now in
    let texts = c.args.texts.now in
    let i = c.loop-before.before in
    let p = c.loop-before.phase in
    let bad = none_begins s c.requires.named (map read (take i texts)) _ p c.in_ok-next.field-0 c.loop-before.invariant (sym c.in_default.is) c.in_ok-next.ensures.again in
    bad_at read s texts i _ p c.in_ok-reason.reason c.loop-before-test.true c.loop-before.invariant bad c.in_ok-reason.ensures

pub loop-before-preserved : goal.loop-before-preserved
loop-before-preserved c =
    let read : Bor (List ℕ) → List ℕ = λ w. w.now in
    let s = c.args.words.now.script.now in
    let texts = c.args.texts.now in
    let i = c.loop-before.before in
    let step = rw c.in-Some.is at c.in_ok-next.ensures.taken in
    let good = one_read s (map read (take i texts)) _ c.loop-before.phase c.in-Some.next c.loop-before.invariant step (λ other taken. sym c.in-Some.is ∙ c.in_ok-next.ensures.again other taken) in
    subst (λ (l : Lines). IsRead s l c.in-Some.next) (one_taken read texts i _ c.loop-before-test.true) good
