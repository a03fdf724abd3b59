use Rattle.std.proofs.Common.{◌≡◌, ◌<◌, ℕ, List, true, false, length, get_or, sym, ap, subst, ◌∙◌, arith}
use Rattle.user_pool.specs.Runs.{is_runnable}
use Rattle.user_pool.specs.Moves.{IsNextPlace}
use Rattle.user_pool.proofs.Places.{Passes, at_start, one_more, found_here, none_here}
use Rattle.user_pool.proofs.choice.next_place.Goals as goal

pub loop-place-init : goal.loop-place-init
loop-place-init g c = at_start (is_runnable c.args.script.now (g.M.Machine.past c.args.machine.now)) c.args.script.now.order c.args.from

pub returns-then-runnable : goal.returns-then-runnable
returns-then-runnable g c =
    let test = is_runnable c.args.script.now (g.M.Machine.past c.args.machine.now) in
    let order : List ℕ = c.args.script.now.order in
    let within : c.loop-place.place < length order = subst (λ (l : List ℕ). c.loop-place.place < length l) c.order-order.ensures c.loop-place-test.true in
    let hit : test (get_or order c.loop-place.place 0) ≡ true = ap (λ (l : List ℕ). test (get_or l c.loop-place.place 0)) (sym c.order-order.ensures) ∙ sym c.runnable.ensures ∙ c.if-runnable.true in
    found_here test order c.args.from c.loop-place.place within c.loop-place.invariant hit

pub loop-place-preserved : goal.loop-place-preserved
loop-place-preserved g c =
    let test = is_runnable c.args.script.now (g.M.Machine.past c.args.machine.now) in
    let order : List ℕ = c.args.script.now.order in
    let within : c.loop-place.place < length order = subst (λ (l : List ℕ). c.loop-place.place < length l) c.order-order.ensures c.loop-place-test.true in
    let miss : test (get_or order c.loop-place.place 0) ≡ false = ap (λ (l : List ℕ). test (get_or l c.loop-place.place 0)) (sym c.order-order.ensures) ∙ sym c.runnable.ensures ∙ c.if-runnable.false in
    one_more test order c.args.from c.loop-place.place within c.loop-place.invariant miss

pub returns : goal.returns
returns g c =
    let test = is_runnable c.args.script.now (g.M.Machine.past c.args.machine.now) in
    let order : List ℕ = c.args.script.now.order in
    let end : length c.order-order.result.now ≡ length order = ap (λ (l : List ℕ). length l) c.order-order.ensures in
    let all : c.loop-place.place ≡ length order = omega (arith, end, c.loop-place-test.false, c.loop-place.auto.place-end, c.requires.from) in
    subst (IsNextPlace test order c.args.from) (sym end) (none_here test order c.args.from (subst (Passes test order c.args.from) all c.loop-place.invariant))
