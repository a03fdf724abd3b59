use Rattle.std.proofs.lemmas.Grind.{common_steps}
use Rattle.std.proofs.Common.{◌≡◌, ◌∙◌, List, length, map, filter, ap, subst, sym, arith}
use Rattle.std.specs.List.Sorted.{IsNonDecreasingBy}
use Rattle.std.proofs.lemmas.List.{take_all}
use Rattle.win_num.specs.declared.message.Hwnd.{Hwnd}
use Rattle.win_rows.specs.Windows.{number_of}
use Rattle.window_state.specs.Boxes.{moved_in, AreMoved}
use Rattle.window_state.proofs.BoxLaws.{are_moved, moved_rise}
use Rattle.window_state.proofs.boxes.moved_windows.Goals as goal

pub returns-clause-windows : goal.returns-clause-windows
returns-clause-windows c =
    let old = c.args.old.now.live in
    let new = c.args.new.now.live in
    let many : length c.windows-windows.result.now ≡ length (map number_of new) = ap length c.windows-windows.ensures.numbers in
    c.loop-k.invariant ∙ ap (λ (hs : List Hwnd). filter (λ v. moved_in old new v.0) hs) (take_all c.loop-k.k (map number_of new) (omega (arith, many)))

pub returns-clause-sorted : goal.returns-clause-sorted
returns-clause-sorted c = subst (λ (hs : List Hwnd). IsNonDecreasingBy (λ (h : Hwnd). h.0) hs) (sym (returns-clause-windows c)) (moved_rise c.args.old.now.live c.args.new.now.live c.args.new.now.last c.windows-windows.ensures.ordered)

pub returns-clause-moved : goal.returns-clause-moved
returns-clause-moved c = subst (AreMoved c.args.old.now c.args.new.now) (sym (returns-clause-windows c)) (are_moved c.args.old.now c.args.new.now)

pub has_moved-requires-clause-before : goal.has_moved-requires-clause-before
has_moved-requires-clause-before c = grind (arith, common_steps)

pub has_moved-requires-clause-after : goal.has_moved-requires-clause-after
has_moved-requires-clause-after c = grind (arith, common_steps)

pub loop-k-preserved : goal.loop-k-preserved
loop-k-preserved c = grind (arith, common_steps)

pub returns-in_err-push-clause-windows : goal.returns-in_err-push-clause-windows
returns-in_err-push-clause-windows c = grind (arith, common_steps)

pub returns-in_err-push-clause-sorted : goal.returns-in_err-push-clause-sorted
returns-in_err-push-clause-sorted c = grind (arith, common_steps)

pub returns-in_err-push-clause-moved : goal.returns-in_err-push-clause-moved
returns-in_err-push-clause-moved c = grind (arith, common_steps)
