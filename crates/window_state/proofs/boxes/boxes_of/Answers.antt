use Rattle.std.proofs.Common.{◌≡◌, ◌<◌, ◌∙◌, List, [], ◌∷◌, length, map, get_or, ap, sym, subst, arith}
use Rattle.std.proofs.lemmas.List.{length-map, length-append}
use Rattle.win_num.specs.declared.message.Hwnd.{Hwnd}
use Rattle.win_rows.specs.Windows.{number_of}
use Rattle.window_state.specs.Boxes.{box_on, AreBoxes, IsBefore}
use Rattle.window_state.proofs.BoxLists.{before_place, boxes_more}
use Rattle.window_state.proofs.boxes.boxes_of.Goals as goal

pub next_box-place-requires-clause-before : goal.next_box-place-requires-clause-before
next_box-place-requires-clause-before c = λ v less.
    let ws = c.args.tree.now.live in
    let hs = c.windows-windows.result.now in
    let k = c.loop-k.k in
    let d : Hwnd = record { 0 = 0 } in
    let many : length hs ≡ length (map number_of ws) = ap length c.windows-windows.ensures.numbers in
    let lt : k < length ws = omega (arith, many, c.loop-k-test.true, length-map ws number_of) in
    let at : (get_or (map number_of ws) k d).0 ≡ (get_or hs k d).0 = ap (λ (vs : List Hwnd). (get_or vs k d).0) (sym c.windows-windows.ensures.numbers) in
    let count : length c.deref.result.now ≡ k = ap length c.deref.ensures.value ∙ c.loop-k.invariant.many in
    subst (λ n. IsBefore ws n v) (sym count) (before_place c.args.tree.now.last ws k v (get_or hs k d).0 d c.windows-windows.ensures.ordered lt at less)

pub loop-k-preserved : goal.loop-k-preserved
loop-k-preserved c =
    let ws = c.args.tree.now.live in
    let hs = c.windows-windows.result.now in
    let k = c.loop-k.k in
    let es = c.loop-k.boxes.items in
    let e = c.next_box-place.result in
    let d : Hwnd = record { 0 = 0 } in
    let many : length hs ≡ length (map number_of ws) = ap length c.windows-windows.ensures.numbers in
    let lt : k < length ws = omega (arith, many, c.loop-k-test.true, length-map ws number_of) in
    let count = c.loop-k.invariant.many in
    let at : (get_or hs k d).0 ≡ (get_or (map number_of ws) (length es) d).0 = ap (λ (vs : List Hwnd). (get_or vs k d).0) c.windows-windows.ensures.numbers ∙ ap (λ i. (get_or (map number_of ws) i d).0) (sym count) in
    let pushed = c.in_ok-push.ensures.items in
    record {
      many = ap length pushed ∙ length-append es (e ∷ []) ∙ omega (arith, count);
      boxes = subst (AreBoxes ws ws) (sym pushed) (boxes_more ws ws es e d (omega (arith, lt, count)) c.loop-k.invariant.boxes (c.next_box-place.ensures ∙ ap (box_on ws) at));
    }
