use Rattle.std.proofs.Common.{◌≡◌, List, [], get_or, subst, sym}
use Rattle.std.proofs.lemmas.List.{get_or_default, take_all}
use Rattle.win_num.specs.declared.message.Hwnd.{Hwnd}
use Rattle.win_num.specs.declared.shapes.Rect.{Rect}
use Rattle.screen_owners.specs.Shown.{HasWays}
use Rattle.screen_owners.proofs.CornerLaws.{more_ways, none_yet}
use Rattle.screen_owners.proofs.corners.boxes_shown.Goals as goal

pub loop-w-init : goal.loop-w-init
loop-w-init c = subst (λ (rs : List Rect). HasWays c.args.tree.now.live c.args.screen.width c.args.screen.height [] rs) (sym c.empty-boxes.ensures) (none_yet c.args.tree.now.live c.args.screen.width c.args.screen.height)

pub loop-w-preserved : goal.loop-w-preserved
loop-w-preserved c =
    let vs = c.args.windows.now in
    let i = c.loop-w.w-index in
    let none : Hwnd = record { 0 = 0 } in
    let w : Hwnd = get_or vs i none in
    let at : w ≡ get_or vs i w = get_or_default vs i none w c.loop-w-test.true in
    more_ways c.args.tree.now.live c.args.screen.width c.args.screen.height vs i w c.box_shown.result c.loop-w.boxes c.in_ok-boxes.boxes c.loop-w-test.true at c.box_shown.ensures c.in_ok-boxes.ensures c.loop-w.invariant

pub returns : goal.returns
returns c = subst (λ (hs : List Hwnd). HasWays c.args.tree.now.live c.args.screen.width c.args.screen.height hs c.loop-w.boxes) (take_all c.loop-w.w-index c.args.windows.now c.loop-w-test.false) c.loop-w.invariant
