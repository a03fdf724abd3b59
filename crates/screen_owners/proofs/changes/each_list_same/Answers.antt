use Rattle.std.proofs.Common.{◌≡◌, List, get_or, subst}
use Rattle.std.proofs.lemmas.List.{get_or_default, take_all}
use Rattle.win_num.specs.declared.message.Hwnd.{Hwnd}
use Rattle.screen_owners.specs.Shown.{ListsSameOf}
use Rattle.screen_owners.proofs.ChangedParts.{more_lists, no_lists}
use Rattle.screen_owners.proofs.changes.each_list_same.Goals as goal

pub loop-w-init : goal.loop-w-init
loop-w-init c = no_lists c.args.changed.now c.args.old.now c.args.new.now

pub loop-w-preserved : goal.loop-w-preserved
loop-w-preserved c =
    let vs = c.args.windows.now in
    let i = c.loop-w.w-index in
    let none : Hwnd = record { 0 = 0 } in
    let w : Hwnd = get_or vs i none in
    let at : w ≡ get_or vs i w = get_or_default vs i none w c.loop-w-test.true in
    more_lists c.args.changed.now c.args.old.now c.args.new.now vs i w c.loop-w-test.true at (c.in_ok-same.ensures c.if-not-same.false) c.loop-w.invariant

pub returns : goal.returns
returns c h = subst (λ (vs : List Hwnd). ListsSameOf c.args.changed.now c.args.old.now c.args.new.now vs) (take_all c.loop-w.w-index c.args.windows.now c.loop-w-test.false) c.loop-w.invariant
