use Rattle.std.proofs.Common.{◌≡◌, List, get_or, subst}
use Rattle.std.proofs.lemmas.List.{get_or_default, take_all}
use Rattle.win_num.specs.declared.message.Hwnd.{Hwnd}
use Rattle.screen_owners.specs.Shown.{LookSame}
use Rattle.screen_owners.proofs.ChangedParts.{keeps_more, looked_more, none_looked}
use Rattle.screen_owners.proofs.changes.add_changed.Goals as goal

pub loop-w-init : goal.loop-w-init
loop-w-init c = record { kept = λ v none. none; added = none_looked c.args.old.now.live c.args.new.now.live c.args.changed.now.items }

pub loop-w-preserved : goal.loop-w-preserved
loop-w-preserved c =
    let vs = c.args.windows.now in
    let i = c.loop-w.w-index in
    let none : Hwnd = record { 0 = 0 } in
    let w : Hwnd = get_or vs i none in
    let at : w ≡ get_or vs i w = get_or_default vs i none w c.loop-w-test.true in
    record {
      kept = keeps_more c.args.changed.now.items c.loop-w.changed.items c.push_changed.new.changed.items c.in_ok-push_changed.ensures.kept c.loop-w.invariant.kept;
      added = looked_more c.args.old.now.live c.args.new.now.live vs c.loop-w.changed.items c.push_changed.new.changed.items i w c.loop-w-test.true at c.in_ok-push_changed.ensures.kept c.in_ok-push_changed.ensures.added c.loop-w.invariant.added;
    }

pub returns-clause-added : goal.returns-clause-added
returns-clause-added c = subst (λ (vs : List Hwnd). LookSame c.args.old.now.live c.args.new.now.live vs c.loop-w.changed.items) (take_all c.loop-w.w-index c.args.windows.now c.loop-w-test.false) c.loop-w.invariant.added
