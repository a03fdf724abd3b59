use Rattle.std.proofs.Common.{◌≡◌, List, get_or, subst}
use Rattle.std.proofs.lemmas.List.{get_or_default}
use Rattle.win_num.specs.declared.message.Hwnd.{Hwnd}
use Rattle.win_rows.specs.Windows.{nobody}
use Rattle.screen_owners.specs.declared.owners.Owned.{Owned}
use Rattle.screen_owners.specs.Joined.{IsJoined}
use Rattle.screen_owners.proofs.JoinedLaws.{all_joined, first_joined, next_joined}
use Rattle.screen_owners.proofs.owners.joined_all.Goals as goal

pub loop-w-init : goal.loop-w-init
loop-w-init c =
    let es = c.push_joined.new.entries.items in
    first_joined c.args.part.now c.args.old.now c.args.new.now es (subst (λ (xs : List Owned). IsJoined c.args.part.now c.args.old.now c.args.new.now nobody xs es) c.new-entries.ensures.items c.in_ok-push_joined.ensures)

pub loop-w-preserved : goal.loop-w-preserved
loop-w-preserved c =
    let vs = c.windows-windows.result.now in
    let i = c.loop-w.w-index in
    let none : Hwnd = record { 0 = 0 } in
    let w : Hwnd = get_or vs i none in
    let at : w ≡ get_or vs i w = get_or_default vs i none w c.loop-w-test.true in
    next_joined c.args.tree.now.live c.args.tree.now.last c.args.part.now c.args.old.now c.args.new.now c.loop-w.entries.items _ vs i w c.windows-windows.ensures.ordered c.windows-windows.ensures.numbers c.loop-w-test.true at c.in_ok-push_joined-2.ensures c.loop-w.invariant

pub returns-clause-joined : goal.returns-clause-joined
returns-clause-joined c = all_joined c.args.tree.now.live c.args.part.now c.args.old.now c.args.new.now c.loop-w.entries.items c.windows-windows.result.now c.loop-w.w-index c.windows-windows.ensures.numbers c.loop-w-test.false c.loop-w.invariant

pub invariant_of-result : goal.invariant_of-result
invariant_of-result c = c.loop-w.invariant.rising
