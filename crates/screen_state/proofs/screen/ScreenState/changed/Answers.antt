use Rattle.std.proofs.Common.{List, Some, subst, sym}
use Rattle.win_num.specs.declared.message.Hwnd.{Hwnd}
use Rattle.screen_owners.specs.Owners.{AreOwners}
use Rattle.screen_owners.proofs.ChangedParts.{outside_kept}
use Rattle.screen_state.specs.Carried.{IsCarriedBy}
use Rattle.screen_state.specs.Screens.{Kept, LeavesCarried, LeavesScreen}
use Rattle.screen_state.proofs.Carrying.{carried_on}
use Rattle.screen_state.proofs.Changed.{IsDirtyAfter, changed_carries, changed_leaves, sized, windows_rise}
use Rattle.screen_state.proofs.screen.ScreenState.changed.Goals as goal

pub keep-requires : goal.keep-requires
keep-requires c = windows_rise _ _ c.windows.result.now c.windows.ensures.numbers c.windows.ensures.ordered

pub returns-clause-screen : goal.returns-clause-screen
returns-clause-screen c =
    let s = c.self.inside in
    let t = c.args.tree.now in
    let z = c.args.order.now in
    let l = c.args.layout.now in
    let os = c.in_ok-owners.owners in
    let part = c.in_ok-part.part in
    let here : Kept = record { owners = s.owners; dirty = s.dirty; sessions = s.sessions } in
    let own : AreOwners t.live z c.args.setup.width c.args.setup.height s.owners → AreOwners l.tree.live l.order c.args.setup.width c.args.setup.height os =
    sized (λ m n. AreOwners t.live z m n s.owners → AreOwners l.tree.live l.order m n os) part.screen c.screen_of-screen.result c.args.setup.width c.args.setup.height c.in_ok-part.ensures.screen c.screen_of-screen.ensures.width c.screen_of-screen.ensures.height
    (λ own. c.in_ok-owners.ensures (outside_kept t.live z l.tree.live l.order part s.owners c.in_ok-part.ensures.kept own)) in
    let moved = c.in_ok-moved.moved.items in
    let shift = c.shift_of-shift.result in
    let carried = c.in_ok-carried.carried in
    let told : IsCarriedBy c.args.setup here os moved shift carried =
    subst (λ k. IsCarriedBy c.args.setup k os moved shift carried) (sym c.self.view_is) (subst (λ hs. IsCarriedBy c.args.setup c.args.self.now os hs shift carried) c.deref.ensures.value c.in_ok-carried.ensures) in
    subst (λ (k : Kept). LeavesScreen c.args.setup t z l.tree l.order c.args.entry k (record { owners = os; dirty = c.keep.new.self; sessions = k.sessions })) c.self.view_is
    (changed_leaves c.args.setup t z l.tree l.order c.args.entry here os moved shift carried own c.in_ok-moved.ensures.moved c.shift_of-shift.ensures told c.in_ok-dirty.dirty c.keep.new.self c.windows.result.now
    (subst (λ (hs : List Hwnd). IsDirtyAfter s.owners os hs carried.region s.dirty c.in_ok-dirty.dirty) c.deref-2.ensures.value (record { area = c.in_ok-dirty.ensures.area; set = c.in_ok-dirty.ensures.set; same = c.in_ok-dirty.ensures.same }))
    c.windows.ensures.numbers c.keep.ensures.area c.keep.ensures.erases)

pub returns-clause-carried : goal.returns-clause-carried
returns-clause-carried c =
    let s = c.self.inside in
    let t = c.args.tree.now in
    let z = c.args.order.now in
    let l = c.args.layout.now in
    let os = c.in_ok-owners.owners in
    let part = c.in_ok-part.part in
    let here : Kept = record { owners = s.owners; dirty = s.dirty; sessions = s.sessions } in
    let own : AreOwners t.live z c.args.setup.width c.args.setup.height s.owners → AreOwners l.tree.live l.order c.args.setup.width c.args.setup.height os =
    sized (λ m n. AreOwners t.live z m n s.owners → AreOwners l.tree.live l.order m n os) part.screen c.screen_of-screen.result c.args.setup.width c.args.setup.height c.in_ok-part.ensures.screen c.screen_of-screen.ensures.width c.screen_of-screen.ensures.height
    (λ own. c.in_ok-owners.ensures (outside_kept t.live z l.tree.live l.order part s.owners c.in_ok-part.ensures.kept own)) in
    let moved = c.in_ok-moved.moved.items in
    let shift = c.shift_of-shift.result in
    let carried = c.in_ok-carried.carried in
    let told : IsCarriedBy c.args.setup here os moved shift carried =
    subst (λ k. IsCarriedBy c.args.setup k os moved shift carried) (sym c.self.view_is) (subst (λ hs. IsCarriedBy c.args.setup c.args.self.now os hs shift carried) c.deref.ensures.value c.in_ok-carried.ensures) in
    subst (λ (k : Kept). LeavesCarried c.args.setup t z l.tree l.order c.args.entry k (Some (record { owners = os; dirty = c.keep.new.self; carried = carried.region; dx = carried.shift.dx; dy = carried.shift.dy }))) c.self.view_is
    (changed_carries c.args.setup t z l.tree l.order c.args.entry here os moved shift carried own c.in_ok-moved.ensures.moved c.shift_of-shift.ensures told c.keep.new.self)

pub returns-clause-near : goal.returns-clause-near
returns-clause-near c = carried_on c.args.setup c.args.self.now c.in_ok-owners.owners c.deref.result.now c.shift_of-shift.result c.in_ok-carried.carried c.in_ok-carried.ensures
