use Rattle.std.proofs.Common.{◌≡◌, ◌∙◌, Option, None, true, false, sym}
use Rattle.std.proofs.lemmas.Bool.{false≢true}
use Rattle.std.proofs.lemmas.Result.{IfOk-weaker}
use Rattle.screen_state.specs.Screens.{Change, FollowsCarried, FollowsScreen, LeavesCarried, LeavesScreen, draws, replaced}
use Rattle.screen_state.proofs.Changed.{draws_none, entered_carries, entered_leaves}
use Rattle.screen_state.proofs.Followed.{entered_children, entry_fits, next_children}
use Rattle.screen_state.proofs.Screens.{stays_carried, stays_follow}
use Rattle.screen_state.proofs.Unmoved.{made_of}
use Rattle.screen_state.proofs.screen.ScreenState.after.Goals as goal

pub returns-then-stays-clause-windows : goal.returns-then-stays-clause-windows
returns-then-stays-clause-windows c quiet = stays_follow c.args.setup c.args.tree.now c.args.order.now c.args.entry c.args.self.now (sym c.stays.ensures ∙ c.if-stays.true) quiet

pub returns-then-stays-clause-carried : goal.returns-then-stays-clause-carried
returns-then-stays-clause-carried c quiet = stays_carried c.args.setup c.args.tree.now c.args.order.now c.args.entry c.args.self.now (sym c.stays.ensures ∙ c.if-stays.true)

pub layout_after-requires : goal.layout_after-requires
layout_after-requires c = entry_fits c.args.setup c.args.tree.now c.args.order.now c.args.entry c.requires

pub changed-requires-clause-before : goal.changed-requires-clause-before
changed-requires-clause-before c = next_children c.args.setup c.args.tree.now c.args.order.now c.args.entry c.requires

pub changed-requires-clause-children : goal.changed-requires-clause-children
changed-requires-clause-children c = entered_children c.args.setup c.args.tree.now c.in_ok-layout.layout.tree c.args.order.now c.in_ok-layout.layout.order c.args.entry c.requires c.in_ok-layout.ensures

pub changed-requires-clause-made : goal.changed-requires-clause-made
changed-requires-clause-made c = made_of c.args.setup c.args.tree.now c.in_ok-layout.layout.tree c.args.order.now c.in_ok-layout.layout.order c.args.entry c.requires c.in_ok-layout.ensures

pub returns-clause-windows : goal.returns-clause-windows
returns-clause-windows c =
    let t = c.args.tree.now in
    let l = c.in_ok-layout.layout in
    let s = c.args.self.now in
    let e = c.args.entry in
    IfOk-weaker c.changed.result (λ (o : Option Change). LeavesScreen c.args.setup t c.args.order.now l.tree l.order e s (replaced o s)) (λ (o : Option Change). draws e.call e.answer ≡ false → FollowsScreen c.args.setup t c.args.order.now e s (replaced o s))
    (λ o leaves quiet. entered_leaves c.args.setup t l.tree c.args.order.now l.order e s c.in_ok-layout.ensures (sym c.stays.ensures ∙ c.if-stays.false) (replaced o s) leaves)
    c.changed.ensures.screen

pub returns-clause-carried : goal.returns-clause-carried
returns-clause-carried c =
    let t = c.args.tree.now in
    let l = c.in_ok-layout.layout in
    let s = c.args.self.now in
    let e = c.args.entry in
    IfOk-weaker c.changed.result (λ (o : Option Change). LeavesCarried c.args.setup t c.args.order.now l.tree l.order e s o) (λ (o : Option Change). draws e.call e.answer ≡ false → FollowsCarried c.args.setup t c.args.order.now e s o)
    (λ o leaves quiet. entered_carries c.args.setup t l.tree c.args.order.now l.order e s c.in_ok-layout.ensures (sym c.stays.ensures ∙ c.if-stays.false) o leaves)
    c.changed.ensures.carried

pub returns-clause-drawing : goal.returns-clause-drawing
returns-clause-drawing c =
    let e = c.args.entry in
    let s = c.args.self.now in
    let l = c.in_ok-layout.layout in
    let none : draws e.call e.answer ≡ false = draws_none e.call e.answer s (sym c.stays.ensures ∙ c.if-stays.false) in
    IfOk-weaker c.changed.result (λ (o : Option Change). LeavesCarried c.args.setup c.args.tree.now c.args.order.now l.tree l.order e s o) (λ (o : Option Change). draws e.call e.answer ≡ true → o ≡ None)
    (λ o leaves drawn. absurd (false≢true (sym none ∙ drawn)))
    c.changed.ensures.carried
