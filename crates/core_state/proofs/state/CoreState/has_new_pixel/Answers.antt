use Rattle.std.proofs.Common.{◌≡◌, reverse, ap, subst, sym, ◌∙◌}
use Rattle.user_model.specs.Past.{Past}
use Rattle.user_model.specs.Since.{IsTail}
use Rattle.user_model.specs.Status.{has_paint}
use Rattle.screen_state.specs.Screens.{Kept}
use Rattle.screen_state.specs.Walks.{AreDirtyAt}
use Rattle.look_state.specs.Looks.{IsSeenAt}
use Rattle.core_state.specs.States.{Seen}
use Rattle.core_state.specs.Status.{IsBefore}
use Rattle.core_state.proofs.state.CoreState.has_new_pixel.Goals as goal

pub returns : goal.returns
returns c =
    let s = c.self.inside in
    let past : Past = reverse s.history.items in
    let t = c.args.thread in
    let dirty : AreDirtyAt s.setup past c.dirty-dirty.result.now = subst (AreDirtyAt s.setup past) (sym (c.dirty-dirty.ensures.value ∙ ap (λ (k : Kept). k.dirty) c.screen.ensures)) c.self.invariant.display.screen.dirty in
    let told : (look : Past) → IsTail look past → IsSeenAt s.setup look t c.seen.result.now → c.in_ok-is_new.is_new ≡ has_paint s.setup past t look = λ look tail seen. c.in_ok-is_new.ensures s.setup past look c.self.invariant.lawful tail c.self.invariant.tree dirty seen in
    subst (λ (v : Seen). (h : Past) → IsBefore v.setup v.past h t c.args.look.now → c.in_ok-is_new.is_new ≡ has_paint v.setup v.past t h) c.self.view_is
    (λ h b. told h b.tail (subst (IsSeenAt s.setup h t) (sym c.seen.ensures) b.kept.seen))
