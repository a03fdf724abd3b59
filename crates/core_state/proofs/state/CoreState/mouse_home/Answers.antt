use Rattle.std.proofs.Common.{◌≡◌, ◌≤◌, ℕ, refl, ap, ◌∙◌, reverse, sym, subst}
use Rattle.std.proofs.lemmas.Int.{to_z-of_z}
use mir.Val.{of_z, to_z}
use mir.Syntax.{w64}
use Rattle.user_model.specs.Past.{Past}
use Rattle.user_model.specs.Legal.{IsLawful}
use Rattle.user_model.specs.Pixels.{point}
use Rattle.user_model.specs.Windows.{thread_of}
use Rattle.core_state.specs.Inputs.{mouse_over}
use Rattle.core_state.specs.States.{Seen}
use Rattle.core_state.proofs.Deliveries.{thread_in-is}
use Rattle.core_state.proofs.Homes.{lives_thread, thread_known}
use Rattle.core_state.proofs.state.CoreState.mouse_home.Goals as goal

pub returns : goal.returns
returns c =
    let s = c.self.inside in
    let past : Past = reverse s.history.items in
    let v = c.args.self.now in
    let lawful : IsLawful v.setup v.past = subst (λ (seen : Seen). IsLawful seen.setup seen.past) c.self.view_is c.self.invariant.lawful in
    let over : ℕ = mouse_over v.setup v.past (point c.args.x c.args.y) in
    let passed : point (to_z w64 (of_z w64 c.args.x)) (to_z w64 (of_z w64 c.args.y)) ≡ point c.args.x c.args.y =
    rw (to_z-of_z w64 c.args.x c.ranges.x, to_z-of_z w64 c.args.y c.ranges.y) refl in
    let is : c.thread_of.result ≡ thread_of v.past over =
    c.thread_of.ensures
    ∙ thread_in-is past s.tree.live c.window_under-window.result.0 c.self.invariant.tree.windows
    ∙ ap (λ (seen : Seen). thread_of seen.past c.window_under-window.result.0) c.self.view_is
    ∙ ap (thread_of v.past) (c.window_under-window.ensures ∙ ap (mouse_over v.setup v.past) passed) in
    record {
      home = λ message. is ∙ sym (lives_thread v.setup v.past lawful over);
      known = subst (λ n. n ≤ v.setup.threads) (sym is) (thread_known v.setup v.past lawful over);
    }
