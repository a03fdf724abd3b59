use Rattle.std.proofs.Common.{Option, Some, ℕ, reverse, ap, sym, ◌∙◌}
use Rattle.std.specs.Prelude.{option_map}
use Rattle.win_num.specs.declared.message.Hwnd.{Hwnd}
use Rattle.win_rows.specs.declared.window.Window.{Window}
use Rattle.win_rows.specs.Windows.{window_of}
use Rattle.user_model.specs.Past.{Past}
use Rattle.user_model.specs.Windows.{up, window}
use Rattle.core_state.specs.States.{Seen}
use Rattle.window_state.specs.Steps.{up_of}
use Rattle.window_state.proofs.Lookups.{none_found, row_up}
use Rattle.window_state.proofs.TreeAnswers.{up_at}
use Rattle.core_state.proofs.state.CoreState.up.Goals as goal

pub returns-in_err-window : goal.returns-in_err-window
returns-in_err-window c =
    let s = c.self.inside in
    let past : Past = reverse s.history.items in
    ap (option_map (λ (h : Hwnd). h.0)) c.from_residual.ensures
    ∙ sym (up_at past s.tree c.self.invariant.tree c.args.w ∙ ap (option_map (λ (x : Window). (up_of x.row).0)) (none_found s.tree.live c.args.w c.in_err-window.ensures.window))
    ∙ ap (λ (v : Seen). option_map up (window v.past c.args.w)) c.self.view_is

pub returns : goal.returns
returns c =
    let s = c.self.inside in
    let past : Past = reverse s.history.items in
    ap (λ (h : Hwnd). let o : Option ℕ = Some h.0 in o) c.up.ensures
    ∙ row_up (window_of s.tree.live c.in_ok-window.window.0) c.in_ok-row.row.now c.in_ok-row.ensures
    ∙ ap (λ n. option_map (λ (x : Window). (up_of x.row).0) (window_of s.tree.live n)) c.in_ok-window.ensures.same
    ∙ sym (up_at past s.tree c.self.invariant.tree c.args.w)
    ∙ ap (λ (v : Seen). option_map up (window v.past c.args.w)) c.self.view_is
