use Rattle.std.proofs.Common.{reverse, ap, ◌∙◌, sym}
use Rattle.user_model.specs.Past.{Past}
use Rattle.win_num.specs.declared.message.Hwnd.{Hwnd}
use Rattle.win_tree.specs.Kin as kept_kin
use Rattle.user_model.specs.Windows.{Window, live, parent_in}
use Rattle.core_state.specs.States.{Seen}
use Rattle.std.specs.Prelude.{List}
use Rattle.window_state.proofs.Bridges.{parent_made}
use Rattle.window_state.proofs.Lookups.{none_parented}
use Rattle.core_state.proofs.state.CoreState.parent.Goals as goal

pub returns-in-Some : goal.returns-in-Some
returns-in-Some c =
    let s = c.self.inside in
    let past : Past = reverse s.history.items in
    ap (λ (h : Hwnd). h.0) c.parent_of.ensures
    ∙ ap (λ n. (kept_kin.parent_of s.tree.live n).0) c.in-Some.ensures.same
    ∙ sym (parent_made s.tree.live c.args.w)
    ∙ ap (λ (ws : List Window). parent_in ws c.args.w) c.self.invariant.tree.windows
    ∙ ap (λ (v : Seen). parent_in (live v.past) c.args.w) c.self.view_is

pub returns-in-None : goal.returns-in-None
returns-in-None c =
    let s = c.self.inside in
    let past : Past = reverse s.history.items in
    none_parented s.tree.live c.args.w c.in-None.ensures.window
    ∙ sym (parent_made s.tree.live c.args.w)
    ∙ ap (λ (ws : List Window). parent_in ws c.args.w) c.self.invariant.tree.windows
    ∙ ap (λ (v : Seen). parent_in (live v.past) c.args.w) c.self.view_is
