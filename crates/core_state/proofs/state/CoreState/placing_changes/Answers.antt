use Rattle.std.proofs.Common.{◌≡◌, true, reverse, subst, sym, ap, ◌∙◌}
use Rattle.user_model.specs.Past.{Past}
use Rattle.user_model.specs.Windows.{is_live}
use Rattle.user_model.specs.Looks.{look, placed}
use Rattle.user_model.specs.ReplyWindows.{changes_told}
use Rattle.win_rows.specs.Windows as kept
use Rattle.core_state.specs.States.{Seen}
use Rattle.window_state.specs.Placings.{box_of}
use Rattle.window_state.proofs.LookSteps.{changes_at, places_fit}
use Rattle.window_state.proofs.TreeFacts.{is_live_at}
use Rattle.core_state.proofs.state.CoreState.placing_changes.Goals as goal

pub placing_changes-requires-clause-live : goal.placing_changes-requires-clause-live
placing_changes-requires-clause-live c =
    let s = c.self.inside in
    let past : Past = reverse s.history.items in
    sym (is_live_at past s.tree c.self.invariant.tree c.args.w) ∙ subst (λ (v : Seen). is_live v.past c.args.w ≡ true) (sym c.self.view_is) c.requires.live

pub placing_changes-requires-clause-old : goal.placing_changes-requires-clause-old
placing_changes-requires-clause-old c =
    let s = c.self.inside in
    let past : Past = reverse s.history.items in
    places_fit past s.tree c.args.w c.self.invariant.tree

pub returns : goal.returns
returns c =
    let s = c.self.inside in
    let past : Past = reverse s.history.items in
    let lives : kept.is_live s.tree.live c.args.w ≡ true = sym (is_live_at past s.tree c.self.invariant.tree c.args.w) ∙ subst (λ (v : Seen). is_live v.past c.args.w ≡ true) (sym c.self.view_is) c.requires.live in
    c.placing_changes.ensures
    ∙ changes_at past s.tree c.args.w c.args.placing.flags c.args.placing.after (box_of c.args.placing.edges) c.self.invariant.tree lives
    ∙ ap (λ (v : Seen). changes_told (look v.past c.args.w) (placed c.args.placing.flags c.args.placing.after (box_of c.args.placing.edges) (look v.past c.args.w))) c.self.view_is
