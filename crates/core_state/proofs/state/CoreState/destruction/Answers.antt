use Rattle.std.proofs.Common.{◌≡◌, true, false, reverse, subst, ap, sym, ◌∙◌}
use Rattle.user_model.specs.Past.{Past}
use Rattle.std.specs.Prelude.{is_some}
use Rattle.std.proofs.lemmas.Bool.{false≢true}
use Rattle.win_rows.specs.Destruction.{unmade}
use Rattle.user_model.specs.Windows.{is_live}
use Rattle.user_model.specs.Destruction.{is_marked}
use Rattle.core_state.specs.States.{Seen}
use Rattle.window_state.specs.Steps.{destruction_answer, told_of}
use Rattle.window_state.proofs.Lookups.{none_found}
use Rattle.window_state.proofs.TreeAnswers.{destruction_at}
use Rattle.window_state.proofs.TreeFacts.{is_live_at}
use Rattle.core_state.proofs.state.CoreState.destruction.Goals as goal

pub returns-in-Some : goal.returns-in-Some
returns-in-Some c =
    let s = c.self.inside in
    let past : Past = reverse s.history.items in
    let lives : is_live past c.args.w ≡ true = subst (λ (v : Seen). is_live v.past c.args.w ≡ true) (sym c.self.view_is) c.requires.live in
    let marked : is_marked past c.args.w ≡ true = subst (λ (v : Seen). is_marked v.past c.args.w ≡ true) (sym c.self.view_is) c.requires.marked in
    c.step_told.ensures
    ∙ ap told_of c.next_step.ensures
    ∙ ap (λ n. told_of (unmade s.tree.live n)) c.in-Some.ensures.same
    ∙ destruction_at past s.tree c.self.invariant.tree c.args.w lives marked
    ∙ ap (λ (v : Seen). destruction_answer v.past c.args.w) c.self.view_is

pub returns-in-None : goal.returns-in-None
returns-in-None c =
    let s = c.self.inside in
    let past : Past = reverse s.history.items in
    let lives : is_live past c.args.w ≡ true = subst (λ (v : Seen). is_live v.past c.args.w ≡ true) (sym c.self.view_is) c.requires.live in
    let dead : is_live past c.args.w ≡ false = is_live_at past s.tree c.self.invariant.tree c.args.w ∙ ap is_some (none_found s.tree.live c.args.w c.in-None.ensures.window) in
    absurd (false≢true (sym dead ∙ lives))
