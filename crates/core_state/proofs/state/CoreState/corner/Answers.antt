use Rattle.std.proofs.Common.{◌≡◌, true, ap, ◌∙◌, reverse, sym, subst, inl, inr}
use Rattle.user_model.specs.Past.{Past}
use Rattle.user_model.specs.Pixels.{origin}
use Rattle.user_model.specs.Windows.{is_live}
use Rattle.core_state.specs.States.{Seen}
use Rattle.core_state.proofs.state.CoreState.corner.Goals as goal

pub returns-then-w-eq0 : goal.returns-then-w-eq0
returns-then-w-eq0 c = sym (ap (origin c.args.self.now.past) c.if-w-eq0.true)

pub returns : goal.returns
returns c =
    let s = c.self.inside in
    let past : Past = reverse s.history.items in
    let lives : is_live past c.args.w.0 ≡ true = subst (λ (v : Seen). is_live v.past c.args.w.0 ≡ true) (sym c.self.view_is) (elim c.requires [
      | inl none ↦ absurd (c.if-w-eq0.false none)
      | inr live ↦ live
    ]) in
    c.origin_of.ensures s.setup past c.self.invariant.lawful c.self.invariant.tree lives
    ∙ ap (λ (v : Seen). origin v.past c.args.w.0) c.self.view_is
