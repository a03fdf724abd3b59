use Rattle.std.proofs.Common.{length, reverse, ap, ◌∙◌}
use Rattle.std.specs.Prelude.{nat_le}
use Rattle.user_model.specs.Past.{Past}
use Rattle.user_model.specs.Sends.{unfinished}
use Rattle.core_state.specs.States.{Seen}
use Rattle.core_state.proofs.Unfinished.{known_count}
use Rattle.core_state.proofs.state.CoreState.sends_are_full.Goals as goal

pub returns : goal.returns
returns c =
    let s = c.self.inside in
    let past : Past = reverse s.history.items in
    c.is_full.ensures ∙ ap (nat_le 1024) (known_count s.setup past s.sends c.self.invariant.lawful c.self.invariant.sends) ∙ ap (λ (v : Seen). nat_le 1024 (length (unfinished v.past))) c.self.view_is
