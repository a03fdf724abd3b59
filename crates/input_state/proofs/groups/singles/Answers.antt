use Rattle.std.proofs.Common.{◌≡◌, ◌↔◌, ◌∙◌, ℕ, arith}
use Rattle.std.proofs.lemmas.List.{length-set}
use Rattle.std.specs.Int.{bit_at}
use Rattle.input_state.proofs.GroupLemmas.{filled_step, single}
use Rattle.input_state.proofs.groups.singles.Goals as goal

pub loop-t-preserved : goal.loop-t-preserved
loop-t-preserved c =
    let P : ℕ → ℕ → Type 0 = λ t m. (u : ℕ) → (bit_at m u ≡ 1) ↔ (t ≡ u) in
    (length-set c.loop-t.groups c.loop-t.t c.with_member.result ∙ c.loop-t.invariant.0, filled_step P _ _ _ (omega (arith, c.loop-t.invariant.0)) c.loop-t.invariant.1 (single _ _ c.with_member.ensures.member c.with_member.ensures.others))
