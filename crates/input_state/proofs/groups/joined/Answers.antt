use Rattle.std.proofs.Common.{◌≡◌, ◌↔◌, ◌⊎◌, ◌∙◌, ℕ, get_or, arith}
use Rattle.std.proofs.lemmas.List.{length-set}
use Rattle.std.specs.Int.{bit_at}
use Rattle.input_state.proofs.GroupLemmas.{filled_step}
use Rattle.input_state.proofs.groups.joined.Goals as goal

pub loop-t-preserved : goal.loop-t-preserved
loop-t-preserved c =
    let P : ℕ → ℕ → Type 0 = λ t m. (u : ℕ) → (bit_at m u ≡ 1) ↔ ((bit_at (get_or c.args.groups.now t 0) u ≡ 1) ⊎ ((bit_at (get_or c.args.groups.now t 0) c.args.from ≡ 1) × (bit_at (get_or c.args.groups.now c.args.to 0) u ≡ 1))) in
    (length-set c.loop-t.wider c.loop-t.t c.through.result ∙ c.loop-t.invariant.0, filled_step P _ _ _ (omega (arith, c.loop-t.invariant.0)) c.loop-t.invariant.1 c.through.ensures)
