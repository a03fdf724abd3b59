use Rattle.std.proofs.Common.{◌≡◌, ◌∙◌, ℕ, ◌<◌, ◌==◌, ◌||◌, cond, arith}
use Rattle.std.proofs.lemmas.List.{length-set}
use Rattle.std.specs.Int.{bit_at}
use Rattle.input_state.specs.Groups.{link_at}
use Rattle.input_state.proofs.GroupLemmas.{filled_step}
use Rattle.input_state.proofs.groups.without_thread.Goals as goal

pub loop-u-preserved : goal.loop-u-preserved
loop-u-preserved c =
    let P : ℕ → ℕ → Type 0 = λ u m. (v : ℕ) → v < 16 → bit_at m v ≡ cond ((u == c.args.t) || (v == c.args.t)) 0 (link_at c.args.links.now u v) in
    (length-set c.loop-u.new c.loop-u.u c.row_without.result ∙ c.loop-u.invariant.0, filled_step P _ _ _ (omega (arith, c.loop-u.invariant.0)) c.loop-u.invariant.1 c.row_without.ensures)

pub returns : goal.returns
returns c = λ u v lu lv. c.loop-u.invariant.1 u (omega (arith, lu)) v lv
