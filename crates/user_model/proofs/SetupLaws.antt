-- What a setup's limits are.
use Rattle.std.proofs.Common.{◌≡◌, inl, inr, ℕ, ◌-◌, ◌<◌, ◌≤◌, List, All, get_or, length, subst, sym, arith}
use Rattle.std.proofs.lemmas.Bool.{cases_lt}
use Rattle.std.proofs.lemmas.List.{get_or_past}
use Rattle.std.proofs.lemmas.List.Elements.{All-get_or}
use Rattle.user_model.specs.declared.entry.Setup.{Setup}
use Rattle.user_model.specs.Setups.{IsSetup, post_limit}

-- a thread's queue holds 10,000 posted messages at most
pub few_posts : (setup : Setup) (t : ℕ) → IsSetup setup → post_limit setup t ≤ 10000
few_posts setup t is = elim (cases_lt (t - 1) (length setup.posts)) [
  | inl within ↦ (All-get_or (λ n. (0 < n) × (n ≤ 10000)) setup.posts (t - 1) 10000 within is.limits).1
  | inr past ↦ subst (λ n. n ≤ 10000) (sym (get_or_past setup.posts (t - 1) 10000 past)) (omega arith)
]
