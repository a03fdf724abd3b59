-- What a queue without a number above another tells of the next post.
use Rattle.std.proofs.Common.{◌≡◌, ℕ, ◌+◌, ◌<◌, Bool, true, false, List, [], ◌∷◌, refl, arith}
use Rattle.std.specs.Prelude.{All, nat_lt, ◌||◌}
use Rattle.std.specs.List.{list_any}
use Rattle.std.proofs.lemmas.Bool.{ltb-false}
use Rattle.std.proofs.lemmas.List.Elements.{All-nil, All-cons}
use Rattle.post_queue.specs.Queue.{Posted}

-- where no number is above this, all are below the one after it
pub below_next : (n : ℕ) (ps : List Posted) → list_any (λ p. nat_lt n p.number) ps ≡ false → All (λ p. p.number < n + 1) ps
below_next n [] h = All-nil (λ (p : Posted). p.number < n + 1)
below_next n (p ∷ ps) h = by (nat_lt n p.number) refl h (below_next n ps)
  where
    by : (b : Bool) → nat_lt n p.number ≡ b → (b || list_any (λ (q : Posted). nat_lt n q.number) ps) ≡ false → (list_any (λ (q : Posted). nat_lt n q.number) ps ≡ false → All (λ (q : Posted). q.number < n + 1) ps) → All (λ (q : Posted). q.number < n + 1) (p ∷ ps)
    by true k g rest = absurd (cc g)
    by false k g rest = let low = ltb-false n p.number k in All-cons (λ (q : Posted). q.number < n + 1) p ps (omega (arith, low)) (rest g)
