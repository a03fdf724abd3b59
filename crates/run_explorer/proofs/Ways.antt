-- How much is left of the search: each way turns off at a higher thread than the one before it.
use Rattle.std.proofs.Common.{◌≡◌, ℕ, zero, suc, ◌+◌, ◌-◌, ◌*◌, ◌<◌, ◌≤◌, List, [], ◌∷◌, ◌++◌, length, Option, sym, ap, ◌∙◌, arith, mul-le-mul_right}
use Rattle.std.proofs.lemmas.List.{length-map}
use Rattle.run_explorer.specs.declared.step.Step.{Step}
use Rattle.run_explorer.specs.declared.path.Path.{Path}
use Rattle.run_explorer.specs.Searches.{ways, ways_from, actors, turn_of, actors_along, IsAlong, HasTurned}

some_ways : (n : ℕ) → 0 < ways n
unfolding ways
some_ways zero = omega arith
some_ways (suc n) = omega (arith, some_ways n)

-- no way has more behind it than there are
from_most : (n : ℕ) (ts : List ℕ) → ways_from n ts ≤ ways n
unfolding ways ways_from
from_most n [] = omega arith
from_most zero (t ∷ ts) = omega arith
from_most (suc n) (t ∷ ts) =
    let less : 15 - t ≤ 15 = omega arith in
    omega (arith, from_most n ts, mul-le-mul_right (ways n) less)

-- a way that isn't too long has itself
from_some : (n : ℕ) (ts : List ℕ) → length ts ≤ n → 0 < ways_from n ts
unfolding ways_from
from_some n [] le = some_ways n
from_some zero (t ∷ ts) le = absurd (omega (arith, le))
from_some (suc n) (t ∷ ts) le = omega (arith, from_some n ts (omega (arith, le)))

-- a longer way has no more
from_longer : (n : ℕ) (xs ys : List ℕ) → ways_from n (xs ++ ys) ≤ ways_from n xs
unfolding ways_from
from_longer n [] ys = from_most n ys
from_longer zero (t ∷ xs) ys = omega arith
from_longer (suc n) (t ∷ xs) ys = omega (arith, from_longer n xs ys)

-- one that turns off at a higher thread has fewer
from_turn : (n : ℕ) (xs ys : List ℕ) (m t : ℕ) → m < t → t ≤ 15 → length (xs ++ m ∷ ys) ≤ n → ways_from n (xs ++ t ∷ []) < ways_from n (xs ++ m ∷ ys)
unfolding ways_from
from_turn zero [] ys m t lt known le = absurd (omega (arith, le))
from_turn (suc n) [] ys m t lt known le =
    let more : 15 - t + 1 ≤ 15 - m = omega (arith, lt, known) in
    let product : (15 - t + 1) * ways n ≤ (15 - m) * ways n = mul-le-mul_right (ways n) more in
    let spread : (15 - t + 1) * ways n ≡ (15 - t) * ways n + ways n = omega arith in
    omega (arith, product, spread, from_some n ys (omega (arith, le)))
from_turn zero (x ∷ xs) ys m t lt known le = absurd (omega (arith, le))
from_turn (suc n) (x ∷ xs) ys m t lt known le = omega (arith, from_turn n xs ys m t lt known (omega (arith, le)))

-- the next way has fewer than the one before it
pub ways_fall : (n : ℕ) (next last before : Path) → HasTurned next last → IsAlong last before → length last.steps.items ≤ n → ways_from n (actors_along next) < ways_from n (actors_along before)
ways_fall n next last before turned along le =
    let same : actors_along next ≡ actors next.steps.items ++ turned.thread ∷ [] = ap (λ (o : Option ℕ). actors next.steps.items ++ turn_of o) turned.turn in
    let short : length (actors next.steps.items ++ turned.mover ∷ turned.rest) ≤ n = omega (arith, le, sym (ap length turned.is) ∙ length-map last.steps.items (λ (x : Step). x.mover)) in
    let fewer : ways_from n (actors next.steps.items ++ turned.thread ∷ []) < ways_from n (actors next.steps.items ++ turned.mover ∷ turned.rest) = from_turn n (actors next.steps.items) turned.rest turned.mover turned.thread turned.higher turned.known short in
    let longer : ways_from n (actors_along before ++ along.rest) ≤ ways_from n (actors_along before) = from_longer n (actors_along before) along.rest in
    let at : actors next.steps.items ++ turned.mover ∷ turned.rest ≡ actors_along before ++ along.rest = sym turned.is ∙ along.is in
    omega (arith, ap (ways_from n) same, fewer, ap (ways_from n) at, longer)
