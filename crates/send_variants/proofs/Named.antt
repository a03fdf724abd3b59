-- Where a send is named in lists.
use Rattle.std.proofs.Common.{◌≡◌, ◌∙◌, inl, inr, ℕ, zero, suc, ◌<◌, ◌≤◌, true, cond, List, [], ◌∷◌, ◌++◌, length, get_or, set, Some, None, refl, sym, ap, arith}
use Rattle.std.proofs.lemmas.Bool.{cases_Bool}
use Rattle.send_variants.specs.Lists.{Entry, all_without, count_in, count_on, names, or_else, place_in, place_on, without}
use Rattle.send_variants.proofs.Entries.{count-total}

-- no entry that names the send: nothing is left out
pub without_none : (s : ℕ) (es : List Entry) → count_in s es ≡ 0 → (without s es ≡ es) × (place_in s es ≡ None)
without_none s [] h = (refl, refl)
without_none s (e ∷ es) h = elim (cases_Bool (names s e)) [
  | inl hit ↦ absurd (omega (arith, h, ap (λ b. let n : ℕ = cond b 1 0 in n) hit))
  | inr miss ↦
      let rest = without_none s es (omega (arith, h)) in (
        ap (λ b. cond b (without s es) (e ∷ without s es)) miss ∙ ap (λ (xs : List Entry). e ∷ xs) rest.0,
        ap (λ b. cond b (Some e.0) (place_in s es)) miss ∙ rest.1,
      )
]

-- one entry that does
pub count_middle : (s : ℕ) (xs ys : List Entry) (e : Entry) → names s e ≡ true → 1 ≤ count_in s (xs ++ e ∷ ys)
count_middle s [] ys e hit = omega (arith, ap (λ b. let n : ℕ = cond b 1 0 in n) hit)
count_middle s (x ∷ xs) ys e hit = omega (arith, count_middle s xs ys e hit)

pub without_middle : (s : ℕ) (xs ys : List Entry) (e : Entry) → names s e ≡ true → count_in s (xs ++ e ∷ ys) ≤ 1 → (without s (xs ++ e ∷ ys) ≡ xs ++ ys) × (place_in s (xs ++ e ∷ ys) ≡ Some e.0)
without_middle s [] ys e hit once = (
  ap (λ b. cond b (without s ys) (e ∷ without s ys)) hit ∙ (without_none s ys (omega (arith, once, ap (λ b. let n : ℕ = cond b 1 0 in n) hit))).0,
  ap (λ b. cond b (Some e.0) (place_in s ys)) hit,
)
without_middle s (x ∷ xs) ys e hit once = elim (cases_Bool (names s x)) [
  | inl also ↦ absurd (omega (arith, once, ap (λ b. let n : ℕ = cond b 1 0 in n) also, count_middle s xs ys e hit))
  | inr miss ↦
      let rest = without_middle s xs ys e hit (omega (arith, once)) in (
        ap (λ b. cond b (without s (xs ++ e ∷ ys)) (x ∷ without s (xs ++ e ∷ ys))) miss ∙ ap (λ (zs : List Entry). x ∷ zs) rest.0,
        ap (λ b. cond b (Some x.0) (place_in s (xs ++ e ∷ ys))) miss ∙ rest.1,
      )
]

-- no list that names the send
pub all_none : (s : ℕ) (lists : List (List Entry)) → count_on s lists ≡ 0 → (all_without s lists ≡ lists) × (place_on s lists ≡ None)
all_none s [] h = (refl, refl)
all_none s (es ∷ lists) h =
    let here = without_none s es (omega (arith, h)) in
    let rest = all_none s lists (omega (arith, h)) in
    (ap (λ (xs : List Entry). xs ∷ all_without s lists) here.0 ∙ ap (λ (xs : List (List Entry)). es ∷ xs) rest.0, ap (λ o. or_else o (place_on s lists)) here.1 ∙ rest.1)

-- the one list that does
pub all_one : (s : ℕ) (lists : List (List Entry)) (i p : ℕ) → i < length lists → place_in s (get_or lists i []) ≡ Some p → 1 ≤ count_in s (get_or lists i []) → count_on s lists ≤ 1 → (set lists i (without s (get_or lists i [])) ≡ all_without s lists) × (place_on s lists ≡ Some p)
all_one s [] i p lt at some once = absurd (omega (arith, lt))
all_one s (es ∷ lists) zero p lt at some once = (
  ap (λ (xs : List (List Entry)). without s es ∷ xs) (sym (all_none s lists (omega (arith, some, once))).0),
  ap (λ o. or_else o (place_on s lists)) at,
)
all_one s (es ∷ lists) (suc i) p lt at some once =
    let here = without_none s es (omega (arith, some, once, count-total s lists i)) in
    let rest = all_one s lists i p (omega (arith, lt)) at some (omega (arith, once)) in (
      ap (λ (xs : List (List Entry)). es ∷ xs) rest.0 ∙ ap (λ (xs : List Entry). xs ∷ all_without s lists) (sym here.0),
      ap (λ o. or_else o (place_on s lists)) here.1 ∙ rest.1,
    )
