-- Reading values one after the other, as the loop does.
use Rattle.std.proofs.Common.{◌≡◌, ℕ, ◌+◌, ◌<◌, ◌≤◌, List, [], ◌∷◌, ◌++◌, length, Option, Some, None, refl, sym, ap, ◌∙◌, append_assoc, append-nil, drop, get_or, arith}
use Rattle.std.proofs.lemmas.List.{drop_more, drop_all}
use Rattle.call_fields.specs.declared.form.Field.{Field}
use Rattle.call_fields.specs.declared.value.Value.{Value}
use Rattle.script_tree.specs.Tree.{Tree}
use Rattle.script_lines.specs.LineReading.{◌>>=◌, word_at}
use Rattle.log_read.specs.Reading.{value_at, values_from}

-- with the values that were read before
abbrev pub with_front : List Value → Option (List Value) → Option (List Value)
with_front front o = o >>= λ vs. Some (front ++ vs)

regroup : (front : List Value) (v : Value) (o : Option (List Value)) → with_front front (o >>= λ vs. Some (v ∷ vs)) ≡ with_front (front ++ v ∷ []) o
regroup front v (Some vs) = ap (λ (l : List Value). let r : Option (List Value) = Some l in r) (sym (append_assoc front (v ∷ []) vs))
regroup front v None = refl

-- what is read from a place of the loop on
abbrev pub from_place : Tree → List Field → List (List ℕ) → ℕ → ℕ → Option (List Value)
from_place s fields words at i = values_from s (drop i fields) words (at + i)

abbrev step : Tree → Option Value → List Field → List (List ℕ) → ℕ → Option (List Value)
step s first more words k = first >>= λ v. values_from s more words k >>= λ vs. Some (v ∷ vs)

opened : (s : Tree) (fields : List Field) (words : List (List ℕ)) (at i : ℕ) (d : Field) (o : Option Value) → i < length fields → o ≡ value_at s (get_or fields i d) (word_at words (at + i)) → from_place s fields words at i ≡ step s o (drop (i + 1) fields) words (at + (i + 1))
unfolding values_from
opened s fields words at i d o lt found =
    let next : (at + i) + 1 ≡ at + (i + 1) = omega arith in
    ap (λ (fs : List Field). values_from s fs words (at + i)) (drop_more fields i d lt)
    ∙ ap (λ (x : Option Value). step s x (drop (i + 1) fields) words ((at + i) + 1)) (sym found)
    ∙ ap (step s o (drop (i + 1) fields) words) next

pub values_none : (s : Tree) (front : List Value) (fields : List Field) (words : List (List ℕ)) (at i : ℕ) (d : Field) (total : Option (List Value)) → i < length fields → None ≡ value_at s (get_or fields i d) (word_at words (at + i)) → with_front front (from_place s fields words at i) ≡ total → None ≡ total
values_none s front fields words at i d total lt found so_far = sym (ap (with_front front) (opened s fields words at i d None lt found)) ∙ so_far

pub values_more : (s : Tree) (front longer : List Value) (v : Value) (fields : List Field) (words : List (List ℕ)) (at i : ℕ) (d : Field) (total : Option (List Value)) → i < length fields → Some v ≡ value_at s (get_or fields i d) (word_at words (at + i)) → with_front front (from_place s fields words at i) ≡ total → longer ≡ front ++ v ∷ [] → with_front longer (from_place s fields words at (i + 1)) ≡ total
values_more s front longer v fields words at i d total lt found so_far pushed =
    ap (λ (l : List Value). with_front l (from_place s fields words at (i + 1))) pushed
    ∙ sym (regroup front v (from_place s fields words at (i + 1)))
    ∙ sym (ap (with_front front) (opened s fields words at i d (Some v) lt found))
    ∙ so_far

pub values_over : (s : Tree) (front : List Value) (fields : List Field) (words : List (List ℕ)) (at i : ℕ) (total : Option (List Value)) → length fields ≤ i → with_front front (from_place s fields words at i) ≡ total → Some front ≡ total
unfolding values_from
values_over s front fields words at i total le so_far =
    sym (ap (λ (fs : List Field). with_front front (values_from s fs words (at + i))) (drop_all i fields le) ∙ ap (λ (l : List Value). let r : Option (List Value) = Some l in r) (append-nil front)) ∙ so_far
