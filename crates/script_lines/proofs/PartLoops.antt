-- Reading parts one after the other, as the loop does.
use Rattle.std.proofs.Common.{◌≡◌, ℕ, ◌+◌, ◌<◌, ◌≤◌, List, [], ◌∷◌, ◌++◌, length, Option, Some, None, refl, sym, ap, ◌∙◌, append_assoc, append-nil, drop, get_or}
use Rattle.std.proofs.lemmas.List.{drop_more, drop_all}
use Rattle.statement_table.specs.declared.part.Part.{Part}
use Rattle.statement_table.specs.declared.part.Place.{Place}
use Rattle.script_lines.specs.Known.{Known}
use Rattle.script_lines.specs.LineReading.{◌>>=◌, word_at, part_at, parts_from}

-- with the parts that were read before
abbrev pub after_front : List Part → Option (List Part × Known) → Option (List Part × Known)
after_front front o = o >>= λ x. Some (front ++ x.0, x.1)

regroup : (front : List Part) (p : Part) (o : Option (List Part × Known)) → after_front front (o >>= λ x. Some (p ∷ x.0, x.1)) ≡ after_front (front ++ p ∷ []) o
regroup front p (Some x) = ap (λ (ps : List Part). let y : Option (List Part × Known) = Some (ps, x.1) in y) (sym (append_assoc front (p ∷ []) x.0))
regroup front p None = refl

-- what is read from a place of the loop on
abbrev pub from_place : Known → List Place → List (List ℕ) → ℕ → Option (List Part × Known)
from_place known places words i = parts_from known (drop i places) words (i + 1)

abbrev step : Option (Part × Known) → List Place → List (List ℕ) → ℕ → Option (List Part × Known)
step first more words k = first >>= λ f. parts_from f.1 more words k >>= λ others. Some (f.0 ∷ others.0, others.1)

opened : (known : Known) (places : List Place) (words : List (List ℕ)) (i : ℕ) (d : Place) (o : Option (Part × Known)) → i < length places → o ≡ part_at known (get_or places i d) (word_at words (i + 1)) → from_place known places words i ≡ step o (drop (i + 1) places) words ((i + 1) + 1)
unfolding parts_from
opened known places words i d o lt found =
    ap (λ (fs : List Place). parts_from known fs words (i + 1)) (drop_more places i d lt) ∙ ap (λ (x : Option (Part × Known)). step x (drop (i + 1) places) words ((i + 1) + 1)) (sym found)

pub parts_none : (front : List Part) (known : Known) (places : List Place) (words : List (List ℕ)) (i : ℕ) (d : Place) (total : Option (List Part × Known)) → i < length places → None ≡ part_at known (get_or places i d) (word_at words (i + 1)) → after_front front (from_place known places words i) ≡ total → total ≡ None
parts_none front known places words i d total lt found so_far = sym so_far ∙ ap (after_front front) (opened known places words i d None lt found)

pub parts_more : (front longer : List Part) (known after : Known) (p : Part) (places : List Place) (words : List (List ℕ)) (i : ℕ) (d : Place) (total : Option (List Part × Known)) → i < length places → Some (p, after) ≡ part_at known (get_or places i d) (word_at words (i + 1)) → after_front front (from_place known places words i) ≡ total → longer ≡ front ++ p ∷ [] → after_front longer (from_place after places words (i + 1)) ≡ total
parts_more front longer known after p places words i d total lt found so_far pushed =
    ap (λ (ps : List Part). after_front ps (from_place after places words (i + 1))) pushed
    ∙ sym (regroup front p (from_place after places words (i + 1)))
    ∙ sym (ap (after_front front) (opened known places words i d (Some (p, after)) lt found))
    ∙ so_far

pub parts_over : (front : List Part) (known : Known) (places : List Place) (words : List (List ℕ)) (i : ℕ) (total : Option (List Part × Known)) → length places ≤ i → after_front front (from_place known places words i) ≡ total → total ≡ Some (front, known)
unfolding parts_from
parts_over front known places words i total le so_far =
    sym so_far ∙ ap (λ (fs : List Place). after_front front (parts_from known fs words (i + 1))) (drop_all i places le) ∙ ap (λ (ps : List Part). let y : Option (List Part × Known) = Some (ps, known) in y) (append-nil front)
