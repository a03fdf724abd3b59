-- What a new entry, a removed one and a new name do to the table.
use Rattle.std.proofs.Common.{◌≡◌, inl, inr, ℕ, ◌+◌, ◌==◌, false, not, List, [], ◌∷◌, ◌++◌, length, filter, Option, Some, None, nat_eq, refl, ap, subst, sym, ◌∙◌, arith}
use Rattle.std.specs.Prelude.{position, is_some, option_map}
use Rattle.std.specs.List.{IsDistinct, AllByRecursion, list_any, position_from}
use Rattle.std.specs.Map.{lookup, keys_of}
use Rattle.std.proofs.lemmas.Bool.{cases_Bool, eqb-true, eq-eqb, or_parts, or_from, cond-true, cond-false, true≢false}
use Rattle.std.proofs.lemmas.Map.Keys.{IsDistinct-head, IsDistinct-tail}
use Rattle.std.proofs.lemmas.Iterator.Adapters.{position_from-zero}
use Rattle.indexmap.specs.IndexMap.{insert_entry, shift_remove_entry}
use Rattle.indexmap.specs.IndexSet.{insert_key}
use Rattle.win_class.specs.declared.classes.Class.{Class}
use Rattle.win_class.specs.ClassTable.{ClassTable, class, with_class, without_class, number_in}

-- an answer that isn't there is None
pub absent : {A : Type 0} (o : Option A) → is_some o ≡ false → o ≡ None
absent None e = refl
absent (Some a) e = absurd (true≢false e)

-- a name that isn't there goes last
insert_entry-absent : (es : List (ℕ × Class)) (name : ℕ) (v : Class) → lookup (nat_eq name) es ≡ None → insert_entry nat_eq es name v ≡ es ++ (name, v) ∷ []
insert_entry-absent [] name v none = refl
insert_entry-absent (e ∷ es) name v none = elim (cases_Bool (nat_eq name e.0)) [
  | inl hit ↦ absurd (cc (none, cond-true (nat_eq name e.0) (Some e.1) (lookup (nat_eq name) es) hit))
  | inr miss ↦
      let rest : lookup (nat_eq name) es ≡ None = sym (cond-false (nat_eq name e.0) (Some e.1) (lookup (nat_eq name) es) miss) ∙ none in
      cond-false (nat_eq name e.0) ((e.0, v) ∷ es) (e ∷ insert_entry nat_eq es name v) miss ∙ ap (λ (l : List (ℕ × Class)). e ∷ l) (insert_entry-absent es name v rest)
]

-- the table with the new class
pub with_class-new : (es : List (ℕ × Class)) (count : ℕ) (names : List ℕ) (name proc_no colour : ℕ) → is_some (lookup (nat_eq name) es) ≡ false → record { classes = insert_entry nat_eq es name (class (count + 1) proc_no colour); registered = count + 1; messages = names } ≡ with_class (record { classes = es; registered = count; messages = names }) name proc_no colour
with_class-new es count names name proc_no colour none =
    ap (λ (l : List (ℕ × Class)). let t : ClassTable = record { classes = l; registered = count + 1; messages = names } in t) (insert_entry-absent es name (class (count + 1) proc_no colour) (absent (lookup (nat_eq name) es) none))

-- the entries without a name that they don't have
filter-absent : (es : List (ℕ × Class)) (name : ℕ) → AllByRecursion (λ k. nat_eq name k ≡ false) (keys_of es) → filter (λ e. not (name == e.0)) es ≡ es
filter-absent [] name none = refl
filter-absent (e ∷ es) name none = rw none.0 (ap (λ (l : List (ℕ × Class)). e ∷ l) (filter-absent es name none.1))

-- without the first of a name, where the names are distinct, is without the name
shift_remove_entry-distinct : (es : List (ℕ × Class)) (name : ℕ) → IsDistinct nat_eq (keys_of es) → shift_remove_entry (nat_eq name) es ≡ filter (λ e. not (name == e.0)) es
shift_remove_entry-distinct [] name distinct = refl
shift_remove_entry-distinct (e ∷ es) name distinct = elim (cases_Bool (nat_eq name e.0)) [
  | inl hit ↦
      let heads : AllByRecursion (λ k. nat_eq name k ≡ false) (keys_of es) = subst (λ (n : ℕ). AllByRecursion (λ k. nat_eq n k ≡ false) (keys_of es)) (sym (eqb-true name e.0 hit)) (IsDistinct-head nat_eq e.0 (keys_of es) distinct) in
      rw hit (sym (filter-absent es name heads))
  | inr miss ↦ rw miss (ap (λ (l : List (ℕ × Class)). e ∷ l) (shift_remove_entry-distinct es name (IsDistinct-tail nat_eq e.0 (keys_of es) distinct)))
]

-- the table without the class
pub without_class-gone : (es : List (ℕ × Class)) (count : ℕ) (names : List ℕ) (name : ℕ) → IsDistinct nat_eq (keys_of es) → record { classes = shift_remove_entry (nat_eq name) es; registered = count; messages = names } ≡ without_class (record { classes = es; registered = count; messages = names }) name
without_class-gone es count names name distinct =
    ap (λ (l : List (ℕ × Class)). let t : ClassTable = record { classes = l; registered = count; messages = names } in t) (shift_remove_entry-distinct es name distinct)

-- a name that goes last stands behind all others
position_from-last : (names : List ℕ) (i name : ℕ) → list_any (nat_eq name) names ≡ false → position_from (nat_eq name) i (names ++ name ∷ []) ≡ Some (i + length names)
position_from-last [] i name none = cond-true (nat_eq name name) (Some i) None (eq-eqb name name refl) ∙ ap (λ (k : ℕ). let o : Option ℕ = Some k in o) (omega arith)
position_from-last (n ∷ names) i name none =
    let parts = or_parts (nat_eq name n) (list_any (nat_eq name) names) none in
    let later : position_from (nat_eq name) (i + 1) (names ++ name ∷ []) ≡ Some ((i + 1) + length names) = position_from-last names (i + 1) name parts.1 in
    cond-false (nat_eq name n) (Some i) (position_from (nat_eq name) (i + 1) (names ++ name ∷ [])) parts.0 ∙ later ∙ ap (λ (k : ℕ). let o : Option ℕ = Some k in o) (omega arith)

-- no name passes where no place is found
none-passes : (names : List ℕ) (i name : ℕ) → position_from (nat_eq name) i names ≡ None → list_any (nat_eq name) names ≡ false
none-passes [] i name e = refl
none-passes (n ∷ names) i name e = elim (cases_Bool (nat_eq name n)) [
  | inl hit ↦ absurd (cc (e, cond-true (nat_eq name n) (Some i) (position_from (nat_eq name) (i + 1) names) hit))
  | inr miss ↦ or_from _ _ miss (none-passes names (i + 1) name (sym (cond-false (nat_eq name n) (Some i) (position_from (nat_eq name) (i + 1) names) miss) ∙ e))
]

-- the number of a name that goes last
pub number_in-last : (es : List (ℕ × Class)) (count : ℕ) (names after : List ℕ) (name : ℕ) → position (nat_eq name) names ≡ None → after ≡ insert_key nat_eq names name → number_in (record { classes = es; registered = count; messages = after }) name ≡ Some (49152 + length names)
number_in-last es count names after name none e =
    let fresh : list_any (nat_eq name) names ≡ false = none-passes names 0 name (sym (position_from-zero (nat_eq name) names) ∙ none) in
    let grown : after ≡ names ++ name ∷ [] = e ∙ cond-false (list_any (nat_eq name) names) names (names ++ name ∷ []) fresh in
    let place : position (nat_eq name) (names ++ name ∷ []) ≡ Some (0 + length names) = position_from-zero (nat_eq name) (names ++ name ∷ []) ∙ position_from-last names 0 name fresh in
    ap (λ (l : List ℕ). option_map (λ k. 49152 + k) (position (nat_eq name) l)) grown ∙ ap (option_map (λ k. 49152 + k)) place ∙ ap (λ (k : ℕ). let o : Option ℕ = Some (49152 + k) in o) (omega arith)
