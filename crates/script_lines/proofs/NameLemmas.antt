-- Lists of names.
use Rattle.std.proofs.Common.{◌≡◌, ℕ, ◌+◌, ◌<◌, Bool, true, false, not, List, [], ◌∷◌, ◌++◌, length, Some, None, inl, inr, refl, sym, ◌∙◌, arith, length-append}
use Rattle.std.specs.List.{list_all, list_any, position_from}
use Rattle.std.specs.Str.{bytes_eq}
use Rattle.std.proofs.lemmas.Bool.{and_parts, and_from, or_parts, or_from, not-true, not_from_false, cases_Bool}
use Rattle.std.proofs.lemmas.List.Folds.{list_any-append}
use Rattle.script_lines.specs.NameLimits.{is_name, is_distinct, AreNames}

pub none_passes : (p : List ℕ → Bool) (i : ℕ) (xs : List (List ℕ)) → position_from p i xs ≡ None → list_any p xs ≡ false
none_passes p i [] e = refl
none_passes p i (x ∷ xs) e = elim (cases_Bool (p x)) [
  | inl hit ↦ let f : position_from p i (x ∷ xs) ≡ Some i = rw hit refl in absurd (cc (e, f))
  | inr miss ↦ let f : position_from p i (x ∷ xs) ≡ position_from p (i + 1) xs = rw miss refl in or_from _ _ miss (none_passes p (i + 1) xs (sym f ∙ e))
]

distinct_push : (xs : List (List ℕ)) (y : List ℕ) → is_distinct xs ≡ true → list_any (λ a. bytes_eq a y) xs ≡ false → is_distinct (xs ++ y ∷ []) ≡ true
distinct_push [] y h none = refl
distinct_push (x ∷ xs) y h none =
    let was = and_parts (not (list_any (bytes_eq x) xs)) (is_distinct xs) h in
    let alone = or_parts (bytes_eq x y) (list_any (λ a. bytes_eq a y) xs) none in
    let joined : list_any (bytes_eq x) (xs ++ y ∷ []) ≡ false = rw (list_any-append (bytes_eq x) xs (y ∷ []), not-true _ was.0, alone.0) refl in
    and_from _ _ (not_from_false _ joined) (distinct_push xs y was.1 alone.1)

spelled_push : (xs : List (List ℕ)) (y : List ℕ) → list_all is_name xs ≡ true → is_name y ≡ true → list_all is_name (xs ++ y ∷ []) ≡ true
spelled_push [] y h e = and_from _ _ e refl
spelled_push (x ∷ xs) y h e = let was = and_parts (is_name x) (list_all is_name xs) h in and_from _ _ was.0 (spelled_push xs y was.1 e)

-- a name that wasn't there goes to the end
pub names_push : (limit : ℕ) (names after : List (List ℕ)) (word : List ℕ) → AreNames limit names → position_from (λ name. bytes_eq name word) 0 names ≡ None → is_name word ≡ true → length names < limit → after ≡ names ++ word ∷ [] → AreNames limit after
names_push limit names after word h none e few same =
    let p : AreNames limit (names ++ word ∷ []) = record {
      spelled = spelled_push names word h.spelled e;
      distinct = distinct_push names word h.distinct (none_passes (λ name. bytes_eq name word) 0 names none);
      few = omega (arith, length-append names (word ∷ []));
    } in
    rw same p
