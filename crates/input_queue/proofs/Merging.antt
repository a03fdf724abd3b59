-- All elements are the lists of the homes, merged.
use Rattle.std.proofs.Common.{◌≡◌, ℕ, suc, ◌+◌, ◌<◌, ◌==◌, Bool, true, false, ◌&&◌, ◌||◌, ltb, leb, List, [], ◌∷◌, length, All, ap, sym, subst, ◌∙◌, arith}
use Rattle.std.specs.Prelude.{filter}
use Rattle.std.proofs.lemmas.Bool.Decides.{nat_tests}
use Rattle.std.proofs.lemmas.List.Elements.{filter_agree, recursion_from_All}
use Rattle.input_queue.specs.declared.element.Element.{Element}
use Rattle.input_queue.specs.Elements.{AreRising}
use Rattle.input_queue.specs.Rows.{IsKept, joined, merged, row, with_home}
use Rattle.input_queue.proofs.Sorting.{Rises, all_of, all_weaker, filter_none, filter_whole, joined_or, rises_from}

-- whether a home is one of n from this one on
abbrev in_range : ℕ → ℕ → ℕ → Bool
in_range from n h = leb from h && ltb h (from + n)

none_in_range : (from h : ℕ) → in_range from 0 h ≡ false
none_in_range from h = grind (arith, nat_tests)

apart : (from n h : ℕ) → (h == from) ≡ true → in_range (suc from) n h ≡ false
apart from n h e = grind (arith, nat_tests, e)

range_more : (from n h : ℕ) → (in_range (suc from) n h || (h == from)) ≡ in_range from (suc n) h
range_more from n h = grind (arith, nat_tests)

all_in_range : (h : ℕ) → h < 16 → in_range 0 16 h ≡ true
all_in_range h l = grind (arith, nat_tests, l)

with_same : (h k : ℕ) (w : List Element) → h ≡ k → with_home h w ≡ with_home k w
with_same h k w e = ap (λ i. with_home i w) e

merged_range : (w : List Element) → Rises w → (rows : List (List Element)) (from : ℕ) → ((i : ℕ) → i < length rows → row rows i ≡ with_home (from + i) w) → merged rows ≡ filter (λ x. in_range from (length rows) x.home.0) w
merged_range w r [] from same = sym (filter_none (λ x. in_range from 0 x.home.0) w (all_of (λ x. in_range from 0 x.home.0 ≡ false) (λ x. none_in_range from x.home.0) w))
merged_range w r (xs ∷ rows) from same =
    let first : xs ≡ with_home from w = same 0 (omega arith) ∙ with_same (from + 0) from w (omega arith) in
    let rest : merged rows ≡ filter (λ x. in_range (suc from) (length rows) x.home.0) w = merged_range w r rows (suc from) (λ i l. same (suc i) (omega (arith, l)) ∙ with_same (from + suc i) (suc from + i) w (omega arith)) in
    ap (λ m. joined m (merged rows)) first
    ∙ ap (joined (with_home from w)) rest
    ∙ joined_or (λ x. in_range (suc from) (length rows) x.home.0) (λ x. x.home.0 == from) (λ x e. apart from (length rows) x.home.0 e) w r
    ∙ filter_agree (λ x. in_range (suc from) (length rows) x.home.0 || (x.home.0 == from)) (λ x. in_range from (suc (length rows)) x.home.0) (λ x. range_more from (length rows) x.home.0) w

-- lists that are the parts of one list by homes are merged to it
pub merged_is : (rows : List (List Element)) (w : List Element) → length rows ≡ 16 → AreRising w → All (λ x. x.home.0 < 16) w → ((h : ℕ) → h < 16 → row rows h ≡ with_home h w) → merged rows ≡ w
merged_is rows w sixteen rising homes same =
    merged_range w (rises_from w rising) rows 0 (λ i l. same i (omega (arith, l, sixteen)) ∙ with_same i (0 + i) w (omega arith))
    ∙ ap (λ n. filter (λ x. in_range 0 n x.home.0) w) sixteen
    ∙ filter_whole (λ x. in_range 0 16 x.home.0) w (all_weaker (λ x. x.home.0 < 16) (λ x. in_range 0 16 x.home.0 ≡ true) (λ x l. all_in_range x.home.0 l) w (recursion_from_All (λ x. x.home.0 < 16) w homes))

pub kept_as : (rows : List (List Element)) (w : List Element) → length rows ≡ 16 → AreRising w → All (λ x. x.home.0 < 16) w → ((h : ℕ) → h < 16 → row rows h ≡ with_home h w) → IsKept rows
kept_as rows w sixteen rising homes same =
    let is : merged rows ≡ w = merged_is rows w sixteen rising homes same in
    record {
      sixteen = sixteen;
      rising = subst AreRising (sym is) rising;
      homes = subst (λ (m : List Element). All (λ (x : Element). x.home.0 < 16) m) (sym is) homes;
      row_is = λ h l. same h l ∙ ap (with_home h) (sym is);
    }
