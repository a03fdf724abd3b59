-- The rows of a frame, and its colours again.
use Rattle.std.proofs.Common.{◌≡◌, ℕ, zero, suc, ◌*◌, ◌≤◌, true, false, List, [], ◌∷◌, ◌++◌, length, Option, Some, None, refl, ap, sym, subst, ◌∙◌, append-nil, take-append-drop, take, drop, arith}
use Rattle.std.specs.Prelude.{map, is_some, IfSome}
use Rattle.std.specs.List.{flat_map, AllByRecursion}
use Rattle.std.proofs.lemmas.Bool.Decides.{nat_tests}
use Rattle.std.proofs.lemmas.List.{length-append, length-drop, nil_from_length, take_at}
use Rattle.script_tree.specs.Tree.{Tree}
use Rattle.script_lines.specs.LineTexts.{joined}
use Rattle.log_text.specs.Frames.{digit, rows}
use Rattle.log_read.specs.Limits.{IsColour, IsFrame}
use Rattle.log_read.specs.Reading.{colour_at}
use Rattle.log_read.specs.Words.{row_words, frame_words}
use Rattle.log_read.proofs.ListLaws.{split_same, all_append, all_take, all_drop, same_length, read_take, flat_read}

-- ---- colours

colour_again : (c : ℕ) → IsColour c → colour_at (digit c) ≡ c
colour_again c small = grind (arith, nat_tests, small)

colour_below : (c : ℕ) → IsColour (colour_at c)
colour_below c = grind (arith, nat_tests)

row_again : (row : List ℕ) → AllByRecursion IsColour row → map colour_at (map digit row) ≡ row
row_again [] all = refl
row_again (c ∷ row) all =
    ap (λ (x : ℕ). x ∷ map colour_at (map digit row)) (colour_again c all.0) ∙ ap (λ (l : List ℕ). c ∷ l) (row_again row all.1)

pub row_below : (row : List ℕ) → AllByRecursion IsColour (map colour_at row)
row_below [] = tt
row_below (c ∷ row) = (colour_below c, row_below row)

-- whatever was read, it is colours
pub rows_below : (rs : List (List ℕ)) → AllByRecursion IsColour (flat_map (map colour_at) rs)
rows_below [] = tt
rows_below (row ∷ rs) = all_append IsColour (map colour_at row) (flat_map (map colour_at) rs) (row_below row) (rows_below rs)

-- ---- rows

pub row_count : (w h : ℕ) (xs : List ℕ) → length (map row_words (rows w h xs)) ≡ h
row_count w zero xs = refl
row_count w (suc h) xs = ap suc (row_count w h (drop w xs))

one_row_less : (w h : ℕ) (xs : List ℕ) → length xs ≡ suc h * w → length (drop w xs) ≡ h * w
one_row_less w h xs size = omega (arith, length-drop w xs, size)

no_rows : (w : ℕ) (xs : List ℕ) → length xs ≡ 0 * w → length xs ≡ 0
no_rows w xs size = omega (arith, size)

-- the colours that are read from the lines of rows
abbrev pub colours_read : List (List ℕ) → List ℕ
colours_read texts = flat_map (map colour_at) texts

rows_again : (w h : ℕ) (xs : List ℕ) → length xs ≡ h * w → AllByRecursion IsColour xs → colours_read (map joined (map row_words (rows w h xs))) ≡ xs
rows_again w zero xs size all = sym (nil_from_length xs (no_rows w xs size))
rows_again w (suc h) xs size all =
    let more : List ℕ = colours_read (map joined (map row_words (rows w h (drop w xs)))) in
    ap (λ (l : List ℕ). map colour_at l ++ more) (append-nil (map digit (take w xs)))
    ∙ ap (λ (l : List ℕ). l ++ more) (row_again (take w xs) (all_take IsColour w xs all))
    ∙ ap (λ (l : List ℕ). take w xs ++ l) (rows_again w h (drop w xs) (one_row_less w h xs size) (all_drop IsColour w xs all))
    ∙ take-append-drop w xs

-- ---- frames

frame_again : (s : Tree) (colours : List ℕ) → IsFrame s colours → colours_read (map joined (frame_words s (Some colours))) ≡ colours
frame_again s colours fits = rows_again s.width s.height colours fits.size fits.below

colours_same : (s : Tree) (x y : List ℕ) (a b : List (List (List ℕ))) → IsFrame s x → IsFrame s y → frame_words s (Some x) ++ a ≡ frame_words s (Some y) ++ b → (x ≡ y) × (a ≡ b)
colours_same s x y a b fits fits' e =
    let long : length (frame_words s (Some x)) ≡ length (frame_words s (Some y)) = row_count s.width s.height x ∙ sym (row_count s.width s.height y) in
    let parts = split_same (frame_words s (Some x)) (frame_words s (Some y)) a b long e in
    (sym (frame_again s x fits) ∙ ap (λ (ls : List (List (List ℕ))). colours_read (map joined ls)) parts.0 ∙ frame_again s y fits', parts.1)

-- two frames with the same lines are equal, and so is what stands behind them
pub frame_same : (s : Tree) (o p : Option (List ℕ)) (a b : List (List (List ℕ))) → is_some o ≡ is_some p → IfSome o (IsFrame s) → IfSome p (IsFrame s) → frame_words s o ++ a ≡ frame_words s p ++ b → (o ≡ p) × (a ≡ b)
frame_same s None None a b kept fits fits' e = (refl, e)
frame_same s None (Some y) a b kept fits fits' e = absurd (cc kept)
frame_same s (Some x) None a b kept fits fits' e = absurd (cc kept)
frame_same s (Some x) (Some y) a b kept fits fits' e =
    let both = colours_same s x y a b fits fits' e in
    (ap (λ (l : List ℕ). let o : Option (List ℕ) = Some l in o) both.0, both.1)

-- ---- whether there is a frame

pub none_there : (o : Option (List ℕ)) → is_some o ≡ false → None ≡ o
none_there None e = refl
none_there (Some colours) e = absurd (cc e)

pub some_there : (o : Option (List ℕ)) → is_some o ≡ true → (colours : List ℕ) × (o ≡ Some colours)
some_there None e = absurd (cc e)
some_there (Some colours) e = (colours, refl)

-- ---- reading

-- the lines of a frame are as many as the rows of the screen
pub frame_count : (s : Tree) (colours : List ℕ) → length (map joined (frame_words s (Some colours))) ≡ s.height
frame_count s colours = same_length joined (frame_words s (Some colours)) ∙ row_count s.width s.height colours

-- the first of these lines are those of the frame
pub frame_read : {R : Type 0} (read : R → List ℕ) (s : Tree) (lines : List R) (k : ℕ) (colours : List ℕ) (rest : List (List ℕ)) (found : List ℕ) → k ≡ s.height → IsFrame s colours
    → map read lines ≡ map joined (frame_words s (Some colours)) ++ rest → found ≡ flat_map (λ (x : R). map colour_at (read x)) (take k lines) → found ≡ colours
frame_read read s lines k colours rest found high fits e is =
    let long : length (map joined (frame_words s (Some colours))) ≡ k = frame_count s colours ∙ sym high in
    is ∙ flat_read read (map colour_at) (take k lines)
    ∙ ap colours_read (read_take read k lines ∙ ap (take k) e ∙ take_at (map joined (frame_words s (Some colours))) rest k long)
    ∙ frame_again s colours fits

-- there are so many lines
pub enough_lines : {R : Type 0} (read : R → List ℕ) (s : Tree) (lines : List R) (colours : List ℕ) (rest : List (List ℕ)) → map read lines ≡ map joined (frame_words s (Some colours)) ++ rest → s.height ≤ length lines
enough_lines read s lines colours rest e =
    omega (arith, sym (same_length read lines), ap length e, length-append (map joined (frame_words s (Some colours))) rest, frame_count s colours)

-- what was read is a frame where it is as long as one
pub read_fits : {R : Type 0} (read : R → List ℕ) (s : Tree) (lines : List R) (found : List ℕ) → found ≡ flat_map (λ (x : R). map colour_at (read x)) lines → length found ≡ s.height * s.width → IsFrame s found
read_fits read s lines found is long = record {
  size = long;
  below = subst (AllByRecursion IsColour) (sym (is ∙ flat_read read (map colour_at) lines)) (rows_below (map read lines));
}
