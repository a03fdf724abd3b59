-- The text of a row of a frame.
use Rattle.std.proofs.Common.{◌≡◌, ℕ, true, List, [], ◌∷◌, length, refl, ap, sym, ◌∙◌, append-nil, arith}
use Rattle.std.specs.Prelude.{map, ◌==◌}
use Rattle.std.specs.List.{AllByRecursion}
use Rattle.std.proofs.lemmas.Bool.{and_parts, and_from}
use Rattle.std.proofs.lemmas.Bool.Decides.{nat_tests}
use Rattle.script_tree.specs.Tree.{Tree}
use Rattle.log_text.specs.Frames.{digit}
use Rattle.log_read.specs.Grammar.{IsRowLine}
use Rattle.log_read.specs.Limits.{IsColour}
use Rattle.log_read.specs.Reading.{colour_at, is_colour_digit, are_colours}
use Rattle.log_read.proofs.FrameRows.{row_below}
use Rattle.log_read.proofs.ListLaws.{same_length}

digit_again : (c : ℕ) → is_colour_digit c ≡ true → digit (colour_at c) ≡ c
digit_again c h = grind (arith, nat_tests, h)

digit_is : (c : ℕ) → IsColour c → is_colour_digit (digit c) ≡ true
digit_is c small = grind (arith, nat_tests, small)

digits_again : (text : List ℕ) → are_colours text ≡ true → map digit (map colour_at text) ≡ text
digits_again [] h = refl
digits_again (c ∷ text) h =
    let two = and_parts (is_colour_digit c) (are_colours text) h in
    ap (λ (x : ℕ). x ∷ map digit (map colour_at text)) (digit_again c two.0) ∙ ap (λ (l : List ℕ). c ∷ l) (digits_again text two.1)

digits_are : (colours : List ℕ) → AllByRecursion IsColour colours → are_colours (map digit colours) ≡ true
digits_are [] all = refl
digits_are (c ∷ colours) all = and_from _ _ (digit_is c all.0) (digits_are colours all.1)

pub same_number : (a b : ℕ) → (a == b) ≡ true → a ≡ b
same_number a b h = grind (arith, nat_tests, h)

pub number_same : (a b : ℕ) → a ≡ b → (a == b) ≡ true
number_same a b h = grind (arith, nat_tests, h)

pub row_told : (s : Tree) (text : List ℕ) → are_colours text ≡ true → length text ≡ s.width → IsRowLine s text
row_told s text all size = record {
  colours = map colour_at text;
  size = same_length colour_at text ∙ size;
  below = row_below text;
  line = sym (append-nil (map digit (map colour_at text)) ∙ digits_again text all);
}

pub row_digits : (s : Tree) (text : List ℕ) → IsRowLine s text → are_colours text ≡ true
row_digits s text row = ap are_colours (row.line ∙ append-nil (map digit row.colours)) ∙ digits_are row.colours row.below

pub row_size : (s : Tree) (text : List ℕ) → IsRowLine s text → length text ≡ s.width
row_size s text row = ap length (row.line ∙ append-nil (map digit row.colours)) ∙ same_length digit row.colours ∙ row.size
