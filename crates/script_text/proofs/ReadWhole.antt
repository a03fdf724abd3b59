-- From the slices of the code to the script that a text spells.
use Rattle.std.proofs.Common.{◌≡◌, ℕ, ◌≤◌, ◌<◌, Bool, true, false, List, length, refl, ap, sym, ◌∙◌, arith, subst}
use Rattle.std.specs.Prelude.{map, drop, ◌&&◌, nat_lt}
use Rattle.std.proofs.lemmas.Bool.{false≢true, and_parts, and_from}
use Rattle.std.proofs.lemmas.Bool.Decides.{nat_tests}
use Rattle.script_tree.specs.Tree.{Tree}
use Rattle.script_text.specs.declared.reading.Program.{Program}
use Rattle.script_text.specs.declared.reading.Reading.{Reading}
use Rattle.script_text.specs.Building.{kinds}
use Rattle.script_text.specs.Grammar.{IsText, IsWhole}
use Rattle.script_text.specs.Judging.{nest_in, lines_in, IsReadingOf}
use Rattle.script_text.specs.Limits.{IsScript}
use Rattle.script_text.specs.Nesting.{none_open}
use Rattle.script_text.specs.Programs.{IsLeft, tree_at}
use Rattle.script_lines.specs.LineReading.{split_at, texts_of, word_at}
use Rattle.script_text.specs.Reading.{small_number_at, width_at, height_at, budget_at, order_at}
use Rattle.script_text.specs.Spelling.{spelling}
use Rattle.script_text.proofs.WholeTexts.{no_kinds}
use Rattle.script_text.proofs.LinesTaken.{all_lines, none_left, script_is, text_is}

lt_told : (n : ℕ) → nat_lt 0 n ≡ true → 0 < n
lt_told n h = grind (arith, nat_tests, h)

lt_true : (n : ℕ) → 0 < n → nat_lt 0 n ≡ true
lt_true n h = grind (arith, nat_tests)

-- nothing stands open behind the lines, and there is a thread
abbrev pub is_over : Reading → Bool
is_over r = none_open (kinds r.builder.blocks.items) && nat_lt 0 r.threads

module _ (bytes : List ℕ) (r : Reading) (of : IsReadingOf bytes r) where
  pub not_over : is_over r ≡ false → IsWhole bytes → ⊥
  not_over miss w =
      let left = none_left (texts_of bytes) r.known (nest_in r.builder) r.threads of.1.front w.text in
      false≢true (sym miss ∙ and_from (none_open (kinds r.builder.blocks.items)) (nat_lt 0 r.threads) (ap none_open left.0) (lt_true r.threads left.1))

  module _ (over : is_over r ≡ true) (o : Program) (left : IsLeft o r.known (lines_in r.builder)) (s : Tree) (made : s ≡ tree_at (texts_of bytes) o) where
    text : IsText (texts_of bytes)
    text =
        let two = and_parts (none_open (kinds r.builder.blocks.items)) (nat_lt 0 r.threads) over in
        all_lines (texts_of bytes) r.known (nest_in r.builder) r.threads of.1.front (no_kinds (kinds r.builder.blocks.items) two.0) (lt_told r.threads two.1)

    pub script_made : length bytes ≤ 1048576 → IsScript s
    script_made short =
        let P : Tree → Type 0 = IsScript in
        subst P (sym made) (script_is bytes (texts_of bytes) r.known (lines_in r.builder) o text of.1.built left of.0 refl short)

    pub text_made : bytes ≡ spelling s
    text_made = text_is bytes (texts_of bytes) r.known (lines_in r.builder) o text of.1.built left of.0 refl ∙ ap spelling (sym made)

-- ---- the head

pub width_told : (texts : List (List ℕ)) (line : List ℕ) → word_at texts 1 ≡ line → small_number_at 65535 (word_at (split_at 32 line) 1) ≡ width_at texts
unfolding width_at
width_told texts line e = ap (λ (l : List ℕ). small_number_at 65535 (word_at (split_at 32 l) 1)) (sym e)

pub height_told : (texts : List (List ℕ)) (line : List ℕ) → word_at texts 1 ≡ line → small_number_at 65535 (word_at (split_at 32 line) 2) ≡ height_at texts
unfolding height_at
height_told texts line e = ap (λ (l : List ℕ). small_number_at 65535 (word_at (split_at 32 l) 2)) (sym e)

pub budget_told : (texts : List (List ℕ)) (line : List ℕ) → word_at texts 2 ≡ line → small_number_at 4294967295 (word_at (split_at 32 line) 1) ≡ budget_at texts
unfolding budget_at
budget_told texts line e = ap (λ (l : List ℕ). small_number_at 4294967295 (word_at (split_at 32 l) 1)) (sym e)

pub order_told : (texts : List (List ℕ)) (line : List ℕ) → word_at texts 3 ≡ line → map (small_number_at 255) (drop 1 (split_at 32 line)) ≡ order_at texts
unfolding order_at
order_told texts line e = ap (λ (l : List ℕ). map (small_number_at 255) (drop 1 (split_at 32 l))) (sym e)
