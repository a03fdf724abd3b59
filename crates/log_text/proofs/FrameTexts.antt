-- The lines of a frame row by row, and which frame stands behind an entry.
use Rattle.std.proofs.Common.{◌≡◌, ℕ, suc, ◌+◌, ◌-◌, ◌<◌, ◌≤◌, List, ◌∷◌, ◌++◌, length, take, drop, ap, ◌∙◌, sym, subst, append_assoc, append-nil, arith}
use Rattle.std.specs.Prelude.{min}
use Rattle.std.proofs.lemmas.Grind.{common_steps}
use Rattle.user_io.specs.Text.{Adds}
use Rattle.user_model.specs.declared.entry.Answer.TheVariants as answers
use Rattle.user_model.specs.declared.entry.Entry.{Entry}
use Rattle.user_model.specs.declared.entry.Setup.{Setup}
use Rattle.user_model.specs.Past.{Past}
use Rattle.user_model.specs.Colours.{frame_of}
use Rattle.user_model.specs.Legal.{IsLawful}
use Rattle.user_model.proofs.LegalLaws.{lawful_before}
use Rattle.user_model.proofs.FrameLaws.{frame_kept}
use Rattle.log_text.specs.Frames.{row_line, frame_text, shown}

-- ---- rows

-- a row is no longer than what is left
pub front_cut : (xs : List ℕ) (w : ℕ) → take (min (length xs) w) xs ≡ take w xs
front_cut xs w = grind (arith, common_steps)

pub back_cut : (xs : List ℕ) (w : ℕ) → drop (min (length xs) w) xs ≡ drop w xs
back_cut xs w = grind (arith, common_steps)

one_less : (h i : ℕ) → i < h → h - i ≡ suc (h - (i + 1))
one_less h i lt = omega arith

none_left : (h i : ℕ) → h ≤ i → h - i ≡ 0
none_left h i le = omega arith

-- one more row was added
pub row_added : (w h i : ℕ) (o n rest row below whole : List ℕ) → i < h → o ++ frame_text w (h - i) rest ≡ whole → Adds o n (row_line row) → row ≡ take (min (length rest) w) rest → below ≡ drop (min (length rest) w) rest → n ++ frame_text w (h - (i + 1)) below ≡ whole
row_added w h i o n rest row below whole lt so_far added front back =
    ap (λ (l : List ℕ). l ++ frame_text w (h - (i + 1)) below) added.is
    ∙ append_assoc o (row_line row) (frame_text w (h - (i + 1)) below)
    ∙ ap (λ (l : List ℕ). o ++ (row_line l ++ frame_text w (h - (i + 1)) below)) (front ∙ front_cut rest w)
    ∙ ap (λ (l : List ℕ). o ++ (row_line (take w rest) ++ frame_text w (h - (i + 1)) l)) (back ∙ back_cut rest w)
    ∙ ap (λ k. o ++ frame_text w k rest) (sym (one_less h i lt))
    ∙ so_far

-- all rows were added
pub rows_added : (w h i : ℕ) (o rest old piece : List ℕ) → h ≤ i → o ++ frame_text w (h - i) rest ≡ old ++ piece → Adds old o piece
rows_added w h i o rest old piece le so_far = record {
  is = sym (append-nil o) ∙ ap (λ k. o ++ frame_text w k rest) (sym (none_left h i le)) ∙ so_far;
}

-- ---- entries

-- the frame of the number that an entry was answered stands behind it
pub frame_shown : (setup : Setup) (whole later before : Past) (e : Entry) (k : ℕ) → IsLawful setup whole → whole ≡ later ++ e ∷ before → e.answer ≡ answers.Snap k → frame_of setup whole k ≡ shown setup before e.answer
frame_shown setup whole later before e k lawful is h =
    ap (λ past. frame_of setup past k) is
    ∙ frame_kept setup later e before k (lawful_before setup later (e ∷ before) (subst (IsLawful setup) is lawful)) h
    ∙ ap (shown setup before) (sym h)
