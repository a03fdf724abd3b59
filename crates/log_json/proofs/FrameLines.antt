-- The line of a frame.
use Rattle.std.proofs.Common.{◌≡◌, ℕ, suc, ◌+◌, ◌-◌, ◌<◌, ◌≤◌, Bool, true, false, List, [], ◌∷◌, ◌++◌, length, map, take, drop, refl, ap, ◌∙◌, sym, subst, append_assoc, append-nil, arith, IsUtf8, String, Global, string_bytes, rules}
use Rattle.std.specs.Prelude.{min, nat_lt, ◌||◌, if◌then◌else◌}
use Rattle.std.proofs.lemmas.Bool.Decides.{nat_tests}
use Rattle.std.proofs.lemmas.Str.{IsUtf8-append, IsUtf8-nil, IsUtf8-from_ascii}
use Rattle.std.proofs.lemmas.Str.Ascii.{IsAscii-nil, IsAscii-cons}
use Rattle.serde_json.specs.Data.{Data, string}
use Rattle.serde_json.specs.View.{view, items_of}
use Rattle.serde_json.specs.Written.{has_float, items_have_float}
use Rattle.serde_json.specs.declared.value.Value.{String as StringValue, the_lemmas}
use Rattle.user_io.specs.Text.{Adds}
use Rattle.log_text.specs.Frames.{digit, rows}
use Rattle.log_text.proofs.FrameTexts.{front_cut, back_cut}
use Rattle.log_json.specs.Objects.{row_string, frame_object}

-- ---- digits are texts

within : (c n : ℕ) → nat_lt c n ≡ true → c < n
within c n h = grind (arith, nat_tests, h)

either_small : (b : Bool) (x y : ℕ) → (b ≡ true → x < 128) → y < 128 → (if b then x else y) < 128
either_small true x y h k = h refl
either_small false x y h k = k

digit_small : (c : ℕ) → digit c < 128
digit_small c =
    either_small (nat_lt c 10) (48 + c) (if nat_lt c 16 then 87 + c else 63) (λ h. let l = within c 10 h in omega arith)
    (either_small (nat_lt c 16) (87 + c) 63 (λ h. let l = within c 16 h in omega arith) (omega arith))

digits_utf8 : (row : List ℕ) → IsUtf8 (map digit row)
digits_utf8 [] = IsUtf8-nil
digits_utf8 (c ∷ row) = IsUtf8-append (digit c ∷ []) (map digit row) (IsUtf8-from_ascii (digit c ∷ []) (IsAscii-cons (digit c) [] (digit_small c) IsAscii-nil)) (digits_utf8 row)

pub added_digits : (row old new : List ℕ) → old ≡ [] → Adds old new (map digit row) → IsUtf8 new
added_digits row old new e added = subst IsUtf8 (sym (added.is ∙ ap (λ (l : List ℕ). l ++ map digit row) e)) (digits_utf8 row)

-- ---- rows

pub string_seen : (s : String Global) → view (StringValue s) ≡ string (string_bytes s)
string_seen s = search (rules, the_lemmas)

-- one more row was made
pub row_made : (w h i : ℕ) (o : List Data) (rest row below : List ℕ) (d : Data) (whole : List Data) → i < h → o ++ map row_string (rows w (h - i) rest) ≡ whole → d ≡ row_string row → row ≡ take (min (length rest) w) rest → below ≡ drop (min (length rest) w) rest → (o ++ d ∷ []) ++ map row_string (rows w (h - (i + 1)) below) ≡ whole
row_made w h i o rest row below d whole lt so_far is front back =
    let fewer : h - i ≡ suc (h - (i + 1)) = omega (arith, lt) in
    append_assoc o (d ∷ []) (map row_string (rows w (h - (i + 1)) below))
    ∙ ap (λ x. o ++ x ∷ map row_string (rows w (h - (i + 1)) below)) (is ∙ ap row_string (front ∙ front_cut rest w))
    ∙ ap (λ (l : List ℕ). o ++ row_string (take w rest) ∷ map row_string (rows w (h - (i + 1)) l)) (back ∙ back_cut rest w)
    ∙ ap (λ k. o ++ map row_string (rows w k rest)) (sym fewer)
    ∙ so_far

-- all rows were made
pub rows_made : (w h i : ℕ) (o : List Data) (rest : List ℕ) (whole : List Data) → h ≤ i → o ++ map row_string (rows w (h - i) rest) ≡ whole → o ≡ whole
rows_made w h i o rest whole le so_far =
    let none : h - i ≡ 0 = omega (arith, le) in
    sym (append-nil o) ∙ ap (λ k. o ++ map row_string (rows w k rest)) (sym none) ∙ so_far

-- ---- the object

no_floats : (rs : List (List ℕ)) → items_have_float (items_of (map row_string rs)) ≡ false
no_floats [] = refl
no_floats (r ∷ rs) = no_floats rs

pub frame_plain : (width height : ℕ) (colours : List ℕ) (d : Data) → d ≡ frame_object width height colours → has_float d ≡ false
frame_plain width height colours d is = ap has_float is ∙ ap (λ b. b || false) (no_floats (rows width height colours))
