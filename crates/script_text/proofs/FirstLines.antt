-- The lines of a text, one after the other.
use Rattle.std.proofs.Common.{◌≡◌, ◌<◌, ◌≤◌, ◌-◌, ◌+◌, ◌==◌, ℕ, Bool, true, false, List, [], ◌∷◌, ◌++◌, length, take, drop, get_or, refl, sym, ap, ◌∙◌, subst, arith, length-append, append_assoc}
use Rattle.std.specs.List.{position_or_len, slice_split}
use Rattle.std.proofs.lemmas.List.{take_all, length-drop, get_or_default}
use Rattle.std.proofs.lemmas.List.Splits.{length-slice_split, slice_split_first, slice_split_none}
use Rattle.std.proofs.lemmas.List.Sums.{position_or_len_is}
use Rattle.memchr.specs.Find.{Passes, Nowhere, NoneBefore, is_byte}
use Rattle.script_lines.specs.LineReading.{split_at, texts_of}
use Rattle.script_text.specs.declared.reading.Reading.{Reading}
use Rattle.script_text.specs.Grammar.{IsText, IsWhole, Begins, rest_of}
use Rattle.script_text.specs.Judging.{IsReading, IsReadingOf}
use Rattle.script_text.proofs.FirstBad.{none_there, some_there}
use Rattle.script_text.proofs.Judging.{lines_told, rest_told}

-- ---- one line

not_true : (b : Bool) → (b ≡ true → ⊥) → b ≡ false
not_true true h = absurd (h refl)
not_true false h = refl

-- the first line, and what stands behind its line feed
pub line_cut : (text : List ℕ) (end : ℕ) → NoneBefore (Passes (is_byte 10) text) 0 (length text) end × Passes (is_byte 10) text end → split_at 10 text ≡ take end text ∷ split_at 10 (take (length text - (end + 1)) (drop (end + 1) text))
line_cut text end h =
    let p : ℕ → Bool = λ b. b == 10 in
    let first : position_or_len p text ≡ end = position_or_len_is p text end 0 (omega (arith, h.0.high)) (λ k lt. not_true (p (get_or text k 0)) (h.0.before k (omega arith) lt)) (λ lt. h.1) in
    let cut = subst (λ n. slice_split p text ≡ take n text ∷ slice_split p (drop (n + 1) text)) first (slice_split_first p text 0 (omega (arith, first, h.0.high))) in
    cut ∙ ap (λ r. take end text ∷ slice_split p r) (sym (take_all (length text - (end + 1)) (drop (end + 1) text) (omega (arith, length-drop (end + 1) text))))

-- a text without a line feed
pub none_cut : (text : List ℕ) → Nowhere (Passes (is_byte 10) text) 0 (length text) → split_at 10 text ≡ text ∷ []
none_cut text nowhere =
    let p : ℕ → Bool = λ b. b == 10 in
    slice_split_none p text (λ k d lt. ap p (get_or_default text k d 0 lt) ∙ not_true (p (get_or text k 0)) (nowhere k (omega arith) lt))

-- ---- all lines

-- a list that has some is others and the last
last_parts : (xs : List (List ℕ)) → 0 < length xs → (others : List (List ℕ)) × (last : List ℕ) × (xs ≡ others ++ last ∷ [])
last_parts [] h = absurd (omega (arith, h))
last_parts (x ∷ xs) h = by x xs
  where
    by : (x : List ℕ) (xs : List (List ℕ)) → (others : List (List ℕ)) × (last : List ℕ) × (x ∷ xs ≡ others ++ last ∷ [])
    by x [] = ([], x, refl)
    by x (y ∷ xs) = let r = by y xs in (x ∷ r.0, r.1, ap (λ (l : List (List ℕ)). x ∷ l) r.2)

split_parts : (text : List ℕ) → (others : List (List ℕ)) × (last : List ℕ) × (split_at 10 text ≡ others ++ last ∷ [])
split_parts text = last_parts (split_at 10 text) (omega (arith, length-slice_split (λ b. b == 10) text))

-- a text is its lines, and what stands behind the last line feed
pub text_parts : (bytes : List ℕ) → split_at 10 bytes ≡ texts_of bytes ++ rest_of bytes ∷ []
text_parts bytes =
    let r = split_parts bytes in
    r.2 ∙ ap (λ (l : List (List ℕ)). l ++ r.1 ∷ []) (sym (lines_told bytes r.0 r.1 (sym r.2))) ∙ ap (λ (x : List ℕ). texts_of bytes ++ x ∷ []) (sym (rest_told bytes r.0 r.1 (sym r.2)))

-- the first lines of a text were taken, so many, and the rest is left
pub record TakenTo (bytes : List ℕ) (r : Reading) (before : ℕ) (rest : List ℕ) : Type 0 where
  pub texts : List (List ℕ)
  pub many : length texts ≡ before
  pub reading : IsReading texts r
  pub split : split_at 10 bytes ≡ texts ++ split_at 10 rest
  pub short : before + length rest ≤ length bytes

pub nothing_taken : (bytes : List ℕ) (r : Reading) → IsReading [] r → TakenTo bytes r 0 bytes
nothing_taken bytes r h = record { texts = []; many = refl; reading = h; split = refl; short = omega arith }

module _ (bytes : List ℕ) (r : Reading) (before : ℕ) (rest : List ℕ) (taken : TakenTo bytes r before rest) where
  -- no line is left
  pub all_taken : (length rest == 0) ≡ true → IsReadingOf bytes r
  all_taken empty =
      let split : taken.texts ++ [] ∷ [] ≡ split_at 10 bytes = sym (taken.split ∙ ap (λ (l : List ℕ). taken.texts ++ split_at 10 l) (none_there rest empty)) in
      let P : List (List ℕ) → Type 0 = λ l. IsReading l r in
      (rest_told bytes taken.texts [] split, subst P (sym (lines_told bytes taken.texts [] split)) taken.reading)

  -- the rest has no line feed
  pub no_feed : (length rest == 0) ≡ false → split_at 10 rest ≡ rest ∷ [] → IsWhole bytes → ⊥
  no_feed some none w =
      let split : taken.texts ++ rest ∷ [] ≡ split_at 10 bytes = sym (taken.split ∙ ap (λ (l : List (List ℕ)). taken.texts ++ l) none) in
      some_there rest some (sym (rest_told bytes taken.texts rest split) ∙ w.ended)

  module _ (line behind : List ℕ) (cut : split_at 10 rest ≡ line ∷ split_at 10 behind) where
    one_more : split_at 10 bytes ≡ (taken.texts ++ line ∷ []) ++ split_at 10 behind
    one_more = taken.split ∙ ap (λ (l : List (List ℕ)). taken.texts ++ l) cut ∙ sym (append_assoc taken.texts (line ∷ []) (split_at 10 behind))

    -- one line more
    pub more_taken : (new : Reading) → length behind < length rest → IsReading (taken.texts ++ line ∷ []) new → TakenTo bytes new (before + 1) behind
    more_taken new shorter h = record {
      texts = taken.texts ++ line ∷ [];
      many = omega (arith, length-append taken.texts (line ∷ []), taken.many);
      reading = h;
      split = one_more;
      short = omega (arith, taken.short, shorter);
    }

    -- no script begins with it
    pub bad_taken : (Begins (taken.texts ++ line ∷ []) → ⊥) → IsWhole bytes → ⊥
    bad_taken bad w =
        let p = split_parts behind in
        let front = taken.texts ++ line ∷ [] in
        let split : (front ++ p.0) ++ p.1 ∷ [] ≡ split_at 10 bytes = append_assoc front p.0 (p.1 ∷ []) ∙ sym (one_more ∙ ap (λ (l : List (List ℕ)). front ++ l) p.2) in
        let P : List (List ℕ) → Type 0 = IsText in
        bad (p.0, subst P (lines_told bytes (front ++ p.0) p.1 split) w.text)

-- a text with the lines of a script has four and more
pub head_there : (bytes : List ℕ) → IsWhole bytes → length (split_at 10 bytes) < 5 → ⊥
head_there bytes w few = omega (arith, w.text.long, few, ap length (text_parts bytes), length-append (texts_of bytes) (rest_of bytes ∷ []))
