-- Numbers at the front of a text.
use Rattle.std.proofs.Common.{◌≡◌, ℕ, ◌+◌, ◌*◌, ◌-◌, ◌^◌, ◌≤◌, ◌<◌, suc, true, List, [], ◌∷◌, ◌++◌, length, take, refl, ap, sym, ◌∙◌, arith, get_or, take-suc, length-take-le, length-drop, drop, take_all, take-append-drop, get_or-take}
use Rattle.std.specs.Prelude.{decimal}
use Rattle.script_lines.specs.LineReading.{number_at}
use Rattle.std.specs.Char.{is_ascii_digit}
use Rattle.std.specs.Str.{all_ascii_digits}
use Rattle.std.proofs.lemmas.Bool.{and_parts, and_from}
use Rattle.std.proofs.lemmas.Slice.Eq.{HasBytesAt}
use Rattle.std.proofs.lemmas.Str.Parse.{digits_value_short}
use Rattle.script_lines.proofs.FrequentLines.{value_from, own, value_found, exact_decimal}

value_push : (v : ℕ) (ds : List ℕ) (d : ℕ) → value_from v (ds ++ d ∷ []) ≡ value_from v ds * 10 + (d - 48)
value_push v [] d = refl
value_push v (c ∷ ds) d = value_push (v * 10 + (c - 48)) ds d

digits_push : (ds : List ℕ) (d : ℕ) → all_ascii_digits ds ≡ true → is_ascii_digit d ≡ true → all_ascii_digits (ds ++ d ∷ []) ≡ true
digits_push [] d h e = and_from _ _ e refl
digits_push (c ∷ ds) d h e = let two = and_parts (is_ascii_digit c) (all_ascii_digits ds) h in and_from _ _ two.0 (digits_push ds d two.1 e)

-- one digit more
pub value_more : (text : List ℕ) (v i : ℕ) → i < length text → v ≡ value_from 0 (take i text) → v * 10 + (get_or text i 0 - 48) ≡ value_from 0 (take (i + 1) text)
value_more text v i l is =
    let on : suc i ≡ i + 1 = omega arith in
    ap (λ (n : ℕ). n * 10 + (get_or text i 0 - 48)) is
    ∙ sym (value_push 0 (take i text) (get_or text i 0))
    ∙ sym (ap (value_from 0) (take-suc text i 0 l))
    ∙ ap (λ (n : ℕ). value_from 0 (take n text)) on

pub digits_more : (text : List ℕ) (i : ℕ) → i < length text → all_ascii_digits (take i text) ≡ true → is_ascii_digit (get_or text i 0) ≡ true → all_ascii_digits (take (i + 1) text) ≡ true
digits_more text i l h e =
    let on : i + 1 ≡ suc i = omega arith in
    ap (λ (n : ℕ). all_ascii_digits (take n text)) on ∙ ap all_ascii_digits (take-suc text i 0 l) ∙ digits_push (take i text) (get_or text i 0) h e

-- a value of few digits is small
pub value_small : (text : List ℕ) (i k : ℕ) → i ≤ length text → i ≤ k → all_ascii_digits (take i text) ≡ true → value_from 0 (take i text) < 10 ^ k
value_small text i k l few all = digits_value_short own (take i text) k all (omega (arith, length-take-le i text l, few))

-- a value of few digits is that of the word
pub front_value : (text : List ℕ) (v i : ℕ) → v ≡ value_from 0 (take i text) → all_ascii_digits (take i text) ≡ true → i ≤ length text → i ≤ 19 → v ≡ number_at (take i text)
unfolding number_at
front_value text v i is all l few = is ∙ sym (value_found 0 (take i text) all (omega (arith, value_small text i 19 l few all)))

pub whole_value : (text : List ℕ) (v i : ℕ) → v ≡ value_from 0 (take i text) → all_ascii_digits (take i text) ≡ true → i ≤ length text → i ≤ 19 → length text ≤ i → v ≡ number_at (take (length text) text)
whole_value text v i is all l few end = let e : i ≡ length text = omega (arith, l, end) in front_value text v i is all l few ∙ ap (λ (n : ℕ). number_at (take n text)) e

-- ---- texts

-- a text is its front and what is left
parted : (text : List ℕ) (k : ℕ) → k ≤ length text → text ≡ take k text ++ take (length text - k) (drop k text)
parted text k l =
    let rest : take (length text - k) (drop k text) ≡ drop k text = take_all (length text - k) (drop k text) (omega (arith, length-drop k text)) in
    sym (take-append-drop k text) ∙ ap (λ (r : List ℕ). take k text ++ r) (sym rest)

pub first_parted : (text : List ℕ) (c : ℕ) → 1 ≤ length text → get_or text 0 0 ≡ c → text ≡ c ∷ take (length text - 1) (drop 1 text)
first_parted text c l is =
    let one : take 1 text ≡ get_or text 0 0 ∷ [] = take-suc text 0 0 l in
    parted text 1 l ∙ ap (λ (a : List ℕ). a ++ take (length text - 1) (drop 1 text)) (one ∙ ap (λ (n : ℕ). n ∷ []) is)

pub zero_word : decimal 0 ≡ 48 ∷ []
unfolding number_at
zero_word = exact_decimal (48 ∷ []) 0 refl refl (omega arith) (omega arith) (λ e. refl)

-- a number in front is its one spelling
pub number_parted : (word : List ℕ) (v k : ℕ) → all_ascii_digits (take k word) ≡ true → v ≡ number_at (take k word) → k ≤ 19 → k ≤ length word → (k ≡ 0 → ⊥) → (get_or word 0 0 ≡ 48 → ⊥) → word ≡ decimal v ++ take (length word - k) (drop k word)
number_parted word v k all is few l some first =
    let long : length (take k word) ≡ k = length-take-le k word l in
    let same : get_or (take k word) 0 0 ≡ get_or word 0 0 = get_or-take k word 0 0 (omega (arith, some)) in
    let spelled : decimal v ≡ take k word = exact_decimal (take k word) v all is (omega (arith, long, some)) (omega (arith, long, few)) (λ e. absurd (first (sym same ∙ e))) in
    parted word k l ∙ ap (λ (a : List ℕ). a ++ take (length word - k) (drop k word)) (sym spelled)

-- ---- words in front

later : (x : ℕ) (xs : List ℕ) (i : ℕ) (word : List ℕ) → HasBytesAt (x ∷ xs) (suc i) word → HasBytesAt xs i word
later x xs i [] h = tt
later x xs i (c ∷ word) h = (h.0, later x xs (suc i) word h.1)

reads : (text word : List ℕ) → length word ≤ length text → HasBytesAt text 0 word → take (length word) text ≡ word
reads text [] l h = refl
reads [] (c ∷ word) l h = absurd (omega arith)
reads (x ∷ text) (c ∷ word) l h =
    let rest : take (length word) text ≡ word = reads text word (omega arith) (later x text 0 word h.1) in
    ap (λ (r : List ℕ). x ∷ r) rest ∙ ap (λ (n : ℕ). n ∷ word) h.0

-- a text that was read as far as a word
pub word_parted : (text word : List ℕ) (k : ℕ) → length word ≡ k → k ≤ length text → HasBytesAt text 0 word → text ≡ word ++ take (length text - k) (drop k text)
word_parted text word k is l h =
    let front : take k text ≡ word = ap (λ (n : ℕ). take n text) (sym is) ∙ reads text word (omega (arith, is, l)) h in
    parted text k l ∙ ap (λ (a : List ℕ). a ++ take (length text - k) (drop k text)) front
