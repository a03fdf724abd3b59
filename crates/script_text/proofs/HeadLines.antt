-- The lines before the procedures and threads.
use Rattle.std.proofs.Common.{◌≡◌, ℕ, zero, suc, ◌^◌, ◌≤◌, ◌<◌, true, List, [], ◌∷◌, ◌++◌, length, drop, Some, None, refl, ap, sym, ◌∙◌, arith, subst}
use Rattle.std.specs.Prelude.{map, decimal, ◌==◌, nat_le, slice_get}
use Rattle.std.specs.List.{AllByRecursion, list_all}
use Rattle.std.specs.Str.{bytes_eq}
use Rattle.std.proofs.lemmas.Bool.{false≢true, and_parts, and_from}
use Rattle.std.proofs.lemmas.Bool.Decides.{nat_tests}
use Rattle.std.proofs.lemmas.Option.{same_Some}
use Rattle.std.proofs.lemmas.Slice.Eq.{bytes_eq-Decides}
use Rattle.script_lines.specs.LineReading.{number_at}
use Rattle.script_lines.proofs.WordsAgain.{number_again}
use Rattle.script_lines.proofs.TextsAgain.{is_word, decimal_word, words_again}
use Rattle.script_text.specs.declared.head.HeadLine.{HeadLine}
use Rattle.script_text.specs.declared.head.HeadLine.TheVariants as heads
use Rattle.script_text.specs.Grammar.{head_word, head_text, is_between, are_head_numbers, IsHeadLine, AreHeads, all_heads}
use Rattle.script_text.specs.Heads.{numbers_behind, is_head_text}
use Rattle.script_text.specs.Limits.{is_turn}

le_told : (a b : ℕ) → nat_le a b ≡ true → a ≤ b
le_told a b h = grind (arith, nat_tests, h)

eq_told : (a b : ℕ) → (a == b) ≡ true → a ≡ b
eq_told a b h = grind (arith, nat_tests, h)

abbrev AreSmall : List ℕ → Type 0
AreSmall ns = AllByRecursion (λ n. n < 2 ^ 64) ns

turns_small : (ns : List ℕ) → list_all is_turn ns ≡ true → AreSmall ns
turns_small [] h = tt
turns_small (n ∷ ns) h =
    let two = and_parts (is_turn n) (list_all is_turn ns) h in
    let few = le_told n 15 (and_parts (nat_le 1 n) (nat_le n 15) two.0).1 in
    (omega (arith, few), turns_small ns two.1)

numbers_small : (h : HeadLine) (ns : List ℕ) → are_head_numbers h ns ≡ true → AreSmall ns
numbers_small heads.User [] e = absurd (false≢true e)
numbers_small heads.User (n ∷ []) e = (omega (arith, eq_told n 1 e), tt)
numbers_small heads.User (n ∷ m ∷ ns) e = absurd (false≢true e)
numbers_small heads.Screen [] e = absurd (false≢true e)
numbers_small heads.Screen (w ∷ []) e = absurd (false≢true e)
numbers_small heads.Screen (w ∷ h ∷ []) e =
    let two = and_parts (is_between 1 128 w) (is_between 1 64 h) e in
    let a = le_told w 128 (and_parts (nat_le 1 w) (nat_le w 128) two.0).1 in
    let b = le_told h 64 (and_parts (nat_le 1 h) (nat_le h 64) two.1).1 in
    (omega (arith, a), (omega (arith, b), tt))
numbers_small heads.Screen (w ∷ h ∷ n ∷ ns) e = absurd (false≢true e)
numbers_small heads.Budget [] e = absurd (false≢true e)
numbers_small heads.Budget (n ∷ []) e = (let a = le_told n 65536 (and_parts (nat_le 1 n) (nat_le n 65536) e).1 in omega (arith, a), tt)
numbers_small heads.Budget (n ∷ m ∷ ns) e = absurd (false≢true e)
numbers_small heads.Order ns e = turns_small ns (and_parts (list_all is_turn ns) (nat_le (length ns) 65536) e).0

decimals_words : (ns : List ℕ) → AreSmall ns → list_all is_word (map decimal ns) ≡ true
decimals_words [] h = refl
decimals_words (n ∷ ns) h = and_from _ _ (decimal_word n h.0) (decimals_words ns h.1)

decimals_again : (ns : List ℕ) → AreSmall ns → map number_at (map decimal ns) ≡ ns
decimals_again [] h = refl
decimals_again (n ∷ ns) h = ap (λ (j : ℕ). j ∷ map number_at (map decimal ns)) (number_again n h.0) ∙ ap (λ (l : List ℕ). n ∷ l) (decimals_again ns h.1)

head_is_word : (h : HeadLine) → is_word (head_word h) ≡ true
head_is_word heads.User = refl
head_is_word heads.Screen = refl
head_is_word heads.Budget = refl
head_is_word heads.Order = refl

pub head_told : (h : HeadLine) (text : List ℕ) → is_head_text h text ≡ true → IsHeadLine h text
unfolding is_head_text
head_told h text e =
    let ns : List ℕ = numbers_behind text in
    let two = and_parts (are_head_numbers h ns) (bytes_eq (head_text h ns) text) e in
    (ns, two.0, sym ((bytes_eq-Decides (head_text h ns) text).0 two.1))

pub head_found : (h : HeadLine) (text : List ℕ) → IsHeadLine h text → is_head_text h text ≡ true
unfolding is_head_text
head_found h text line =
    let ns = line.0 in
    let small = numbers_small h ns line.1 in
    let same : numbers_behind text ≡ ns =
    ap numbers_behind line.2 ∙ ap (λ (ws : List (List ℕ)). map number_at (drop 1 ws)) (words_again (head_word h) (map decimal ns) (head_is_word h) (decimals_words ns small)) ∙ decimals_again ns small in
    let fits : are_head_numbers h (numbers_behind text) ≡ true = ap (are_head_numbers h) same ∙ line.1 in
    let spelled : head_text h (numbers_behind text) ≡ text = ap (head_text h) same ∙ sym line.2 in
    and_from _ _ fits ((bytes_eq-Decides (head_text h (numbers_behind text)) text).1 spelled)

-- ---- the line behind so many others

heads_none : (hs : List HeadLine) → AreHeads hs []
heads_none [] = tt
heads_none (h ∷ hs) = tt

pub heads_more : (hs : List HeadLine) (texts : List (List ℕ)) (h : HeadLine) (text : List ℕ) → AreHeads hs texts → slice_get hs (length texts) ≡ Some h → IsHeadLine h text → AreHeads hs (texts ++ text ∷ [])
heads_more [] texts h text are at line = tt
heads_more (x ∷ hs) [] h text are at line = (let P : HeadLine → Type 0 = λ y. IsHeadLine y text in subst P (sym (same_Some x h at)) line, heads_none hs)
heads_more (x ∷ hs) (t ∷ texts) h text are at line = (are.0, heads_more hs texts h text are.1 at line)

pub heads_at : (hs : List HeadLine) (texts : List (List ℕ)) (h : HeadLine) (text : List ℕ) (more : List (List ℕ)) → AreHeads hs ((texts ++ text ∷ []) ++ more) → slice_get hs (length texts) ≡ Some h → IsHeadLine h text
heads_at [] texts h text more are at = absurd (cc at)
heads_at (x ∷ hs) [] h text more are at = let P : HeadLine → Type 0 = λ y. IsHeadLine y text in subst P (same_Some x h at) are.0
heads_at (x ∷ hs) (t ∷ texts) h text more are at = heads_at hs texts h text more are.1 at

pub heads_stay : (hs : List HeadLine) (texts more : List (List ℕ)) → AreHeads hs texts → length hs ≤ length texts → AreHeads hs (texts ++ more)
heads_stay [] texts more are long = tt
heads_stay (x ∷ hs) [] more are long = absurd (omega (arith, long))
heads_stay (x ∷ hs) (t ∷ texts) more are long = (are.0, heads_stay hs texts more are.1 (omega (arith, long)))

-- a head line stands before the fifth
pub head_early : (i : ℕ) (h : HeadLine) → slice_get all_heads i ≡ Some h → i < 4
head_early zero h e = omega arith
head_early (suc zero) h e = omega arith
head_early (suc (suc zero)) h e = omega arith
head_early (suc (suc (suc zero))) h e = omega arith
head_early (suc (suc (suc (suc i)))) h e = absurd (cc e)

pub head_late : (i : ℕ) → slice_get all_heads i ≡ None → 4 ≤ i
head_late zero e = absurd (cc e)
head_late (suc zero) e = absurd (cc e)
head_late (suc (suc zero)) e = absurd (cc e)
head_late (suc (suc (suc zero))) e = absurd (cc e)
head_late (suc (suc (suc (suc i)))) e = omega arith
