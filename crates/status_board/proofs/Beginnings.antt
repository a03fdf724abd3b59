-- Beginnings of one list, and what is last in a list.
use Rattle.std.proofs.Common.{◌≡◌, ℕ, ◌+◌, ◌*◌, ◌/◌, ◌%◌, ◌<◌, ◌≤◌, Bool, true, false, List, [], ◌∷◌, ◌++◌, length, refl, ap, sym, ◌∙◌, arith, append_assoc}
use Rattle.std.specs.Prelude.{if◌then◌else◌, nat_lt}
use Rattle.std.proofs.lemmas.List.{append-nil}
use Rattle.std.proofs.lemmas.Bool.Decides.{nat_tests}
use mathlib.Core.List.{IsPrefix}
use Rattle.status_board.specs.declared.shown.Shown.{Shown}
use Rattle.status_board.specs.Lists.{nothing, latest, last_of, CountsOn, longer, word_of, said_by}

module _ {A : Type 0} where
  -- a list begins with itself
  pub begins_itself : (xs : List A) → IsPrefix xs xs
  begins_itself xs = ([], append-nil xs)

  -- and with nothing
  pub nothing_begins : (xs : List A) → IsPrefix [] xs
  nothing_begins xs = (xs, refl)

  -- what begins a list begins it when it goes on
  pub begins_more : (xs ys more : List A) → IsPrefix xs ys → IsPrefix xs (ys ++ more)
  begins_more xs ys more p = (p.0 ++ more, sym (append_assoc xs p.0 more) ∙ ap (λ (l : List A). l ++ more) p.1)

  -- of two beginnings of a list, one that is no longer begins the other
  pub begins_other : (xs ys whole : List A) → IsPrefix xs whole → IsPrefix ys whole → length xs ≤ length ys → IsPrefix xs ys
  begins_other [] ys whole p q short = (ys, refl)
  begins_other (x ∷ xs) [] whole p q short = absurd (omega arith)
  begins_other (x ∷ xs) (y ∷ ys) [] p q short = absurd (cc (p.1))
  begins_other (x ∷ xs) (y ∷ ys) (z ∷ zs) p q short =
      let same : x ≡ y = cc (p.1, q.1) in
      let rest = begins_other xs ys zs (p.0, cc (p.1)) (q.0, cc (q.1)) (omega arith) in
      (rest.0, cc (same, rest.1))

-- the longer of two beginnings begins the list, and both begin it
pub record HasLonger (v w whole picked : List Shown) : Type 0 where
  pub first : IsPrefix v picked
  pub second : IsPrefix w picked
  pub begins : IsPrefix picked whole

picks : (v w whole : List Shown) → IsPrefix v whole → IsPrefix w whole → (b : Bool) → nat_lt (length v) (length w) ≡ b → HasLonger v w whole (if b then w else v)
picks v w whole p q true is = let less : length v ≤ length w = grind (arith, nat_tests) in record { first = begins_other v w whole p q less; second = begins_itself w; begins = q }
picks v w whole p q false is = let less : length w ≤ length v = grind (arith, nat_tests) in record { first = begins_itself v; second = begins_other w v whole q p less; begins = p }

pub has_longer : (v w whole : List Shown) → IsPrefix v whole → IsPrefix w whole → HasLonger v w whole (longer v w)
has_longer v w whole p q = picks v w whole p q (nat_lt (length v) (length w)) refl

-- what is put behind a list is its last
pub latest_push : (before x : Shown) (xs : List Shown) → latest before (xs ++ x ∷ []) ≡ x
latest_push before x [] = refl
latest_push before x (y ∷ ys) = latest_push y x ys

-- a list goes on counting
pub counts_push : (n : ℕ) (xs : List Shown) (x : Shown) → CountsOn n xs → x.number ≡ n + length xs + 1 → x.value < 4294967296 → CountsOn n (xs ++ x ∷ [])
counts_push n [] x counts next small = (omega arith, small, tt)
counts_push n (y ∷ ys) x counts next small = (counts.0, counts.1, counts_push (n + 1) ys x counts.2 (omega arith) small)

-- a word is the word of what it says
pub word_back : (word : ℕ) → word_of (said_by word) ≡ word
word_back word = omega arith

-- a number and a value of 32 bits are what their word says
pub said_back : (x : Shown) → x.value < 4294967296 → said_by (word_of x) ≡ x
said_back x small =
    let number : (x.number * 4294967296 + x.value) / 4294967296 ≡ x.number = omega arith in
    let value : (x.number * 4294967296 + x.value) % 4294967296 ≡ x.value = omega arith in
    λ i. record { number = number i; value = value i }

small_on : (n : ℕ) (before : Shown) (xs : List Shown) → before.value < 4294967296 → CountsOn n xs → (latest before xs).value < 4294967296
small_on n before [] small counts = small
small_on n before (x ∷ xs) small counts = small_on (n + 1) x xs counts.1 counts.2

-- the last is what its word says
pub last_back : (xs : List Shown) (word : ℕ) → CountsOn 0 xs → word_of (last_of xs) ≡ word → said_by word ≡ last_of xs
last_back xs word counts is = ap said_by (sym is) ∙ said_back (last_of xs) (small_on 0 nothing xs (omega arith) counts)
