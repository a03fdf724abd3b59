-- As many sends are known as are unfinished.
use Rattle.std.proofs.Common.{◌≡◌, ◌≢◌, ℕ, zero, suc, ◌+◌, ◌-◌, ◌<◌, ◌≤◌, Bool, true, false, cond, eqb, List, [], ◌∷◌, length, Option, Some, None, refl, sym, ap, ◌∙◌, arith}
use Rattle.std.specs.Prelude.{filter, find, is_some}
use Rattle.std.specs.Cmp.{nat_cmp_total}
use Rattle.std.specs.Ordering.{nat_cmp}
use Rattle.std.specs.FinMap as map
use Rattle.std.specs.FinMap.{same_map, get-empty, get-remove, empty_of_len, len-empty, len-remove, nat_cmp-IsAntisymmetric}
use Rattle.std.proofs.lemmas.Bool.{false≢true, ne_eqb}
use Rattle.user_model.specs.declared.entry.Setup.{Setup}
use Rattle.user_model.specs.Past.{Past}
use Rattle.user_model.specs.Sends.{SentMsg, is_unfinished, send, sends, unfinished}
use Rattle.user_model.specs.Legal.{IsLawful}
use Rattle.user_model.proofs.SendStanding.{CountsFrom}
use Rattle.user_model.proofs.SendLawful.{lawful_standing}
use Rattle.user_model.proofs.SendLimits.{limited}
use Rattle.send_state.specs.Parts.{SendParts}
use Rattle.send_state.specs.Standing.{PartsStand, known_as, known_of}
use Rattle.send_state.proofs.Settling.{by_key}
use Rattle.send_state.proofs.Serving.{eqb_itself}

-- the send of a number, where it passes
abbrev passing : (SentMsg → Bool) → Option SentMsg → Bool
passing test None = false
passing test (Some x) = test x

-- no number up to n is there
no_number : (n s : ℕ) (xs : List SentMsg) → CountsFrom n xs → s ≤ n → find (λ x. eqb x.number s) xs ≡ None
no_number n s [] c h = refl
no_number n s (x ∷ xs) c h =
    let differ : x.number ≢ s = omega (arith, c.0, h) in
    ap (λ b. cond b (Some x) (find (λ y. eqb y.number s) xs)) (ne_eqb x.number s differ) ∙ no_number (suc n) s xs c.1 (omega (arith, h))

as_many : (b : Bool) (l f : ℕ) → (cond b (l - 1) l) ≡ f → (b ≡ true → 0 < l) → l ≡ cond b (f + 1) f
as_many true l f e some = let more : 0 < l = some refl in omega (arith, e, more)
as_many false l f e some = e

count_if : (b : Bool) (x : SentMsg) (xs : List SentMsg) → cond b (length xs + 1) (length xs) ≡ length (cond b (x ∷ xs) xs)
count_if true x xs = omega arith
count_if false x xs = refl

none_there : {X : Type 0} (o : Option X) → is_some o ≡ false → o ≡ None
none_there None h = refl
none_there (Some x) h = absurd (false≢true (sym h))

module _ {X : Type 0} (test : SentMsg → Bool) where
  none_known : (m : map.FinMap nat_cmp X) → ((s : ℕ) → is_some (map.get m s) ≡ false) → map.len m ≡ 0
  none_known m h =
      let empty : m ≡ map.empty = same_map nat_cmp_total nat_cmp-IsAntisymmetric m map.empty (λ q. none_there (map.get m q) (h q) ∙ sym (get-empty nat_cmp q)) in
      ap (λ (c : map.FinMap nat_cmp X). map.len c) empty ∙ len-empty nat_cmp X

  some_key : (m : map.FinMap nat_cmp X) (k : ℕ) → is_some (map.get m k) ≡ true → 0 < map.len m
  some_key m k h = go (map.len m) refl where
    go : (n : ℕ) → map.len m ≡ n → 0 < n
    go zero e = absurd (false≢true (sym (ap is_some (ap (λ c. map.get c k) (empty_of_len m e) ∙ get-empty nat_cmp k)) ∙ h))
    go (suc n) e = omega arith

  -- a map of the numbers that pass has as many as pass
  counted : (xs : List SentMsg) (n : ℕ) (m : map.FinMap nat_cmp X) → CountsFrom n xs → ((s : ℕ) → is_some (map.get m s) ≡ passing test (find (λ x. eqb x.number s) xs)) → map.len m ≡ length (filter test xs)
  counted [] n m c h = none_known m h
  counted (x ∷ xs) n m c h =
      let here : is_some (map.get m x.number) ≡ test x = h x.number ∙ ap (λ b. passing test (cond b (Some x) (find (λ y. eqb y.number x.number) xs))) (eqb_itself x.number) in
      let low : x.number ≤ suc n = omega (arith, c.0) in
      let removed : (s : ℕ) → is_some (map.get (map.remove m x.number) s) ≡ passing test (find (λ y. eqb y.number s) xs) = λ s.
      ap is_some (get-remove nat_cmp_total m x.number s)
      ∙ by_key (λ (o : Option X). is_some o ≡ passing test (find (λ y. eqb y.number s) xs)) s x.number None (map.get m s)
      (λ same. sym (ap (λ k. passing test (find (λ y. eqb y.number k) xs)) same ∙ ap (passing test) (no_number (suc n) x.number xs c.1 low)))
      (λ other. h s ∙ ap (λ b. passing test (cond b (Some x) (find (λ y. eqb y.number s) xs))) (ne_eqb x.number s (λ j. other (sym j)))) in
      let rest = counted xs (suc n) (map.remove m x.number) c.1 removed in
      let less : map.len (map.remove m x.number) ≡ cond (is_some (map.get m x.number)) (map.len m - 1) (map.len m) = len-remove nat_cmp_total m x.number in
      as_many (test x) (map.len m) (length (filter test xs)) (ap (λ b. cond b (map.len m - 1) (map.len m)) (sym here) ∙ sym less ∙ rest) (λ t. some_key m x.number (here ∙ t))
      ∙ count_if (test x) x (filter test xs)

known_some : (past : Past) (o : Option SentMsg) → is_some (known_of past o) ≡ passing (is_unfinished past) o
known_some past None = refl
known_some past (Some x) = by (is_unfinished past x) where
  by : (b : Bool) → is_some (cond b (Some (known_as past x)) None) ≡ b
  by true = refl
  by false = refl

-- as many are known as are unfinished
pub known_count : (setup : Setup) (past : Past) (p : SendParts) → IsLawful setup past → PartsStand setup past p → map.len p.book.known ≡ length (unfinished past)
known_count setup past p lawful h =
    counted (is_unfinished past) (sends past) 0 p.book.known (lawful_standing setup past lawful).counted (λ s. ap is_some (h.book.known s) ∙ known_some past (send past s))

-- at most 1,024 are known
pub known_few : (setup : Setup) (past : Past) (p : SendParts) → IsLawful setup past → PartsStand setup past p → map.len p.book.known ≤ 1024
known_few setup past p lawful h = omega (arith, known_count setup past p lawful h, (limited setup past lawful).few)
