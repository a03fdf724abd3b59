-- One seat takes in the others, and what that says of all.
use Rattle.std.proofs.Common.{◌≡◌, ◌≢◌, ℕ, zero, suc, ◌<◌, ◌≤◌, eqb, false, List, [], ◌∷◌, ◌++◌, map, length, get_or, sym, refl, ap, ◌∙◌, subst, ⊎_elim, arith, Option, Some, All, Contains, IfSome, option_to_list, ne_eqb}
use Rattle.std.specs.List.{IsDistinct, AllByRecursion}
use Rattle.std.proofs.lemmas.List.{append_assoc}
use Rattle.std.proofs.lemmas.List.Elements.{All-nil, All-cons, All-head, All-tail, All-pop, Contains-push}
use mathlib.Core.List.{map-append}
use mathlib.Core.Option.{some-injective}
use lib.ListN.{get_elem?}
use Rattle.atomic_table.specs.declared.shared.Seat.{Seat}
use Rattle.atomic_table.proofs.Lists.{at_index}
use Rattle.turn_lock.specs.Histories.{Begins, calls_of}
use Rattle.turn_lock.specs.Views.{member, taking_in}
use Rattle.turn_lock.specs.Rule.{Sat, number_of}
use Rattle.turn_lock.specs.Seats.{Lock, Sitting, sitting, at_rest, IsSeatOf, as_member, seat_number, HasAllSeats, Settles, Ends}
use Rattle.turn_lock.specs.declared.view.View.{View}
use Rattle.turn_lock.specs.declared.view.Member.{Member}
use Rattle.turn_lock.proofs.Closed.{few_below}

all_unmap : {X Y : Type 0} (P : Y → Type 0) (f : X → Y) (xs : List X) → All P (map f xs) → All (λ x. P (f x)) xs
all_unmap P f [] h = All-nil (λ x. P (f x))
all_unmap P f (x ∷ xs) h = All-cons (λ x. P (f x)) x xs (All-head P (f x) (map f xs) h) (all_unmap P f xs (All-tail P (f x) (map f xs) h))

contains_at : (xs : List ℕ) (y k i : ℕ) → i < length xs → get_or xs i k ≡ k → Contains (xs ++ y ∷ []) k
contains_at [] y k i low e = absurd (omega arith)
contains_at (x ∷ xs) y k zero low e = (0, omega arith, e)
contains_at (x ∷ xs) y k (suc i) low e = let t = contains_at xs y k i (omega arith) e in let t₁ = t.1 in (suc t.0, omega arith, t.2)

contains_left : (xs : List ℕ) (y k : ℕ) → Contains xs k → Contains (xs ++ y ∷ []) k
contains_left xs y k c = contains_at xs y k c.0 c.1 c.2

lower : (m n : ℕ) → suc m ≤ n → m ≤ n
lower m n le = omega arith

inside : (m n : ℕ) → suc m ≤ n → m < n
inside m n le = omega arith

-- where each number below n stands in the list, the list is as long
module _ (xs : List ℕ) (n : ℕ) (h : (k : ℕ) → k < n → Contains xs k) where
  places : (m : ℕ) → m ≤ n → List ℕ
  places zero le = []
  places (suc m) le = (h m (inside m n le)).0 ∷ places m (lower m n le)

  places_length : (m : ℕ) (le : m ≤ n) → length (places m le) ≡ m
  unfolding places
  places_length zero le = refl
  places_length (suc m) le = let e = places_length m (lower m n le) in omega arith

  places_low : (m : ℕ) (le : m ≤ n) → All (λ k. k < length xs) (places m le)
  unfolding places
  places_low zero le = All-nil (λ k. k < length xs)
  places_low (suc m) le = All-cons (λ k. k < length xs) (h m (inside m n le)).0 (places m (lower m n le)) (h m (inside m n le)).1 (places_low m (lower m n le))

  apart_at : (j m : ℕ) (j_low : j < n) (m_low : m < n) → m < j → (h j j_low).0 ≢ (h m m_low).0
  apart_at j m j_low m_low less e = let a = h j j_low in let b = h m m_low in
      let same : j ≡ m = some-injective j m (sym (at_index xs a.0 j a.1 (sym a.2)) ∙ (ap (get_elem? xs) e ∙ at_index xs b.0 m b.1 (sym b.2))) in absurd (omega arith)

  places_other : (m : ℕ) (le : m ≤ n) (j : ℕ) (j_low : j < n) → m ≤ j → AllByRecursion (λ y. eqb (h j j_low).0 y ≡ false) (places m le)
  unfolding places
  places_other zero le j j_low below = tt
  places_other (suc m) le j j_low below = (ne_eqb (h j j_low).0 (h m (inside m n le)).0 (apart_at j m j_low (inside m n le) (omega arith)), places_other m (lower m n le) j j_low (omega arith))

  places_apart : (m : ℕ) (le : m ≤ n) → IsDistinct eqb (places m le)
  unfolding places IsDistinct
  places_apart zero le = tt
  places_apart (suc m) le = (places_other m (lower m n le) m (inside m n le) (omega arith), places_apart m (lower m n le))

  pub all_long : n ≤ length xs
  all_long = let whole : n ≤ n = omega arith in let a = few_below (length xs) (places n whole) (places_apart n whole) (places_low n whole) in let b = places_length n whole in omega arith

module _ {S C A : Type 0} where
  pub popped : (lock : Lock S) (xs ys : List (Sitting S C A)) (r : Option (Sitting S C A)) (s : Sitting S C A) → xs ≡ ys ++ option_to_list r → r ≡ Some s → All (IsSeatOf lock) xs
      → (xs ≡ ys ++ s ∷ []) × IsSeatOf lock s × All (IsSeatOf lock) ys
  popped lock xs ys r s cut is all = let both = All-pop (IsSeatOf lock) xs ys r cut all in (cut ∙ ap (λ q. ys ++ option_to_list q) is, subst (λ q. IfSome q (IsSeatOf lock)) is both.1, both.0)

  pub first_in : (all rest : List (Sitting S C A)) (s : Sitting S C A) (place : Seat (Option S) (View S C A)) → all ≡ rest ++ s ∷ [] → sitting place ≡ s → place ≡ at_rest place
      → map as_member all ≡ map as_member rest ++ (place.me.0.joined ++ member place.me.0 ∷ [])
  first_in all rest s place cut is resting = ap (map as_member) cut ∙ (map-append as_member rest (s ∷ [])
      ∙ ap (λ (l : List (Member C A)). map as_member rest ++ l) ((λ i. as_member (sym is i) ∷ []) ∙ sym (ap (λ (z : Seat (Option S) (View S C A)). z.me.0.joined ++ member place.me.0 ∷ []) resting)))

  pub next_in : (all l rest : List (Sitting S C A)) (o : Sitting S C A) (place taken new : Seat (Option S) (View S C A)) → map as_member all ≡ map as_member l ++ (place.me.0.joined ++ member place.me.0 ∷ [])
      → l ≡ rest ++ o ∷ [] → sitting taken ≡ o → new.me ≡ (taking_in place.me.0 taken.me.0, place.me.1) → map as_member all ≡ map as_member rest ++ (new.me.0.joined ++ member new.me.0 ∷ [])
  next_in all l rest o place taken new was cut is now = let old : List (Member C A) = place.me.0.joined ++ member place.me.0 ∷ [] in
      was ∙ (ap (λ xs. map as_member xs ++ old) cut ∙ (ap (λ (xs : List (Member C A)). xs ++ old) (map-append as_member rest (o ∷ [])) ∙ (append_assoc (map as_member rest) (as_member o ∷ []) old
      ∙ ((λ i. map as_member rest ++ (as_member (sym is i) ∷ old)) ∙ sym (ap (λ (m : Sat S C A). map as_member rest ++ (m.0.joined ++ member m.0 ∷ [])) now)))))

  pub too_few : (lock : Lock S) (seats : List (Sitting S C A)) → HasAllSeats lock seats → lock.seats ≤ length (map seat_number seats)
  too_few lock seats all = all_long (map seat_number seats) lock.seats all

  numbers_map : (seats : List (Sitting S C A)) → map seat_number seats ≡ map number_of (map as_member seats)
  numbers_map [] = refl
  numbers_map (s ∷ ss) = ap (λ l. s.number ∷ l) (numbers_map ss)

  module _ {G : Type 0} (history : S → List (C × A)) (setting : S → G) (lawful : G → List (C × A) → Type 0) (number : C → ℕ) where
    pub settles : (lock : Lock S) (seats : List (Sitting S C A)) (v : View S C A) (x : S) → Ends history setting lawful number lock.opening lock.seats v x → map as_member seats ≡ v.joined ++ member v ∷ []
        → Settles history setting lawful number lock seats x
    settles lock seats v x e all = let Q : Member C A → Type 0 = λ m. Begins m.seen e.log × (calls_of number m.number e.log ≡ m.mine) in
        (e.ruled, e.legal, (e.log, e.whole, all_unmap Q as_member seats (subst (All Q) (sym all) e.members), e.numbers))

    pub has_all : (lock : Lock S) (seats : List (Sitting S C A)) (v : View S C A) (x : S) → Ends history setting lawful number lock.opening lock.seats v x → map as_member seats ≡ v.joined ++ member v ∷ [] → HasAllSeats lock seats
    has_all lock seats v x e all k low = let same : map seat_number seats ≡ map number_of v.joined ++ v.number ∷ [] = numbers_map seats ∙ (ap (map number_of) all ∙ map-append number_of v.joined (member v ∷ [])) in
        subst (λ l. Contains l k) (sym same) (⊎_elim (λ (h : k ≡ v.number). subst (λ n. Contains (map number_of v.joined ++ n ∷ []) k) h (Contains-push (map number_of v.joined) k))
        (λ (h : Contains (map number_of v.joined) k). contains_left (map number_of v.joined) v.number k h) (e.all k low))
