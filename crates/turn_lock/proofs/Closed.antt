-- What the rule says where one seat stands for all.
use Rattle.std.proofs.Common.{◌≡◌, ◌≢◌, ◌⊎◌, ℕ, suc, ◌+◌, ◌<◌, ◌≤◌, eqb, Bool, true, false, List, [], ◌∷◌, map, length, sym, refl, ap, ◌∙◌, subst, ⊎_elim, inl, inr, arith, Option, Some, All, Contains, ne_eqb, eq-eqb}
use Rattle.std.specs.Prelude.{◌||◌}
use Rattle.std.specs.List.{IsDistinct, AllByRecursion, list_any}
use Rattle.std.proofs.lemmas.List.Elements.{All-weaker, All-map, All-contains, All-cons, All-push}
use Rattle.std.proofs.lemmas.Map.Steps.{length-le_from_distinct_below}
use mathlib.Core.Logic.{dite}
use mathlib.Core.Option.{some, some-injective}
use native.Mathlib.Decide.{ℕ_discrete}
use lib.ListN.{get_elem?, length-map}
use Rattle.atomic_table.specs.Table.{State, Seen, Final}
use Rattle.turn_lock.specs.Histories.{Begins, calls_of}
use Rattle.turn_lock.specs.Views.{member, spent}
use Rattle.turn_lock.specs.Seats.{Ends}
use Rattle.turn_lock.specs.Rule.{number_of, IsTakenIn, Live, IsServing, IsHome, IsOut, Kept}
use Rattle.turn_lock.specs.declared.view.View.{View}
use Rattle.turn_lock.specs.declared.view.Member.{Member}
use Rattle.turn_lock.specs.declared.view.Stage.TheVariants.{Away}
use Rattle.turn_lock.proofs.Lists.{at_below}
use Rattle.turn_lock.proofs.RuleKept.{falsehood, one_apart, not_served, not_spent, stage_code, stands_at}

-- a number is the first, or stands in the rest
either_there : (k x : ℕ) (xs : List ℕ) → list_any (eqb k) (x ∷ xs) ≡ true → (k ≡ x) ⊎ (list_any (eqb k) xs ≡ true)
either_there k x xs e = dite (ℕ_discrete k x) (λ h. inl h) (λ ne. inr (sym (ap (λ b. b || list_any (eqb k) xs) (ne_eqb k x ne)) ∙ e))

there : (k : ℕ) (xs : List ℕ) → list_any (eqb k) xs ≡ true → Contains xs k
there k [] e = absurd (falsehood e)
there k (x ∷ xs) e = ⊎_elim (λ (h : k ≡ x). (0, omega arith, sym h)) (λ (h : list_any (eqb k) xs ≡ true). let t = there k xs h in let low = t.1 in (suc t.0, omega arith, t.2)) (either_there k x xs e)

not_there : (k : ℕ) (xs : List ℕ) → list_any (eqb k) xs ≡ false → AllByRecursion (λ y. eqb k y ≡ false) xs
not_there k [] e = tt
not_there k (x ∷ xs) e = dite (ℕ_discrete k x)
    (λ h. absurd (falsehood (sym e ∙ ap (λ b. b || list_any (eqb k) xs) (eq-eqb k x h))))
    (λ ne. (ne_eqb k x ne, not_there k xs (sym (ap (λ b. b || list_any (eqb k) xs) (ne_eqb k x ne)) ∙ e)))

cons_apart : (k : ℕ) (xs : List ℕ) → list_any (eqb k) xs ≡ false → IsDistinct eqb xs → IsDistinct eqb (k ∷ xs)
unfolding IsDistinct
cons_apart k xs e apart = (not_there k xs e, apart)

-- n numbers below n, no two alike, are all of them
pub covers : (n : ℕ) (xs : List ℕ) → IsDistinct eqb xs → All (λ k. k < n) xs → n ≤ length xs → (k : ℕ) → k < n → list_any (eqb k) xs ≡ true
covers n xs apart low long k below = by_cases (list_any (eqb k) xs) refl
  where
    by_cases : (b : Bool) → list_any (eqb k) xs ≡ b → list_any (eqb k) xs ≡ true
    by_cases true e = e
    by_cases false e = let few : length (k ∷ xs) ≤ n = length-le_from_distinct_below (k ∷ xs) n (cons_apart k xs e apart)
        (λ q m. All-contains (λ j. j < n) (k ∷ xs) q (All-cons (λ j. j < n) k xs below low) (there q (k ∷ xs) m)) in absurd (omega arith)

pub few_below : (n : ℕ) (xs : List ℕ) → IsDistinct eqb xs → All (λ k. k < n) xs → length xs ≤ n
few_below n xs apart low = length-le_from_distinct_below xs n apart (λ q m. All-contains (λ j. j < n) xs q low (there q xs m))

module _ {S C A G : Type 0} (history : S → List (C × A)) (setting : S → G) (lawful : G → List (C × A) → Type 0) (number : C → ℕ) (origin : S) (seats : ℕ) where
  abbrev V : Type 0
  V = View S C A

  abbrev Log : Type 0
  Log = List (C × A)

  abbrev St : Type 0
  St = State (Option S) V

  abbrev Rule : St → Type 0
  Rule = Kept history setting lawful number origin seats

  module _ (id : ℕ) (v : V) (idle : v.stage ≡ Away) (enough : seats ≤ suc (length v.joined)) (s : St) (seen : Seen Rule id v s) where
    r : Rule s
    r = seen.0

    at : get_elem? s.views id ≡ some v
    at = seen.1

    l : Live number origin r.log s.views id v
    l = stands_at history setting lawful number origin seats s r id v Away at idle

    numbers_of : List ℕ
    numbers_of = v.number ∷ map number_of v.joined

    taken_below : (m : Member C A) → IsTakenIn number origin r.log s.views m → m.number < length s.views
    taken_below m t = at_below s.views m.number spent t.0

    all_below : All (λ k. k < length s.views) numbers_of
    unfolding numbers_of
    all_below = All-cons (λ k. k < length s.views) v.number (map number_of v.joined) (subst (λ k. k < length s.views) (sym l.named) (at_below s.views id v at))
        (All-map (λ k. k < length s.views) number_of v.joined (All-weaker (IsTakenIn number origin r.log s.views) (λ m. m.number < length s.views) taken_below v.joined l.joined))

    all_apart : IsDistinct eqb numbers_of
    unfolding numbers_of
    all_apart = one_apart v.number v.joined
        (All-weaker (IsTakenIn number origin r.log s.views) (λ m. m.number ≢ v.number) (λ m t e. not_spent v.stage Away idle (omega arith) (ap (λ (x : V). x.stage) (some-injective v spent (sym at ∙ (ap (get_elem? s.views) (sym l.named ∙ sym e) ∙ t.0))))) v.joined l.joined)
        l.apart

    as_many : length numbers_of ≡ suc (length v.joined)
    unfolding numbers_of
    as_many = ap suc (length-map v.joined number_of)

    seats_here : seats ≤ length s.views
    seats_here = let few = few_below (length s.views) numbers_of all_apart all_below in let n = as_many in omega arith

    each_there : (k : ℕ) → k < length s.views → (k ≡ v.number) ⊎ Contains (map number_of v.joined) k
    unfolding numbers_of
    each_there k low = let few = r.few.0 in let n = as_many in ⊎_elim (λ h. inl h) (λ h. inr (there k (map number_of v.joined) h))
        (either_there k v.number (map number_of v.joined) (covers (length s.views) numbers_of all_apart all_below (omega arith) k low))

    nobody : (j : ℕ) (u : V) → get_elem? s.views j ≡ some u → ¬ IsServing u
    nobody j u there' serving = ⊎_elim
        (λ (h : j ≡ v.number). not_served u.stage Away serving.0 (ap (λ (x : V). x.stage) (some-injective u v (sym there' ∙ (ap (get_elem? s.views) (h ∙ l.named) ∙ at))) ∙ idle) (omega arith) serving.1)
        (λ (h : Contains (map number_of v.joined) j). let gone : get_elem? s.views j ≡ some spent = All-contains (λ k. get_elem? s.views k ≡ some spent) (map number_of v.joined) j
        (All-map (λ k. get_elem? s.views k ≡ some spent) number_of v.joined (All-weaker (IsTakenIn number origin r.log s.views) (λ m. get_elem? s.views m.number ≡ some spent) (λ m t. t.0) v.joined l.joined)) h in
        let c : 3 ≡ stage_code u.stage = ap (λ (x : V). stage_code x.stage) (some-injective spent u (sym gone ∙ there')) in let c' : stage_code u.stage ≡ 2 = ap stage_code serving.1 in absurd (omega arith))
        (each_there j (at_below s.views j u there'))

    is_home : IsHome history setting origin r.log s
    is_home = ⊎_elim (λ (h : IsHome history setting origin r.log s). h) (λ (o : IsOut s). absurd (nobody o.1 o.2 o.3 o.4)) r.place

    pub ends : (x : S) × (s.homes ≡ some (Some x) ∷ []) × Ends history setting lawful number origin seats v x
    ends = let h = is_home in let Q : Member C A → Type 0 = λ m. Begins m.seen r.log × (calls_of number m.number r.log ≡ m.mine) in (
      h.0,
      h.1,
      record {
        ruled = h.2;
        log = r.log;
        whole = h.3;
        legal = subst (λ (y : G × Log). lawful y.0 y.1) (λ i. (sym h.2 i, sym h.3 i)) r.legal;
        members = All-push Q v.joined (member v) (All-weaker (IsTakenIn number origin r.log s.views) Q (λ m t. (t.1, t.2)) v.joined l.joined) (l.seen, ap (λ k. calls_of number k r.log) l.named ∙ l.mine);
        numbers = All-weaker (λ (e : C × A). number e.0 < length s.views) (λ (e : C × A). number e.0 < seats) (λ e low. let few = r.few.0 in omega arith) r.log r.numbers;
        all = λ k low. let here = seats_here in each_there k (omega arith);
      },
    )

  pub settled : (id : ℕ) (v : V) → v.stage ≡ Away → seats ≤ length v.joined + 1 → (ws : List ℕ) (xs : List (Option S)) → Final (Seen Rule id v) ws xs → (y : Option S) → get_elem? xs 0 ≡ some y
      → (x : S) × (y ≡ Some x) × Ends history setting lawful number origin seats v x
  settled id v idle enough ws xs f y at = let e = ends id v idle (omega arith) f.0 f.1 in
      (e.0, some-injective y (Some e.0) (sym at ∙ f.4 0 (Some e.0) (ap (λ hs. get_elem? hs 0) e.1)), e.2)
