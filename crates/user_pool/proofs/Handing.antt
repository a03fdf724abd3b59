-- Seats that are handed out and taken back.
use Rattle.std.proofs.Common.{◌≡◌, ◌≢◌, ℕ, zero, suc, ◌+◌, ◌<◌, ◌≤◌, ◌%◌, cond, List, [], ◌∷◌, ◌++◌, length, get_or, set, length-append, length-set, refl, ap, ◌∙◌, sym, subst, inl, inr, arith, eq-eqb}
use Rattle.std.specs.Prelude.{map, Contains}
use Rattle.std.proofs.lemmas.Bool.{ne_eqb}
use Rattle.std.proofs.lemmas.Bool.Decides.{eqb_tells}
use Rattle.std.proofs.lemmas.Nat.{mod_below}
use Rattle.std.proofs.lemmas.List.{get_or-set_same, get_or-set_other, length-map, get_or_append_left}
use Rattle.std.proofs.Math.Seq.{get_or-append_seam}
use Rattle.std.proofs.lemmas.List.Elements.{Contains-append_left, Contains-append_right}
use Rattle.win_num.specs.declared.message.Thread.{Thread}
use Rattle.user_model.specs.declared.call.Call.{Call}
use Rattle.user_model.specs.declared.entry.Answer.{Answer}
use Rattle.script_proc.specs.declared.worker.Worker.{Worker}
use Rattle.script_proc.specs.Workers.{thread_of}
use Rattle.turn_lock.specs.Seats.{Lock, Sitting, new_seat, new_seats}
use Rattle.user_pool.specs.Teams.{threads_of, IsSeated, AreSeated, HaveThreads}

-- ---- lists

module _ {A B : Type 0} where
  -- a relation of two lists, place by place, where one place of both was set
  pub pairs_set : (R : A → B → Type 0) (xs : List A) (ys : List B) (i : ℕ) (x : A) (y : B) → length ys ≡ length xs → R x y
      → ((j : ℕ) (d : A) (e : B) → j < length xs → R (get_or xs j d) (get_or ys j e)) → (j : ℕ) (d : A) (e : B) → j < length (set xs i x) → R (get_or (set xs i x) j d) (get_or (set ys i y) j e)
  pairs_set R xs ys i x y count here each j d e lt =
      let within : j < length xs = omega (arith, lt, length-set xs i x) in
      elim (eqb_tells j i) [
        | inl k ↦
            let place : i < length xs = omega (arith, within, k.1) in
            let left : get_or (set xs i x) j d ≡ x = ap (λ n. get_or (set xs i x) n d) k.1 ∙ get_or-set_same xs i x d place in
            let right : get_or (set ys i y) j e ≡ y = ap (λ n. get_or (set ys i y) n e) k.1 ∙ get_or-set_same ys i y e (omega (arith, place, count)) in
            subst (λ a. R a (get_or (set ys i y) j e)) (sym left) (subst (λ b. R x b) (sym right) here)
        | inr k ↦
            subst (λ a. R a (get_or (set ys i y) j e)) (sym (get_or-set_other xs i j x d k.1)) (subst (λ b. R (get_or xs j d) b) (sym (get_or-set_other ys i j y e k.1)) (each j d e within))
      ]

  -- a value of each element, where one was set that has the value of the old one
  pub map_set : (f : A → B) (xs : List A) (i : ℕ) (x d : A) → f x ≡ f (get_or xs i d) → map f (set xs i x) ≡ map f xs
  map_set f [] i x d e = refl
  map_set f (y ∷ xs) zero x d e = ap (λ b. b ∷ map f xs) e
  map_set f (y ∷ xs) (suc i) x d e = ap (λ (l : List B). f y ∷ l) (map_set f xs i x d e)

  pub get_map : (f : A → B) (xs : List A) (i : ℕ) (d : A) (e : B) → i < length xs → get_or (map f xs) i e ≡ f (get_or xs i d)
  get_map f [] i d e lt = absurd (omega (arith, lt))
  get_map f (x ∷ xs) zero d e lt = refl
  get_map f (x ∷ xs) (suc i) d e lt = get_map f xs i d e (omega (arith, lt))

module _ {A : Type 0} where
  pub same_at : (xs : List A) (i : ℕ) (d e : A) → i < length xs → get_or xs i d ≡ get_or xs i e
  same_at [] i d e lt = absurd (omega (arith, lt))
  same_at (x ∷ xs) zero d e lt = refl
  same_at (x ∷ xs) (suc i) d e lt = same_at xs i d e (omega (arith, lt))

  -- what holds of those before a place, and of the one there, holds of one more
  pub one_before : (P : A → Type 0) (xs : List A) (n : ℕ) (x : A) → x ≡ get_or xs n x → n < length xs → P x → ((i : ℕ) (d : A) → i < n → P (get_or xs i d)) → (i : ℕ) (d : A) → i < n + 1 → P (get_or xs i d)
  one_before P xs n x is within here before i d lt = elim (eqb_tells i n) [
    | inl e ↦ subst (λ k. P (get_or xs k d)) (sym e.1) (subst P (is ∙ same_at xs n x d within) here)
    | inr e ↦ before i d (omega (arith, lt, e.1))
  ]

-- ---- new seats

module _ {S : Type 0} where
  pub new_seats_length : (desk : Lock S) (n : ℕ) → length {A = Sitting S (Thread × Call) Answer} (new_seats desk n) ≡ n
  new_seats_length desk zero = refl
  new_seats_length desk (suc n) = length-append (new_seats desk n) (new_seat desk n ∷ []) ∙ omega (arith, new_seats_length desk n)

  pub new_seats_at : (desk : Lock S) (n k : ℕ) (d : Sitting S (Thread × Call) Answer) → k < n → get_or (new_seats desk n) k d ≡ new_seat desk k
  new_seats_at desk zero k d lt = absurd (omega (arith, lt))
  new_seats_at desk (suc n) k d lt = elim (eqb_tells k n) [
    | inl e ↦
        let seam : k ≡ length (new_seats desk n) = e.1 ∙ sym (new_seats_length desk n) in
        ap (λ i. get_or (new_seats desk n ++ new_seat desk n ∷ []) i d) seam ∙ get_or-append_seam (new_seats desk n) (new_seat desk n) [] d ∙ ap (λ i. new_seat desk i) (sym e.1)
    | inr e ↦
        let below : k < n = omega (arith, lt, e.1) in
        get_or_append_left (new_seats desk n) (new_seat desk n ∷ []) d k (omega (arith, below, new_seats_length desk n)) ∙ new_seats_at desk n k d below
  ]

  -- ---- a turn of one of a group

  pub seated_set : (desk : Lock S) (ws : List Worker) (seats : List (Sitting S (Thread × Call) Answer)) (i : ℕ) (w : Worker) (seat : Sitting S (Thread × Call) Answer) → AreSeated desk ws seats → IsSeated desk w seat → AreSeated desk (set ws i w) (set seats i seat)
  seated_set desk ws seats i w seat are here = record {
    count = length-set seats i seat ∙ are.count ∙ sym (length-set ws i w);
    at = pairs_set (IsSeated desk) ws seats i w seat are.count here are.at;
  }

  -- ---- seats of equal numbers

  pub seats_fit : (desk : Lock S) (ws : List Worker) (seats : List (Sitting S (Thread × Call) Answer)) (threads : List ℕ) → map thread_of ws ≡ threads → seats ≡ map (new_seat desk) threads → ((i : ℕ) (d : ℕ) → i < length threads → get_or threads i d < desk.seats) → AreSeated desk ws seats
  seats_fit desk ws seats threads are new within =
      let same : length ws ≡ length threads = sym (length-map ws thread_of) ∙ ap (λ (l : List ℕ). length l) are in
      record {
        count = ap (λ (l : List (Sitting S (Thread × Call) Answer)). length l) new ∙ length-map threads (new_seat desk) ∙ sym same;
        at = λ i w seat lt.
            let inside : i < length threads = omega (arith, lt, same) in
            let number : thread_of (get_or ws i w) ≡ get_or threads i 0 = sym (get_map thread_of ws i w 0 lt) ∙ ap (λ (l : List ℕ). get_or l i 0) are in
            let here : get_or seats i seat ≡ new_seat desk (get_or threads i 0) = ap (λ (l : List (Sitting S (Thread × Call) Answer)). get_or l i seat) new ∙ get_map (new_seat desk) threads i 0 seat inside in
            subst (λ x. IsSeated desk (get_or ws i w) x) (sym here) (((refl, refl), within i 0 inside), number);
      }

-- ---- which threads a group has

pub hit_threads : (count g n : ℕ) → n % count ≡ g → threads_of count g (suc n) ≡ threads_of count g n ++ suc n ∷ []
hit_threads count g n e = ap (λ b. cond b (threads_of count g n ++ suc n ∷ []) (threads_of count g n)) (eq-eqb (n % count) g e)

pub miss_threads : (count g n : ℕ) → n % count ≢ g → threads_of count g (suc n) ≡ threads_of count g n
miss_threads count g n e = ap (λ b. cond b (threads_of count g n ++ suc n ∷ []) (threads_of count g n)) (ne_eqb (n % count) g e)

-- a list for each of so many groups, to one of which an element was added: the thread's
pub threads_next : (count g n : ℕ) (xs : List ℕ) → (n % count ≡ g → xs ≡ threads_of count g n ++ suc n ∷ []) → (n % count ≢ g → xs ≡ threads_of count g n) → xs ≡ threads_of count g (suc n)
threads_next count g n xs hit miss = elim (eqb_tells (n % count) g) [
  | inl e ↦ hit e.1 ∙ sym (hit_threads count g n e.1)
  | inr e ↦ miss e.1 ∙ sym (miss_threads count g n e.1)
]

-- what holds of each of some threads, and of one more
last_or : (threads : List ℕ) (n i d : ℕ) → i < length (threads ++ suc n ∷ []) → (i < length threads → (0 < get_or threads i d) × (get_or threads i d ≤ n)) → (0 < get_or (threads ++ suc n ∷ []) i d) × (get_or (threads ++ suc n ∷ []) i d ≤ suc n)
last_or threads n i d lt below = elim (eqb_tells i (length threads)) [
  | inl e ↦
      let here : get_or (threads ++ suc n ∷ []) i d ≡ suc n = ap (λ k. get_or (threads ++ suc n ∷ []) k d) e.1 ∙ get_or-append_seam threads (suc n) [] d in
      (omega (arith, here), omega (arith, here))
  | inr e ↦
      let inside : i < length threads = omega (arith, lt, e.1, length-append threads (suc n ∷ [])) in
      let same : get_or (threads ++ suc n ∷ []) i d ≡ get_or threads i d = get_or_append_left threads (suc n ∷ []) d i inside in
      (omega (arith, (below inside).0, same), omega (arith, (below inside).1, same))
]

-- each is one of those up to the number
pub threads_within : (count g n : ℕ) (i d : ℕ) → i < length (threads_of count g n) → (0 < get_or (threads_of count g n) i d) × (get_or (threads_of count g n) i d ≤ n)
threads_within count g zero i d lt = absurd (omega (arith, lt))
threads_within count g (suc n) i d lt = elim (eqb_tells (n % count) g) [
  | inl e ↦
      let list = hit_threads count g n e.1 in
      let so : (0 < get_or (threads_of count g n ++ suc n ∷ []) i d) × (get_or (threads_of count g n ++ suc n ∷ []) i d ≤ suc n) = last_or (threads_of count g n) n i d (subst (λ (l : List ℕ). i < length l) list lt) (λ inside. threads_within count g n i d inside) in
      subst (λ (l : List ℕ). (0 < get_or l i d) × (get_or l i d ≤ suc n)) (sym list) so
  | inr e ↦
      let list = miss_threads count g n e.1 in
      let below = threads_within count g n i d (subst (λ (l : List ℕ). i < length l) list lt) in
      subst (λ (l : List ℕ). (0 < get_or l i d) × (get_or l i d ≤ suc n)) (sym list) (below.0, omega (arith, below.1))
]

-- and each of them is one of its group
pub thread_there : (count n k : ℕ) → k < n → Contains (threads_of count (k % count) n) (suc k)
thread_there count zero k lt = absurd (omega (arith, lt))
thread_there count (suc n) k lt = elim (eqb_tells k n) [
  | inl e ↦
      let list : threads_of count (k % count) (suc n) ≡ threads_of count (k % count) n ++ suc n ∷ [] = hit_threads count (k % count) n (ap (λ j. j % count) (sym e.1)) in
      let last : Contains (suc n ∷ []) (suc k) = (0, omega arith, ap suc (sym e.1)) in
      subst (λ (l : List ℕ). Contains l (suc k)) (sym list) (Contains-append_right (threads_of count (k % count) n) (suc n ∷ []) (suc k) last)
  | inr e ↦
      let below : Contains (threads_of count (k % count) n) (suc k) = thread_there count n k (omega (arith, lt, e.1)) in
      elim (eqb_tells (n % count) (k % count)) [
        | inl h ↦ subst (λ (l : List ℕ). Contains l (suc k)) (sym (hit_threads count (k % count) n h.1)) (Contains-append_left (threads_of count (k % count) n) (suc n ∷ []) (suc k) below)
        | inr m ↦ subst (λ (l : List ℕ). Contains l (suc k)) (sym (miss_threads count (k % count) n m.1)) below
      ]
]

pub some_of : {X : Type 0} (xs : List X) (i : ℕ) → i < length xs → X
some_of [] i lt = absurd (omega (arith, lt))
some_of (x ∷ xs) i lt = x

module _ {T : Type 0} (groups : List T) (ws : T → List Worker) (some : 0 < length groups) where
  -- the group of the thread behind k, and its place there
  pub record IsThere (k : ℕ) : Type 0 where
    pub group : ℕ
    pub in_groups : group < length groups
    pub place : ℕ
    pub in_group : place < length (ws (get_or groups group (some_of groups 0 some)))
    pub is : (w : Worker) → thread_of (get_or (ws (get_or groups group (some_of groups 0 some))) place w) ≡ suc k

  pub is_there : (n : ℕ) → HaveThreads n groups ws → (k : ℕ) → k < n → IsThere k
  is_there n threads k lt =
      let d : T = some_of groups 0 some in
      let g : ℕ = k % length groups in
      let within : g < length groups = mod_below k (length groups) some in
      let found : Contains (threads_of (length groups) g n) (suc k) = thread_there (length groups) n k lt in
      let list : map thread_of (ws (get_or groups g d)) ≡ threads_of (length groups) g n = threads g d within in
      let inside : found.0 < length (ws (get_or groups g d)) = omega (arith, found.1, ap (λ (l : List ℕ). length l) list, length-map (ws (get_or groups g d)) thread_of) in
      record {
        group = g;
        in_groups = within;
        place = found.0;
        in_group = inside;
        is = λ w. sym (get_map thread_of (ws (get_or groups g d)) found.0 w (suc k) inside) ∙ ap (λ (l : List ℕ). get_or l found.0 (suc k)) list ∙ found.2;
      }
