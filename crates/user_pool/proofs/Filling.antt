-- Groups that get one more seat, or one more worker.
use Rattle.std.proofs.Common.{◌≡◌, ℕ, zero, suc, ◌+◌, ◌<◌, ◌≤◌, ◌%◌, List, [], ◌∷◌, ◌++◌, length, get_or, set, take, drop, append-nil, add-zero, add-one, drop-drop, length-drop, get_or-drop, length-append, length-set, ap, ◌∙◌, sym, subst, inl, inr, arith}
use Rattle.std.specs.Prelude.{map, remove}
use Rattle.std.proofs.lemmas.Bool.Decides.{eqb_tells}
use Rattle.std.proofs.lemmas.List.{append_assoc, get_or-set_same, get_or-set_other, map-append, get_or_append_left}
use Rattle.std.proofs.Math.Seq.{get_or-append_seam}
use Rattle.win_num.specs.declared.message.Thread.{Thread}
use Rattle.user_model.specs.declared.call.Call.{Call}
use Rattle.user_model.specs.declared.entry.Answer.{Answer}
use Rattle.script_tree.specs.Tree.{Tree}
use Rattle.script_tree.specs.Traces.{trace_of}
use Rattle.script_proc.specs.declared.program.Program.{Program}
use Rattle.script_proc.specs.declared.worker.Worker.{Worker}
use Rattle.script_proc.specs.Workers.{IsWorkerOf, thread_of}
use Rattle.turn_lock.specs.Seats.{Lock, Sitting, new_seat, new_seats}
use Rattle.user_pool.specs.Teams.{threads_of, AreWorkers, HaveThreads, KeepWorkers, HaveNewSeats, seats_of}
use Rattle.user_pool.proofs.Handing.{same_at, hit_threads, miss_threads, new_seats_length, new_seats_at}

module _ {X : Type 0} (xs ys : List X) (k : ℕ) (are : ys ≡ drop k xs) where
  -- the first of those that are left
  pub first_left : (x : X) → x ≡ get_or ys 0 x → x ≡ get_or xs k x
  first_left x is = is ∙ ap (λ (l : List X). get_or l 0 x) are ∙ get_or-drop k xs 0 x ∙ ap (λ n. get_or xs n x) (add-zero k)

  -- and those behind it
  pub rest_left : (zs : List X) → zs ≡ remove ys 0 → zs ≡ drop (k + 1) xs
  rest_left zs is = is ∙ ap (λ (l : List X). drop 1 l) are ∙ drop-drop 1 k xs

module _ {S : Type 0} (desk : Lock S) (n : ℕ) (seats : List (Sitting S (Thread × Call) Answer)) (k : ℕ) (are : seats ≡ drop k (new_seats desk n)) (lt : k < n) where
  -- some seat is left, and the first is that of this number
  pub seat_left : 0 < length seats
  seat_left = omega (arith, ap (λ (l : List (Sitting S (Thread × Call) Answer)). length l) are, lt, length-drop k (new_seats {C = Thread × Call} {A = Answer} desk n), new_seats_length desk n)

  pub seat_is : (x : Sitting S (Thread × Call) Answer) → x ≡ get_or seats 0 x → x ≡ new_seat desk k
  seat_is x is = first_left (new_seats desk n) seats k are x is ∙ new_seats_at desk n k x lt

module _ {T : Type 0} where
  -- what holds of each group, where one was set
  pub each_set : (P : ℕ → T → Type 0) (groups : List T) (place : ℕ) (y : T) → P place y → ((g : ℕ) (d : T) → g < length groups → P g (get_or groups g d)) → (g : ℕ) (d : T) → g < length (set groups place y) → P g (get_or (set groups place y) g d)
  each_set P groups place y here each g d lt =
      let within : g < length groups = omega (arith, lt, length-set groups place y) in
      elim (eqb_tells g place) [
        | inl e ↦ subst (λ k. P k (get_or (set groups place y) k d)) (sym e.1) (subst (P place) (sym (get_or-set_same groups place y d (omega (arith, within, e.1)))) here)
        | inr e ↦ subst (P g) (sym (get_or-set_other groups place g y d e.1)) (each g d within)
      ]

  -- workers stay where one group was set that has the workers of the old one
  pub kept_set : (groups now : List T) (ws : T → List Worker) (place : ℕ) (y d : T) → place < length now → ws y ≡ ws (get_or now place d) → KeepWorkers groups now ws → KeepWorkers groups (set now place y) ws
  kept_set groups now ws place y d inside same kept = record {
    count = length-set now place y ∙ kept.count;
    at = λ g x lt.
        let within : g < length now = omega (arith, lt, kept.count) in
        elim (eqb_tells g place) [
          | inl e ↦
              let here : get_or (set now place y) g x ≡ y = ap (λ k. get_or (set now place y) k x) e.1 ∙ get_or-set_same now place y x inside in
              let there : ws (get_or now place d) ≡ ws (get_or now g x) = ap ws (same_at now place d x inside ∙ ap (λ k. get_or now k x) (sym e.1)) in
              ap ws here ∙ same ∙ there ∙ kept.at g x lt
          | inr e ↦ ap ws (get_or-set_other now place g y x e.1) ∙ kept.at g x lt
        ];
  }

  module _ {S : Type 0} (desk : Lock S) (groups : List T) (f : T → List (Sitting S (Thread × Call) Answer)) (n place : ℕ) (y d : T) (place_is : place ≡ n % length groups) (inside : place < length groups) (pushed : f y ≡ f (get_or groups place d) ++ new_seat desk (suc n) ∷ []) (before : HaveNewSeats desk n groups f) where
    abbrev Right : ℕ → ℕ → T → Type 0
    Right count g x = f x ≡ map (new_seat desk) (threads_of count g (suc n))

    here : Right (length groups) place y
    here = pushed ∙ ap (λ (l : List (Sitting S (Thread × Call) Answer)). l ++ new_seat desk (suc n) ∷ []) (before place d inside) ∙ sym (map-append (new_seat desk) (threads_of (length groups) place n) (suc n ∷ [])) ∙ ap (map (new_seat desk)) (sym (hit_threads (length groups) place n (sym place_is)))

    -- one more seat is handed out
    pub handed : HaveNewSeats desk (suc n) (set groups place y) f
    handed g x lt =
        let within : g < length groups = omega (arith, lt, length-set groups place y) in
        subst (λ count. f (get_or (set groups place y) g x) ≡ map (new_seat desk) (threads_of count g (suc n))) (sym (length-set groups place y)) (elim (eqb_tells g place) [
          | inl e ↦
              let same : get_or (set groups place y) g x ≡ y = ap (λ k. get_or (set groups place y) k x) e.1 ∙ get_or-set_same groups place y x inside in
              subst (λ k. f (get_or (set groups place y) g x) ≡ map (new_seat desk) (threads_of (length groups) k (suc n))) (sym e.1) (ap f same ∙ here)
          | inr e ↦
              ap f (get_or-set_other groups place g y x e.1) ∙ before g x within ∙ ap (map (new_seat desk)) (sym (miss_threads (length groups) g n (λ h. e.1 (sym h ∙ sym place_is))))
        ])

    pub handed_next : HaveNewSeats desk (n + 1) (set groups place y) f
    handed_next = subst (λ (k : ℕ). HaveNewSeats desk k (set groups place y) f) (sym (add-one n)) handed

  module _ (groups : List T) (ws : T → List Worker) (n place : ℕ) (y d : T) (w : Worker) (place_is : place ≡ n % length groups) (inside : place < length groups) (pushed : ws y ≡ ws (get_or groups place d) ++ w ∷ []) (thread : thread_of w ≡ suc n) where
    -- one more worker stands in its group
    pub worker_added : HaveThreads n groups ws → HaveThreads (suc n) (set groups place y) ws
    worker_added before g x lt =
        let within : g < length groups = omega (arith, lt, length-set groups place y) in
        subst (λ count. map thread_of (ws (get_or (set groups place y) g x)) ≡ threads_of count g (suc n)) (sym (length-set groups place y)) (elim (eqb_tells g place) [
          | inl e ↦
              let same : get_or (set groups place y) g x ≡ y = ap (λ k. get_or (set groups place y) k x) e.1 ∙ get_or-set_same groups place y x inside in
              let list : map thread_of (ws y) ≡ threads_of (length groups) place n ++ suc n ∷ [] = ap (map thread_of) pushed ∙ map-append thread_of (ws (get_or groups place d)) (w ∷ []) ∙ ap (λ (l : List ℕ). l ++ thread_of w ∷ []) (before place d inside) ∙ ap (λ k. threads_of (length groups) place n ++ k ∷ []) thread in
              subst (λ k. map thread_of (ws (get_or (set groups place y) g x)) ≡ threads_of (length groups) k (suc n)) (sym e.1) (ap (λ z. map thread_of (ws z)) same ∙ list ∙ sym (hit_threads (length groups) place n (sym place_is)))
          | inr e ↦
              ap (λ z. map thread_of (ws z)) (get_or-set_other groups place g y x e.1) ∙ before g x within ∙ sym (miss_threads (length groups) g n (λ h. e.1 (sym h ∙ sym place_is)))
        ])

    pub worker_next : HaveThreads n groups ws → HaveThreads (n + 1) (set groups place y) ws
    worker_next before = subst (λ (k : ℕ). HaveThreads k (set groups place y) ws) (sym (add-one n)) (worker_added before)

    last_stands : (s : Tree) (p : Program) (list : List Worker) → AreWorkers s p [] list → IsWorkerOf s p (thread_of w) [] w → AreWorkers s p [] (list ++ w ∷ [])
    last_stands s p list are stands = record {
      at = λ i v lt. elim (eqb_tells i (length list)) [
        | inl e ↦
            let here : get_or (list ++ w ∷ []) i v ≡ w = ap (λ k. get_or (list ++ w ∷ []) k v) e.1 ∙ get_or-append_seam list w [] v in
            subst (λ z. IsWorkerOf s p (thread_of z) (trace_of [] (thread_of z)) z) (sym here) stands
        | inr e ↦
            let inner : i < length list = omega (arith, lt, e.1, length-append list (w ∷ [])) in
            subst (λ z. IsWorkerOf s p (thread_of z) (trace_of [] (thread_of z)) z) (sym (get_or_append_left list (w ∷ []) v i inner)) (are.at i v inner)
      ];
    }

    pub workers_added : (s : Tree) (p : Program) → IsWorkerOf s p (suc n) [] w → ((g : ℕ) (x : T) → g < length groups → AreWorkers s p [] (ws (get_or groups g x))) → (g : ℕ) (x : T) → g < length (set groups place y) → AreWorkers s p [] (ws (get_or (set groups place y) g x))
    workers_added s p stands each =
        each_set (λ g z. AreWorkers s p [] (ws z)) groups place y
        (subst (AreWorkers s p []) (sym pushed) (last_stands s p (ws (get_or groups place d)) (each place d inside) (subst (λ k. IsWorkerOf s p k [] w) (sym thread) stands))) each

-- the seats of one group more
seats_suc : {S T : Type 0} (f : T → List (Sitting S (Thread × Call) Answer)) (groups : List T) (k : ℕ) (d : T) → k < length groups → seats_of (take (suc k) groups) f ≡ seats_of (take k groups) f ++ f (get_or groups k d)
seats_suc f [] k d lt = absurd (omega (arith, lt))
seats_suc f (x ∷ groups) zero d lt = append-nil (f x)
seats_suc {S} f (x ∷ groups) (suc k) d lt =
    ap (λ (l : List (Sitting S (Thread × Call) Answer)). f x ++ l) (seats_suc f groups k d (omega (arith, lt))) ∙ sym (append_assoc (f x) (seats_of (take k groups) f) (f (get_or groups k d)))

module _ {S T : Type 0} (f : T → List (Sitting S (Thread × Call) Answer)) where
  -- those of one group more are taken back
  pub taken_next : (before : List T) (k : ℕ) (d : T) (clock : Sitting S (Thread × Call) Answer) (seats other now : List (Sitting S (Thread × Call) Answer)) → k < length before
      → seats ≡ clock ∷ seats_of (take k before) f → other ≡ f (get_or before k d) → now ≡ seats ++ other → now ≡ clock ∷ seats_of (take (k + 1) before) f
  taken_next before k d clock seats other now lt taken is items =
      items ∙ ap (λ (l : List (Sitting S (Thread × Call) Answer)). l ++ other) taken ∙ ap (λ (l : List (Sitting S (Thread × Call) Answer)). clock ∷ (seats_of (take k before) f ++ l)) is
      ∙ ap (λ (l : List (Sitting S (Thread × Call) Answer)). clock ∷ l) (sym (seats_suc f before k d lt)) ∙ ap (λ (n : ℕ). clock ∷ seats_of (take n before) f) (sym (add-one k))

  -- and it has none left
  pub emptied : (groups : List T) (k : ℕ) (y : T) → k < length groups → f y ≡ [] → ((i : ℕ) (d : T) → i < k → f (get_or groups i d) ≡ []) → (i : ℕ) (d : T) → i < k + 1 → f (get_or (set groups k y) i d) ≡ []
  emptied groups k y inside here before i d lt = elim (eqb_tells i k) [
    | inl e ↦ ap f (ap (λ n. get_or (set groups k y) n d) e.1 ∙ get_or-set_same groups k y d inside) ∙ here
    | inr e ↦ ap f (get_or-set_other groups k i y d e.1) ∙ before i d (omega (arith, lt, e.1))
  ]

-- the groups behind it stay
pub left_behind : {T : Type 0} (groups before : List T) (k : ℕ) (y : T) → ((i : ℕ) (d : T) → k ≤ i → i < length groups → get_or groups i d ≡ get_or before i d)
    → (i : ℕ) (d : T) → k + 1 ≤ i → i < length (set groups k y) → get_or (set groups k y) i d ≡ get_or before i d
left_behind groups before k y left i d le lt = elim (eqb_tells i k) [
  | inl e ↦ absurd (omega (arith, le, e.1))
  | inr e ↦ get_or-set_other groups k i y d e.1 ∙ left i d (omega (arith, le)) (omega (arith, lt, length-set groups k y))
]
