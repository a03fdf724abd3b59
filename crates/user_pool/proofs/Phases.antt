-- What a phase leaves is a run, and its workers stand for it.
use Rattle.std.proofs.Common.{◌≡◌, ℕ, zero, suc, ◌+◌, ◌<◌, ◌≤◌, Bool, true, false, cond, eqb, List, [], ◌∷◌, ◌++◌, length, get_or, length-append, refl, ap, ◌∙◌, sym, subst, inl, inr, arith}
use Rattle.std.specs.Prelude.{map, All, Contains}
use Rattle.std.proofs.lemmas.Bool.{false≢true}
use Rattle.std.proofs.lemmas.Bool.Decides.{eqb_tells}
use Rattle.std.proofs.lemmas.List.{reverse-reverse, length-reverse, length-map, map-append, get_or_append_left, get_or-append-add}
use Rattle.std.proofs.Math.Seq.{get_or-append_seam}
use Rattle.std.proofs.lemmas.List.Elements.{All-append, Contains-append_left, Contains-append_right}
use Rattle.win_num.specs.declared.message.Thread.{Thread}
use Rattle.user_model.specs.declared.call.Call.{Call}
use Rattle.user_model.specs.declared.entry.Answer.{Answer}
use Rattle.user_model.specs.declared.entry.Entry.{Entry}
use Rattle.user_model.specs.declared.entry.Setup.{Setup}
use Rattle.user_model.specs.Past.{Past}
use Rattle.user_model.specs.Places.{mine as entries_of}
use Rattle.user_model.specs.Idle.{is_barred, is_stuck, ends_stuck}
use Rattle.user_model.specs.Legal.{IsLawful}
use Rattle.user_model.specs.Tellers.{HasGrown}
use Rattle.script_tree.specs.Tree.{Tree}
use Rattle.script_tree.specs.Traces.{trace_of}
use Rattle.script_proc.specs.declared.program.Program.{Program}
use Rattle.script_proc.specs.declared.worker.Worker.{Worker}
use Rattle.script_proc.specs.Workers.{IsWorkerOf, thread_of}
use Rattle.log_text.specs.Ends.{setup_of}
use Rattle.turn_lock.specs.Seats.{Lock, Sitting, new_seat, seat_number, HasAllSeats}
use Rattle.user_desk.specs.Desks.{IsDeskSeat, HasClosed, seen_by, made_by}
use Rattle.user_pool.specs.Runs.{IsRun}
use Rattle.user_pool.specs.Interleavings.{IsPart, IsFree}
use Rattle.user_pool.specs.Teams.{IsOwnPart, HasWorked, AreWorkers, HaveThreads, AllSeated, AllAtWork, seats_of}
use Rattle.user_pool.proofs.Interleavings.{run_interleaves, interleaving_runs}
use Rattle.user_pool.proofs.NeverFull.{has_room}
use Rattle.user_pool.proofs.AtWork.{none_newer, absent, same_behind, trace_same, part_same, place_in, full_stays}
use Rattle.user_pool.proofs.Handing.{get_map, some_of, IsThere, is_there}

-- ---- what closes a phase

-- a thread's part, which is all that it has made since the opening
pub record HasPartIn (s : Tree) (opening since : Past) (t : ℕ) : Type 0 where
  pub seen : Past
  pub made : Past
  pub part : IsOwnPart s opening t seen made
  pub grown : HasGrown seen since
  pub own : entries_of since t ≡ made

module _ (s : Tree) (opening since : Past) (run : IsRun s opening) (has : (t : ℕ) → 0 < t → t ≤ length s.threads → HasPartIn s opening since t) (clock : entries_of since 0 ≡ []) (known : All (λ (e : Entry). e.who.0 < length s.threads + 1) since) where
  -- an entry since the opening is a thread's
  thread_at : (newer : List Entry) (e : Entry) (rest : Past) → since ≡ newer ++ e ∷ rest → (0 < e.who.0) × (e.who.0 ≤ length s.threads)
  thread_at newer e rest is =
      let here : get_or since (length newer) e ≡ e = ap (λ (l : Past). get_or l (length newer) e) is ∙ get_or-append_seam newer e rest e in
      let inside : length newer < length since = omega (arith, ap (λ (l : Past). length l) is, length-append newer (e ∷ rest)) in
      let low : e.who.0 < length s.threads + 1 = subst (λ (x : Entry). x.who.0 < length s.threads + 1) here (known (length newer) e inside) in
      elim (eqb_tells e.who.0 0) [
        | inl z ↦ absurd (absent newer e rest 0 z.1 (subst (λ (l : Past). entries_of l 0 ≡ []) is clock))
        | inr p ↦ (omega (arith, p.1), omega (arith, low))
      ]

  -- and it wasn't barred
  free_at : (newer : List Entry) (e : Entry) (rest : Past) → since ≡ newer ++ e ∷ rest → is_barred (setup_of s) (rest ++ opening) e.who.0 ≡ false
  free_at newer e rest is =
      let thread = thread_at newer e rest is in
      let h = has e.who.0 thread.0 thread.1 in
      let same : entries_of (h.grown.0 ++ h.seen) e.who.0 ≡ entries_of h.seen e.who.0 = ap (λ (l : Past). entries_of l e.who.0) (sym h.grown.1) ∙ h.own ∙ sym h.part.own in
      elim (place_in h.grown.0 h.seen newer e rest (sym h.grown.1 ∙ is)) [
        | inl k ↦ absurd (absent newer e k.0 e.who.0 refl (subst (λ (l : Past). entries_of l e.who.0 ≡ []) k.2 (none_newer h.grown.0 h.seen e.who.0 same)))
        | inr f ↦ h.part.free f.0 e rest f.1 refl
      ]

  free_of : (newer : List Entry) (e : Entry) (before : Past) → since ++ opening ≡ newer ++ e ∷ before → IsFree s before e
  free_of newer e before is = elim (place_in since opening newer e before is) [
    | inl r ↦
        let thread = thread_at newer e r.0 r.2 in
        record {
          known = thread.1;
          clock = λ z. absurd (omega (arith, z, thread.0));
          free = subst (λ (l : Past). is_barred (setup_of s) l e.who.0 ≡ false) (sym r.1) (free_at newer e r.0 r.2);
        }
    | inr f ↦ (run_interleaves s opening run).free f.0 e before f.1
  ]

  part_of : (t : ℕ) → 0 < t → t ≤ length s.threads → IsPart s (since ++ opening) t
  part_of t positive within =
      let h = has t positive within in
      part_same s (h.seen ++ opening) (since ++ opening) t (same_behind h.seen since opening t (h.part.own ∙ sym h.own)) h.part.part

  -- the run goes on
  pub phase_run : IsLawful (setup_of s) (since ++ opening) → length (since ++ opening) ≤ 2097152 → IsRun s (since ++ opening)
  phase_run lawful short = interleaving_runs s (since ++ opening) (record {
    legal = (omega (arith, short, length-reverse (since ++ opening)), subst (IsLawful (setup_of s)) (sym (reverse-reverse (since ++ opening))) lawful);
    parts = part_of;
    free = free_of;
  })

-- a worker stands for all that its thread has made
pub phase_worker : (s : Tree) (p : Program) (opening since : Past) (t : ℕ) (seen made : Past) (w : Worker) → length s.threads ≤ 15 → s.budget ≤ 65536 → IsRun s (since ++ opening) → HasWorked s p opening t seen made w → HasGrown seen since → entries_of since t ≡ made → IsWorkerOf s p t (trace_of (since ++ opening) t) w
phase_worker s p opening since t seen made w few small run has grown own = elim has.worker [
  | inl stands ↦ subst (λ tr. IsWorkerOf s p t tr w) (trace_same (seen ++ opening) (since ++ opening) t (same_behind seen since opening t (has.part.own ∙ sym own))) stands
  | inr full ↦ absurd (false≢true (sym (has_room s (since ++ opening) few small run) ∙ full_stays s p opening t seen since grown full))
]

stuck_by : (stuck own : Bool) → own ≡ false → cond stuck own false ≡ false
stuck_by true own e = e
stuck_by false own e = refl

-- nothing is stuck where the clock made no entry
pub goes_still : (since opening : Past) → entries_of since 0 ≡ [] → ends_stuck opening ≡ false → ends_stuck (since ++ opening) ≡ false
goes_still [] opening none goes = goes
goes_still (e ∷ since) opening none goes = elim (eqb_tells e.who.0 0) [
  | inl z ↦ absurd (absent [] e since 0 z.1 none)
  | inr p ↦ stuck_by (is_stuck e.answer) (eqb e.who.0 0) p.0
]

-- ---- the seats of all groups

module _ {S T : Type 0} (f : T → List (Sitting S (Thread × Call) Answer)) where
  pub all_in : (P : Sitting S (Thread × Call) Answer → Type 0) (groups : List T) → All P (seats_of groups f) → (g : ℕ) (d : T) (i : ℕ) (seat : Sitting S (Thread × Call) Answer) → g < length groups → i < length (f (get_or groups g d)) → P (get_or (f (get_or groups g d)) i seat)
  all_in P [] all g d i seat lt place = absurd (omega (arith, lt))
  all_in P (x ∷ groups) all zero d i seat lt place = subst P (get_or_append_left (f x) (seats_of groups f) seat i place) (all i seat (omega (arith, place, length-append (f x) (seats_of groups f))))
  all_in P (x ∷ groups) all (suc g) d i seat lt place =
      all_in P groups (λ k y lt'. subst P (get_or-append-add (f x) (seats_of groups f) k y) (all (length (f x) + k) y (omega (arith, lt', length-append (f x) (seats_of groups f))))) g d i seat (omega (arith, lt)) place

  pub all_of : (P : Sitting S (Thread × Call) Answer → Type 0) (groups : List T) → ((g : ℕ) (d : T) → g < length groups → All P (f (get_or groups g d))) → All P (seats_of groups f)
  all_of P [] each = λ k d lt. absurd (omega (arith, lt))
  all_of P (x ∷ groups) each = All-append P (f x) (seats_of groups f) (each 0 x (omega arith)) (all_of P groups (λ g d lt. each (suc g) d (omega (arith, lt))))

  pub number_in : (groups : List T) (g : ℕ) (d : T) (k : ℕ) → g < length groups → Contains (map seat_number (f (get_or groups g d))) k → Contains (map seat_number (seats_of groups f)) k
  number_in [] g d k lt has = absurd (omega (arith, lt))
  number_in (x ∷ groups) zero d k lt has = subst (λ (l : List ℕ). Contains l k) (sym (map-append seat_number (f x) (seats_of groups f))) (Contains-append_left (map seat_number (f x)) (map seat_number (seats_of groups f)) k has)
  number_in (x ∷ groups) (suc g) d k lt has =
      subst (λ (l : List ℕ). Contains l k) (sym (map-append seat_number (f x) (seats_of groups f))) (Contains-append_right (map seat_number (f x)) (map seat_number (seats_of groups f)) k (number_in groups g d k (omega (arith, lt)) has))

  -- ---- where a thread is

  module _ (desk : Lock S) (groups : List T) (ws : T → List Worker) (n : ℕ) (some : 0 < length groups) (threads : HaveThreads n groups ws) (seated : AllSeated desk groups ws f) where
    abbrev d : T
    d = some_of groups 0 some

    abbrev there : (k : ℕ) → k < n → IsThere groups ws some k
    there k lt = is_there groups ws some n threads k lt

    number_there : (k : ℕ) → k < n → Contains (map seat_number (seats_of groups f)) (suc k)
    number_there k lt =
        let at = there k lt in
        let list : List Worker = ws (get_or groups at.group d) in
        let seats : List (Sitting S (Thread × Call) Answer) = f (get_or groups at.group d) in
        let are = seated at.group d at.in_groups in
        let w : Worker = some_of list at.place at.in_group in
        let inside : at.place < length seats = omega (arith, at.in_group, are.count) in
        let seat : Sitting S (Thread × Call) Answer = some_of seats at.place inside in
        let number : get_or (map seat_number seats) at.place (suc k) ≡ suc k = get_map seat_number seats at.place seat (suc k) inside ∙ sym (are.at at.place w seat at.in_group).1 ∙ at.is w in
        number_in groups at.group d (suc k) at.in_groups (at.place, omega (arith, inside, length-map seats seat_number), number)

    -- with the clock's seat there is one for each number
    pub all_seats : (clock : Sitting S (Thread × Call) Answer) → clock.number ≡ 0 → desk.seats ≡ n + 1 → HasAllSeats desk (clock ∷ seats_of groups f)
    all_seats clock zeroth count zero lt = (0, omega arith, zeroth)
    all_seats clock zeroth count (suc k) lt = Contains-append_right (clock.number ∷ []) (map seat_number (seats_of groups f)) (suc k) (number_there k (omega (arith, lt, count)))

    pub desk_seats : (clock : Sitting S (Thread × Call) Answer) → IsDeskSeat desk clock → All (IsDeskSeat desk) (clock ∷ seats_of groups f)
    desk_seats clock here = All-append (IsDeskSeat desk) (clock ∷ []) (seats_of groups f) (one clock here) (all_of (IsDeskSeat desk) groups (λ g x lt. seats_in g x lt))
      where
        one : (c : Sitting S (Thread × Call) Answer) → IsDeskSeat desk c → All (IsDeskSeat desk) (c ∷ [])
        one c is zero x lt = is
        one c is (suc k) x lt = absurd (omega (arith, lt))

        seats_in : (g : ℕ) (x : T) → g < length groups → All (IsDeskSeat desk) (f (get_or groups g x))
        seats_in g x lt = λ i seat inside.
            let are = seated g x lt in
            let place : i < length (ws (get_or groups g x)) = omega (arith, inside, are.count) in
            (are.at i (some_of (ws (get_or groups g x)) i place) seat place).0

    -- ---- the phase

    module _ (s : Tree) (p : Program) (opening since : Past) (clock : Sitting S (Thread × Call) Answer) (works : AllAtWork s p opening groups ws f) (same : n ≡ length s.threads)
        (seen : All (λ (seat : Sitting S (Thread × Call) Answer). HasGrown (seen_by seat) since) (clock ∷ seats_of groups f)) (own : All (λ (seat : Sitting S (Thread × Call) Answer). entries_of since seat.number ≡ made_by seat) (clock ∷ seats_of groups f)) where
      tail_of : (P : Sitting S (Thread × Call) Answer → Type 0) → All P (clock ∷ seats_of groups f) → All P (seats_of groups f)
      tail_of P all = λ k x lt. all (suc k) x (omega (arith, lt))

      -- what is known of the thread at a place
      pub record Knows (g i : ℕ) (w : Worker) (seat : Sitting S (Thread × Call) Answer) : Type 0 where
        pub worked : HasWorked s p opening seat.number (seen_by seat) (made_by seat) w
        pub grown : HasGrown (seen_by seat) since
        pub entries : entries_of since seat.number ≡ made_by seat
        pub thread : thread_of w ≡ seat.number

      pub knows : (g : ℕ) (x : T) (i : ℕ) (w : Worker) (seat : Sitting S (Thread × Call) Answer) → g < length groups → i < length (ws (get_or groups g x)) → Knows g i (get_or (ws (get_or groups g x)) i w) (get_or (f (get_or groups g x)) i seat)
      knows g x i w seat lt inside =
          let are = seated g x lt in
          let place : i < length (f (get_or groups g x)) = omega (arith, inside, are.count) in
          record {
            worked = works g x lt i w seat inside;
            grown = all_in (λ y. HasGrown (seen_by y) since) groups (tail_of (λ y. HasGrown (seen_by y) since) seen) g x i seat lt place;
            entries = all_in (λ y. entries_of since y.number ≡ made_by y) groups (tail_of (λ y. entries_of since y.number ≡ made_by y) own) g x i seat lt place;
            thread = (are.at i w seat inside).1;
          }

      part_by_seat : (t : ℕ) (w : Worker) (seat : Sitting S (Thread × Call) Answer) → seat.number ≡ t → HasWorked s p opening seat.number (seen_by seat) (made_by seat) w → HasGrown (seen_by seat) since → entries_of since seat.number ≡ made_by seat → HasPartIn s opening since t
      part_by_seat t w seat number worked grown own' = record {
        seen = seen_by seat;
        made = made_by seat;
        part = subst (λ k. IsOwnPart s opening k (seen_by seat) (made_by seat)) number worked.part;
        grown = grown;
        own = subst (λ k. entries_of since k ≡ made_by seat) number own';
      }

      pub has_part : (t : ℕ) → 0 < t → t ≤ length s.threads → HasPartIn s opening since t
      has_part zero positive within = absurd (omega (arith, positive))
      has_part (suc k) positive within =
          let at = there k (omega (arith, within, same)) in
          let list : List Worker = ws (get_or groups at.group d) in
          let seats : List (Sitting S (Thread × Call) Answer) = f (get_or groups at.group d) in
          let w : Worker = some_of list at.place at.in_group in
          let are = seated at.group d at.in_groups in
          let seat : Sitting S (Thread × Call) Answer = some_of seats at.place (omega (arith, at.in_group, are.count)) in
          let has = knows at.group d at.place w seat at.in_groups at.in_group in
          part_by_seat (suc k) (get_or list at.place w) (get_or seats at.place seat) (sym has.thread ∙ at.is w) has.worked has.grown has.entries

      pub workers_after : length s.threads ≤ 15 → s.budget ≤ 65536 → IsRun s (since ++ opening) → (g : ℕ) (x : T) → g < length groups → AreWorkers s p (since ++ opening) (ws (get_or groups g x))
      workers_after few small run g x lt = record {
        at = λ i w inside.
            let are = seated g x lt in
            let seat : Sitting S (Thread × Call) Answer = some_of (f (get_or groups g x)) i (omega (arith, inside, are.count)) in
            let has = knows g x i w seat lt inside in
            let y : Sitting S (Thread × Call) Answer = get_or (f (get_or groups g x)) i seat in
            let v : Worker = get_or (ws (get_or groups g x)) i w in
            subst (λ k. IsWorkerOf s p k (trace_of (since ++ opening) k) v) (sym has.thread) (phase_worker s p opening since y.number (seen_by y) (made_by y) v few small run has.worked has.grown has.entries);
      }

-- ---- what a closed desk leaves

-- the run goes on, isn't stuck where it wasn't, and each worker stands for all that its thread has made
pub record IsPhaseDone {T : Type 0} (s : Tree) (p : Program) (opening now : Past) (groups : List T) (ws : T → List Worker) : Type 0 where
  pub run : IsRun s now
  pub goes : ends_stuck opening ≡ false → ends_stuck now ≡ false
  pub workers : (g : ℕ) (x : T) → g < length groups → AreWorkers s p now (ws (get_or groups g x))

module _ {S T : Type 0} (f : T → List (Sitting S (Thread × Call) Answer)) (desk : Lock S) (groups : List T) (ws : T → List Worker) (s : Tree) (p : Program) (opening : Past) (clock : Sitting S (Thread × Call) Answer) (some : 0 < length groups) (threads : HaveThreads (length s.threads) groups ws) (seated : AllSeated desk groups ws f) (works : AllAtWork s p opening groups ws f)
    (few : length s.threads ≤ 15) (small : s.budget ≤ 65536) (run : IsRun s opening) where
  pub phase_done : (setup setup_now : Setup) (now : Past) → setup ≡ setup_of s → desk.seats ≡ length s.threads + 1 → clock.number ≡ 0 → made_by clock ≡ [] → HasClosed setup opening desk.seats (clock ∷ seats_of groups f) setup_now now → IsPhaseDone s p opening now groups ws
  phase_done setup setup_now now same count zeroth idle closed =
      let since : Past = closed.since in
      let none : entries_of since 0 ≡ [] = ap (λ k. entries_of since k) (sym zeroth) ∙ closed.own 0 clock (omega arith) ∙ idle in
      let known : All (λ (e : Entry). e.who.0 < length s.threads + 1) since = subst (λ k. All (λ (e : Entry). e.who.0 < k) since) count closed.known in
      let lawful : IsLawful (setup_of s) (since ++ opening) = subst (λ x. IsLawful x (since ++ opening)) (closed.setup_stays ∙ same) (subst (IsLawful setup_now) closed.whole closed.lawful) in
      let short : length (since ++ opening) ≤ 2097152 = subst (λ (l : Past). length l ≤ 2097152) closed.whole closed.short in
      let parts : (t : ℕ) → 0 < t → t ≤ length s.threads → HasPartIn s opening since t = has_part f desk groups ws (length s.threads) some threads seated s p opening since clock works refl closed.seen closed.own in
      let goes_on : IsRun s (since ++ opening) = phase_run s opening since run parts none known lawful short in
      record {
        run = subst (IsRun s) (sym closed.whole) goes_on;
        goes = λ goes. subst (λ (l : Past). ends_stuck l ≡ false) (sym closed.whole) (goes_still since opening none goes);
        workers = λ g x lt. subst (λ (l : Past). AreWorkers s p l (ws (get_or groups g x))) (sym closed.whole) (workers_after f desk groups ws (length s.threads) some threads seated s p opening since clock works refl closed.seen closed.own few small goes_on g x lt);
      }

  -- the same, where the clock's seat is as it was handed out, and the seats are all of them
  pub phase_ends : (setup setup_now : Setup) (now : Past) (seats : List (Sitting S (Thread × Call) Answer)) (n : ℕ) → seats ≡ clock ∷ seats_of groups f → setup ≡ setup_of s → n ≡ length s.threads → desk.seats ≡ n + 1 → clock ≡ new_seat desk 0
      → HasClosed setup opening desk.seats seats setup_now now → IsPhaseDone s p opening now groups ws
  phase_ends setup setup_now now seats n are same length_is count new closed =
      phase_done setup setup_now now same (count ∙ ap (λ k. k + 1) length_is) (ap (λ (x : Sitting S (Thread × Call) Answer). x.number) new) (ap (λ (x : Sitting S (Thread × Call) Answer). made_by x) new)
      (subst (λ (l : List (Sitting S (Thread × Call) Answer)). HasClosed setup opening desk.seats l setup_now now) are closed)
