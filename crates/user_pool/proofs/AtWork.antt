-- A turn at a desk keeps a thread at work.
use Rattle.std.proofs.Common.{◌≡◌, ◌⊎◌, ℕ, ◌<◌, true, false, cond, eqb, List, [], ◌∷◌, ◌++◌, length, length-append, refl, ap, ◌∙◌, sym, subst, inl, inr, arith, eq-eqb}
use Rattle.std.specs.Prelude.{map, reverse, Result, Ok, Err, IfOk, OnOk}
use Rattle.std.specs.declared.alloc.AllocError.{AllocError}
use Rattle.std.proofs.lemmas.Bool.{false≢true}
use Rattle.std.proofs.lemmas.Bool.Decides.{nat_tests}
use Rattle.std.proofs.lemmas.List.{append_assoc}
use Rattle.std.proofs.lemmas.List.Elements.{filter-append}
use Rattle.win_num.specs.declared.message.Thread.{Thread}
use Rattle.user_model.specs.declared.call.Call.{Call}
use Rattle.user_model.specs.declared.entry.Answer.{Answer}
use Rattle.user_model.specs.declared.entry.Entry.{Entry}
use Rattle.user_model.specs.declared.entry.Setup.{Setup}
use Rattle.user_model.specs.Past.{Past, is_full}
use Rattle.user_model.specs.Places.{mine as entries_of}
use Rattle.user_model.specs.Idle.{is_barred}
use Rattle.user_model.specs.Machines.{entry_of}
use Rattle.user_model.specs.Tellers.{HasGrown, HasMade}
use Rattle.script_tree.specs.Tree.{Tree}
use Rattle.script_tree.specs.Pieces.{Cut}
use Rattle.script_tree.specs.Traces.{IsTrace, trace_of, told}
use Rattle.script_tree.proofs.TraceLaws.{goes_on}
use Rattle.script_tree.proofs.PastLaws.{trace_of-own}
use Rattle.script_proc.specs.declared.program.Program.{Program}
use Rattle.script_proc.specs.declared.worker.Worker.{Worker}
use Rattle.script_proc.specs.declared.turn.Turn.{Turn}
use Rattle.script_proc.specs.declared.turn.Turn.TheVariants.{Went, Idle, Ended, Spent}
use Rattle.script_proc.specs.Programs.{IsProgramOf}
use Rattle.script_proc.specs.Workers.{IsWorkerOf, thread_of, uses}
use Rattle.script_proc.specs.Turns.{caller, Stays, CanCall, HasGone, HasIdled, Did, AsksNobody}
use Rattle.log_text.specs.Ends.{setup_of, used}
use Rattle.turn_lock.specs.Seats.{Sitting}
use Rattle.user_desk.specs.Desks.{seen_by, made_by}
use Rattle.user_desk.specs.Tellers.{desk_view}
use Rattle.user_pool.specs.Interleavings.{IsPart}
use Rattle.user_pool.specs.Teams.{IsOwnPart, Follows, HasWorked, KeepsWorking}
use Rattle.user_pool.proofs.Choices.{used_is}
use Rattle.user_pool.proofs.Turns.{used_own}

-- ---- entries of an actor

pub entries-append : (newer past : Past) (t : ℕ) → entries_of (newer ++ past) t ≡ entries_of newer t ++ entries_of past t
entries-append newer past t = filter-append (λ e. eqb e.who.0 t) newer past

pub entries-own : (e : Entry) (past : Past) (t : ℕ) → e.who.0 ≡ t → entries_of (e ∷ past) t ≡ e ∷ entries_of past t
entries-own e past t is = ap (λ b. cond b (e ∷ entries_of past t) (entries_of past t)) (eq-eqb e.who.0 t is)

nothing_added : {X : Type 0} (xs ys : List X) → xs ++ ys ≡ ys → xs ≡ []
nothing_added [] ys e = refl
nothing_added (x ∷ xs) ys e = absurd (omega (arith, ap length e, length-append xs ys))

-- where an actor has no entry more, the newer ones are others'
pub none_newer : (newer past : Past) (t : ℕ) → entries_of (newer ++ past) t ≡ entries_of past t → entries_of newer t ≡ []
none_newer newer past t same = nothing_added (entries_of newer t) (entries_of past t) (sym (entries-append newer past t) ∙ same)

not_nothing : {X : Type 0} (xs ys : List X) (x : X) → xs ++ x ∷ ys ≡ [] → ⊥
not_nothing [] ys x e = absurd cc
not_nothing (y ∷ xs) ys x e = absurd cc

pub absent : (newer : Past) (e : Entry) (rest : Past) (t : ℕ) → e.who.0 ≡ t → entries_of (newer ++ e ∷ rest) t ≡ [] → ⊥
absent newer e rest t is none =
    not_nothing (entries_of newer t) (entries_of rest t) e (sym (entries-append newer (e ∷ rest) t ∙ ap (λ (l : Past). entries_of newer t ++ l) (entries-own e rest t is)) ∙ none)

-- the same entries behind an opening
pub same_behind : (a b opening : Past) (t : ℕ) → entries_of a t ≡ entries_of b t → entries_of (a ++ opening) t ≡ entries_of (b ++ opening) t
same_behind a b opening t same = entries-append a opening t ∙ ap (λ (l : Past). l ++ entries_of opening t) same ∙ sym (entries-append b opening t)

pub trace_same : (a b : Past) (t : ℕ) → entries_of a t ≡ entries_of b t → trace_of a t ≡ trace_of b t
trace_same a b t same = ap (λ (l : Past). reverse (map told l)) same

pub part_same : (s : Tree) (a b : Past) (t : ℕ) → entries_of a t ≡ entries_of b t → IsPart s a t → IsPart s b t
part_same s a b t same part = record {
  ends = part.ends;
  trace = subst (λ tr. IsTrace s t tr part.ends) (trace_same a b t same) part.trace;
  within = omega (arith, part.within, ap (λ (l : Past). length l) same);
}

-- ---- places in lists

first_of : {X : Type 0} {x y : X} {xs ys : List X} → x ∷ xs ≡ y ∷ ys → x ≡ y
first_of e = cc

rest_of : {X : Type 0} {x y : X} {xs ys : List X} → x ∷ xs ≡ y ∷ ys → xs ≡ ys
rest_of e = cc

joined : {X : Type 0} {x y : X} {xs ys : List X} → x ≡ y → xs ≡ ys → x ∷ xs ≡ y ∷ ys
joined a b = cc

-- a place in two lists, one behind the other, is in the first or in the second
pub place_in : {X : Type 0} (xs ys newer : List X) (e : X) (before : List X) → xs ++ ys ≡ newer ++ e ∷ before
    → ((rest : List X) × (before ≡ rest ++ ys) × (xs ≡ newer ++ e ∷ rest)) ⊎ ((front : List X) × (ys ≡ front ++ e ∷ before))
place_in [] ys newer e before is = inr (newer, is)
place_in (x ∷ xs) ys [] e before is = inl (xs, sym (rest_of is), joined (first_of is) refl)
place_in (x ∷ xs) ys (y ∷ newer) e before is = elim (place_in xs ys newer e before (rest_of is)) [
  | inl r ↦ inl (r.0, r.1, joined (first_of is) r.2)
  | inr f ↦ inr f
]

-- ---- the thread has made nothing more

module _ (s : Tree) (p : Program) (opening : Past) (t : ℕ) where
  own_stays : (seen seen_now made made_now : Past) → HasGrown seen seen_now → entries_of seen_now t ≡ made_now → made_now ≡ made → IsOwnPart s opening t seen made → IsOwnPart s opening t seen_now made_now
  own_stays seen seen_now made made_now grown own none part =
      let same : entries_of seen_now t ≡ entries_of seen t = own ∙ none ∙ sym part.own in
      let others : entries_of grown.0 t ≡ [] = none_newer grown.0 seen t (ap (λ (l : Past). entries_of l t) (sym grown.1) ∙ same) in
      record {
        own = own;
        part = part_same s (seen ++ opening) (seen_now ++ opening) t (sym (same_behind seen_now seen opening t same)) part.part;
        free = λ newer e before is who. elim (place_in grown.0 seen newer e before (sym grown.1 ∙ is)) [
          | inl r ↦ absurd (absent newer e r.0 t who (subst (λ (l : Past). entries_of l t ≡ []) r.2 others))
          | inr f ↦ part.free f.0 e before f.1 who
        ];
      }

  full_longer : (newer past : Past) → is_full past ≡ true → is_full (newer ++ past) ≡ true
  full_longer newer past full = grind (arith, nat_tests, full, length-append newer past)

  pub full_stays : (seen seen_now : Past) → HasGrown seen seen_now → is_full (seen ++ opening) ≡ true → is_full (seen_now ++ opening) ≡ true
  full_stays seen seen_now grown full =
      let longer : grown.0 ++ (seen ++ opening) ≡ seen_now ++ opening = sym (append_assoc grown.0 seen opening) ∙ ap (λ (l : Past). l ++ opening) (sym grown.1) in
      subst (λ (l : Past). is_full l ≡ true) longer (full_longer grown.0 (seen ++ opening) full)

  -- the worker, too, stands for what it stood for
  pub work_stays : (seen seen_now made made_now : Past) (w now : Worker) → HasGrown seen seen_now → entries_of seen_now t ≡ made_now → made_now ≡ made → (IsWorkerOf s p t (trace_of (seen ++ opening) t) w → IsWorkerOf s p t (trace_of (seen ++ opening) t) now)
      → HasWorked s p opening t seen made w → HasWorked s p opening t seen_now made_now now
  work_stays seen seen_now made made_now w now grown own none worker has = record {
    part = own_stays seen seen_now made made_now grown own none has.part;
    worker = elim has.worker [
      | inl stands ↦
          let same : entries_of seen_now t ≡ entries_of seen t = own ∙ none ∙ sym has.part.own in
          inl (subst (λ tr. IsWorkerOf s p t tr now) (sym (trace_same (seen_now ++ opening) (seen ++ opening) t (same_behind seen_now seen opening t same))) (worker stands))
      | inr full ↦ inr (full_stays seen seen_now grown full)
    ];
  }

  -- the thread has found the history full
  pub work_full : (seen seen_now made made_now : Past) (w now : Worker) → HasGrown seen seen_now → entries_of seen_now t ≡ made_now → made_now ≡ made → is_full (seen_now ++ opening) ≡ true → HasWorked s p opening t seen made w → HasWorked s p opening t seen_now made_now now
  work_full seen seen_now made made_now w now grown own none full has = record { part = own_stays seen seen_now made made_now grown own none has.part; worker = inr full }

  -- ---- the thread has made an entry

  module _ (seen since made : Past) (e : Entry) (grown : HasGrown seen since) (who : e.who.0 ≡ t) (own : entries_of (e ∷ since) t ≡ e ∷ made) (part : IsOwnPart s opening t seen made) where
    same_since : entries_of since t ≡ entries_of seen t
    same_since = rest_of (sym (entries-own e since t who) ∙ own) ∙ sym part.own

    trace_before : trace_of (since ++ opening) t ≡ trace_of (seen ++ opening) t
    trace_before = trace_same (since ++ opening) (seen ++ opening) t (same_behind since seen opening t same_since)

    trace_now : trace_of (e ∷ since ++ opening) t ≡ trace_of (seen ++ opening) t ++ (e.call, e.answer) ∷ []
    trace_now = trace_of-own (since ++ opening) e t who ∙ ap (λ tr. tr ++ (e.call, e.answer) ∷ []) trace_before

    free_now : is_barred (setup_of s) (since ++ opening) t ≡ false → (newer : List Entry) (f : Entry) (before : Past) → e ∷ since ≡ newer ++ f ∷ before → f.who.0 ≡ t → is_barred (setup_of s) (before ++ opening) t ≡ false
    free_now free [] f before is by = subst (λ (l : Past). is_barred (setup_of s) (l ++ opening) t ≡ false) (rest_of is) free
    free_now free (y ∷ newer) f before is by = elim (place_in grown.0 seen newer f before (sym grown.1 ∙ rest_of is)) [
      | inl r ↦ absurd (absent newer f r.0 t by (subst (λ (l : Past). entries_of l t ≡ []) r.2 (none_newer grown.0 seen t (ap (λ (l : Past). entries_of l t) (sym grown.1) ∙ same_since))))
      | inr k ↦ part.free k.0 f before k.1 by
    ]

    pub own_moved : is_barred (setup_of s) (since ++ opening) t ≡ false → IsTrace s t (trace_of (seen ++ opening) t) (Cut e.call) → used (seen ++ opening) t < s.budget → IsOwnPart s opening t (e ∷ since) (e ∷ made)
    own_moved free next left =
        let on = goes_on s e.call e.answer next refl in
        record {
          own = own;
          part = record {
            ends = on.0;
            trace = subst (λ tr. IsTrace s t tr on.0) (sym trace_now) on.1;
            within = omega (arith, left, used_own e (since ++ opening) t (eq-eqb e.who.0 t who), ap (λ (l : Past). length l) (same_behind since seen opening t same_since));
          };
          free = free_now free;
        }

    pub worker_moved : (w : Worker) → IsWorkerOf s p t (trace_of (seen ++ opening) t ++ (e.call, e.answer) ∷ []) w → Follows s p opening t (e ∷ since) w
    worker_moved w stands = inl (subst (λ tr. IsWorkerOf s p t tr w) (sym trace_now) stands)

-- ---- a turn

left_of : (s : Tree) (p : Program) (past : Past) (t : ℕ) (w : Worker) → IsWorkerOf s p t (trace_of past t) w → uses w < s.budget → used past t < s.budget
left_of s p past t w stands left = omega (arith, left, stands.counts, used_is past t)

module _ {S : Type 0} (p : Program) (setup : Setup) (opening : Past) (old new : Sitting S (Thread × Call) Answer) (w now : Worker) (n : ℕ) (is : thread_of w ≡ n) (s : Tree) (same : setup ≡ setup_of s) where
  abbrev Before : Type 0
  Before = HasWorked s p opening n (seen_by old) (made_by old) w

  abbrev After : Type 0
  After = HasWorked s p opening n (seen_by new) (made_by new) now

  made_one : (call : Call) (answer : Answer) → CanCall s p w call → HasMade (desk_view setup opening old) (desk_view setup opening new) (caller w) call answer → entries_of (seen_by new) n ≡ made_by new
      → IsWorkerOf s p n (trace_of (seen_by old ++ opening) n) w → IsWorkerOf s p n (trace_of (seen_by old ++ opening) n ++ (call, answer) ∷ []) now → IsOwnPart s opening n (seen_by old) (made_by old) → After
  made_one call answer can made own stands stands_now part =
      let e : Entry = entry_of (caller w) call answer in
      let past : Past = seen_by old ++ opening in
      let entries : entries_of (e ∷ made.since) n ≡ e ∷ made_by old = ap (λ (l : Past). entries_of l n) (sym made.seen) ∙ own ∙ made.mine in
      let free : is_barred (setup_of s) (made.since ++ opening) n ≡ false = subst (λ (x : Setup). is_barred x (made.since ++ opening) n ≡ false) same (subst (λ k. is_barred setup (made.since ++ opening) k ≡ false) is made.free) in
      let moved : IsOwnPart s opening n (e ∷ made.since) (e ∷ made_by old) = own_moved s p opening n (seen_by old) made.since (made_by old) e made.before is entries part free (can.next n (trace_of past n) stands) (left_of s p past n w stands can.left) in
      let follows : Follows s p opening n (e ∷ made.since) now = worker_moved s p opening n (seen_by old) made.since (made_by old) e made.before is entries part now stands_now in
      record {
        part = subst (λ (l : Past). IsOwnPart s opening n l (made_by new)) (sym made.seen) (subst (λ (l : Past). IsOwnPart s opening n (e ∷ made.since) l) (sym made.mine) moved);
        worker = subst (λ (l : Past). Follows s p opening n l now) (sym made.seen) follows;
      }

  went : HasGone s p w now (desk_view setup opening old) (desk_view setup opening new) → HasGrown (seen_by old) (seen_by new) → Before → After
  went gone grown has =
      let own : entries_of (seen_by new) n ≡ made_by new = subst (λ k. entries_of (seen_by new) k ≡ made_by new) is gone.looked.faithful in
      elim gone.told [
        | inl made ↦ elim has.worker [
          | inl stands ↦ made_one gone.call gone.answer gone.can made own stands (gone.worker n (trace_of (seen_by old ++ opening) n) stands) has.part
          | inr full ↦ absurd (false≢true (sym made.room ∙ full_stays s p opening n (seen_by old) made.since made.before full))
        ]
        | inr found ↦ work_full s p opening n (seen_by old) (seen_by new) (made_by old) (made_by new) w now grown own found.mine found.full has
      ]

  idled : HasIdled s p w now (desk_view setup opening old) (desk_view setup opening new) → HasGrown (seen_by old) (seen_by new) → Before → After
  idled none grown has =
      let own : entries_of (seen_by new) n ≡ made_by new = subst (λ k. entries_of (seen_by new) k ≡ made_by new) is none.idle.looked.faithful in
      work_stays s p opening n (seen_by old) (seen_by new) (made_by old) (made_by new) w now grown own none.idle.told.mine (λ stands. none.stays.worker n (trace_of (seen_by old ++ opening) n) stands) has

  asked_nobody : Stays s p w now → new ≡ old → Before → After
  asked_nobody stays none has =
      subst (λ (x : Sitting S (Thread × Call) Answer). HasWorked s p opening n (seen_by x) (made_by x) now) (sym none) (record {
        part = has.part;
        worker = elim has.worker [
          | inl stands ↦ inl (stays.worker n (trace_of (seen_by old ++ opening) n) stands)
          | inr full ↦ inr full
        ];
      })

  turned : (turn : Turn) → Did s p w now (desk_view setup opening old) (desk_view setup opening new) turn → HasGrown (seen_by old) (seen_by new) → (AsksNobody turn → new ≡ old) → Before → After
  turned Went did grown none has = went did grown has
  turned Idle did grown none has = idled did grown has
  turned Ended did grown none has = asked_nobody did.stays (none tt) has
  turned Spent did grown none has = asked_nobody did.stays (none tt) has

module _ {S : Type 0} (p : Program) (setup : Setup) (opening : Past) (old new : Sitting S (Thread × Call) Answer) (w now : Worker) where
  pub turn_works : (turn : Turn) → thread_of w ≡ old.number → new.number ≡ old.number → HasGrown (seen_by old) (seen_by new) → (AsksNobody turn → new ≡ old)
      → ((s : Tree) → IsProgramOf s p → Did s p w now (desk_view setup opening old) (desk_view setup opening new) turn) → KeepsWorking p setup opening w now old new
  turn_works turn is number grown none did = λ s program same has.
      subst (λ k. HasWorked s p opening k (seen_by new) (made_by new) now) (sym number)
      (turned p setup opening old new w now old.number is s same turn (did s program) grown none has)

  -- where the turn was told; `Same` is what is known where nobody was asked
  pub turn_works_if : (r : Result Turn AllocError) (Same : Type 0) → IfOk r (λ turn. AsksNobody turn → Same) → (Same → new ≡ old) → thread_of w ≡ old.number → new.number ≡ old.number → HasGrown (seen_by old) (seen_by new)
      → IfOk r (λ turn. (s : Tree) → IsProgramOf s p → Did s p w now (desk_view setup opening old) (desk_view setup opening new) turn) → OnOk r (KeepsWorking p setup opening w now old new)
  turn_works_if (Ok turn) Same none same is number grown did = turn_works turn is number grown (λ nobody. same (none nobody)) did
  turn_works_if (Err e) Same none same is number grown did = tt
