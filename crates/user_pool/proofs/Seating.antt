-- Seats at a past with one entry more.
use Rattle.std.proofs.Common.{◌≡◌, ◌≢◌, ℕ, zero, suc, ◌+◌, ◌-◌, ◌<◌, ◌≤◌, Bool, true, false, not, cond, eqb, List, [], ◌∷◌, ◌++◌, length, get_or, set, Option, Some, None, Result, Ok, OnOk, refl, ap, ◌∙◌, sym, subst, inl, inr, arith, length-set}
use Rattle.std.specs.Prelude.{◌&&◌, is_none}
use Rattle.std.proofs.lemmas.Bool.Decides.{nat_tests, eqb_tells}
use Rattle.std.proofs.lemmas.List.{get_or-set_same, get_or-set_other}
use Rattle.win_num.specs.declared.message.Thread.{Thread}
use Rattle.user_model.specs.declared.call.Call.{Call}
use Rattle.user_model.specs.declared.entry.Answer.{Answer}
use Rattle.user_model.specs.declared.entry.Entry.{Entry}
use Rattle.user_model.specs.declared.entry.Setup.{Setup}
use Rattle.user_model.specs.Past.{Past, is_full}
use Rattle.user_model.specs.Places.{has_ended, is_end}
use Rattle.user_model.specs.Threads.{lowest}
use Rattle.user_model.specs.Idle.{reply, have_all_ended, is_barred}
use Rattle.user_model.specs.Machines.{after, entry_by}
use Rattle.user_model.proofs.Lowest.{lowest_found, lowest_here}
use Rattle.script_tree.specs.Tree.{Tree}
use Rattle.script_tree.specs.Traces.{trace_of}
use Rattle.script_tree.proofs.PastLaws.{trace_of-own, trace_of-other}
use Rattle.script_proc.specs.declared.program.Program.{Program}
use Rattle.script_proc.specs.Workers.{IsWorkerOf}
use Rattle.log_text.specs.Ends.{setup_of}
use Rattle.user_pool.specs.declared.seat.Seat.{Seat}
use Rattle.user_pool.specs.Runs.{ComesNext, HasEntriesLeft, choice}
use Rattle.user_pool.specs.Moves.{HasGoneOn, HasMoved}
use Rattle.user_pool.specs.Seats.{IsSeatOf, SeatsStand, SeatsCount}
use Rattle.user_pool.proofs.Ended.{has_ended-next}

-- what is known where there is a value
pub on_ok : {X E : Type 0} (P : Type 0) (r : Result X E) (x : X) → r ≡ Ok x → OnOk r P → P
on_ok P r x e h = subst (λ o. OnOk o P) e h

-- what a call that came next does to the past
pub with_entry : (s : Tree) (past now : Past) (t : ℕ) (call : Call) (setup : Setup) → setup ≡ setup_of s → is_full past ≡ false
    → (let who : Thread = record { 0 = t } in now ≡ after setup past who call) → (let who : Thread = record { 0 = t } in now ≡ entry_by (setup_of s) past who call ∷ past)
with_entry s past now t call setup same room is =
    let who : Thread = record { 0 = t } in
    is ∙ ap (λ (x : Setup). after x past who call) same ∙ ap (λ b. cond b past (entry_by (setup_of s) past who call ∷ past)) room

pub has_gone_on : (s : Tree) (past now : Past) (t : ℕ) (call : Call) (setup : Setup) → setup ≡ setup_of s → is_barred (setup_of s) past t ≡ false → HasEntriesLeft s past t → ComesNext s past t call → is_full past ≡ false
    → (let who : Thread = record { 0 = t } in now ≡ after setup past who call) → HasGoneOn s past now t
has_gone_on s past now t call setup same free left next room is =
    let who : Thread = record { 0 = t } in
    record {
      entry = entry_by (setup_of s) past who call;
      move = record { free = free; remains = left; call = next; answer = refl; room = room };
      newest = with_entry s past now t call setup same room is;
      who = refl;
    }

-- one that was chosen
pub has_moved : (s : Tree) (past now : Past) (t : ℕ) → choice s past ≡ Some t → HasGoneOn s past now t → HasMoved s past now t
has_moved s past now t chosen went = record {
  entry = went.entry;
  move = went.move;
  chosen = chosen ∙ ap (λ (n : ℕ). let o : Option ℕ = Some n in o) (sym went.who);
  newest = went.newest;
  who = went.who;
}

end_own : (ends own ended : Bool) → own ≡ true → cond (ends && own) true ended ≡ cond ends true ended
end_own true own ended e = ap (λ b. cond b true ended) e
end_own false own ended e = refl

end_other : (ends own ended : Bool) → own ≡ false → cond (ends && own) true ended ≡ ended
end_other true own ended e = ap (λ b. cond b true ended) e
end_other false own ended e = refl

-- the seat of the thread that moved
pub seat_own : (s : Tree) (p : Program) (past now : Past) (t : ℕ) (call : Call) (setup : Setup) (answer : Answer) (seat : Seat) (ended : Bool) → setup ≡ setup_of s → is_full past ≡ false
    → (let who : Thread = record { 0 = t } in now ≡ after setup past who call) → answer ≡ reply setup past t call
    → IsWorkerOf s p t (trace_of past t ++ (call, answer) ∷ []) seat.worker → ended ≡ has_ended past t → seat.ended ≡ cond (is_end answer) true ended → IsSeatOf s p now t seat
seat_own s p past now t call setup answer seat ended same room is right worker before after =
    let who : Thread = record { 0 = t } in
    let e : Entry = entry_by (setup_of s) past who call in
    let told : answer ≡ e.answer = right ∙ ap (λ (x : Setup). reply x past t call) same in
    let hit : eqb t t ≡ true = grind (arith, nat_tests) in
    subst (λ h. IsSeatOf s p h t seat) (sym (with_entry s past now t call setup same room is)) (record {
      worker = subst (λ tr. IsWorkerOf s p t tr seat.worker) (ap (λ a. trace_of past t ++ (call, a) ∷ []) told ∙ sym (trace_of-own past e t refl)) worker;
      ended = after ∙ ap (λ a. cond (is_end a) true ended) told ∙ ap (λ b. cond (is_end e.answer) true b) before ∙ sym (has_ended-next e past t ∙ end_own (is_end e.answer) (eqb t t) (has_ended past t) hit);
    })

-- the seat of another thread
seat_other : (s : Tree) (p : Program) (past : Past) (e : Entry) (t : ℕ) (seat : Seat) → eqb e.who.0 t ≡ false → e.who.0 ≢ t → IsSeatOf s p past t seat → IsSeatOf s p (e ∷ past) t seat
seat_other s p past e t seat miss other stands = record {
  worker = subst (λ tr. IsWorkerOf s p t tr seat.worker) (sym (trace_of-other past e t other)) stands.worker;
  ended = stands.ended ∙ sym (has_ended-next e past t ∙ end_other (is_end e.answer) (eqb e.who.0 t) (has_ended past t) miss);
}

pub seat_stays : (s : Tree) (p : Program) (past now : Past) (actor t : ℕ) (seat : Seat) → HasGoneOn s past now actor → actor ≢ t → IsSeatOf s p past t seat → IsSeatOf s p now t seat
seat_stays s p past now actor t seat moved other stands =
    let differs : moved.entry.who.0 ≢ t = λ e. other (sym moved.who ∙ e) in
    let miss : eqb moved.entry.who.0 t ≡ false = grind (arith, nat_tests, differs) in
    subst (λ h. IsSeatOf s p h t seat) (sym moved.newest) (seat_other s p past moved.entry t seat miss differs stands)

-- all seats, after the clock's move
pub seats_clock : (s : Tree) (p : Program) (past now : Past) (seats : List Seat) → HasGoneOn s past now 0 → SeatsStand s p past seats → SeatsStand s p now seats
seats_clock s p past now seats moved stands = record {
  count = stands.count;
  at = λ i d lt. seat_stays s p past now 0 (i + 1) (get_or seats i d) moved (λ e. absurd (omega (arith, e))) (stands.at i d lt);
}

-- and after a thread's
pub seats_thread : (s : Tree) (p : Program) (past now : Past) (seats : List Seat) (actor : ℕ) (seat : Seat) → HasGoneOn s past now actor → 0 < actor → actor ≤ length s.threads → SeatsStand s p past seats → IsSeatOf s p now actor seat → SeatsStand s p now (set seats (actor - 1) seat)
seats_thread s p past now seats actor seat moved positive within stands here = record {
  count = length-set seats (actor - 1) seat ∙ stands.count;
  at = λ i d lt. elim (eqb_tells i (actor - 1)) [
    | inl x ↦
        let there : i + 1 ≡ actor = omega (arith, x.1) in
        let place : actor - 1 < length seats = omega (arith, stands.count) in
        let same : get_or (set seats (actor - 1) seat) i d ≡ seat = ap (λ k. get_or (set seats (actor - 1) seat) k d) x.1 ∙ get_or-set_same seats (actor - 1) seat d place in
        subst (λ z. IsSeatOf s p now (i + 1) z) (sym same) (subst (λ u. IsSeatOf s p now u seat) (sym there) here)
    | inr x ↦
        let other : actor ≢ i + 1 = λ e. x.1 (omega (arith, e)) in
        let in_place : i < length seats = omega (arith, lt, length-set seats (actor - 1) seat) in
        subst (λ z. IsSeatOf s p now (i + 1) z) (sym (get_or-set_other seats (actor - 1) i seat d x.1)) (seat_stays s p past now actor (i + 1) (get_or seats i d) moved other (stands.at i d in_place))
  ];
}

-- what they stand for counts them
pub seats_count : (s : Tree) (p : Program) (past : Past) (seats : List Seat) → SeatsStand s p past seats → SeatsCount s past seats
seats_count s p past seats stands = record {
  count = stands.count;
  at = λ i d lt. record { used = (stands.at i d lt).worker.counts; ended = (stands.at i d lt).ended };
}

-- one that hasn't ended is enough
pub someone_left : (s : Tree) (past : Past) (seats : List Seat) (i : ℕ) (d : Seat) → SeatsCount s past seats → lowest (λ t. not (has_ended past t)) i ≡ None → i < length seats → (get_or seats i d).ended ≡ false → have_all_ended (setup_of s) past ≡ false
someone_left s past seats i d stands before within goes =
    let here : has_ended past (i + 1) ≡ false = sym (stands.at i d within).ended ∙ goes in
    ap is_none (lowest_found (λ t. not (has_ended past t)) (length s.threads) (i + 1) (lowest_here (λ t. not (has_ended past t)) i before (ap not here)) (omega (arith, within, stands.count)))

-- one more at the end
pub each_pushed : (P : ℕ → Seat → Type 0) (seats : List Seat) (seat : Seat) → ((i : ℕ) (d : Seat) → i < length seats → P i (get_or seats i d)) → P (length seats) seat → (i : ℕ) (d : Seat) → i < length (seats ++ seat ∷ []) → P i (get_or (seats ++ seat ∷ []) i d)
each_pushed P [] seat h x zero d lt = x
each_pushed P [] seat h x (suc i) d lt = absurd (omega (arith, lt))
each_pushed P (y ∷ ys) seat h x zero d lt = h zero d (omega arith)
each_pushed P (y ∷ ys) seat h x (suc i) d lt = each_pushed (λ k. P (suc k)) ys seat (λ k e l. h (suc k) e (omega (arith, l))) x i d (omega (arith, lt))
