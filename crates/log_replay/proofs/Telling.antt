-- What is told of an entry that is made again.
use Rattle.std.proofs.Common.{◌≡◌, ◌≢◌, ℕ, zero, suc, ◌+◌, ◌-◌, ◌<◌, ◌≤◌, Bool, true, false, cond, eqb, List, [], ◌∷◌, ◌++◌, length, get_or, set, Option, Some, None, refl, ap, sym, ◌∙◌, subst, inl, inr, arith, length-set, map}
use Rattle.std.specs.Prelude.{is_some}
use Rattle.std.proofs.lemmas.Bool.{false≢true}
use Rattle.std.proofs.lemmas.Bool.Decides.{eqb_tells}
use Rattle.std.proofs.lemmas.List.{get_or-set_same, get_or-set_other, length-map, length-reverse}
use Rattle.win_num.specs.declared.message.Thread.{Thread}
use Rattle.user_model.specs.declared.call.Call.{Call}
use Rattle.user_model.specs.declared.call.Call.TheVariants.{Advance}
use Rattle.user_model.specs.declared.entry.Answer.{Answer}
use Rattle.user_model.specs.declared.entry.Entry.{Entry}
use Rattle.user_model.specs.declared.entry.Setup.{Setup}
use Rattle.user_model.specs.Past.{Past, is_full}
use Rattle.user_model.specs.Places.{mine}
use Rattle.user_model.specs.Idle.{reply, is_idle, is_barred, first_busy}
use Rattle.user_model.specs.Legal.{IsLawful}
use Rattle.user_model.specs.Machines.{after, entry_by}
use Rattle.script_tree.specs.Tree.{Tree}
use Rattle.script_tree.specs.Pieces.{Trace, Whole, Cut}
use Rattle.script_tree.specs.Traces.{IsTrace, trace_of, told}
use Rattle.script_tree.proofs.PastLaws.{trace_of-own, trace_of-other}
use Rattle.script_proc.specs.declared.program.Program.{Program}
use Rattle.script_proc.specs.declared.worker.Worker.{Worker}
use Rattle.script_proc.specs.Workers.{IsWorkerOf, uses}
use Rattle.log_text.specs.Ends.{setup_of, used}
use Rattle.illegal_text.specs.declared.illegal.Over.{Over}
use Rattle.illegal_text.specs.declared.illegal.Over.TheVariants as overs
use Rattle.illegal_text.specs.declared.illegal.Why.{Why}
use Rattle.illegal_text.specs.declared.illegal.Why.TheVariants as reasons
use Rattle.user_pool.specs.Runs.{ComesNext, HasEntriesLeft, IsMove, IsRun}
use Rattle.user_pool.proofs.Programs.{comes_next}
use Rattle.user_pool.proofs.Turns.{barred_is_idle}
use Rattle.log_replay.specs.Replays.{MayMake, GoesOn, HasSpent, HasStopped, IsThread, IsOver, IsHeldBy, IsWrongMove, AnswerTold, ClockHeld, WasWrong, WasRight, MoveTold}
use Rattle.log_replay.specs.Workers.{WorkersStand}

-- ---- a call that may be made

-- what it does to the past
made_now : (s : Tree) (past now : Past) (who : Thread) (call : Call) (setup : Setup) → setup ≡ setup_of s → is_full past ≡ false → now ≡ after setup past who call → now ≡ entry_by (setup_of s) past who call ∷ past
made_now s past now who call setup same room is =
    is ∙ ap (λ (x : Setup). after x past who call) same ∙ ap (λ b. cond b past (entry_by (setup_of s) past who call ∷ past)) room

entry_same : (e : Entry) (call : Call) (a : Answer) → e.call ≡ call → e.answer ≡ a → (let f : Entry = record { who = e.who; call = call; answer = a } in f ≡ e)
entry_same e call a f g =
    ap (λ (c : Call). let x : Entry = record { who = e.who; call = c; answer = a } in x) (sym f)
    ∙ ap (λ (b : Answer). let x : Entry = record { who = e.who; call = e.call; answer = b } in x) (sym g)

-- the entry has the answer that came
pub right_told : (s : Tree) (past now : Past) (e : Entry) (call : Call) (answer : Answer) (setup : Setup) → setup ≡ setup_of s → is_full past ≡ false → MayMake s past e.who.0 call → e.call ≡ call
    → now ≡ after setup past e.who call → answer ≡ reply setup past e.who.0 call → e.answer ≡ answer → WasRight s past now e
right_told s past now e call answer setup same room may is_call is came found =
    let told_so : e.answer ≡ reply (setup_of s) past e.who.0 call = found ∙ came ∙ ap (λ (x : Setup). reply x past e.who.0 call) same in
    record {
      move = record {
        free = may.free;
        remains = may.remains;
        call = subst (ComesNext s past e.who.0) (sym is_call) may.next;
        answer = told_so ∙ ap (reply (setup_of s) past e.who.0) (sym is_call);
        room = room;
      };
      made = made_now s past now e.who call setup same room is ∙ ap (λ (x : Entry). x ∷ past) (entry_same e call (reply (setup_of s) past e.who.0 call) is_call told_so);
    }

-- or another
pub wrong_told : (s : Tree) (past now : Past) (e : Entry) (call : Call) (answer a : Answer) (setup : Setup) → setup ≡ setup_of s → is_full past ≡ false → MayMake s past e.who.0 call → e.call ≡ call
    → now ≡ after setup past e.who call → answer ≡ reply setup past e.who.0 call → a ≡ answer → e.answer ≢ a → WasWrong s past now e (reasons.Answer a)
wrong_told s past now e call answer a setup same room may is_call is came right other =
    let made : now ≡ entry_by (setup_of s) past e.who call ∷ past = made_now s past now e.who call setup same room is in
    record {
      wrong = (subst (MayMake s past e.who.0) (sym is_call) may, (right ∙ came ∙ ap (λ (x : Setup). reply x past e.who.0 call) same ∙ ap (reply (setup_of s) past e.who.0) (sym is_call), other));
      newer = entry_by (setup_of s) past e.who call ∷ [];
      made = made;
      lawful = λ h. subst (IsLawful (setup_of s)) (sym made) (h, refl);
    }

pub step_told : (s : Tree) (past now : Past) (e : Entry) (call : Call) (answer : Answer) (setup : Setup) (fault : Option Why) → setup ≡ setup_of s → is_full past ≡ false → MayMake s past e.who.0 call → e.call ≡ call
    → now ≡ after setup past e.who call → answer ≡ reply setup past e.who.0 call → AnswerTold e.answer answer fault → MoveTold s past now e fault
step_told s past now e call answer setup None same room may is_call is came found = right_told s past now e call answer setup same room may is_call is came found
step_told s past now e call answer setup (Some (reasons.Answer a)) same room may is_call is came found = wrong_told s past now e call answer a setup same room may is_call is came found.0 found.1
step_told s past now e call answer setup (Some (reasons.Over over)) same room may is_call is came found = absurd found
step_told s past now e call answer setup (Some (reasons.Barred t)) same room may is_call is came found = absurd found
step_told s past now e call answer setup (Some (reasons.Call c)) same room may is_call is came found = absurd found
step_told s past now e call answer setup (Some (reasons.Frame row)) same room may is_call is came found = absurd found
step_told s past now e call answer setup (Some (reasons.EndLine k)) same room may is_call is came found = absurd found

-- ---- nothing was made

pub wrong_here : (s : Tree) (past now : Past) (e : Entry) (why : Why) → now ≡ past → IsWrongMove s past e why → WasWrong s past now e why
wrong_here s past now e why is wrong = record { wrong = wrong; newer = []; made = is; lawful = λ h. subst (IsLawful (setup_of s)) (sym is) h }

-- ---- the clock

held_is : (s : Tree) (past : Past) (who t : ℕ) → who ≡ 0 → first_busy (setup_of s) past ≡ Some t → IsHeldBy s past who t
held_is s past zero t clock busy = busy
held_is s past (suc n) t clock busy = absurd (omega (arith, clock))

pub clock_told : (s : Tree) (past : Past) (e : Entry) (why : Why) → e.who.0 ≡ 0 → ClockHeld s past (Some why) → IsWrongMove s past e why
clock_told s past e (reasons.Barred t) clock held = held_is s past e.who.0 t.0 clock held
clock_told s past e (reasons.Over overs.Stop) clock held = (clock, held)
clock_told s past e (reasons.Over overs.Ended) clock held = absurd held
clock_told s past e (reasons.Over overs.Spent) clock held = absurd held
clock_told s past e (reasons.Over overs.Absent) clock held = absurd held
clock_told s past e (reasons.Call c) clock held = absurd held
clock_told s past e (reasons.Answer a) clock held = absurd held
clock_told s past e (reasons.Frame row) clock held = absurd held
clock_told s past e (reasons.EndLine k) clock held = absurd held

-- the clock that isn't barred goes on
pub clock_may : (s : Tree) (past : Past) (who : ℕ) → who ≡ 0 → is_barred (setup_of s) past 0 ≡ false → MayMake s past who Advance
clock_may s past zero clock free = record { free = free; remains = tt; next = refl }
clock_may s past (suc n) clock free = absurd (omega (arith, clock))

-- ---- a thread

-- how many entries a worker has made is how many its thread has
pub used_is : (past : Past) (t : ℕ) → length (trace_of past t) ≡ used past t
used_is past t = length-reverse (map told (mine past t)) ∙ length-map (mine past t) told

remains_is : (s : Tree) (past : Past) (t : ℕ) → 0 < t → t ≤ length s.threads → used past t < s.budget → HasEntriesLeft s past t
remains_is s past zero some known left = absurd (omega (arith, some))
remains_is s past (suc n) some known left = (omega (arith, known), left)

pub thread_may : (s : Tree) (past : Past) (t : ℕ) (call : Call) → 0 < t → t ≤ length s.threads → IsTrace s t (trace_of past t) (Cut call) → used past t < s.budget → is_barred (setup_of s) past t ≡ false → MayMake s past t call
thread_may s past t call some known next left free = record { free = free; remains = remains_is s past t some known left; next = comes_next s past t call some next }

pub thread_spent : (s : Tree) (past : Past) (t : ℕ) (call : Call) → 0 < t → t ≤ length s.threads → IsTrace s t (trace_of past t) (Cut call) → s.budget ≤ used past t → IsOver s past t overs.Spent
thread_spent s past t call some known next spent = ((some, known), record { call = call; next = next; spent = spent })

pub thread_idle : (s : Tree) (past : Past) (t : ℕ) (call : Call) → 0 < t → t ≤ length s.threads → IsTrace s t (trace_of past t) (Cut call) → used past t < s.budget → is_barred (setup_of s) past t ≡ true → IsHeldBy s past t t
thread_idle s past zero call some known next left barred = absurd (omega (arith, some))
thread_idle s past (suc n) call some known next left barred = (refl, ((some, known), (record { call = call; next = next; left = left }, sym (barred_is_idle (setup_of s) past (suc n) some) ∙ barred)))

-- ---- workers

-- the worker of the thread that made the entry
pub worker_own : (s : Tree) (p : Program) (past now : Past) (e : Entry) (call : Call) (answer : Answer) (w : Worker) → WasRight s past now e → e.call ≡ call → e.answer ≡ answer
    → IsWorkerOf s p e.who.0 (trace_of past e.who.0 ++ (call, answer) ∷ []) w → IsWorkerOf s p e.who.0 (trace_of now e.who.0) w
worker_own s p past now e call answer w right is_call is_answer stands =
    subst (λ h. IsWorkerOf s p e.who.0 (trace_of h e.who.0) w) (sym right.made)
    (subst (λ tr. IsWorkerOf s p e.who.0 tr w)
    (ap (λ (c : Call). trace_of past e.who.0 ++ (c, answer) ∷ []) (sym is_call) ∙ ap (λ (a : Answer). trace_of past e.who.0 ++ (e.call, a) ∷ []) (sym is_answer) ∙ sym (trace_of-own past e e.who.0 refl))
    stands)

-- that of another
worker_other : (s : Tree) (p : Program) (past now : Past) (e : Entry) (t : ℕ) (w : Worker) → WasRight s past now e → e.who.0 ≢ t → IsWorkerOf s p t (trace_of past t) w → IsWorkerOf s p t (trace_of now t) w
worker_other s p past now e t w right other stands =
    subst (λ h. IsWorkerOf s p t (trace_of h t) w) (sym right.made) (subst (λ tr. IsWorkerOf s p t tr w) (sym (trace_of-other past e t other)) stands)

-- all workers after an entry of the clock
pub workers_clock : (s : Tree) (p : Program) (past now : Past) (e : Entry) (workers : List Worker) → WasRight s past now e → e.who.0 ≡ 0 → WorkersStand s p past workers → WorkersStand s p now workers
workers_clock s p past now e workers right clock stands = record {
  count = stands.count;
  at = λ i d lt. worker_other s p past now e (i + 1) (get_or workers i d) right (λ same. absurd (omega (arith, same, clock))) (stands.at i d lt);
}

-- and after one of a thread
pub workers_thread : (s : Tree) (p : Program) (past now : Past) (e : Entry) (workers : List Worker) (w : Worker) → WasRight s past now e → 0 < e.who.0 → e.who.0 ≤ length s.threads → WorkersStand s p past workers
    → IsWorkerOf s p e.who.0 (trace_of now e.who.0) w → WorkersStand s p now (set workers (e.who.0 - 1) w)
workers_thread s p past now e workers w right some known stands here =
    let who : ℕ = e.who.0 in
    record {
      count = length-set workers (who - 1) w ∙ stands.count;
      at = λ i d lt. elim (eqb_tells i (who - 1)) [
        | inl x ↦
            let there : i + 1 ≡ who = omega (arith, x.1, some) in
            let place : who - 1 < length workers = omega (arith, stands.count, some, known) in
            let same : get_or (set workers (who - 1) w) i d ≡ w = ap (λ k. get_or (set workers (who - 1) w) k d) x.1 ∙ get_or-set_same workers (who - 1) w d place in
            subst (λ z. IsWorkerOf s p (i + 1) (trace_of now (i + 1)) z) (sym same) (subst (λ u. IsWorkerOf s p u (trace_of now u) w) (sym there) here)
        | inr x ↦
            let other : who ≢ i + 1 = λ same. x.1 (omega (arith, same)) in
            let in_place : i < length workers = omega (arith, lt, length-set workers (who - 1) w) in
            subst (λ z. IsWorkerOf s p (i + 1) (trace_of now (i + 1)) z) (sym (get_or-set_other workers (who - 1) i w d x.1)) (worker_other s p past now e (i + 1) (get_or workers i d) right other (stands.at i d in_place))
      ];
    }

-- one more at the end
pub each_pushed : (P : ℕ → Worker → Type 0) (workers : List Worker) (w : Worker) → ((i : ℕ) (d : Worker) → i < length workers → P i (get_or workers i d)) → P (length workers) w → (i : ℕ) (d : Worker) → i < length (workers ++ w ∷ []) → P i (get_or (workers ++ w ∷ []) i d)
each_pushed P [] w h x zero d lt = x
each_pushed P [] w h x (suc i) d lt = absurd (omega (arith, lt))
each_pushed P (y ∷ ys) w h x zero d lt = h zero d (omega arith)
each_pushed P (y ∷ ys) w h x (suc i) d lt = each_pushed (λ k. P (suc k)) ys w (λ k e l. h (suc k) e (omega (arith, l))) x i d (omega (arith, lt))

-- the worker stands for what was told
pub worker_told : (s : Tree) (p : Program) (past now : Past) (e : Entry) (call : Call) (answer : Answer) (w : Worker) (fault : Option Why) → MoveTold s past now e fault → AnswerTold e.answer answer fault → e.call ≡ call
    → IsWorkerOf s p e.who.0 (trace_of past e.who.0 ++ (call, answer) ∷ []) w → is_some fault ≡ false → IsWorkerOf s p e.who.0 (trace_of now e.who.0) w
worker_told s p past now e call answer w None told found is_call stands none = worker_own s p past now e call answer w told is_call found stands
worker_told s p past now e call answer w (Some why) told found is_call stands none = absurd cc
