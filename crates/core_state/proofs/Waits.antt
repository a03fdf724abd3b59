-- A thread that waits for a send has its wait on top.
use Rattle.std.proofs.Common.{◌≡◌, ℕ, eqb, Bool, true, false, not, cond, [], ◌∷◌, Option, Some, None, refl, ap, ◌∙◌, sym}
use Rattle.std.specs.Prelude.{option_and_then}
use Rattle.std.proofs.lemmas.Bool.{false≢true, true≢false, eqb-true}
use Rattle.win_num.specs.declared.send.SendId.{SendId}
use Rattle.win_num.specs.declared.send.Frame.{Frame}
use Rattle.win_num.specs.declared.send.Frame.TheVariants.{Entered, Inside as InsideFrame, Called as CalledFrame, CallbackRun, Await as AwaitFrame}
use Rattle.user_model.specs.declared.call.Call.{Call}
use Rattle.user_model.specs.declared.call.Call.TheVariants.{Await}
use Rattle.user_model.specs.declared.entry.Answer.{Answer}
use Rattle.user_model.specs.declared.entry.Answer.TheVariants as answers
use Rattle.user_model.specs.declared.entry.Entry.{Entry}
use Rattle.user_model.specs.declared.entry.Setup.{Setup}
use Rattle.user_model.specs.Past.{Past, first}
use Rattle.user_model.specs.Stacks.{stack, stacked, top}
use Rattle.user_model.specs.Replies.{is_barred_by}
use Rattle.user_model.specs.Idle.{is_wait, last_entry, least_of, one_of, times_of, times_of_call}
use Rattle.user_model.specs.ReplySends.{deadline}
use Rattle.core_state.specs.Frames.{wait_end}
use Rattle.user_model.specs.Legal.{IsLawful}
use Rattle.user_model.proofs.ClockLaws.{last_entry-next}
use Rattle.user_model.proofs.ReplyLaws.{by_row}
use Rattle.user_model.proofs.SendLaws.{stack-other, stack-same}
use Rattle.thread_state.specs.Threads.{waiting_call, waiting_with}

-- the wait for a send is the thread's newest frame
pub record IsWaitFor (past : Past) (t s : ℕ) : Type 0 where
  pub frame : SendId
  pub is_top : top past t ≡ Some (AwaitFrame frame)
  pub is_send : frame.0 ≡ s

not_apart : (a b : ℕ) → not (eqb a b) ≡ false → a ≡ b
not_apart a b h = eqb-true a b (held (eqb a b) h)
  where
    held : (c : Bool) → not c ≡ false → c ≡ true
    held true k = refl
    held false k = absurd (true≢false k)

-- a wait is allowed on its own frame alone
pub allowed_wait : (past : Past) (t s : ℕ) (o : Option Frame) → top past t ≡ o → is_barred_by (Await s) o ≡ false → IsWaitFor past t s
allowed_wait past t s (Some (AwaitFrame u)) is h = record { frame = u; is_top = is; is_send = not_apart u.0 s h }
allowed_wait past t s (Some (Entered u)) is h = absurd (true≢false h)
allowed_wait past t s (Some (InsideFrame u)) is h = absurd (true≢false h)
allowed_wait past t s (Some CalledFrame) is h = absurd (true≢false h)
allowed_wait past t s (Some CallbackRun) is h = absurd (true≢false h)
allowed_wait past t s None is h = absurd (true≢false h)

-- the same stack later
still_waits : (past later : Past) (t s : ℕ) → stack later t ≡ stack past t → IsWaitFor past t s → IsWaitFor later t s
still_waits past later t s same w = record { frame = w.frame; is_top = ap first same ∙ w.is_top; is_send = w.is_send }

wait_is : (a : Answer) → is_wait a ≡ true → a ≡ answers.Wait
wait_is answers.Wait h = refl
wait_is _ h = absurd (false≢true h)

waited : (e : Entry) (call : Call) → waiting_with e ≡ Some call → (e.answer ≡ answers.Wait) × (e.call ≡ call)
waited e call h = by (is_wait e.answer) refl h
  where
    by : (b : Bool) → is_wait e.answer ≡ b → cond b (Some e.call) None ≡ Some call → (e.answer ≡ answers.Wait) × (e.call ≡ call)
    by true k g = (wait_is e.answer k, cc)
    by false k g = absurd cc

own_wait : (setup : Setup) (past : Past) (e : Entry) (t s : ℕ) → e.answer ≡ answers.Wait → e.call ≡ Await s → e.who.0 ≡ t → IsLawful setup (e ∷ past) → IsWaitFor (e ∷ past) t s
own_wait setup past e t s is is_call own h =
    let allowed = (by_row setup past e.who.0 e.call answers.Wait (sym h.1 ∙ is) refl).allowed in
    let here : is_barred_by (Await s) (top past t) ≡ false = ap (λ c. is_barred_by c (top past t)) (sym is_call) ∙ ap (λ n. is_barred_by e.call (top past n)) (sym own) ∙ allowed in
    still_waits past (e ∷ past) t s (stack-same e past t (ap (λ a. stacked e.call a (stack past t)) is)) (allowed_wait past t s (top past t) refl here)

-- a thread that waits for a send has the wait on top
pub waits_on_top : (setup : Setup) (past : Past) (t s : ℕ) → IsLawful setup past → waiting_call (last_entry past t) ≡ Some (Await s) → IsWaitFor past t s
waits_on_top setup [] t s h w = absurd cc
waits_on_top setup (e ∷ past) t s h w = by (waits_on_top setup past t s h.0) (eqb e.who.0 t) refl (sym (ap waiting_call (last_entry-next e past t)) ∙ w)
  where
    by : (waiting_call (last_entry past t) ≡ Some (Await s) → IsWaitFor past t s) → (b : Bool) → eqb e.who.0 t ≡ b → waiting_call (cond b (Some e) (last_entry past t)) ≡ Some (Await s) → IsWaitFor (e ∷ past) t s
    by before true own k = let both = waited e (Await s) k in own_wait setup past e t s both.0 both.1 (eqb-true e.who.0 t own) h
    by before false other k = still_waits past (e ∷ past) t s (stack-other e past t other) (before k)

-- ---- the time that a thread waits for

-- the times of an entry that waits are those of its call
pub times_waiting : (past : Past) (t : ℕ) (o : Option Entry) (call : Call) → waiting_call o ≡ Some call → times_of past t o ≡ times_of_call past t call
times_waiting past t None call h = absurd cc
times_waiting past t (Some e) call h = by (is_wait e.answer) h
  where
    by : (b : Bool) → cond b (Some e.call) None ≡ Some call → cond b (times_of_call past t e.call) [] ≡ times_of_call past t call
    by true k = let same : e.call ≡ call = cc in ap (times_of_call past t) same
    by false k = absurd cc

-- an entry that doesn't wait has none
pub times_none : (past : Past) (t : ℕ) (o : Option Entry) → waiting_call o ≡ None → times_of past t o ≡ []
times_none past t None h = refl
times_none past t (Some e) h = by (is_wait e.answer) h
  where
    by : (b : Bool) → cond b (Some e.call) None ≡ None → cond b (times_of_call past t e.call) [] ≡ []
    by true k = absurd cc
    by false k = refl

-- the least of one time is that time
pub least_alone : (o : Option ℕ) → least_of (one_of o) ≡ o
least_alone None = refl
least_alone (Some m) = refl

-- a wait for a send ends when that gives up
pub await_times : (setup : Setup) (past : Past) (t s : ℕ) → IsLawful setup past → waiting_call (last_entry past t) ≡ Some (Await s) → one_of (option_and_then (wait_end past) (top past t)) ≡ times_of past t (last_entry past t)
await_times setup past t s h w =
    let on = waits_on_top setup past t s h w in
    ap (λ o. one_of (option_and_then (wait_end past) o)) on.is_top ∙ ap (λ n. one_of (deadline past n)) on.is_send ∙ sym (times_waiting past t (last_entry past t) (Await s) w)
