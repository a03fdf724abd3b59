-- What an answer that is no refusal tells of its call.
use Rattle.std.proofs.Common.{◌≡◌, ℕ, ◌+◌, Bool, true, false, not, cond, eqb, Option, Some, None, refl, ap, ◌∙◌, sym}
use Rattle.std.specs.Prelude.{◌&&◌, nat_lt}
use Rattle.std.proofs.lemmas.Bool.{false≢true}
use Rattle.win_num.specs.declared.code.Code.{Code}
use Rattle.win_num.specs.declared.code.Code.TheVariants.{NotNow, Full}
use Rattle.user_model.specs.declared.call.Call.{Call}
use Rattle.user_model.specs.declared.call.Call.TheVariants.{Tick, Advance}
use Rattle.user_model.specs.declared.entry.Answer.{Answer}
use Rattle.user_model.specs.declared.entry.Answer.TheVariants as answers
use Rattle.user_model.specs.declared.entry.Setup.{Setup}
use Rattle.user_model.specs.Past.{Past, is_full, is_refusal}
use Rattle.user_model.specs.Places.{clock, has_ended}
use Rattle.user_model.specs.Threads.{is_thread, is_running}
use Rattle.user_model.specs.Refusals.{refuse, invalid_parameter}
use Rattle.user_model.specs.Stacks.{top}
use Rattle.user_model.specs.Replies.{row, is_barred_by, stack_reply, thread_reply}
use Rattle.user_model.specs.Idle.{reply, clock_row, busy_or, advanced, first_busy, soonest}

-- an answer that only threads get, and that is no refusal
abbrev pub is_of_thread : Answer → Bool
is_of_thread (answers.Refused code) = false
is_of_thread answers.Stuck = false
is_of_thread (answers.Advanced v) = false
is_of_thread (answers.Busy t) = false
is_of_thread (answers.Value v) = false
is_of_thread _ = true

-- a call that the clock makes
abbrev pub is_of_clock : Call → Bool
is_of_clock (Tick ms) = true
is_of_clock Advance = true
is_of_clock _ = false

-- where a test that may refuse gives no refusal, it didn't hold, and the answer is the one behind it
pub not_refused : (b : Bool) (code : Code) (x a : Answer) → is_refusal a ≡ false → refuse b code x ≡ a → (b ≡ false) × (x ≡ a)
not_refused true code x a hit e = absurd (false≢true (sym hit ∙ ap is_refusal (sym e)))
not_refused false code x a hit e = (refl, e)

no_refusal : (a : Answer) → is_of_thread a ≡ true → is_refusal a ≡ false
no_refusal (answers.Refused code) h = absurd (false≢true h)
no_refusal _ h = refl

advanced_not : (o : Option ℕ) → is_of_thread (advanced o) ≡ false
advanced_not None = refl
advanced_not (Some t) = refl

busy_not : (o : Option ℕ) (a : Answer) → is_of_thread a ≡ false → is_of_thread (busy_or o a) ≡ false
busy_not None a e = e
busy_not (Some t) a e = refl

ticked_not : (b : Bool) (v : ℕ) → is_of_thread (refuse b invalid_parameter (answers.Value v)) ≡ false
ticked_not true v = refl
ticked_not false v = refl

clock_not : (setup : Setup) (past : Past) (call : Call) → is_of_thread (clock_row setup past call) ≡ false
clock_not setup past (Tick ms) = ticked_not (nat_lt 4294967295 ms) (clock past + ms)
clock_not setup past Advance = busy_not (first_busy setup past) (advanced (soonest setup past)) (advanced_not (soonest setup past))
clock_not setup past _ = refl

by_thread : (clock : Bool) (x y a : Answer) → is_of_thread x ≡ false → is_of_thread a ≡ true → cond clock x y ≡ a → (clock ≡ false) × (y ≡ a)
by_thread true x y a miss hit e = absurd (false≢true (sym miss ∙ ap is_of_thread e ∙ hit))
by_thread false x y a miss hit e = (refl, e)

-- the history had room, the caller is a thread that runs, its stack allows the call, and the answer is its row's
pub record ByRow (setup : Setup) (past : Past) (who : ℕ) (call : Call) (a : Answer) : Type 0 where
  pub room : is_full past ≡ false
  pub running : is_running setup past who ≡ true
  pub allowed : is_barred_by call (top past who) ≡ false
  pub is_row : row setup past who call ≡ a

pub not_false : (b : Bool) → not b ≡ false → b ≡ true
not_false true e = refl
not_false false e = sym e

by_thread_reply : (setup : Setup) (past : Past) (who : ℕ) (call : Call) (a : Answer) → is_full past ≡ false → is_refusal a ≡ false → thread_reply setup past who call ≡ a → ByRow setup past who call a
by_thread_reply setup past who call a room hit e =
    let now = not_refused (not (is_running setup past who)) NotNow (stack_reply setup past who call) a hit e in
    let free = not_refused (is_barred_by call (top past who)) NotNow (row setup past who call) a hit now.1 in
    record { room = room; running = not_false (is_running setup past who) now.0; allowed = free.0; is_row = free.1 }

-- an answer that only threads get is its row's
pub by_row : (setup : Setup) (past : Past) (who : ℕ) (call : Call) (a : Answer) → reply setup past who call ≡ a → is_of_thread a ≡ true → ByRow setup past who call a
unfolding reply
by_row setup past who call a e hit =
    let full = not_refused (is_full past) Full (cond (eqb who 0) (clock_row setup past call) (thread_reply setup past who call)) a (no_refusal a hit) e in
    let thread = by_thread (eqb who 0) (clock_row setup past call) (thread_reply setup past who call) a (clock_not setup past call) hit full.1 in
    by_thread_reply setup past who call a full.0 (no_refusal a hit) thread.1

clock_refuses : (setup : Setup) (past : Past) (call : Call) → is_of_clock call ≡ false → clock_row setup past call ≡ answers.Refused NotNow
clock_refuses setup past (Tick ms) h = absurd (false≢true (sym h))
clock_refuses setup past Advance h = absurd (false≢true (sym h))
clock_refuses setup past _ h = refl

by_no_clock : (clock : Bool) (x y a : Answer) → x ≡ answers.Refused NotNow → is_refusal a ≡ false → cond clock x y ≡ a → y ≡ a
by_no_clock true x y a miss hit e = absurd (false≢true (sym hit ∙ ap is_refusal (sym e) ∙ ap is_refusal miss))
by_no_clock false x y a miss hit e = e

-- an answer that is no refusal, to a call that isn't the clock's, is its row's
pub by_call : (setup : Setup) (past : Past) (who : ℕ) (call : Call) (a : Answer) → reply setup past who call ≡ a → is_of_clock call ≡ false → is_refusal a ≡ false → ByRow setup past who call a
unfolding reply
by_call setup past who call a e other hit =
    let full = not_refused (is_full past) Full (cond (eqb who 0) (clock_row setup past call) (thread_reply setup past who call)) a hit e in
    by_thread_reply setup past who call a full.0 hit (by_no_clock (eqb who 0) (clock_row setup past call) (thread_reply setup past who call) a (clock_refuses setup past call other) hit full.1)

lives_of : (a b : Bool) → (a && not b) ≡ true → b ≡ false
lives_of true true e = absurd (false≢true e)
lives_of true false e = refl
lives_of false b e = absurd (false≢true e)

-- a thread that runs hasn't ended
pub running_lives : (setup : Setup) (past : Past) (t : ℕ) → is_running setup past t ≡ true → has_ended past t ≡ false
running_lives setup past t e = lives_of (is_thread setup t) (has_ended past t) e
