-- What the reply is, where something keeps an actor from a call that isn't the clock's, and where nothing does.
use Rattle.std.proofs.Common.{◌≡◌, ℕ, zero, suc, Bool, true, false, not, cond, eqb, Some, None, refl, sym, arith}
use Rattle.std.specs.Prelude.{◌||◌}
use Rattle.std.proofs.lemmas.Bool.{false≢true}
use Rattle.std.proofs.lemmas.Bool.Decides.{nat_tests}
use Rattle.win_num.specs.declared.code.Code.{Code}
use Rattle.win_num.specs.declared.code.Code.TheVariants.{NotNow, Full}
use Rattle.user_model.specs.declared.call.Call.{Call}
use Rattle.user_model.specs.declared.call.Call.TheVariants.{Tick, Advance}
use Rattle.user_model.specs.declared.entry.Answer.{Answer}
use Rattle.user_model.specs.declared.entry.Answer.TheVariants.{Refused}
use Rattle.user_model.specs.declared.entry.Setup.{Setup}
use Rattle.user_model.specs.Past.{Past, is_full}
use Rattle.user_model.specs.Threads.{is_running}
use Rattle.user_model.specs.Refusals.{refuse}
use Rattle.user_model.specs.Stacks.{top}
use Rattle.user_model.specs.Replies.{row, is_barred_by}
use Rattle.user_model.specs.Idle.{reply, clock_row}
use Rattle.core_deliver.specs.Admission.{admission}
use Rattle.core_deliver.specs.Groups.{is_delivery, is_drawing, is_retrieval, is_window_call}

-- the clock makes no retrieval, no call of delivery, none on classes or windows, and none that draws
pub no_retrieval : (setup : Setup) (past : Past) (call : Call) → is_retrieval call ≡ true → clock_row setup past call ≡ Refused NotNow
no_retrieval setup past (Tick ms) e = absurd (false≢true e)
no_retrieval setup past Advance e = absurd (false≢true e)
no_retrieval setup past _ e = refl

pub no_delivery : (setup : Setup) (past : Past) (call : Call) → is_delivery call ≡ true → clock_row setup past call ≡ Refused NotNow
no_delivery setup past (Tick ms) e = absurd (false≢true e)
no_delivery setup past Advance e = absurd (false≢true e)
no_delivery setup past _ e = refl

pub no_window_call : (setup : Setup) (past : Past) (call : Call) → is_window_call call ≡ true → clock_row setup past call ≡ Refused NotNow
no_window_call setup past (Tick ms) e = absurd (false≢true e)
no_window_call setup past Advance e = absurd (false≢true e)
no_window_call setup past _ e = refl

pub no_drawing : (setup : Setup) (past : Past) (call : Call) → is_drawing call ≡ true → clock_row setup past call ≡ Refused NotNow
no_drawing setup past (Tick ms) e = absurd (false≢true e)
no_drawing setup past Advance e = absurd (false≢true e)
no_drawing setup past _ e = refl

-- a thread that runs isn't the clock
no_clock : (setup : Setup) (past : Past) (who : ℕ) → is_running setup past who ≡ true → eqb who 0 ≡ false
no_clock setup past zero e = absurd (false≢true e)
no_clock setup past (suc n) e = grind (arith, nat_tests)

code_told : (full clock running barred : Bool) (x y : Answer) (code : Code) → x ≡ Refused NotNow → cond full (Some Full) (cond (not running || barred) (Some NotNow) None) ≡ Some code → Refused code ≡ refuse full Full (cond clock x (refuse (not running) NotNow (refuse barred NotNow y)))
code_told true clock running barred x y code miss e = cc
code_told false true false barred x y code miss e = cc
code_told false true true true x y code miss e = cc
code_told false true true false x y code miss e = cc
code_told false false false barred x y code miss e = cc
code_told false false true true x y code miss e = cc
code_told false false true false x y code miss e = cc

row_told : (full clock running barred : Bool) (x y : Answer) → (running ≡ true → clock ≡ false) → cond full (Some Full) (cond (not running || barred) (Some NotNow) None) ≡ None → y ≡ refuse full Full (cond clock x (refuse (not running) NotNow (refuse barred NotNow y)))
row_told true clock running barred x y own e = cc
row_told false clock false barred x y own e = cc
row_told false clock true true x y own e = cc
row_told false true true false x y own e = absurd (false≢true (sym (own refl)))
row_told false false true false x y own e = refl

-- what keeps the actor from the call is its answer
pub code_is_reply : (setup : Setup) (past : Past) (who : ℕ) (call : Call) (code : Code) → clock_row setup past call ≡ Refused NotNow → admission setup past who call ≡ Some code → Refused code ≡ reply setup past who call
unfolding reply
code_is_reply setup past who call code miss e = code_told (is_full past) (eqb who 0) (is_running setup past who) (is_barred_by call (top past who)) (clock_row setup past call) (row setup past who call) code miss e

-- where nothing does, the answer is its row's
pub row_is_reply : (setup : Setup) (past : Past) (who : ℕ) (call : Call) → admission setup past who call ≡ None → row setup past who call ≡ reply setup past who call
unfolding reply
row_is_reply setup past who call e = row_told (is_full past) (eqb who 0) (is_running setup past who) (is_barred_by call (top past who)) (clock_row setup past call) (row setup past who call) (no_clock setup past who) e
