-- The answer of a thread by what keeps it from its call, if anything does.
use Rattle.std.proofs.Common.{◌≡◌, ℕ, Bool, true, false, not, cond, Some, None, refl}
use Rattle.std.specs.Prelude.{◌||◌}
use Rattle.win_num.specs.declared.code.Code.{Code}
use Rattle.win_num.specs.declared.code.Code.TheVariants.{NotNow, Full}
use Rattle.user_model.specs.declared.call.Call.{Call}
use Rattle.user_model.specs.declared.entry.Answer.{Answer}
use Rattle.user_model.specs.declared.entry.Answer.TheVariants.{Refused}
use Rattle.user_model.specs.declared.entry.Setup.{Setup}
use Rattle.user_model.specs.Past.{Past, is_full}
use Rattle.user_model.specs.Threads.{is_running}
use Rattle.user_model.specs.Refusals.{refuse}
use Rattle.user_model.specs.Stacks.{top}
use Rattle.user_model.specs.Replies.{row, is_barred_by, thread_reply}
use Rattle.core_deliver.specs.Admission.{admission}

code_told : (full running barred : Bool) (y : Answer) (code : Code) → cond full (Some Full) (cond (not running || barred) (Some NotNow) None) ≡ Some code → Refused code ≡ refuse full Full (refuse (not running) NotNow (refuse barred NotNow y))
code_told true running barred y code e = cc
code_told false false barred y code e = cc
code_told false true true y code e = cc
code_told false true false y code e = cc

row_told : (full running barred : Bool) (y : Answer) → cond full (Some Full) (cond (not running || barred) (Some NotNow) None) ≡ None → y ≡ refuse full Full (refuse (not running) NotNow (refuse barred NotNow y))
row_told true running barred y e = cc
row_told false false barred y e = cc
row_told false true true y e = cc
row_told false true false y e = refl

-- what keeps the thread from the call is its answer
pub code_is_reply : (setup : Setup) (past : Past) (who : ℕ) (call : Call) (code : Code) → admission setup past who call ≡ Some code → Refused code ≡ refuse (is_full past) Full (thread_reply setup past who call)
code_is_reply setup past who call code e = code_told (is_full past) (is_running setup past who) (is_barred_by call (top past who)) (row setup past who call) code e

-- where nothing does, the answer is its row's
pub row_is_reply : (setup : Setup) (past : Past) (who : ℕ) (call : Call) → admission setup past who call ≡ None → row setup past who call ≡ refuse (is_full past) Full (thread_reply setup past who call)
row_is_reply setup past who call e = row_told (is_full past) (is_running setup past who) (is_barred_by call (top past who)) (row setup past who call) e
