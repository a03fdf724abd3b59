-- A status never waits.
use Rattle.std.proofs.Common.{◌≡◌, ℕ, Bool, true, false, not, refl}
use Rattle.std.proofs.lemmas.Bool.{false≢true}
use Rattle.std.specs.Prelude.{nat_lt}
use Rattle.win_num.specs.declared.code.Code.{Code}
use Rattle.win_num.specs.declared.code.Code.TheVariants.{Full, NotNow}
use Rattle.user_model.specs.declared.call.Call.{Call}
use Rattle.user_model.specs.declared.call.Call.TheVariants.{Status}
use Rattle.user_model.specs.declared.entry.Answer.{Answer}
use Rattle.user_model.specs.declared.entry.Setup.{Setup}
use Rattle.user_model.specs.Past.{Past, is_full}
use Rattle.user_model.specs.Threads.{is_running}
use Rattle.user_model.specs.Refusals.{refuse}
use Rattle.user_model.specs.ReplyDelivery.{status_reply}
use Rattle.user_model.specs.Replies.{is_barred_by, thread_reply}
use Rattle.user_model.specs.Stacks.{top}
use Rattle.user_model.specs.Idle.{is_wait}
use Rattle.core_deliver.specs.Groups.{is_status}

refused : (b : Bool) (code : Code) (a : Answer) → is_wait a ≡ false → is_wait (refuse b code a) ≡ false
refused true code a h = refl
refused false code a h = h

pub never_waits : (setup : Setup) (past : Past) (t : ℕ) (call : Call) → is_status call ≡ true → is_wait (refuse (is_full past) Full (thread_reply setup past t call)) ≡ false
never_waits setup past t (Status flags) h =
    refused (is_full past) Full (thread_reply setup past t (Status flags))
    (refused (not (is_running setup past t)) NotNow _
    (refused (is_barred_by (Status flags) (top past t)) NotNow (status_reply setup past t flags) (refused (nat_lt 127 flags) _ _ refl)))
never_waits setup past t _ h = absurd (false≢true h)
