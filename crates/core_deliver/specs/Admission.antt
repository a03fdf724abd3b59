-- What keeps an actor from its call before the call is looked at.
use Rattle.std.specs.Prelude.{if◌then◌else◌, ℕ, not, ◌||◌, Option, Some, None}
use Rattle.win_num.specs.declared.code.Code.{Code}
use Rattle.win_num.specs.declared.code.Code.TheVariants.{NotNow, Full}
use Rattle.user_model.specs.declared.call.Call.{Call}
use Rattle.user_model.specs.declared.entry.Setup.{Setup}
use Rattle.user_model.specs.Past.{Past, is_full}
use Rattle.user_model.specs.Replies.{is_barred_by}
use Rattle.user_model.specs.Stacks.{top}
use Rattle.user_model.specs.Threads.{is_running}

-- a full history; else that it is no running thread, or that its stack forbids the call
abbrev pub admission : Setup → Past → ℕ → Call → Option Code
admission setup past who call = if is_full past then Some Full else if not (is_running setup past who) || is_barred_by call (top past who) then Some NotNow else None
