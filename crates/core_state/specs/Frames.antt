-- The newest frame of a thread.
use Rattle.std.specs.Prelude.{◌≡◌, ℕ, true, Option, Some, None}
use Rattle.win_num.specs.declared.send.Frame.{Frame}
use Rattle.win_num.specs.declared.send.Frame.TheVariants.{Await}
use Rattle.user_model.specs.Past.{Past}
use Rattle.user_model.specs.Stacks.{top}
use Rattle.user_model.specs.Sends.{names_send}
use Rattle.user_model.specs.ReplySends.{deadline}

-- the thread's newest frame is one of the send's
pub record IsOnTop (past : Past) (t s : ℕ) : Type 0 where
  pub frame : Frame
  pub is_top : top past t ≡ Some frame
  pub names : names_send frame s ≡ true

-- when the send of a wait gives up
abbrev pub wait_end : Past → Frame → Option ℕ
wait_end past (Await s) = deadline past s.0
wait_end past _ = None
