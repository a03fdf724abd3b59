use Rattle.std.proofs.Common.{◌≡◌, refl}
use Rattle.user_model.specs.declared.call.Call.{Call}
use Rattle.user_model.specs.declared.call.Call.TheVariants as calls
use Rattle.core_deliver.specs.declared.groups.Group.TheVariants.{Window}
use Rattle.core_deliver.specs.Groups.{group_of}
use Rattle.core_deliver.proofs.groups.group_of.Goals as goal

pub returns-in_default : goal.returns-in_default
returns-in_default c = by c.args.call.now refl
  where
    by : (call : Call) → c.args.call.now ≡ call → Window ≡ group_of call
    by (calls.Peek w min max flags) is = absurd (c.in_default.not-Peek w min max flags is)
    by (calls.Get w min max) is = absurd (c.in_default.not-Get w min max is)
    by (calls.Status flags) is = absurd (c.in_default.not-Status flags is)
    by (calls.Post w number wparam lparam) is = absurd (c.in_default.not-Post w number wparam lparam is)
    by (calls.PostThread to number wparam lparam) is = absurd (c.in_default.not-PostThread to number wparam lparam is)
    by (calls.PostQuit code) is = absurd (c.in_default.not-PostQuit code is)
    by (calls.Dispatch w number wparam lparam) is = absurd (c.in_default.not-Dispatch w number wparam lparam is)
    by (calls.Send w number wparam lparam) is = absurd (c.in_default.not-Send w number wparam lparam is)
    by (calls.SendTimeout w number wparam lparam flags ms) is = absurd (c.in_default.not-SendTimeout w number wparam lparam flags ms is)
    by (calls.SendNotify w number wparam lparam) is = absurd (c.in_default.not-SendNotify w number wparam lparam is)
    by (calls.SendCallback w number wparam lparam proc_no extra) is = absurd (c.in_default.not-SendCallback w number wparam lparam proc_no extra is)
    by (calls.Await s) is = absurd (c.in_default.not-Await s is)
    by (calls.Leave v) is = absurd (c.in_default.not-Leave v is)
    by (calls.Reply v) is = absurd (c.in_default.not-Reply v is)
    by calls.InSend is = absurd (c.in_default.not-InSend is)
    by (calls.Message name) is = absurd (c.in_default.not-Message name is)
    by (calls.Translate w number key lparam) is = absurd (c.in_default.not-Translate w number key lparam is)
    by (calls.Invalidate w l t r b erase) is = absurd (c.in_default.not-Invalidate w l t r b erase is)
    by (calls.Validate w l t r b) is = absurd (c.in_default.not-Validate w l t r b is)
    by (calls.UpdateRect w) is = absurd (c.in_default.not-UpdateRect w is)
    by (calls.BeginPaint w) is = absurd (c.in_default.not-BeginPaint w is)
    by (calls.EndPaint w) is = absurd (c.in_default.not-EndPaint w is)
    by (calls.Fill w l t r b colour) is = absurd (c.in_default.not-Fill w l t r b colour is)
    by (calls.Erase w) is = absurd (c.in_default.not-Erase w is)
    by calls.Snap is = absurd (c.in_default.not-Snap is)
    by (calls.SetTimer w id ms) is = absurd (c.in_default.not-SetTimer w id ms is)
    by (calls.KillTimer w id) is = absurd (c.in_default.not-KillTimer w id is)
    by calls.Clock is = absurd (c.in_default.not-Clock is)
    by (calls.SleepUntil time) is = absurd (c.in_default.not-SleepUntil time is)
    by calls.Yield is = absurd (c.in_default.not-Yield is)
    by (calls.Tick ms) is = absurd (c.in_default.not-Tick ms is)
    by calls.Advance is = absurd (c.in_default.not-Advance is)
    by _ is = refl
