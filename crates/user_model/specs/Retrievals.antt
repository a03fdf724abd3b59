-- What a retrieval removed.
use Rattle.std.specs.Prelude.{if◌then◌else◌, ℕ, ◌==◌, Bool, false, Option, Some, None}
use Rattle.win_num.specs.declared.message.Msg.{Msg}
use Rattle.user_model.specs.declared.call.Call.{Call}
use Rattle.user_model.specs.declared.entry.Entry.{Entry}
use Rattle.user_model.specs.declared.entry.Answer.{Answer}
use Rattle.user_model.specs.declared.entry.Answer.TheVariants.{Got}
use Rattle.user_model.specs.declared.entry.Origin.TheVariants.{Posted, Quit, Input, Timer}
use Rattle.user_model.specs.Deeds.{Deed, retrieving, deed}

-- whether a retrieval removes
abbrev pub removes_in : Deed → Bool
removes_in (retrieving pass removes) = removes
removes_in _ = false

-- whether the call removes what it retrieves
abbrev pub removes : Call → Bool
removes call = removes_in (deed call)

-- the number of the post that an answer hands out and its call removes
abbrev pub removed_post : Answer → Call → Option ℕ
removed_post (Got Posted n msg) call = if removes call then Some n else None
removed_post _ call = None

-- the number of the input that an answer hands out and its call removes
abbrev pub removed_input : Answer → Call → Option ℕ
removed_input (Got Input n msg) call = if removes call then Some n else None
removed_input _ call = None

-- its message
abbrev pub input_got : Answer → Call → Option Msg
input_got (Got Input n msg) call = if removes call then Some msg else None
input_got _ call = None

-- the message of a timer that an answer hands out and its call removes
abbrev pub removed_timer : Answer → Call → Option Msg
removed_timer (Got Timer n msg) call = if removes call then Some msg else None
removed_timer _ call = None

-- whether it is this number
abbrev pub is_number : Option ℕ → ℕ → Bool
is_number None k = false
is_number (Some n) k = n == k

-- whether the entry removes post k
abbrev pub takes_post : Entry → ℕ → Bool
takes_post e k = is_number (removed_post e.answer e.call) k

-- whether the entry removes input k
abbrev pub takes_input : Entry → ℕ → Bool
takes_input e k = is_number (removed_input e.answer e.call) k

-- whether the answer hands out quit, and its call removes it
abbrev pub removed_quit : Answer → Call → Bool
removed_quit (Got Quit n msg) call = removes call
removed_quit _ call = false

-- whether the entry removes quit
abbrev pub takes_quit : Entry → Bool
takes_quit e = removed_quit e.answer e.call
