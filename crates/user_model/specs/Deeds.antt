-- What each call does, as far as the past tells of it. Each call has its one line here, and the definitions that ask what a
-- call does read this line.
use Rattle.std.specs.Prelude.{ℕ, ◌==◌, Bool, true, false, ℤ, Option, Some, None, bit_and}
use Rattle.win_num.specs.declared.message.Filter.{Filter}
use Rattle.win_num.specs.declared.send.Kind.{Kind}
use Rattle.win_num.specs.declared.send.Kind.TheVariants.{Wait, Timeout as WithTimeout, Notify, Callback as WithCallback}
use Rattle.win_num.specs.declared.names.TheConstants.{PM_REMOVE, WM_CHAR}
use Rattle.user_model.specs.declared.call.Call.{Call}
use Rattle.user_model.specs.declared.call.Call.TheVariants.{Post, PostThread, Peek, Get, PostQuit, Status, Dispatch, Send, SendTimeout, SendNotify, SendCallback, Await, Leave, Reply, InSend, Message, Translate, Register, Unregister, NewWindow, Doom, Unmake, Drop, Place, Show, Enable, Find, AwaitTitle, NextTop, ChildAfter, StyleOf, WindowAt, IsWindow, Parent, SetFocus, SetActive, SetCapture, ReleaseCapture, GetFocus, GetActive, GetCapture, Attach, Detach, Mouse, Key, KeyState, BeginDialog, DialogState, EndDialog, Invalidate, Validate, UpdateRect, BeginPaint, EndPaint, Fill, Erase, Snap, SetTimer, KillTimer, EndThread, Clock, SleepUntil, Yield, Tick, Advance}
use Rattle.user_model.specs.Characters.{character}

-- a message that a call posts: to the thread of a window, or for window 0 to the caller; or to a thread, without a window
pub data Posting : Type 0 where
  to_window : (w number wparam lparam : ℕ) → Posting
  to_thread : (to number wparam lparam : ℕ) → Posting

-- a message that a call sends: to which window, what, and how
pub record SendParts : Type 0 where
  pub hwnd : ℕ
  pub message : ℕ
  pub wparam : ℕ
  pub lparam : ℕ
  pub kind : Kind

-- a send from its parts
abbrev pub parts : ℕ → ℕ → ℕ → ℕ → Kind → SendParts
parts w m p q kind = record { hwnd = w; message = m; wparam = p; lparam = q; kind = kind }

-- what a call does: it retrieves what a filter lets pass, and may remove it; posts a message, the character of a key, or quit with its
-- code; sends; waits for a send's answer; leaves a procedure, or replies, with a result; waits for a time; makes a window of a class, with a
-- title, parent or owner, style, extended style and edges; puts a window among its siblings and at a place, as flags say; shows
-- or hides a window; enables or disables one; or what definitions of its own say
pub data Deed : Type 0 where
  retrieving : (pass : Filter) (removes : Bool) → Deed
  posting : Posting → Deed
  typing : (w key lparam : ℕ) → Deed
  quitting : (code : ℕ) → Deed
  sending : SendParts → Deed
  awaiting : (s : ℕ) → Deed
  leaving : (result : ℕ) → Deed
  replying : (result : ℕ) → Deed
  sleeping : (time : ℕ) → Deed
  making : (class title parent style ex : ℕ) (l t r b : ℤ) → Deed
  placing : (w : ℕ) (after l t r b : ℤ) (flags : ℕ) → Deed
  showing : (w on : ℕ) → Deed
  enabling : (w on : ℕ) → Deed
  doing_else : Deed

-- a get removes what it retrieves, and so does a peek with bit 0 of its flags
abbrev pub deed : Call → Deed
deed (Peek w min max flags) = retrieving (record { hwnd = w; min = min; max = max }) (bit_and flags PM_REMOVE == PM_REMOVE)
deed (Get w min max) = retrieving (record { hwnd = w; min = min; max = max }) true
deed (Post w number wparam lparam) = posting (to_window w number wparam lparam)
deed (PostThread to number wparam lparam) = posting (to_thread to number wparam lparam)
deed (Translate w number key lparam) = typing w key lparam
deed (PostQuit code) = quitting code
deed (Send w number wparam lparam) = sending (parts w number wparam lparam Wait)
deed (SendTimeout w number wparam lparam flags ms) = sending (parts w number wparam lparam (WithTimeout flags ms))
deed (SendNotify w number wparam lparam) = sending (parts w number wparam lparam Notify)
deed (SendCallback w number wparam lparam proc_no extra) = sending (parts w number wparam lparam (WithCallback proc_no extra))
deed (Await s) = awaiting s
deed (Leave v) = leaving v
deed (Reply v) = replying v
deed (SleepUntil time) = sleeping time
deed (NewWindow class title parent style ex l t r b) = making class title parent style ex l t r b
deed (Place w after l t r b flags) = placing w after l t r b flags
deed (Show w on) = showing w on
deed (Enable w on) = enabling w on
deed (Status flags) = doing_else
deed (Dispatch w number wparam lparam) = doing_else
deed InSend = doing_else
deed (Message name) = doing_else
deed (Register name proc_no colour) = doing_else
deed (Unregister name) = doing_else
deed (Doom w) = doing_else
deed (Unmake w) = doing_else
deed (Drop w) = doing_else
deed (Find title) = doing_else
deed (AwaitTitle title) = doing_else
deed (NextTop w) = doing_else
deed (ChildAfter w v) = doing_else
deed (StyleOf w) = doing_else
deed (WindowAt x y) = doing_else
deed (IsWindow w) = doing_else
deed (Parent w) = doing_else
deed (SetFocus w) = doing_else
deed (SetActive w) = doing_else
deed (SetCapture w) = doing_else
deed ReleaseCapture = doing_else
deed GetFocus = doing_else
deed GetActive = doing_else
deed GetCapture = doing_else
deed (Attach t u) = doing_else
deed (Detach t u) = doing_else
deed (Mouse number x y) = doing_else
deed (Key down key) = doing_else
deed (KeyState key) = doing_else
deed (BeginDialog w) = doing_else
deed (DialogState w) = doing_else
deed (EndDialog w v) = doing_else
deed (Invalidate w l t r b erase) = doing_else
deed (Validate w l t r b) = doing_else
deed (UpdateRect w) = doing_else
deed (BeginPaint w) = doing_else
deed (EndPaint w) = doing_else
deed (Fill w l t r b colour) = doing_else
deed (Erase w) = doing_else
deed Snap = doing_else
deed (SetTimer w id ms) = doing_else
deed (KillTimer w id) = doing_else
deed EndThread = doing_else
deed Clock = doing_else
deed Yield = doing_else
deed (Tick ms) = doing_else
deed Advance = doing_else

-- the message that is posted; a character depends on whether Shift is down
abbrev pub posted_in : Bool → Deed → Option Posting
posted_in shift (posting p) = Some p
posted_in shift (typing w key lparam) = Some (to_window w WM_CHAR (character shift key) lparam)
posted_in shift _ = None

-- the message that a call posts, where it is answered that a post was made
abbrev pub posting_of : Bool → Call → Option Posting
posting_of shift call = posted_in shift (deed call)

-- the message that is sent
abbrev pub sent_in : Deed → Option SendParts
sent_in (sending of) = Some of
sent_in _ = None

-- the message that a call sends
abbrev pub parts_of : Call → Option SendParts
parts_of call = sent_in (deed call)

-- the filter of a retrieval
abbrev pub filter_in : Deed → Option Filter
filter_in (retrieving pass removes) = Some pass
filter_in _ = None

-- the filter that a call retrieves with
abbrev pub retrieves : Call → Option Filter
retrieves call = filter_in (deed call)

-- whether what is ready is run meanwhile
abbrev pub serves_in : Deed → Bool
serves_in (retrieving pass removes) = true
serves_in (awaiting s) = true
serves_in _ = false

-- whether the call runs what is ready
abbrev pub is_serving : Call → Bool
is_serving call = serves_in (deed call)
