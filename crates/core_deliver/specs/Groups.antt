-- Which layer answers a call.
use Rattle.std.specs.Prelude.{Bool, true, false}
use Rattle.user_model.specs.declared.call.Call.{Call}
use Rattle.user_model.specs.declared.call.Call.TheVariants.{Peek, Get, Status as StatusCall, Post, PostThread, PostQuit, Dispatch, Send, SendTimeout, SendNotify, SendCallback, Await, Leave, Reply, InSend, Message, Translate, Register, Unregister, NewWindow, Doom, Unmake, Drop, Place, Show, Enable, Find, AwaitTitle, NextTop, ChildAfter, StyleOf, WindowAt, IsWindow, Parent, SetFocus, SetActive, SetCapture, ReleaseCapture, GetFocus, GetActive, GetCapture, Attach, Detach, Mouse, Key, KeyState, BeginDialog, DialogState, EndDialog, Invalidate, Validate, UpdateRect, BeginPaint, EndPaint, Fill, Erase, Snap, SetTimer, KillTimer, EndThread, Clock, SleepUntil, Yield, Tick, Advance}
use Rattle.core_deliver.specs.declared.groups.Group.{Group}
use Rattle.core_deliver.specs.declared.groups.Group.TheVariants.{Retrieval, Status, Delivery, Window, Drawing, Other}

-- the group of each call: it asks for a message; it asks which kinds of messages are there; it posts, also the character of a key, sends, hands a message to a procedure, is made inside or
-- after a send, or registers a message; it is about classes or windows, focus, active window, capture, attached threads, the mouse, keys or dialogs, or ends a thread; it is about dirty pixels, painting, colours or frames; or it is about time or timers
abbrev pub group_of : Call → Group
group_of (Peek w min max flags) = Retrieval
group_of (Get w min max) = Retrieval
group_of (StatusCall flags) = Status
group_of (Post w number wparam lparam) = Delivery
group_of (PostThread to number wparam lparam) = Delivery
group_of (PostQuit code) = Delivery
group_of (Dispatch w number wparam lparam) = Delivery
group_of (Send w number wparam lparam) = Delivery
group_of (SendTimeout w number wparam lparam flags ms) = Delivery
group_of (SendNotify w number wparam lparam) = Delivery
group_of (SendCallback w number wparam lparam proc_no extra) = Delivery
group_of (Await s) = Delivery
group_of (Leave v) = Delivery
group_of (Reply v) = Delivery
group_of InSend = Delivery
group_of (Message name) = Delivery
group_of (Translate w number key lparam) = Delivery
group_of (Register name proc_no colour) = Window
group_of (Unregister name) = Window
group_of (NewWindow class title parent style ex l t r b) = Window
group_of (Doom w) = Window
group_of (Unmake w) = Window
group_of (Drop w) = Window
group_of (Place w after l t r b flags) = Window
group_of (Show w on) = Window
group_of (Enable w on) = Window
group_of (Find title) = Window
group_of (AwaitTitle title) = Window
group_of (NextTop w) = Window
group_of (ChildAfter w v) = Window
group_of (StyleOf w) = Window
group_of (WindowAt x y) = Window
group_of (IsWindow w) = Window
group_of (Parent w) = Window
group_of (SetFocus w) = Window
group_of (SetActive w) = Window
group_of (SetCapture w) = Window
group_of ReleaseCapture = Window
group_of GetFocus = Window
group_of GetActive = Window
group_of GetCapture = Window
group_of (Attach t u) = Window
group_of (Detach t u) = Window
group_of (Mouse number x y) = Window
group_of (Key down key) = Window
group_of (KeyState key) = Window
group_of (BeginDialog w) = Window
group_of (DialogState w) = Window
group_of (EndDialog w v) = Window
group_of (Invalidate w l t r b erase) = Drawing
group_of (Validate w l t r b) = Drawing
group_of (UpdateRect w) = Drawing
group_of (BeginPaint w) = Drawing
group_of (EndPaint w) = Drawing
group_of (Fill w l t r b colour) = Drawing
group_of (Erase w) = Drawing
group_of Snap = Drawing
group_of (SetTimer w id ms) = Other
group_of (KillTimer w id) = Other
group_of EndThread = Window
group_of Clock = Other
group_of (SleepUntil time) = Other
group_of Yield = Other
group_of (Tick ms) = Other
group_of Advance = Other

-- whether the group is that of the calls that ask for a message
abbrev pub are_retrievals : Group → Bool
are_retrievals Retrieval = true
are_retrievals Status = false
are_retrievals Delivery = false
are_retrievals Window = false
are_retrievals Drawing = false
are_retrievals Other = false

-- whether the call asks for a message
abbrev pub is_retrieval : Call → Bool
is_retrieval call = are_retrievals (group_of call)

-- whether the group is that of the calls that ask which kinds of messages are there
abbrev pub are_statuses : Group → Bool
are_statuses Retrieval = false
are_statuses Status = true
are_statuses Delivery = false
are_statuses Window = false
are_statuses Drawing = false
are_statuses Other = false

-- whether the call asks which kinds of messages are there
abbrev pub is_status : Call → Bool
is_status call = are_statuses (group_of call)

-- whether the group is that of the other calls of delivery
abbrev pub are_deliveries : Group → Bool
are_deliveries Retrieval = false
are_deliveries Status = false
are_deliveries Delivery = true
are_deliveries Window = false
are_deliveries Drawing = false
are_deliveries Other = false

-- whether the call is another one of delivery
abbrev pub is_delivery : Call → Bool
is_delivery call = are_deliveries (group_of call)

-- whether the group is that of the calls on classes and windows
abbrev pub are_window_calls : Group → Bool
are_window_calls Retrieval = false
are_window_calls Status = false
are_window_calls Delivery = false
are_window_calls Window = true
are_window_calls Drawing = false
are_window_calls Other = false

-- whether the call is about classes or windows, or ends a thread
abbrev pub is_window_call : Call → Bool
is_window_call call = are_window_calls (group_of call)

-- whether the group is that of the calls on dirty pixels, painting, colours and frames
abbrev pub are_drawings : Group → Bool
are_drawings Retrieval = false
are_drawings Status = false
are_drawings Delivery = false
are_drawings Window = false
are_drawings Drawing = true
are_drawings Other = false

-- whether the call is about dirty pixels, painting, colours or frames
abbrev pub is_drawing : Call → Bool
is_drawing call = are_drawings (group_of call)
