-- Posted messages and quit.
use Rattle.std.specs.Prelude.{if◌then◌else◌, ℕ, ◌==◌, Bool, ◌||◌, List, [], ◌∷◌, find, Option, Some, None, unwrap_or}
use Rattle.win_num.specs.declared.message.Msg.{Msg}
use Rattle.win_num.specs.declared.message.Filter.{Filter}
use Rattle.win_num.specs.declared.shapes.Point.{Point}
use Rattle.user_model.specs.declared.call.Call.{Call}
use Rattle.user_model.specs.declared.entry.Entry.{Entry}
use Rattle.user_model.specs.declared.entry.Answer.{Answer}
use Rattle.user_model.specs.declared.entry.Answer.TheVariants.{Posted}
use Rattle.user_model.specs.Past.{Past, place_after, standing, each_of, last_of}
use Rattle.user_model.specs.Places.{clock, cursor, ends_thread}
use Rattle.user_model.specs.Windows.{thread_of, drops_window}
use Rattle.user_model.specs.Filters.{passes_posted}
use Rattle.user_model.specs.Deeds.{Posting, to_window, to_thread, posting_of, Deed, quitting, deed}
use Rattle.user_model.specs.Retrievals.{takes_post, takes_quit}
use Rattle.user_model.specs.Keys.{is_shift_down}

-- a message from its parts
abbrev pub message : ℕ → ℕ → ℕ → ℕ → ℕ → Point → Msg
message w number wparam lparam time point = record { hwnd = record { 0 = w }; number = number; wparam = wparam; lparam = lparam; time = time; point = point }

-- a posted message: its number, the message, and the place at which it came
pub record PostedMsg : Type 0 where
  pub number : ℕ
  pub msg : Msg
  pub place : ℕ

-- a message that is posted after this past, under its number
abbrev pub post_after : Past → ℕ → Msg → PostedMsg
post_after before k m = record { number = k; msg = m; place = place_after before }

-- the number that an answer gives a post
abbrev pub number_of_post : Answer → List ℕ
number_of_post (Posted k) = k ∷ []
number_of_post _ = []

-- the numbers of all that was ever posted, in order
abbrev pub posts : Past → List ℕ
posts past = each_of (λ e before. number_of_post e.answer) past

-- the thread of the window, or for no window the caller
abbrev pub queue_of : Past → ℕ → ℕ → ℕ
queue_of past who w = if w == 0 then who else thread_of past w

-- the message, where it goes to t; it carries the clock and the cursor of its posting
abbrev pub message_to : ℕ → ℕ → ℕ → ℕ → ℕ → ℕ → ℕ → Past → List PostedMsg
message_to t k to w number wparam lparam before = if to == t then post_after before k (message w number wparam lparam (clock before) (cursor before)) ∷ [] else []

-- what is posted to t under this number
abbrev pub posted_by : ℕ → ℕ → ℕ → Option Posting → Past → List PostedMsg
posted_by t who k (Some (to_window w number wparam lparam)) before = message_to t k (queue_of before who w) w number wparam lparam before
posted_by t who k (Some (to_thread to number wparam lparam)) before = message_to t k to 0 number wparam lparam before
posted_by t who k None before = []

-- what a call posts to t
abbrev pub posts_by : ℕ → ℕ → Answer → Call → Past → List PostedMsg
posts_by t who (Posted k) call before = posted_by t who k (posting_of (is_shift_down before who) call) before
posts_by t who _ call before = []

-- the post that an entry makes to t
abbrev pub posts_to : ℕ → Entry → Past → List PostedMsg
posts_to t e before = posts_by t e.who.0 e.answer e.call before

-- a post to t ends where a retrieval removes it, its window is dropped or t ends
abbrev pub ends_post : ℕ → Entry → Past → PostedMsg → Bool
ends_post t e before x = takes_post e x.number || drops_window e before x.msg.hwnd.0 || ends_thread e t

-- the posts to t that nothing ended, in posted order
abbrev pub posted : Past → ℕ → List PostedMsg
posted past t = standing (posts_to t) (ends_post t) past

-- whether a filter lets a posted message pass
abbrev pub passes : Past → Filter → PostedMsg → Bool
passes past f x = passes_posted past f x.msg.hwnd.0 x.msg.number

-- the first of them that the filter lets pass
abbrev pub first_post : Past → ℕ → Filter → Option PostedMsg
first_post past t f = find (passes past f) (posted past t)

-- a posting of quit: its code, and the place at which it came
pub record PostedQuit : Type 0 where
  pub code : ℕ
  pub place : ℕ

-- a quit that is posted after this past
abbrev pub quit_after : Past → ℕ → PostedQuit
quit_after before code = record { code = code; place = place_after before }

-- the quit that is posted; none where the entry removes it
abbrev pub quits_as : Entry → Past → Deed → Option (Option PostedQuit)
quits_as e before (quitting code) = Some (Some (quit_after before code))
quits_as e before _ = if takes_quit e then Some None else None

-- the quit that a call posts; none where the entry removes it
abbrev pub quits : Entry → Past → Call → Option (Option PostedQuit)
quits e before call = quits_as e before (deed call)

-- what is said, where t says it
abbrev pub if_by : {A : Type 0} → ℕ → ℕ → Option A → Option A
if_by t who None = None
if_by t who (Some a) = if who == t then Some a else None

-- t's last posting of quit, where no removal of quit is later
abbrev pub quit : Past → ℕ → Option PostedQuit
quit past t = unwrap_or (last_of (λ e before. if_by t e.who.0 (quits e before e.call)) past) None
