-- The clock, the ended threads, the cursor, and a thread's own entries.
use Rattle.std.specs.Prelude.{if◌then◌else◌, ℕ, ◌==◌, Bool, true, false, ◌&&◌, pos, filter, Option, Some, None, unwrap_or}
use Rattle.win_num.specs.declared.shapes.Point.{Point}
use Rattle.user_model.specs.declared.call.Call.{Call}
use Rattle.user_model.specs.declared.call.Call.TheVariants.{Mouse}
use Rattle.user_model.specs.declared.entry.Entry.{Entry}
use Rattle.user_model.specs.declared.entry.Answer.{Answer}
use Rattle.user_model.specs.declared.entry.Answer.TheVariants.{Advanced, Ended, Value}
use Rattle.user_model.specs.Past.{Past, last_of, ever}

-- the time that an answer may tell
abbrev pub time_told : Answer → Option ℕ
time_told (Advanced v) = Some v
time_told (Value v) = Some v
time_told _ = None

-- what is told, where actor 0 is told it
abbrev pub if_clock : ℕ → Option ℕ → Option ℕ
if_clock who None = None
if_clock who (Some v) = if who == 0 then Some v else None

-- the time that actor 0 was told last, in milliseconds; 0 before
abbrev pub clock : Past → ℕ
clock past = unwrap_or (last_of (λ e before. if_clock e.who.0 (time_told e.answer)) past) 0

-- whether the answer ends a thread
abbrev pub is_end : Answer → Bool
is_end Ended = true
is_end _ = false

-- whether the entry ends the thread
abbrev pub ends_thread : Entry → ℕ → Bool
ends_thread e t = is_end e.answer && (e.who.0 == t)

-- whether the thread has ended
abbrev pub has_ended : Past → ℕ → Bool
has_ended past t = ever (λ e before. ends_thread e t) past

-- the left top corner of the screen
abbrev pub corner_of_screen : Point
corner_of_screen = record { x = pos 0; y = pos 0 }

-- where a call puts the cursor
abbrev pub moved_to : Call → Option Point
moved_to (Mouse number x y) = Some (record { x = x; y = y })
moved_to _ = None

-- where an entry puts it
abbrev pub cursor_told : Entry → Past → Option Point
cursor_told e before = moved_to e.call

-- where the cursor was put last; before, the left top corner of the screen
abbrev pub cursor : Past → Point
cursor past = unwrap_or (last_of cursor_told past) corner_of_screen

-- the thread's own entries, the newest first
abbrev pub mine : Past → ℕ → Past
mine past t = filter (λ e. e.who.0 == t) past
