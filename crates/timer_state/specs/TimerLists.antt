-- The timers that a past has, as they are kept.
use Rattle.std.specs.Prelude.{List, map}
use Rattle.timer_source.specs.declared.setting.Setting.{Setting}
use Rattle.timer_source.specs.declared.timer.Timer.{Timer}
use Rattle.user_model.specs.Past.{Past}
use Rattle.user_model.specs.Windows.{thread_of}
use Rattle.user_model.specs.Timers.{WinTimer, timers, base, due_time}

-- a timer as it is kept: with the thread of its window, and the time at which its period began last
abbrev pub kept : Past → WinTimer → Setting
kept past x = record { thread = record { 0 = thread_of past x.hwnd }; hwnd = record { 0 = x.hwnd }; id = x.id; period = x.period; base = base past x }

-- the timers of a past
abbrev pub timers_at : Past → List Setting
timers_at past = map (kept past) (timers past)

-- a timer as a retrieval sees it: with the time at which it is due
abbrev pub as_due : Past → WinTimer → Timer
as_due past x = record { hwnd = record { 0 = x.hwnd }; id = x.id; due = due_time past x }
