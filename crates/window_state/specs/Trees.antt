-- The table of windows that a past has made.
use Rattle.std.specs.Prelude.{◌≡◌, ℕ, ◌+◌, false, List, length, map, option_map, unwrap_or}
use Rattle.std.specs.List.{AllByRecursion}
use Rattle.win_num.specs.Rects.{box_in}
use Rattle.win_rows.specs.declared.row.WindowRow.{WindowRow}
use Rattle.win_rows.specs.declared.window.Window.{Window as KeptWindow}
use Rattle.win_rows.specs.Windows.{Windows, window_of}
use Rattle.user_model.specs.Past.{Past}
use Rattle.user_model.specs.Windows.{Window, live, windows_made}
use Rattle.user_model.specs.Looks.{Look, look, look_of}
use Rattle.user_model.specs.Refusals.{is_no_rect}
use Rattle.user_model.specs.Destruction.{told, ended, is_marked, was_given}

-- a window of the table, as it was made, as far as that stays
abbrev pub as_made : KeptWindow → Window
as_made x = record { number = x.number.0; thread = x.row.thread.0; class = x.row.class; title = x.row.title; parent = x.row.parent.0; owner = x.row.owner.0 }

-- a window of the table is marked, told and ended where the past says so
pub record HasMarks (past : Past) (x : KeptWindow) : Type 0 where
  pub marked : x.marked ≡ is_marked past x.number.0
  pub told : x.told ≡ was_given past (told x.number.0)
  pub ended : x.ended ≡ was_given past (ended x.number.0)

-- how a window of the table looks
abbrev pub look_in : WindowRow → Look
look_in row = look_of row.style row.ex (box_in row.place)

-- it looks as the past says, and its place is a rectangle of a window
pub record HasLook (past : Past) (x : KeptWindow) : Type 0 where
  pub looks : look_in x.row ≡ look past x.number.0
  pub fits : is_no_rect x.row.place.l x.row.place.t x.row.place.r x.row.place.b ≡ false

-- the table has the last number that was given, and the live windows with their marks and looks
pub record IsTreeAt (past : Past) (t : Windows) : Type 0 where
  pub last : t.last ≡ 15 + length (windows_made past)
  pub windows : map as_made t.live ≡ live past
  pub marks : AllByRecursion (HasMarks past) t.live
  pub looks : AllByRecursion (HasLook past) t.live

-- the thread of a window of these, or 0
abbrev pub thread_in : List KeptWindow → ℕ → ℕ
thread_in ws w = unwrap_or (option_map (λ x. x.row.thread.0) (window_of ws w)) 0
