-- What was there for each thread when it looked last, and when that is what a past says.
use Rattle.std.specs.Prelude.{if◌then◌else◌, ◌≡◌, ℕ, ◌==◌, ◌+◌, ◌<◌, Bool, true, ◌&&◌, List, [], length, map, filter, find, slice_index_or, Option, option_map}
use Rattle.win_num.specs.declared.shapes.Point.{Point}
use Rattle.win_num.specs.declared.shapes.Rect.{Rect}
use Rattle.win_rows.specs.declared.window.Window.{Window as KeptWindow}
use Rattle.band_region.specs.Regions.{region_has}
use Rattle.dirty_windows.specs.declared.entries.DirtyWindow.{DirtyWindow}
use Rattle.screen_state.specs.Owned.{told_has}
use Rattle.window_state.specs.Trees.{thread_in}
use Rattle.user_model.specs.declared.entry.Entry.{Entry}
use Rattle.user_model.specs.declared.entry.Setup.{Setup}
use Rattle.user_model.specs.Past.{Past, is_refused}
use Rattle.user_model.specs.Places.{clock}
use Rattle.user_model.specs.Windows.{thread_of}
use Rattle.user_model.specs.Inputs.{inputs}
use Rattle.user_model.specs.Dirty.{is_dirty}
use Rattle.user_model.specs.Status.{is_look, last_look}
use Rattle.look_state.specs.declared.moment.Moment.{Moment}
use Rattle.look_state.specs.declared.seen.SeenWindow.{SeenWindow}

-- how far a past has come
abbrev pub moment_at : Past → Moment
moment_at past = record { inputs = length (inputs past); time = clock past }

-- ---- dirty pixels at a look

-- a window's dirty pixels as they are kept
abbrev pub seen_as : DirtyWindow → SeenWindow
seen_as d = record { window = d.window; region = d.update.area }

-- those of the windows of t
abbrev pub seen_of : List KeptWindow → ℕ → List DirtyWindow → List SeenWindow
seen_of ws t ds = map seen_as (filter (λ d. thread_in ws d.window.0 == t) ds)

-- what is kept of a window
abbrev pub seen_entry : List SeenWindow → ℕ → Option SeenWindow
seen_entry seen w = find (λ s. s.window.0 == w) seen

abbrev pub seen_region : SeenWindow → List Rect
seen_region s = s.region

-- whether a pixel was dirty for a window
abbrev pub was_seen : List SeenWindow → ℕ → Point → Bool
was_seen seen w p = told_has (option_map seen_region (seen_entry seen w)) p

-- the pixels that were dirty for windows of t at a past
abbrev pub IsSeenAt : Setup → Past → ℕ → List SeenWindow → Type 0
IsSeenAt setup look t seen = (w : ℕ) (p : Point) → was_seen seen w p ≡ ((thread_of look w == t) && is_dirty setup look w p)

-- all pixels of a region are among those of another, if there is one
abbrev pub IsWithin : List Rect → Option (List Rect) → Type 0
IsWithin rs other = (p : Point) → region_has rs p ≡ true → told_has other p ≡ true

-- all dirty pixels of a window of t were dirty then
abbrev pub IsCovered : List KeptWindow → ℕ → List SeenWindow → DirtyWindow → Type 0
IsCovered ws t seen d = thread_in ws d.window.0 ≡ t → IsWithin d.update.area (option_map seen_region (seen_entry seen d.window.0))

-- ---- a thread's look

-- how far the past had come, and the pixels that were dirty
pub record LookView : Type 0 where
  pub at : Moment
  pub seen : List SeenWindow

-- a look
abbrev pub look_at : Moment → List SeenWindow → LookView
look_at at seen = record { at = at; seen = seen }

-- before the first one
abbrev pub first_look : LookView
first_look = look_at (moment_at []) []

-- what an entry leaves of t's look
abbrev pub look_after : ℕ → Entry → Moment → List SeenWindow → LookView → LookView
look_after t e m seen k = if is_refused e then k else if is_look e.call && (e.who.0 == t) then look_at m seen else k

-- each thread's look is changed so; threads are numbered from 1
pub record EachLook (change : ℕ → LookView → LookView) (old new : List LookView) : Type 0 where
  pub same_length : length new ≡ length old
  pub at : (i : ℕ) (d : LookView) → i < length old → slice_index_or new i d ≡ change (i + 1) (slice_index_or old i d)

-- what is kept is what there was for t at a past
pub record IsLookAt (setup : Setup) (look : Past) (t : ℕ) (k : LookView) : Type 0 where
  pub at : k.at ≡ moment_at look
  pub seen : IsSeenAt setup look t k.seen

-- what is kept of each thread is what there was at its last look
pub record AreLooksAt (setup : Setup) (past : Past) (ks : List LookView) : Type 0 where
  pub count : length ks ≡ setup.threads
  pub each : (i : ℕ) (d : LookView) → i < length ks → IsLookAt setup (last_look past (i + 1)) (i + 1) (slice_index_or ks i d)
