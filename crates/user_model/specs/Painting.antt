-- Which windows are being painted, and which is painted next.
use Rattle.std.specs.Prelude.{ℕ, zero, suc, ◌==◌, Bool, true, false, ◌&&◌, List, [], ◌∷◌, length, reverse, find, Option, None, unwrap_or}
use Rattle.std.specs.List.{flat_map}
use Rattle.win_num.specs.declared.message.Filter.{Filter}
use Rattle.win_num.specs.declared.message.Hwnd.{Hwnd}
use Rattle.win_num.specs.Numbers.{passes_range}
use Rattle.win_num.specs.declared.names.TheConstants.{WM_PAINT}
use Rattle.user_model.specs.declared.call.Call.{Call}
use Rattle.user_model.specs.declared.call.Call.TheVariants.{BeginPaint, EndPaint}
use Rattle.user_model.specs.declared.entry.Setup.{Setup}
use Rattle.user_model.specs.Past.{Past, last_of}
use Rattle.user_model.specs.Windows.{live, thread_of}
use Rattle.user_model.specs.ZOrder.{siblings}
use Rattle.user_model.specs.Filters.{passes_window}
use Rattle.user_model.specs.Dirty.{set_where, has_dirty}

-- whether the call begins to paint w, or ends it
abbrev pub painting_told : Call → ℕ → Option Bool
painting_told (BeginPaint v) w = set_where (v == w) true
painting_told (EndPaint v) w = set_where (v == w) false
painting_told _ w = None

-- whether painting of w was begun and not ended since
abbrev pub is_painting : Past → ℕ → Bool
is_painting past w = unwrap_or (last_of (λ e before. painting_told e.call w) past) false

-- the windows below w, or for 0 all, each before its children, siblings from the top down; n bounds the depth
abbrev pub painted_below : ℕ → Past → ℕ → List Hwnd
painted_below zero past w = []
painted_below (suc n) past w = flat_map (λ v. v ∷ painted_below n past v.0) (reverse (siblings past w))

-- all windows in the order in which they are painted
abbrev pub painting_order : Past → List Hwnd
painting_order past = painted_below (length (live past)) past 0

-- whether w is a window of t with a dirty pixel, and WM_PAINT for it passes
abbrev pub wants_paint : Setup → Past → ℕ → Filter → Hwnd → Bool
wants_paint setup past t f w = (thread_of past w.0 == t) && (passes_range f.min f.max WM_PAINT && passes_window past f.hwnd w.0) && has_dirty setup past w.0

-- the first window of t in painting order that has a dirty pixel and passes
abbrev pub to_paint : Setup → Past → ℕ → Filter → Option Hwnd
to_paint setup past t f = find (wants_paint setup past t f) (painting_order past)
