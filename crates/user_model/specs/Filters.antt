-- Which messages a filter lets pass.
use Rattle.std.specs.Prelude.{ℕ, ◌==◌, Bool, not, ◌&&◌, ◌||◌}
use Rattle.win_num.specs.declared.message.Filter.{Filter}
use Rattle.win_num.specs.Numbers.{passes_range}
use Rattle.win_num.specs.declared.names.TheConstants.{NO_WINDOW, WM_QUIT}
use Rattle.user_model.specs.Past.{Past}
use Rattle.user_model.specs.Windows.{live, is_live, thread_of, is_below}

-- a filter from its parts
abbrev pub filter_of : ℕ → ℕ → ℕ → Filter
filter_of w min max = record { hwnd = w; min = min; max = max }

-- a filter's window is none, minus one, or a live window of the caller
abbrev pub is_no_filter_window : Past → ℕ → ℕ → Bool
is_no_filter_window past who w = not ((w == 0) || (w == NO_WINDOW) || is_live past w && (thread_of past w == who))

-- 0 lets all windows pass, minus one what has no window, and a live window itself and its descendants
abbrev pub passes_window : Past → ℕ → ℕ → Bool
passes_window past wanted w = (wanted == 0) || (wanted == NO_WINDOW) && (w == 0) || is_live past wanted && ((w == wanted) || is_below (live past) wanted w)

-- a posted message passes by its window and number; a posted WM_QUIT passes every range
abbrev pub passes_posted : Past → Filter → ℕ → ℕ → Bool
passes_posted past f w number = (passes_range f.min f.max number || (number == WM_QUIT)) && passes_window past f.hwnd w
