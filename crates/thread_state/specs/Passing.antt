-- Which messages a filter lets pass, among the windows of a table.
use Rattle.std.specs.Prelude.{◌≡◌, ℕ, ◌==◌, ◌&&◌, ◌||◌, All, Bool, false, List, Option, Some, None}
use Rattle.win_num.specs.declared.message.Msg.{Msg}
use Rattle.win_num.specs.declared.message.Filter.{Filter}
use Rattle.win_num.specs.Numbers.{passes_range}
use Rattle.win_num.specs.declared.names.TheConstants.{NO_WINDOW, WM_QUIT}
use Rattle.post_queue.specs.Queue.{Posted}
use Rattle.win_rows.specs.declared.window.Window.{Window}
use Rattle.win_rows.specs.Windows.{is_live}
use Rattle.win_tree.specs.Kin.{is_below}

-- whether a filter's window lets a window pass, among these
abbrev pub passes_window_in : List Window → ℕ → ℕ → Bool
passes_window_in ws wanted w = (wanted == 0) || (wanted == NO_WINDOW) && (w == 0) || is_live ws wanted && ((w == wanted) || is_below ws wanted w)

-- whether a filter lets a message pass
abbrev pub passes_here : List Window → Filter → Msg → Bool
passes_here ws f msg = (passes_range f.min f.max msg.number || (msg.number == WM_QUIT)) && passes_window_in ws f.hwnd msg.hwnd.0

-- the same of a queued message
abbrev pub passes_in : List Window → Filter → Posted → Bool
passes_in ws f p = passes_here ws f p.msg

-- whether a filter lets a message pass by its number alone
abbrev pub passes_number_here : Filter → Msg → Bool
passes_number_here f msg = passes_range f.min f.max msg.number || (msg.number == WM_QUIT)

-- no queued message has a number that a filter lets pass
abbrev pub IsMissed : Filter → List Posted → Type 0
IsMissed f ps = All (λ p. passes_number_here f p.msg ≡ false) ps

-- the same of a filter that may be none
abbrev pub IsMissedBy : Option Filter → List Posted → Type 0
IsMissedBy None ps = Unit {0}
IsMissedBy (Some f) ps = IsMissed f ps
