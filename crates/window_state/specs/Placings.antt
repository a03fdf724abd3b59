-- Placings and looks of the code as the definitions have them.
use Rattle.std.specs.Prelude.{ℕ, ℤ, Bool, false, List, Some, None}
use Rattle.win_num.specs.declared.names.TheConstants.{WS_DISABLED, WS_VISIBLE}
use Rattle.win_rows.specs.declared.window.Window.{Window}
use Rattle.win_rows.specs.Windows.{window_of}
use Rattle.win_num.specs.PixelSets.{Box, box}
use Rattle.win_num.specs.Rects.{box_in}
use Rattle.user_model.specs.Windows.{has_flag}
use Rattle.user_model.specs.Looks.{Look, look_of, placed}
use Rattle.user_model.specs.ReplyWindows.{changes_told}
use Rattle.window_state.specs.Trees.{look_in}
use Rattle.window_state.specs.declared.looks.Edges.{Edges}
use Rattle.window_state.specs.declared.looks.Look.{Look as ToldLook}

-- the rectangle with these edges
abbrev pub box_of : Edges → Box
box_of e = box e.l e.t e.r e.b

-- a look that is told
abbrev pub look_told : ToldLook → Look
look_told x = look_of x.style x.ex (box_in x.place)

-- the style bits of a window of the table, or 0
abbrev pub style_in : List Window → ℕ → ℕ
style_in ws w = elim (window_of ws w) [ None ↦ 0 | Some x ↦ x.row.style ]

-- whether a window of the table has WS_VISIBLE
abbrev pub shown_in : List Window → ℕ → Bool
shown_in ws w = elim (window_of ws w) [ None ↦ false | Some x ↦ has_flag x.row.style WS_VISIBLE ]

-- whether a window of the table has WS_DISABLED
abbrev pub disabled_in : List Window → ℕ → Bool
disabled_in ws w = elim (window_of ws w) [ None ↦ false | Some x ↦ has_flag x.row.style WS_DISABLED ]

-- what a placing would change of a window of the table
abbrev pub changes_in : List Window → ℕ → ℕ → ℤ → Box → ℕ
changes_in ws w flags after new = elim (window_of ws w) [ None ↦ 0 | Some x ↦ changes_told (look_in x.row) (placed flags after new (look_in x.row)) ]
