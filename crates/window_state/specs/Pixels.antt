-- The window of a title, and the window that owns a pixel, as the tables of windows and of the z-order have them.
use Rattle.std.specs.Prelude.{if◌then◌else◌, ℕ, zero, suc, ◌==◌, Bool, false, ◌&&◌, pos, ◌-ℤ◌, List, length, reverse, find, Option, Some, None}
use Rattle.win_num.specs.declared.message.Hwnd.{Hwnd}
use Rattle.win_num.specs.declared.names.TheConstants.{WS_VISIBLE}
use Rattle.win_num.specs.declared.shapes.Point.{Point}
use Rattle.win_num.specs.PixelSets.{box, has_pixel}
use Rattle.win_num.specs.Rects.{box_in}
use Rattle.win_order.specs.Layers.{Layers, siblings_of}
use Rattle.win_rows.specs.declared.window.Window.{Window}
use Rattle.win_rows.specs.Windows.{nobody, window_of}
use Rattle.user_model.specs.Windows.{has_flag}
use Rattle.user_model.specs.Pixels.{point}

-- whether w is a window of the table, of this title
abbrev pub has_title_in : List Window → ℕ → Hwnd → Bool
has_title_in ws title w = elim (window_of ws w.0) [ None ↦ false | Some x ↦ x.row.title == title ]

-- the highest top-level window of the title
abbrev pub titled_in : List Window → Layers → ℕ → Option Hwnd
titled_in ws z title = find (has_title_in ws title) (reverse (siblings_of 0 z))

-- whether w has WS_VISIBLE and has the point, which is counted from the left top corner of its parent
abbrev pub covers_in : List Window → Point → Hwnd → Bool
covers_in ws p w = elim (window_of ws w.0) [ None ↦ false | Some x ↦ has_flag x.row.style WS_VISIBLE && has_pixel (box_in x.row.place) p ]

-- the highest child of w, or for 0 top-level window, that has the point, which is counted from the left top corner of w
abbrev pub highest_in : List Window → Layers → Point → ℕ → Option Hwnd
highest_in ws z p w = find (covers_in ws p) (reverse (siblings_of w z))

-- the point, counted from the left top corner of w in the place of that of its parent
abbrev pub inside_of : List Window → Point → Hwnd → Point
inside_of ws p w = elim (window_of ws w.0) [ None ↦ p | Some x ↦ point (p.x -ℤ x.row.place.l) (p.y -ℤ x.row.place.t) ]

-- from w down to the highest child that has the point, until none has it
abbrev pub deepest_in : ℕ → List Window → Layers → Point → Hwnd → Hwnd
deepest_in zero ws z p w = w
deepest_in (suc n) ws z p w = elim (highest_in ws z p w.0) [ Some v ↦ deepest_in n ws z (inside_of ws p v) v | None ↦ w ]

-- the window that owns the pixel of a screen of this width and height, or 0
abbrev pub owner_in : List Window → Layers → ℕ → ℕ → Point → Hwnd
owner_in ws z width height p = if has_pixel (box (pos 0) (pos 0) (pos width) (pos height)) p then deepest_in (length ws) ws z p nobody else nobody
