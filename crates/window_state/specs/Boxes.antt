-- Corners and rectangles of windows on the screen, as the table of windows has them.
use Rattle.std.specs.Prelude.{◌≡◌, ◌<◌, ◌≤◌, ℕ, zero, suc, ◌==◌, Bool, true, not, pos, List, [], ◌∷◌, map, length, slice_index_or, Some, None}
use Rattle.std.specs.List.{filter, list_any}
use Rattle.win_num.specs.declared.message.Hwnd.{Hwnd}
use Rattle.win_num.specs.declared.shapes.Point.{Point}
use Rattle.win_num.specs.PixelSets.{Box, box, same_box}
use Rattle.win_num.specs.Rects.{box_in}
use Rattle.win_rows.specs.declared.window.Window.{Window}
use Rattle.win_rows.specs.Windows.{Windows, number_of, window_of}
use Rattle.user_model.specs.declared.entry.Entry.{Entry}
use Rattle.user_model.specs.declared.entry.Setup.{Setup}
use Rattle.user_model.specs.Dirty.{moves}
use Rattle.user_model.specs.Legal.{IsLawful}
use Rattle.user_model.specs.Past.{Past}
use Rattle.user_model.specs.Pixels.{point, corner_from, shifted, origin}
use Rattle.user_model.specs.Windows.{is_live}
use Rattle.window_state.specs.Placings.{box_of}
use Rattle.window_state.specs.Trees.{IsTreeAt}
use Rattle.window_state.specs.declared.looks.Edges.{Edges}

-- w's left top corner on the screen, after so many steps up; 0 0 where no window has the number
abbrev pub origin_from : ℕ → List Window → ℕ → Point
origin_from zero ws w = point (pos 0) (pos 0)
origin_from (suc n) ws w = elim (window_of ws w) [ None ↦ point (pos 0) (pos 0) | Some x ↦ corner_from (origin_from n ws x.row.parent.0) (box_in x.row.place) ]

-- w's left top corner on the screen: a parent has a lesser number, which bounds the steps
abbrev pub origin_in : List Window → ℕ → Point
origin_in ws w = origin_from w ws w

-- w's rectangle on the screen; 0 0 0 0 where no window has the number
abbrev pub box_on : List Window → ℕ → Box
box_on ws w = elim (window_of ws w) [ None ↦ box (pos 0) (pos 0) (pos 0) (pos 0) | Some x ↦ shifted (origin_in ws x.row.parent.0) (box_in x.row.place) ]

-- whether w's rectangle on the screen is another in the second list of windows
abbrev pub moved_in : List Window → List Window → ℕ → Bool
moved_in old new w = not (same_box (box_on new w) (box_on old w))

-- the windows of the second list whose rectangle on the screen is another there
abbrev pub moved_of : List Window → List Window → List Hwnd
moved_of old new = filter (λ w. moved_in old new w.0) (map number_of new)

-- the rectangles are those on the screen of the first of some windows of the table, in order
abbrev pub AreBoxes : List Window → List Window → List Edges → Type 0
AreBoxes ws us [] = Unit {0}
AreBoxes ws [] (e ∷ es) = ⊥
AreBoxes ws (x ∷ us) (e ∷ es) = (box_of e ≡ box_on ws x.number.0) × AreBoxes ws us es

-- they are those of all windows of the table
abbrev pub HasBoxes : List Window → List Edges → Type 0
HasBoxes ws es = (length es ≡ length ws) × AreBoxes ws ws es

-- each window from this place on has a greater number than w
abbrev pub IsBefore : List Window → ℕ → ℕ → Type 0
IsBefore ws n w = (k : ℕ) (d : Window) → n ≤ k → k < length ws → w < (slice_index_or ws k d).number.0

-- the point is w's left top corner on the screen, where w is live and a past has made the table
abbrev pub IsOriginAt : Windows → ℕ → Point → Type 0
IsOriginAt t w p = (setup : Setup) (past : Past) → IsLawful setup past → IsTreeAt past t → is_live past w ≡ true → p ≡ origin past w

-- of the windows that are live before an entry and after it, these have another rectangle on the screen after it, where it has made the
-- second table of the first
abbrev pub AreMoved : Windows → Windows → List Hwnd → Type 0
AreMoved old new hs = (setup : Setup) (past : Past) (e : Entry) → IsLawful setup (e ∷ past) → IsTreeAt past old → IsTreeAt (e ∷ past) new → (w : ℕ) → is_live past w ≡ true → is_live (e ∷ past) w ≡ true → list_any (λ h. h.0 == w) hs ≡ moves e past w
