-- What windows have to share out, on the way from the screen down to the window that owns a pixel.
use Rattle.std.specs.Prelude.{if◌then◌else◌, ◌≡◌, ℕ, ◌+◌, ◌*◌, ◌<◌, ◌≤◌, ◌==◌, Bool, true, false, not, ◌&&◌, pos, ◌+ℤ◌, ◌-ℤ◌, ◌≤ℤ◌, int_lt, List, [], ◌∷◌, length, map, take, drop, Option, Some, None, All, AllPairs, slice_index_or}
use Rattle.std.specs.List.{list_any}
use Rattle.win_num.specs.declared.message.Hwnd.{Hwnd}
use Rattle.win_num.specs.declared.shapes.Point.{Point}
use Rattle.win_num.specs.declared.shapes.Rect.{Rect}
use Rattle.win_order.specs.Layers.{Layers}
use Rattle.win_rows.specs.declared.window.Window.{Window}
use Rattle.win_rows.specs.Windows.{nobody, number_of, window_of}
use Rattle.band_region.specs.Regions.{rect_has, region_has}
use Rattle.user_model.specs.Pixels.{point}
use Rattle.window_state.specs.Pixels.{covers_in, highest_in, inside_of}
use Rattle.screen_owners.specs.declared.covers.Cover.{Cover}
use Rattle.screen_owners.specs.declared.lefts.Left.{Left}
use Rattle.screen_owners.specs.declared.screen.Corner.{Corner}
use Rattle.screen_owners.specs.declared.screen.Part.{Part}
use Rattle.screen_owners.specs.declared.shares.Share.{Share}
use Rattle.screen_owners.specs.Owners.{is_within}

-- the pixel, counted from a corner
abbrev pub seen_from : Corner → Point → Point
seen_from corner p = point (p.x -ℤ corner.x) (p.y -ℤ corner.y)

-- each number up to n has moved the corner by no more than an edge can be
pub record IsNear (n : ℕ) (corner : Corner) : Type 0 where
  pub left : pos 0 ≤ℤ (corner.x +ℤ pos (8388608 * n))
  pub right : corner.x ≤ℤ pos (8388608 * n)
  pub above : pos 0 ≤ℤ (corner.y +ℤ pos (8388608 * n))
  pub below : corner.y ≤ℤ pos (8388608 * n)

-- whether the rectangle, if there is one, has the pixel
abbrev pub part_has : Option Rect → Point → Bool
part_has None p = false
part_has (Some r) p = rect_has r p

-- whether each of two rectangles begins before the other one ends, both ways
abbrev pub overlaps : Rect → Rect → Bool
overlaps a b = (int_lt a.l b.r && int_lt b.l a.r) && (int_lt a.t b.b && int_lt b.t a.b)

-- whether a cover has the pixel
abbrev pub any_covers : List Cover → Point → Bool
any_covers cs p = list_any (λ c. rect_has c.part p) cs

-- the window of the highest cover that has the pixel; the covers go from the bottom to the top
abbrev pub top_at : List Cover → Point → Option Hwnd
top_at [] p = None
top_at (c ∷ cs) p = elim (top_at cs p) [ Some w ↦ Some w | None ↦ if rect_has c.part p then Some c.window else None ]

-- the cover has the pixel exactly where its window covers the point of the parent that is there
abbrev pub IsCoverAt : List Window → Point → Point → Cover → Type 0
IsCoverAt ws q p c = rect_has c.part p ≡ covers_in ws q c.window

-- a child has come above the covers, as far as the pixel goes, where it covers the point of the parent that is there
pub record IsPut (ws : List Window) (w : Hwnd) (q p : Point) (old new : List Cover) : Type 0 where
  pub top : top_at new p ≡ (if covers_in ws q w then Some w else top_at old p)
  pub each : All (IsCoverAt ws q p) old → All (IsCoverAt ws q p) new

-- the covers are those of the visible children of a window with this corner, as far as the pixel goes: the highest that has it is
-- the highest child there
pub record AreCovers (ws : List Window) (z : Layers) (corner : Corner) (w : ℕ) (p : Point) (cs : List Cover) : Type 0 where
  pub top : top_at cs p ≡ highest_in ws z (seen_from corner p) w
  pub each : All (IsCoverAt ws (seen_from corner p) p) cs

-- the cover at the place is the window's, and none above it is
pub record IsLastAt (cs : List Cover) (w : ℕ) (i : ℕ) : Type 0 where
  pub within : i < length cs
  pub window : (c : Cover) → c ≡ slice_index_or cs i c → c.window.0 ≡ w
  pub last : list_any (λ c. c.window.0 == w) (drop (i + 1) cs) ≡ false

-- the way down from the screen to the owner of the pixel comes through a window, at a point counted from its corner
pub data Passes (ws : List Window) (z : Layers) (p : Point) : Hwnd → Point → Type 0 where
  -- it begins with the screen
  begins : Passes ws z p nobody p
  -- it goes on to the highest child that has the point
  goes_on : {v : Hwnd} {q : Point} (w : Hwnd) → Passes ws z p v q → highest_in ws z q v.0 ≡ Some w → Passes ws z p w (inside_of ws q w)

-- v is a live window with w as its parent
pub record IsBelow (ws : List Window) (w v : Hwnd) : Type 0 where
  pub row : Window
  pub live : window_of ws v.0 ≡ Some row
  pub parent : row.row.parent.0 ≡ w.0

-- the corner of a window of the table, from that of its parent
pub record IsMovedBy (ws : List Window) (w : Hwnd) (old new : Corner) : Type 0 where
  pub same : (p : Point) → inside_of ws (seen_from old p) w ≡ seen_from new p
  pub near : (n : ℕ) → IsNear n old → IsNear (n + 1) new

-- what the cover at the place takes of the pixels
abbrev pub IsTaken : List Rect → List Cover → ℕ → List Rect → Type 0
IsTaken whole cs i part = (c : Cover) (p : Point) → c ≡ slice_index_or cs i c → region_has part p ≡ (region_has whole p && rect_has c.part p && not (any_covers (drop (i + 1) cs) p))

-- what the covers from the place on leave of the pixels
pub record IsLeft (whole : List Rect) (cs : List Cover) (l : Left) : Type 0 where
  pub within : l.from ≤ length cs
  pub pixels : (p : Point) → region_has l.region p ≡ (region_has whole p && not (any_covers (drop l.from cs) p))

-- the one at the place has none of the covers up to i taken out
pub record IsOver (ls : List Left) (i j : ℕ) : Type 0 where
  pub within : j < length ls
  pub over : (l : Left) → l ≡ slice_index_or ls j l → i < l.from

-- the window of a share
abbrev pub share_window : Share → Hwnd
share_window s = s.window

-- a share has the pixels of the part of the screen on whose way down its window lies
pub record IsShare (ws : List Window) (z : Layers) (part : Part) (s : Share) : Type 0 where
  pub near : IsNear s.window.0 s.corner
  pub inside : (p : Point) → region_has s.taken p ≡ true → is_within part p ≡ true
  pub passes : (p : Point) → region_has s.taken p ≡ true → Passes ws z p s.window (seen_from s.corner p)
  pub all : (p q : Point) → is_within part p ≡ true → Passes ws z p s.window q → (region_has s.taken p ≡ true) × (q ≡ seen_from s.corner p)
  pub covers : (p : Point) → region_has s.taken p ≡ true → AreCovers ws z s.corner s.window.0 p s.covers.items
  pub lefts : All (IsLeft s.taken s.covers.items) s.lefts.items

-- the share of a window, with the pixels of the part on whose way down it lies
abbrev pub IsShareOf : List Window → Layers → Part → Hwnd → Share → Type 0
IsShareOf ws z part w s = (s.window ≡ w) × IsShare ws z part s

-- the way down to no pixel of the part comes through the window
abbrev pub IsUnreached : List Window → Layers → Part → Hwnd → Type 0
IsUnreached ws z part w = (p q : Point) → is_within part p ≡ true → Passes ws z p w q → ⊥

-- the share at the place is that of the window's parent
pub record IsParentAt (ws : List Window) (ss : List Share) (w : Hwnd) (i : ℕ) : Type 0 where
  pub within : i < length ss
  pub below : (s : Share) → s ≡ slice_index_or ss i s → IsBelow ws s.window w

-- whether one of the shares is that of the window
abbrev pub has_share : List Share → ℕ → Bool
has_share ss w = list_any (λ s. s.window.0 == w) ss

-- no share is that of the parent of w, if w is live
abbrev pub IsParentless : List Window → List Share → Hwnd → Type 0
IsParentless ws ss w = (x : Window) → window_of ws w.0 ≡ Some x → has_share ss x.row.parent.0 ≡ false

-- the window of the one share has a lesser number than that of the other one
abbrev pub IsOlderShare : Share → Share → Type 0
IsOlderShare a b = a.window.0 < b.window.0

-- whether the window is among these
abbrev pub is_one_of : List Hwnd → Hwnd → Bool
is_one_of us w = list_any (λ v. v.0 == w.0) us

-- of these windows, each has its share, by rising number, that the way down to a pixel of the part comes through
pub record AreSharesOf (ws : List Window) (z : Layers) (part : Part) (us : List Hwnd) (ss : List Share) : Type 0 where
  pub each : All (IsShare ws z part) ss
  pub older : AllPairs IsOlderShare ss
  pub among : All (λ s. is_one_of us s.window ≡ true) ss
  pub reached : (w : Hwnd) (p q : Point) → is_one_of us w ≡ true → is_within part p ≡ true → Passes ws z p w q → has_share ss w.0 ≡ true

-- the screen and the live windows
abbrev pub screen_and : List Window → List Hwnd
screen_and ws = nobody ∷ map number_of ws

-- all have their shares
abbrev pub IsSharedOut : List Window → Layers → Part → List Share → Type 0
IsSharedOut ws z part ss = AreSharesOf ws z part (screen_and ws) ss

-- as far as the place
abbrev pub IsSharedUpTo : ℕ → List Window → Layers → Part → List Share → Type 0
IsSharedUpTo k ws z part ss = AreSharesOf ws z part (nobody ∷ take k (map number_of ws)) ss
