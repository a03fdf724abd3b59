-- Who stands above whom. A number bounds each walk up: what stands above a window is older, so of a
-- lesser number.
use Rattle.std.specs.Prelude.{◌≡◌, nat_le, if◌then◌else◌, ℕ, zero, suc, ◌==◌, Bool, true, false, not, ◌&&◌, ◌||◌, List, [], ◌∷◌, ◌++◌, map, length, Option, Some, None, bit_and}
use Rattle.std.specs.List.{filter, list_any}
use Rattle.win_num.specs.declared.message.Hwnd.{Hwnd}
use Rattle.win_num.specs.declared.code.Code.{Code}
use Rattle.win_num.specs.declared.code.Fault.{Fault}
use Rattle.win_num.specs.declared.code.Fault.TheVariants.{Refused, Memory}
use Rattle.win_num.specs.declared.code.Code.TheVariants.{Win, Full}
use Rattle.win_num.specs.declared.names.TheConstants.{WS_CHILD}
use Rattle.win_rows.specs.declared.row.WindowRow.{WindowRow}
use Rattle.win_rows.specs.declared.window.Window.{Window}
use Rattle.win_rows.specs.Windows.{Windows, nobody, made, number_of, window_of, is_live, is_marked, is_ended, up, marked_also}

-- what the window stands under or is owned by, or 0
abbrev pub above : List Window → ℕ → Hwnd
above ws w = elim (window_of ws w) [ Some x ↦ up x | None ↦ nobody ]

-- the parent of the window, or 0
abbrev pub parent_of : List Window → ℕ → Hwnd
parent_of ws w = elim (window_of ws w) [ Some x ↦ x.row.parent | None ↦ nobody ]

-- w is v, or what stands above w is of v's kin
abbrev pub kin_within : ℕ → List Window → ℕ → ℕ → Bool
kin_within zero ws v w = false
kin_within (suc n) ws v w = elim (w == 0) [ true ↦ false | false ↦ elim (w == v) [ true ↦ true | false ↦ kin_within n ws v (above ws w).0 ] ]

-- whether w is v, or stands below v or is owned by it, by however many steps
abbrev pub is_kin : List Window → ℕ → ℕ → Bool
is_kin ws v w = kin_within w ws v w

-- whether w is the window's parent or owner
abbrev pub is_under : ℕ → Window → Bool
is_under w x = (x.row.parent.0 == w) || (x.row.owner.0 == w)

-- whether nothing stands directly below w or is owned by it
abbrev pub is_alone : List Window → ℕ → Bool
is_alone ws w = not (w == 0) && not (list_any (is_under w) ws)

-- the numbers of those of us that are of w's kin in ws
abbrev pub kin_of : List Window → List Window → ℕ → List Hwnd
kin_of ws us w = map number_of (filter (λ x. is_kin ws w x.number.0) us)

-- whether x is w, or stands directly under w or one of these
abbrev pub is_more : List Hwnd → ℕ → Window → Bool
is_more kin w x = (x.number.0 == w) || (((up x).0 == w) || list_any (λ v. v.0 == (up x).0) kin)

-- the windows, those of these numbers marked also
abbrev pub with_marked : List Hwnd → List Window → List Window
with_marked kin ws = map (λ x. marked_also (list_any (λ v. v.0 == x.number.0) kin) x) ws

-- w's parent is v, or stands below v
abbrev pub below_within : ℕ → List Window → ℕ → ℕ → Bool
below_within zero ws v w = false
below_within (suc n) ws v w = let p = (parent_of ws w).0 in elim (p == 0) [ true ↦ false | false ↦ elim (p == v) [ true ↦ true | false ↦ below_within n ws v p ] ]

-- whether w is a child of v, or of such a child, and so on
abbrev pub is_below : List Window → ℕ → ℕ → Bool
is_below ws v w = below_within w ws v w

-- w where it has no parent, else the top of its parent
abbrev pub top_within : ℕ → List Window → Hwnd → Hwnd
top_within zero ws w = w
top_within (suc n) ws w = elim ((parent_of ws w.0).0 == 0) [ true ↦ w | false ↦ top_within n ws (parent_of ws w.0) ]

-- the top-level ancestor of w
abbrev pub top_of : List Window → Hwnd → Hwnd
top_of ws w = top_within w.0 ws w

-- whether the style makes a child
abbrev pub makes_child : ℕ → Bool
makes_child style = not (bit_and style WS_CHILD == 0)

-- whether it can't be a parent or an owner: it isn't 0, and not live or marked
abbrev pub is_bad : List Window → ℕ → Bool
is_bad ws w = not (w == 0) && (not (is_live ws w) || is_marked ws w)

-- why a window can't be made
abbrev pub refusal : Windows → WindowRow → Option Code
refusal t row =
    if is_bad t.live row.parent.0 || is_bad t.live row.owner.0
    then Some (Win 1400)
    else (if makes_child row.style && (row.parent.0 == 0)
    then Some (Win 1406)
    else (if nat_le 1024 (length t.live) || (t.last == 4294967295) then Some Full else None))

-- the row that is kept: a child has no owner, and an owner that is a child is replaced by its top-level
-- ancestor
abbrev pub settled : List Window → WindowRow → WindowRow
settled ws row = record row { owner = if row.parent.0 == 0 then top_of ws row.owner else nobody }

-- the number of the next window
abbrev pub next_number : Windows → Hwnd
next_number t = record { 0 = suc t.last }

-- with a new window
abbrev pub with_window : Windows → WindowRow → Windows
with_window t row = record { last = suc t.last; live = t.live ++ made (next_number t) (settled t.live row) ∷ [] }

-- the window, marked also if it is of w's kin
abbrev pub doomed_if : List Window → ℕ → Window → Window
doomed_if ws w x = marked_also (is_kin ws w x.number.0) x

-- with w and its kin marked
abbrev pub doomed : List Window → ℕ → List Window
doomed ws w = map (doomed_if ws w) ws

-- why a window can't be doomed
abbrev pub doom_refusal : List Window → ℕ → Option Code
doom_refusal ws w = if is_live ws w && not (is_marked ws w) then None else Some (Win 1400)

-- without w and its kin
abbrev pub dropped : List Window → ℕ → List Window
dropped ws w = filter (λ x. not (is_kin ws w x.number.0)) ws

-- without the windows of a thread
abbrev pub without_thread : List Window → ℕ → List Window
without_thread ws t = filter (λ x. not (x.row.thread.0 == t)) ws

-- whether w is a window of another thread
abbrev pub is_of_other : List Window → ℕ → ℕ → Bool
is_of_other ws t w = elim (window_of ws w) [ Some x ↦ not (x.row.thread.0 == t) | None ↦ false ]

-- whether a window has the class
abbrev pub has_class : List Window → ℕ → Bool
has_class ws class = list_any (λ x. x.row.class == class) ws

-- why a window can't be dropped
abbrev pub drop_refusal : List Window → ℕ → Option Code
drop_refusal ws w = if is_live ws w then (if is_ended ws w then None else Some (Win 87)) else Some (Win 1400)

-- the fault is the refusal that there is; want of memory comes only where there is none
abbrev pub IsFaultFor : Option Code → Fault → Type 0
IsFaultFor refusal (Refused code) = refusal ≡ Some code
IsFaultFor refusal Memory = refusal ≡ None
