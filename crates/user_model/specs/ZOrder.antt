-- The z-order: the lists of siblings, from the bottom to the top.
use Rattle.std.specs.Prelude.{if◌then◌else◌, ℕ, zero, suc, ◌==◌, Bool, true, false, not, ◌&&◌, ℤ, pos, negsuc, List, [], ◌∷◌, map, reverse, find, Option, option_map, unwrap_or}
use Rattle.std.specs.List.{filter}
use Rattle.win_num.specs.declared.message.Hwnd.{Hwnd}
use Rattle.win_num.specs.declared.names.TheConstants.{SWP_NOZORDER, WS_EX_TOPMOST}
use Rattle.win_order.specs.declared.after.After.{After}
use Rattle.win_order.specs.declared.after.After.TheVariants.{Bottom, Below, Top, Topmost, NoTopmost}
use Rattle.win_order.specs.Families.{put}
use Rattle.win_order.specs.Layers.{settled}
use Rattle.win_order.specs.Standing.{Standing}
use Rattle.user_model.specs.declared.entry.Answer.{Answer}
use Rattle.user_model.specs.declared.entry.Answer.TheVariants.{Value, Window as WindowMade}
use Rattle.user_model.specs.Past.{Past, is_refused}
use Rattle.user_model.specs.Deeds.{Deed, making, placing, deed}
use Rattle.user_model.specs.Windows.{Window, has_flag, live, window, is_live, parent_in}
use Rattle.user_model.specs.Looks.{ex_of}

-- a window of a number
abbrev pub hwnd : ℕ → Hwnd
hwnd w = record { 0 = w }

-- whether the window has the topmost flag itself
abbrev pub is_pinned : Past → ℕ → Bool
is_pinned past w = ex_of past w == WS_EX_TOPMOST

-- what mending asks of a live window: its parent, its owner and its own topmost flag
abbrev pub standing : Past → Window → Standing
standing past x = record { window = hwnd x.number; parent = hwnd x.parent; owner = hwnd x.owner; topmost = is_pinned past x.number }

-- the same of all live windows, the newest first
abbrev pub standings : Past → List Standing
standings past = reverse (map (standing past) (live past))

-- where AFTER puts a window among its siblings; other numbers below 0 are refused
abbrev pub after_of : ℤ → After
after_of (pos zero) = Top
after_of (pos (suc zero)) = Bottom
after_of (pos (suc (suc n))) = Below (hwnd (suc (suc n)))
after_of (negsuc zero) = Topmost
after_of (negsuc (suc zero)) = NoTopmost
after_of (negsuc (suc (suc n))) = Top

-- the siblings with a window put where AFTER says; top-level windows are then mended: topmost ones come above all others, and owned
-- ones above their owners
abbrev pub arranged : Past → After → ℕ → ℕ → List Hwnd → List Hwnd
arranged past after w p ws = settled (standings past) p (put after (hwnd w) ws)

-- the siblings that are live still
abbrev pub still_live : Past → List Hwnd → List Hwnd
still_live past ws = filter (λ v. is_live past v.0) ws

-- the children of p after a window was made, which comes to the top of its siblings
abbrev pub with_made : Past → ℕ → Answer → List Hwnd → List Hwnd
with_made past p (WindowMade w) ws = if parent_in (live past) w.0 == p then arranged past Top w.0 p ws else ws
with_made past p _ ws = ws

-- the children of p after a window was placed, where a value is answered
abbrev pub with_placed : Past → ℕ → ℕ → ℤ → ℕ → Answer → List Hwnd → List Hwnd
with_placed past p w after flags (Value told) ws = if (parent_in (live past) w == p) && not (has_flag flags SWP_NOZORDER) then arranged past (after_of after) w p ws else ws
with_placed past p w after flags _ ws = ws

-- the children of p after what a call does, from the past with its entry
abbrev pub rearranged : Past → ℕ → Answer → Deed → List Hwnd → List Hwnd
rearranged past p a (making class title parent style ex l t r b) ws = with_made past p a ws
rearranged past p a (placing w after l t r b flags) ws = with_placed past p w after flags a ws
rearranged past p a _ ws = still_live past ws

-- the children of p, or for 0 the top-level windows, from the bottom to the top
abbrev pub siblings : Past → ℕ → List Hwnd
siblings [] p = []
siblings (e ∷ past) p = elim (is_refused e) [ true ↦ siblings past p | false ↦ rearranged (e ∷ past) p e.answer (deed e.call) (siblings past p) ]

-- whether w is a live window of the title
abbrev pub has_title : Past → ℕ → Hwnd → Bool
has_title past title w = unwrap_or (option_map (λ x. x.title == title) (window past w.0)) false

-- the highest top-level window of the title
abbrev pub titled : Past → ℕ → Option Hwnd
titled past title = find (has_title past title) (reverse (siblings past 0))
