-- Windows: which are live, with their fields, and who stands above whom.
use Rattle.std.specs.Prelude.{if◌then◌else◌, ℕ, zero, suc, ◌==◌, nat_lt, Bool, true, false, not, ◌&&◌, ◌||◌, List, [], ◌∷◌, ◌++◌, filter, find, Option, unwrap_or, option_map, bit_and, is_some}
use Rattle.win_num.specs.declared.names.TheConstants.{WS_CHILD}
use Rattle.user_model.specs.declared.call.Call.{Call}
use Rattle.user_model.specs.declared.call.Call.TheVariants.{Drop}
use Rattle.user_model.specs.declared.entry.Entry.{Entry}
use Rattle.user_model.specs.declared.entry.Answer.{Answer}
use Rattle.user_model.specs.declared.entry.Answer.TheVariants.{Window as WindowMade}
use Rattle.user_model.specs.Past.{Past, is_refused, each_of}
use Rattle.user_model.specs.Deeds.{Deed, making, deed}
use Rattle.user_model.specs.Places.{ends_thread}

-- whether the flags have the bits
abbrev pub has_flag : ℕ → ℕ → Bool
has_flag flags bits = bit_and flags bits == bits

-- a window as it was made, as far as that stays
pub record Window : Type 0 where
  pub number : ℕ
  pub thread : ℕ
  pub class : ℕ
  pub title : ℕ
  pub parent : ℕ
  pub owner : ℕ

-- the window of a number among these
abbrev pub find_window : List Window → ℕ → Option Window
find_window ws w = find (λ x. x.number == w) ws

-- the parent of a child, else the owner, or 0
abbrev pub up : Window → ℕ
up x = if x.parent == 0 then x.owner else x.parent

-- what the window stands under or is owned by, or 0
abbrev pub above : List Window → ℕ → ℕ
above ws w = unwrap_or (option_map up (find_window ws w)) 0

-- the parent of the window, or 0
abbrev pub parent_in : List Window → ℕ → ℕ
parent_in ws w = unwrap_or (option_map (λ x. x.parent) (find_window ws w)) 0

-- w is v, or what stands above w is of v's kin; what stands above a window has a lesser number, which bounds the walk
abbrev pub kin_within : ℕ → List Window → ℕ → ℕ → Bool
kin_within zero ws v w = false
kin_within (suc n) ws v w = elim (w == 0) [ true ↦ false | false ↦ elim (w == v) [ true ↦ true | false ↦ kin_within n ws v (above ws w) ] ]

-- w is v, or stands below v or is owned by it, by however many steps
abbrev pub is_kin : List Window → ℕ → ℕ → Bool
is_kin ws v w = kin_within w ws v w

-- w's parent is v, or stands below v
abbrev pub below_within : ℕ → List Window → ℕ → ℕ → Bool
below_within zero ws v w = false
below_within (suc n) ws v w = let p = parent_in ws w in elim (p == 0) [ true ↦ false | false ↦ elim (p == v) [ true ↦ true | false ↦ below_within n ws v p ] ]

-- w is a child of v, or of such a child, and so on
abbrev pub is_below : List Window → ℕ → ℕ → Bool
is_below ws v w = below_within w ws v w

-- w where it has no parent, else the top of its parent
abbrev pub top_within : ℕ → List Window → ℕ → ℕ
top_within zero ws w = w
top_within (suc n) ws w = elim (parent_in ws w == 0) [ true ↦ w | false ↦ top_within n ws (parent_in ws w) ]

-- the top-level ancestor
abbrev pub top_of : List Window → ℕ → ℕ
top_of ws w = top_within w ws w

-- the window that is made, among the windows that are live; an owner that is a child is replaced by its top-level ancestor
abbrev pub made_as : ℕ → Answer → Deed → List Window → List Window
made_as who (WindowMade w) (making class title parent style ex l t r b) ws = let child = has_flag style WS_CHILD in record { number = w.0; thread = who; class = class; title = title; parent = (if child then parent else 0); owner = (if child then 0 else top_of ws parent) } ∷ []
made_as who _ _ ws = []

-- the window that a call makes
abbrev pub made_by : ℕ → Answer → Call → List Window → List Window
made_by who a call ws = made_as who a (deed call) ws

-- whether a call drops the window, with its kin
abbrev pub drops_kin : Call → List Window → Window → Bool
drops_kin (Drop v) ws x = is_kin ws v x.number
drops_kin _ ws x = false

-- whether an entry drops the window, with its kin or with its thread, where these are live
abbrev pub drops : Entry → List Window → Window → Bool
drops e ws x = drops_kin e.call ws x || ends_thread e x.thread

-- the live windows: those that were made and not dropped, by rising number
abbrev pub live : Past → List Window
live [] = []
live (e ∷ past) = elim (is_refused e) [ true ↦ live past | false ↦ filter (λ x. not (drops e (live past) x)) (live past) ++ made_by e.who.0 e.answer e.call (live past) ]

-- the live window of a number
abbrev pub window : Past → ℕ → Option Window
window past w = find_window (live past) w

-- whether w is a live window
abbrev pub is_live : Past → ℕ → Bool
is_live past w = is_some (window past w)

-- the thread of a window, or 0
abbrev pub thread_of : Past → ℕ → ℕ
thread_of past w = unwrap_or (option_map (λ x. x.thread) (window past w)) 0

-- whether the entry drops the live window of this number
abbrev pub drops_window : Entry → Past → ℕ → Bool
drops_window e past w = unwrap_or (option_map (drops e (live past)) (window past w)) false

-- the number that an answer gives a window
abbrev pub number_of_window : Answer → List ℕ
number_of_window (WindowMade w) = w.0 ∷ []
number_of_window _ = []

-- the number that is given where a window is made
abbrev pub numbers_as : Answer → Deed → List ℕ
numbers_as a (making class title parent style ex l t r b) = number_of_window a
numbers_as a _ = []

-- the numbers that a new window's call gives
abbrev pub numbers_made : Answer → Call → List ℕ
numbers_made a call = numbers_as a (deed call)

-- the numbers of all windows that were ever made, in order
abbrev pub windows_made : Past → List ℕ
windows_made past = each_of (λ e before. numbers_made e.answer e.call) past

-- the live window with this parent, or of top-level windows for 0, of least number above v
abbrev pub next_child : Past → ℕ → ℕ → Option Window
next_child past parent v = find (λ x. (x.parent == parent) && nat_lt v x.number) (live past)
