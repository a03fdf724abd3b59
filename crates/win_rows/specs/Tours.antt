-- The walk round a window and all that stands under it: each is entered before them and left after them.
use Rattle.std.specs.Prelude.{◌≡◌, ◌≤◌, ◌-◌, ℕ, zero, suc, ◌==◌, nat_lt, ◌&&◌, Bool, false, List, [], ◌∷◌, ◌++◌, map, Option, Some, None}
use Rattle.std.specs.List.{filter, flat_map}
use Rattle.win_num.specs.declared.message.Hwnd.{Hwnd}
use Rattle.win_rows.specs.declared.links.Link.{Link}
use Rattle.win_rows.specs.declared.tour.Way.{Way}
use Rattle.win_rows.specs.declared.tour.Way.TheVariants.{Enter, Leave}
use Rattle.win_rows.specs.declared.tour.Visit.{Visit}
use Rattle.win_rows.specs.declared.window.Window.{Window}
use Rattle.win_rows.specs.Windows.{window_of, RisesFrom}
use Rattle.win_rows.specs.Destruction.{Step, told, ended, preorder, postorder, is_untold, is_unended}
use Rattle.win_rows.specs.Links.{above_by, under}

-- a visit of x
abbrev pub visit : Way → Window → ℕ → Visit
visit way x d = record { way = way; window = x; depth = d }

-- the walk round x and all that stands under it; n bounds the depth
abbrev pub tour : Link → ℕ → List Window → Window → List Visit
tour link zero ws x = []
tour link (suc n) ws x = visit Enter x (suc n) ∷ (flat_map (tour link n ws) (under link ws x.number.0) ++ visit Leave x (suc n) ∷ [])

-- whether the window stands directly under a and has a number above n
abbrev pub is_past : Link → ℕ → ℕ → Window → Bool
is_past link a n z = ((above_by link z).0 == a) && nat_lt n z.number.0

-- what comes after y was left: the walks round those past it under the same, then that is left, and so on, for k more
abbrev pub later : ℕ → Link → List Window → Window → ℕ → List Visit
later zero link ws y d = []
later (suc k) link ws y d = flat_map (tour link d ws) (filter (is_past link (above_by link y).0 y.number.0) ws) ++ elim (window_of ws (above_by link y).0) [ None ↦ [] | Some z ↦ visit Leave z (suc d) ∷ later k link ws z (suc d) ]

-- the visits from this one on, of a walk that began at depth top
abbrev pub rest : Link → List Window → ℕ → Option Visit → List Visit
rest link ws top None = []
rest link ws top (Some v) = elim v.way [
  | Enter ↦ tour link v.depth ws v.window ++ later (top - v.depth) link ws v.window v.depth
  | Leave ↦ v ∷ later (top - v.depth) link ws v.window v.depth
]

-- a live window is visited, no deeper and no higher than the walk goes
pub record IsVisit (ws : List Window) (top : ℕ) (v : Visit) : Type 0 where
  pub rising : RisesFrom 0 ws
  pub live : window_of ws v.window.number.0 ≡ Some v.window
  pub deep : 1 ≤ v.depth
  pub within : v.depth ≤ top

-- the number of the visited window
abbrev pub visited : Visit → Hwnd
visited v = v.window.number

-- whether the window wasn't told, where it is entered; or didn't get its last message, where it is left
abbrev pub is_due : Way → Visit → Bool
is_due Enter v = elim v.way [ Enter ↦ is_untold v.window | Leave ↦ false ]
is_due Leave v = elim v.way [ Enter ↦ false | Leave ↦ is_unended v.window ]

-- x's subtree is told, then it ends; n bounds the depth
abbrev pub own_steps : ℕ → List Window → Window → List Step
own_steps n ws x = map told (preorder n ws x) ++ map ended (postorder n ws x)

-- the steps of a visit of an owner: its own, where it is left
abbrev pub visit_steps : List Window → Visit → List Step
visit_steps ws v = elim v.way [ Enter ↦ [] | Leave ↦ own_steps v.depth ws v.window ]
