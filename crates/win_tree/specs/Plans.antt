-- How far the destruction of a window has come.
use Rattle.std.specs.Prelude.{◌≡◌, ℕ, ◌<◌, ◌≤◌, Bool, true, false, not, ◌||◌, List, map, length, Some, slice_index_or}
use Rattle.std.specs.List.{filter, AllByRecursion}
use Rattle.win_num.specs.declared.message.Hwnd.{Hwnd}
use Rattle.win_rows.specs.declared.row.Unmade.{Unmade}
use Rattle.win_rows.specs.declared.row.Unmade.TheVariants.{Tell, Last, Gone, NotDoomed}
use Rattle.win_tree.specs.declared.plan.Plan.{Plan}
use Rattle.win_rows.specs.declared.window.Window.{Window}
use Rattle.win_rows.specs.Windows.{window_of, is_live, is_told, is_ended}
use Rattle.win_rows.specs.Destruction.{answer_of, destruction_of}

-- whether the step is of a live window
abbrev pub is_open : List Window → Unmade → Bool
is_open ws (Tell w) = is_live ws w.0
is_open ws (Last w) = is_live ws w.0
is_open ws Gone = false
is_open ws NotDoomed = false

-- whether the step was given, or its window has gone
abbrev pub is_given : List Window → Unmade → Bool
is_given ws (Tell w) = not (is_live ws w.0) || is_told ws w.0
is_given ws (Last w) = not (is_live ws w.0) || is_ended ws w.0
is_given ws Gone = true
is_given ws NotDoomed = true

-- the first n steps were given, or their windows have gone
abbrev pub AllGiven : List Window → List Unmade → ℕ → Type 0
AllGiven ws steps n = (k : ℕ) → k < n → k < length steps → is_given ws (slice_index_or steps k Gone) ≡ true

-- the steps before n were given, and the one there wasn't
pub record IsReached (ws : List Window) (steps : List Unmade) (n : ℕ) : Type 0 where
  pub within : n ≤ length steps
  pub before : AllGiven ws steps n
  pub here : n < length steps → is_given ws (slice_index_or steps n Gone) ≡ false

-- the plan at i is that of w
pub record HasPlan (plans : List Plan) (w : Hwnd) (i : ℕ) : Type 0 where
  pub within : i < length plans
  pub same : (p : Plan) → p ≡ slice_index_or plans i p → p.root ≡ w

-- but for steps of windows that have gone the plan has those of its root's destruction in their order, and
-- those before its next were given
pub record IsPlan (ws : List Window) (p : Plan) : Type 0 where
  pub order : (x : Window) → window_of ws p.root.0 ≡ Some x → filter (is_open ws) p.steps.items ≡ map answer_of (destruction_of ws x)
  pub given : AllGiven ws p.steps.items p.next

-- the owner is older
abbrev pub HasOlderOwner : Window → Type 0
HasOlderOwner x = x.row.owner.0 < x.number.0

-- each window's owner is older than it, and each plan is one of these windows
pub record EachPlan (ws : List Window) (plans : List Plan) : Type 0 where
  pub owners : AllByRecursion HasOlderOwner ws
  pub each : AllByRecursion (IsPlan ws) plans
