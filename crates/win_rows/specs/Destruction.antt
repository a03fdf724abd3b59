-- The order of destruction.
use Rattle.std.specs.Prelude.{if◌then◌else◌, ℕ, zero, suc, ◌==◌, Bool, not, List, [], ◌∷◌, ◌++◌, map, length, Some, None, find}
use Rattle.std.specs.List.{filter, flat_map}
use Rattle.win_rows.specs.declared.row.Unmade.{Unmade}
use Rattle.win_rows.specs.declared.row.Unmade.TheVariants.{Tell, Last, Gone, NotDoomed}
use Rattle.win_rows.specs.declared.window.Window.{Window}
use Rattle.win_rows.specs.Windows.{window_of, told_if, ended_if}

-- the windows that x owns, by number
abbrev pub owned_by : List Window → Window → List Window
owned_by ws x = filter (λ y. y.row.owner.0 == x.number.0) ws

-- the children of x, by number
abbrev pub children_of : List Window → Window → List Window
children_of ws x = filter (λ y. y.row.parent.0 == x.number.0) ws

-- a step of a destruction
pub data Step : Type 0 where
  told : Window → Step
  ended : Window → Step

-- x's subtree, each window before its children; n bounds the depth
abbrev pub preorder : ℕ → List Window → Window → List Window
preorder zero ws x = []
preorder (suc n) ws x = x ∷ flat_map (preorder n ws) (children_of ws x)

-- x's subtree, each window after its children
abbrev pub postorder : ℕ → List Window → Window → List Window
postorder zero ws x = []
postorder (suc n) ws x = flat_map (postorder n ws) (children_of ws x) ++ x ∷ []

-- the order of destruction: that of each window that x owns; then x's subtree is told; then it ends
abbrev pub destruction : ℕ → List Window → Window → List Step
destruction zero ws x = []
destruction (suc n) ws x = flat_map (destruction n ws) (owned_by ws x) ++ (map told (preorder (suc n) ws x) ++ map ended (postorder (suc n) ws x))

-- the order of x's destruction
abbrev pub destruction_of : List Window → Window → List Step
destruction_of ws x = destruction (length ws) ws x

-- whether the window wasn't told
abbrev pub is_untold : Window → Bool
is_untold x = not x.told

-- whether the window didn't get its last message
abbrev pub is_unended : Window → Bool
is_unended x = not x.ended

-- whether the step wasn't given
abbrev pub is_left : Step → Bool
is_left (told x) = is_untold x
is_left (ended x) = is_unended x

-- what is answered for a step
abbrev pub answer_of : Step → Unmade
answer_of (told x) = Tell x.number
answer_of (ended x) = Last x.number

-- the first step of x's destruction that wasn't given; x's last message once none is left
abbrev pub next_step : List Window → Window → Unmade
next_step ws x = elim (find is_left (destruction_of ws x)) [ Some step ↦ answer_of step | None ↦ Last x.number ]

-- what is answered for w
abbrev pub unmade : List Window → ℕ → Unmade
unmade ws w = elim (window_of ws w) [ None ↦ Gone | Some x ↦ if x.marked then next_step ws x else NotDoomed ]

-- the windows with what was answered given
abbrev pub given : Unmade → List Window → List Window
given (Tell w) ws = map (told_if w.0) ws
given (Last w) ws = map (ended_if w.0) ws
given Gone ws = ws
given NotDoomed ws = ws
