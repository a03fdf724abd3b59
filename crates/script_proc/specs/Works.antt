-- How much is left to do before the next call, and what a step is.
use Rattle.std.specs.Prelude.{◌≡◌, ◌<◌, ℕ, zero, suc, ◌+◌, ◌-◌, ◌==◌, if◌then◌else◌, List, [], ◌∷◌, ◌++◌, length}
use Rattle.std.specs.List.{fold}
use Rattle.script_tree.specs.declared.statement.Statement.{Statement}
use Rattle.script_tree.specs.declared.statement.Statement.TheVariants.{Default}
use Rattle.script_tree.specs.Tree.{Tree}
use Rattle.script_tree.specs.declared.variables.Variables.{Variables}
use Rattle.script_tree.specs.Pieces.{Piece, Lines, PassEnd, State, Going, Becomes}
use Rattle.script_tree.specs.Steps.{statement}
use Rattle.script_tree.specs.Weights.{steps_left}
use Rattle.script_proc.specs.declared.item.Item.{Item}
use Rattle.script_proc.specs.declared.item.Item.TheVariants.{At, Once, PassEnd as PassEndItem, Running}
use Rattle.script_proc.specs.declared.program.Program.{Program}
use Rattle.script_proc.specs.declared.program.Line.{Line}
use Rattle.script_proc.specs.Programs.{IsProgramOf, IsCompound, Says}
use Rattle.script_proc.specs.Items.{piece, above, Covers, AllCover, ArePlain, Keeps}

-- so many statements
abbrev pub statements : ℕ → List Statement
statements zero = []
statements (suc n) = Default ∷ statements n

-- a script that says nothing
abbrev pub no_tree : Tree
no_tree = record { width = 0; height = 0; budget = 0; order = []; names = []; procedures = []; threads = [] }

-- a piece that takes as many steps as an item at most, where the program has so many lines: one statement for each line
abbrev pub as_long : ℕ → ℕ → Item → Piece
as_long size n (At at) = Lines (statements (size - at))
as_long size n (Once at) = Lines (statements (size - at))
as_long size n (PassEndItem at began) = if n == began then PassEnd Default began else Lines (statements (size - at + 1))
as_long size n (Running run) = Lines (statements (size + 2))
as_long size n item = piece item

-- the same for items, the last of them next
abbrev pub all_long : ℕ → ℕ → List Item → List Piece
all_long size n items = fold (λ ps item. as_long size n item ∷ ps) [] items

-- at most so many steps before the next call
abbrev pub work : ℕ → ℕ → List Item → State → ℕ
work size n items st = steps_left no_tree n (all_long size n items) st

-- what an item does: whatever pieces it stood for, the few items stand for pieces whose traces those have, with any pieces behind both; and fewer steps are left
pub record Moves (p : Program) (n : ℕ) (item : Item) (st : State) (few : List Item) (st' : State) : Type 0 where
  pub keeps : (s : Tree) → IsProgramOf s p → (qs left : List Piece) → Covers p item qs → (rs : List Piece) × AllCover p few rs × Keeps s (qs ++ left) st (rs ++ left) st' n
  pub fewer : (left : List Piece) → steps_left no_tree n (all_long (length p.lines.items) n few ++ left) st' < steps_left no_tree n (as_long (length p.lines.items) n item ∷ left) st

-- the last item did what it does: a few others came in its place
pub record Steps (p : Program) (n : ℕ) (items : List Item) (st : State) (items' : List Item) (st' : State) : Type 0 where
  pub below : List Item
  pub item : Item
  pub few : List Item
  pub last : items ≡ below ++ item ∷ []
  pub put : items' ≡ below ++ few
  pub moves : Moves p n item st few st'

-- that holds of the last item
abbrev pub Last : List Item → (Item → Type 0) → Type 0
Last items P = (below : List Item) (item : Item) → items ≡ below ++ item ∷ [] → P item

-- over the items below came the place behind the line, and what its compound begins with
abbrev pub Puts : Line → ℕ → Variables → List Item → List Item → Type 0
Puts line at v below items' = (few : List Item) × (items' ≡ below ++ At (at + 1) ∷ few) × ArePlain few × ((line' : Statement) (n : ℕ) → IsCompound line → Says line line' → Becomes (above few) (Going v) ≡ statement line' v n)
