-- The rule of the board, which holds between any two steps, and what each step tells the seat that makes it.
-- The one word says the last that was published.
use Rattle.std.specs.Prelude.{◌≡◌, ℕ, Bool, true, false, List, [], ◌∷◌, ◌++◌}
use mathlib.Core.List.{IsPrefix}
use mathlib.Core.Option.{some}
use lib.ListN.{get_elem?}
use Rattle.atomic_table.specs.Table.{State, Me, Step}
use Rattle.status_board.specs.declared.shown.Shown.{Shown}
use Rattle.status_board.specs.declared.known.Known.{Known}
use Rattle.status_board.specs.Lists.{last_of, Counts, longer, word_of, said_by}

-- what a seat knows
abbrev pub known : Bool → List Shown → List Shown → Known
known writes list told = record { writes = writes; list = list; told = told }

-- the writer, before anything was published
abbrev pub first_writer : Known
first_writer = known true [] []

-- a reader that knows of nothing
abbrev pub newcomer : Known
newcomer = known false [] []

-- what is told of what the seat knows
abbrev pub telling : Known → Known
telling v = known false v.list []

-- the seat, which was told what another one knows
abbrev pub hearing : Known → Known → Known
hearing v w = known v.writes v.list w.list

-- what a seat knows begins the whole list; the one writer knows it all
pub record Knows (whole : List Shown) (writer seat : ℕ) (v : Known) : Type 0 where
  pub list : IsPrefix v.list whole
  pub told : IsPrefix v.told whole
  pub one : v.writes ≡ true → seat ≡ writer
  pub all : v.writes ≡ true → v.list ≡ whole

-- there is one list of all that was published, the word says its last, and all know a beginning of it
pub record Kept (s : State ℕ Known) : Type 0 where
  pub whole : List Shown
  pub writer : ℕ
  pub words : s.words ≡ word_of (last_of whole) ∷ []
  pub counts : Counts whole
  pub each : (seat : ℕ) (v : Known) → get_elem? s.views seat ≡ some v → Knows whole writer seat v

-- a seat at the table: what it knows, and that it holds nothing
abbrev pub Sat : Type 0
Sat = Me ℕ Known

-- a list that goes on from what was known, and whose last the word says
abbrev pub Reads : Step ℕ → Sat → ℕ → Sat → Type 0
Reads st m n m' = (m' ≡ (known m.0.writes m'.0.list m.0.told, m.1)) × IsPrefix m.0.list m'.0.list × Counts m'.0.list × (word_of (last_of m'.0.list) ≡ n)

-- the longer of what was known and what was told, which the other begins
abbrev pub Settles : Step ℕ → Sat → ℕ → Sat → Type 0
Settles st m n m' = (m' ≡ (known m.0.writes (longer m.0.list m.0.told) [], m.1)) × IsPrefix m.0.list m'.0.list × IsPrefix m.0.told m'.0.list

-- what the word says was published behind all that was known
abbrev pub Adds : Step ℕ → Sat → ℕ → Sat → Type 0
Adds st m n m' = m' ≡ (known m.0.writes (m.0.list ++ said_by n ∷ []) m.0.told, m.1)
