-- The rule of the lock, which holds between any two steps, and what each step tells the seat that makes it.
-- The words are the next ticket, the ticket that is served, and the number of counted entries, each as a 64-bit word. The slot has the state.
use Rattle.std.specs.Prelude.{◌≡◌, ◌≢◌, ◌⊎◌, ℕ, ◌+◌, ◌%◌, ◌^◌, ◌<◌, ◌≤◌, ◌==◌, Bool, true, List, [], ◌∷◌, ◌++◌, map, length, Option, Some, All}
use Rattle.std.specs.List.{IsDistinct}
use mathlib.Core.Option.{some, none}
use lib.ListN.{get_elem?}
use Rattle.atomic_table.specs.Table.{State, Me, Step}
use Rattle.turn_lock.specs.Histories.{Begins, calls_of}
use Rattle.turn_lock.specs.Views.{spent, waiting, served, informed, counting, leaving}
use Rattle.turn_lock.specs.declared.view.View.{View}
use Rattle.turn_lock.specs.declared.view.Member.{Member}
use Rattle.turn_lock.specs.declared.view.Stage.{Stage}
use Rattle.turn_lock.specs.declared.view.Stage.TheVariants.{Away, Waiting, Served, Spent}

-- 1 for a seat that has a ticket
abbrev pub tickets_of : Stage → ℕ
tickets_of Away = 0
tickets_of (Waiting t) = 1
tickets_of (Served b) = 1
tickets_of Spent = 0

-- how many seats have a ticket
abbrev pub tickets_out : {S C A : Type 0} → List (View S C A) → ℕ
tickets_out [] = 0
tickets_out (v ∷ vs) = tickets_of v.stage + tickets_out vs

abbrev pub number_of : {C A : Type 0} → Member C A → ℕ
number_of m = m.number

module _ {S C A : Type 0} (number : C → ℕ) (opening : S) (log : List (C × A)) (views : List (View S C A)) where
  -- a seat that was taken in: what it had seen begins the history, and its own calls are those of its number there
  abbrev pub IsTakenIn : Member C A → Type 0
  IsTakenIn m = (get_elem? views m.number ≡ some spent) × Begins m.seen log × (calls_of number m.number log ≡ m.mine)

  -- what is true of each seat that no other has taken in
  pub record Live (j : ℕ) (v : View S C A) : Type 0 where
    pub named : v.number ≡ j
    pub opened : v.opening ≡ Some opening
    pub seen : Begins v.seen log
    pub mine : calls_of number j log ≡ v.mine
    pub made : j ≡ 0 → v.made ≡ length views
    pub joined : All IsTakenIn v.joined
    pub apart : IsDistinct (λ a b. a == b) (map number_of v.joined)

  module _ (history : S → List (C × A)) (ticket serving : ℕ) (holder : ℕ → ℕ) where
    -- what is true of a seat at each stage of its turn
    abbrev pub Stands : ℕ → View S C A → Stage → Type 0
    Stands j v Away = Live j v
    Stands j v (Waiting t) = Live j v × (serving ≤ t) × (t < ticket) × (holder t ≡ j)
    Stands j v (Served b) = Live j v × (serving < ticket) × (holder serving ≡ j) × (v.kept ≡ history opening ++ log) × (b ≡ true → v.seen ≡ log)
    Stands j v Spent = Unit {0}

abbrev pub IsServing : {S C A : Type 0} → View S C A → Type 0
IsServing {S} {C} {A} v = (b : Bool) × (v.stage ≡ Served b)

module _ {S C A G : Type 0} (history : S → List (C × A)) (setting : S → G) where
  -- the state is at home, and no seat is served
  abbrev pub IsHome : S → List (C × A) → State (Option S) (View S C A) → Type 0
  IsHome opening log s = (x : S) × (s.homes ≡ some (Some x) ∷ []) × (setting x ≡ setting opening) × (history x ≡ history opening ++ log)
      × ((j : ℕ) (v : View S C A) → get_elem? s.views j ≡ some v → ¬ IsServing v)

-- a seat is served, and the state is not at home
abbrev pub IsOut : {S C A : Type 0} → State (Option S) (View S C A) → Type 0
IsOut {S} {C} {A} s = (s.homes ≡ none ∷ []) × (j : ℕ) × (v : View S C A) × (get_elem? s.views j ≡ some v) × IsServing v

pub record Kept {S C A G : Type 0} (history : S → List (C × A)) (setting : S → G) (lawful : G → List (C × A) → Type 0) (number : C → ℕ) (opening : S) (seats : ℕ) (s : State (Option S) (View S C A)) : Type 0 where
  pub log : List (C × A)
  pub ticket : ℕ
  pub serving : ℕ
  pub holder : ℕ → ℕ
  pub words : s.words ≡ (ticket % 2 ^ 64) ∷ (serving % 2 ^ 64) ∷ (length log % 2 ^ 64) ∷ []
  pub out : serving + tickets_out s.views ≡ ticket
  pub few : (length s.views ≤ seats) × (seats < 2 ^ 32)
  pub each : (j : ℕ) (v : View S C A) → get_elem? s.views j ≡ some v → Stands number opening log s.views history ticket serving holder j v v.stage
  pub place : IsHome history setting opening log s ⊎ IsOut s
  pub legal : lawful (setting opening) (history opening ++ log)
  pub numbers : All (λ e. number e.0 < length s.views) log

-- a seat at the table: what it knows, and what it holds
abbrev pub Sat : Type 0 → Type 0 → Type 0 → Type 0
Sat S C A = Me (Option S) (View S C A)

module _ {S C A : Type 0} where
  abbrev pub drew : Step (Option S) → Sat S C A → ℕ → Sat S C A → Type 0
  drew st m n m' = (t : ℕ) × (n ≡ t % 2 ^ 64) × (m' ≡ (waiting t m.0, m.1))

  abbrev pub passed : Step (Option S) → Sat S C A → ℕ → Sat S C A → Type 0
  passed st m n m' = m' ≡ (leaving m.0, [])

  module _ {G : Type 0} (history : S → List (C × A)) (setting : S → G) (lawful : G → List (C × A) → Type 0) where
    -- the state is the seat's own: it has the setting of the opening, and its history is lawful
    abbrev pub Serves : Sat S C A → Sat S C A → Type 0
    Serves m m' = (x : S) × (m' ≡ (served (history x) m.0, (0, Some x) ∷ m.1)) × ((o : S) → m.0.opening ≡ Some o → setting x ≡ setting o) × lawful (setting x) (history x)

    abbrev pub looked : Step (Option S) → Sat S C A → ℕ → Sat S C A → Type 0
    looked st m n m' = (t : ℕ) → m.0.stage ≡ Waiting t → (n ≡ t % 2 ^ 64 → Serves m m') × (n ≢ t % 2 ^ 64 → m' ≡ m)

  module _ (history : S → List (C × A)) (number : C → ℕ) where
    -- log is the whole history since the opening: it begins with what was seen, and has the seat's own calls
    abbrev pub IsWhole : View S C A → S → List (C × A) → Type 0
    IsWhole v o log = (v.kept ≡ history o ++ log) × Begins v.seen log × (calls_of number v.number log ≡ v.mine)

    abbrev pub learned : Step (Option S) → Sat S C A → ℕ → Sat S C A → Type 0
    learned st m n m' = (o : S) → m.0.opening ≡ Some o → (log : List (C × A)) × IsWhole m.0 o log × (m' ≡ (informed log m.0, m.1))

    abbrev pub counted : Step (Option S) → Sat S C A → ℕ → Sat S C A → Type 0
    counted st m n m' = (o x : S) (e : C × A) → m.0.opening ≡ Some o → m.1 ≡ (0, Some x) ∷ [] → history x ≡ m.0.kept ++ e ∷ []
        → (log : List (C × A)) × IsWhole m.0 o log × (m' ≡ (counting log e m.0, m.1))
