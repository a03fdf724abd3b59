-- What contracts say of a lock and of its seats.
use Rattle.std.specs.Prelude.{◌≡◌, ◌⊎◌, ℕ, zero, suc, ◌+◌, ◌<◌, true, List, [], ◌∷◌, ◌++◌, map, Option, Some, None, All, Contains}
use Rattle.atomic_table.specs.Seated.{TableId}
use Rattle.atomic_table.specs.declared.shared.Seat.{Seat}
use Rattle.turn_lock.specs.Histories.{Begins, calls_of}
use Rattle.turn_lock.specs.Views.{informed, served, counting, leaving, member}
use Rattle.turn_lock.specs.declared.view.View.{View}
use Rattle.turn_lock.specs.declared.view.Member.{Member}
use Rattle.turn_lock.specs.declared.view.Stage.TheVariants.{Away, Served}

-- a lock: which table it is, the state that it was opened with, and how many seats it has
pub record Lock (S : Type 0) : Type 0 where
  pub table : TableId
  pub opening : S
  pub seats : ℕ

-- a seat: the table of its lock, the state that the lock was opened with, its number, what it has seen of the history since then, its own calls, and how often it looked
pub record Sitting (S C A : Type 0) : Type 0 where
  pub table : TableId
  pub opening : Option S
  pub number : ℕ
  pub seen : List (C × A)
  pub mine : List (C × A)
  pub looks : ℕ

module _ {S C A : Type 0} where
  abbrev pub sitting : Seat (Option S) (View S C A) → Sitting S C A
  sitting s = record { table = s.table_id; opening = s.me.0.opening; number = s.me.0.number; seen = s.me.0.seen; mine = s.me.0.mine; looks = s.me.0.looks }

  -- the seat between two calls
  abbrev pub at_rest : Seat (Option S) (View S C A) → Seat (Option S) (View S C A)
  at_rest s = record s { me = (record s.me.0 { stage = Away; joined = [] }, []) }

  -- the seat is one of the lock
  abbrev pub IsSeatOf : Lock S → Sitting S C A → Type 0
  IsSeatOf lock seat = (seat.table ≡ lock.table) × (seat.opening ≡ Some lock.opening)

  -- a seat of the lock that has seen nothing and made no call
  abbrev pub new_seat : Lock S → ℕ → Sitting S C A
  new_seat lock k = record { table = lock.table; opening = Some lock.opening; number = k; seen = []; mine = []; looks = 0 }

  -- the seats with the numbers below n, in order
  abbrev pub new_seats : Lock S → ℕ → List (Sitting S C A)
  new_seats lock zero = []
  new_seats lock (suc n) = new_seats lock n ++ new_seat lock n ∷ []

  abbrev pub seat_number : Sitting S C A → ℕ
  seat_number seat = seat.number

  -- what is kept of a seat that is taken in
  abbrev pub as_member : Sitting S C A → Member C A
  as_member seat = record { number = seat.number; seen = seat.seen; mine = seat.mine }

  -- each number below that of the lock's seats is the number of one of these
  abbrev pub HasAllSeats : Lock S → List (Sitting S C A) → Type 0
  HasAllSeats lock seats = (k : ℕ) → k < lock.seats → Contains (map seat_number seats) k

  -- it is the same seat
  abbrev pub IsSameSeat : Sitting S C A → Sitting S C A → Type 0
  IsSameSeat old new = (new.table ≡ old.table) × (new.opening ≡ old.opening) × (new.number ≡ old.number)

  module _ {G : Type 0} (history : S → List (C × A)) (setting : S → G) (lawful : G → List (C × A) → Type 0) (number : C → ℕ) where
    -- the seat has looked once: what it has seen goes on from what it had seen, may arise after the opening, and has just the seat's own calls under its number
    abbrev pub Looks : S → Sitting S C A → Sitting S C A → Type 0
    Looks opening old new = (new.looks ≡ old.looks + 1) × Begins old.seen new.seen × lawful (setting opening) (history opening ++ new.seen) × (calls_of number new.number new.seen ≡ new.mine)

    -- the state that comes out has the setting of the opening, and a lawful history: that of the opening, and then a list which begins with what each seat has seen,
    -- in which the entries with a seat's number are the seat's own calls, and which has no entry of another number
    abbrev pub Settles : Lock S → List (Sitting S C A) → S → Type 0
    Settles lock seats state = (setting state ≡ setting lock.opening) × lawful (setting state) (history state)
        × ((log : List (C × A)) × (history state ≡ history lock.opening ++ log) × All (λ seat. Begins seat.seen log × (calls_of number seat.number log ≡ seat.mine)) seats × All (λ e. number e.0 < lock.seats) log)

  module _ {G : Type 0} (history : S → List (C × A)) (setting : S → G) where
    -- the seat's entry was added at the end of all that it has now seen, where the history before it was as asked
    abbrev pub Adds : (G → List (C × A) → Type 0) → S → Sitting S C A → Sitting S C A → C × A → Type 0
    Adds asked opening old new e = (before : List (C × A)) × Begins old.seen before × asked (setting opening) (history opening ++ before) × (new.seen ≡ before ++ e ∷ []) × (new.mine ≡ old.mine ++ e ∷ [])

    -- no entry was added, and the whole history, which the seat has now seen, is as asked
    abbrev pub Finds : (G → List (C × A) → Type 0) → S → Sitting S C A → Sitting S C A → Type 0
    Finds asked opening old new = asked (setting opening) (history opening ++ new.seen) × (new.mine ≡ old.mine)

  -- the seat's turn has come, it holds the slot, which is empty, and has seen the whole history
  pub record InHand (history : S → List (C × A)) (opening : S) (place : Seat (Option S) (View S C A)) : Type 0 where
    pub served : place.me.0.stage ≡ Served true
    pub opened : place.me.0.opening ≡ Some opening
    pub holds : place.me.1 ≡ (0, None) ∷ []
    pub whole : place.me.0.kept ≡ history opening ++ place.me.0.seen

  -- the seat's turn is over, and it knows what it knew
  abbrev pub left : Seat (Option S) (View S C A) → Seat (Option S) (View S C A)
  left place = record place { me = (leaving place.me.0, []) }

  -- the seat's turn is over, in which it has added an entry
  abbrev pub left_counted : Seat (Option S) (View S C A) → C × A → Seat (Option S) (View S C A)
  left_counted place e = record place { me = (leaving (counting place.me.0.seen e place.me.0), []) }

  -- the seat that took the state x: what it has seen is now whole, and it has looked once more
  abbrev pub taking : List (C × A) → List (C × A) → Seat (Option S) (View S C A) → Seat (Option S) (View S C A)
  taking kept log place = record place { me = (informed log (served kept place.me.0), (0, None) ∷ []) }

  module _ {G : Type 0} (history : S → List (C × A)) (setting : S → G) (lawful : G → List (C × A) → Type 0) (number : C → ℕ) where
    -- the seat has taken the state x
    pub record Takes (opening : S) (old new : Seat (Option S) (View S C A)) (x : S) : Type 0 where
      pub log : List (C × A)
      pub taken : new ≡ taking (history x) log old
      pub kept : history x ≡ history opening ++ log
      pub ruled : setting x ≡ setting opening
      pub legal : lawful (setting x) (history x)
      pub seen : Begins old.me.0.seen log
      pub mine : calls_of number old.me.0.number log ≡ old.me.0.mine

  -- the seat is between two calls, and stands for these seats: those that it took in, and itself
  pub record Gathered (table : TableId) (opening : S) (seats : List (Sitting S C A)) (place : Seat (Option S) (View S C A)) : Type 0 where
    pub at_table : place.table_id ≡ table
    pub idle : place.me.0.stage ≡ Away
    pub bare : place.me.1 ≡ []
    pub opened : place.me.0.opening ≡ Some opening
    pub all : map as_member seats ≡ place.me.0.joined ++ member place.me.0 ∷ []

  module _ {G : Type 0} (history : S → List (C × A)) (setting : S → G) (lawful : G → List (C × A) → Type 0) (number : C → ℕ) where
    -- the state that comes out where the seat with this view stands for all, and the history that all have seen a beginning of
    pub record Ends (opening : S) (seats : ℕ) (view : View S C A) (state : S) : Type 0 where
      pub ruled : setting state ≡ setting opening
      pub log : List (C × A)
      pub whole : history state ≡ history opening ++ log
      pub legal : lawful (setting state) (history state)
      pub members : All (λ m. Begins m.seen log × (calls_of number m.number log ≡ m.mine)) (view.joined ++ member view ∷ [])
      pub numbers : All (λ e. number e.0 < seats) log
      pub all : (k : ℕ) → k < seats → (k ≡ view.number) ⊎ Contains (map (λ m. m.number) view.joined) k
