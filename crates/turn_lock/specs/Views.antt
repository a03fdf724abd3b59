-- What a seat knows, and how its view changes.
use Rattle.std.specs.Prelude.{ℕ, ◌+◌, true, false, List, [], ◌∷◌, ◌++◌, Option, Some, None}
use Rattle.turn_lock.specs.declared.view.View.{View}
use Rattle.turn_lock.specs.declared.view.Member.{Member}
use Rattle.turn_lock.specs.declared.view.Stage.TheVariants.{Away, Waiting, Served, Spent}

module _ {S C A : Type 0} where
  -- a seat that has seen nothing and made no call
  abbrev pub fresh_view : ℕ → Option S → ℕ → List (C × A) → View S C A
  fresh_view number opening made seen = record { stage = Away; number = number; opening = opening; kept = []; seen = seen; mine = []; looks = 0; made = made; joined = [] }

  -- the first seat, as the lock is opened
  abbrev pub first_view : S → View S C A
  first_view s = fresh_view 0 (Some s) 1 []

  -- a seat that was taken in
  abbrev pub spent : View S C A
  spent = record { stage = Spent; number = 0; opening = None; kept = []; seen = []; mine = []; looks = 0; made = 0; joined = [] }

  -- the seat knows of one more seat
  abbrev pub with_one_more : View S C A → View S C A
  with_one_more v = record v { made = v.made + 1 }

  -- the seat that is made next: its number is how many there were, and it has seen as much
  abbrev pub newcomer : View S C A → View S C A
  newcomer v = fresh_view v.made v.opening 0 v.seen

  -- what is kept of a seat that is taken in
  abbrev pub member : View S C A → Member C A
  member v = record { number = v.number; seen = v.seen; mine = v.mine }

  -- the seat keeps the number, what was seen and the calls of the other
  abbrev pub taking_in : View S C A → View S C A → View S C A
  taking_in v w = record v { joined = member w ∷ v.joined }

  -- the seat has this ticket
  abbrev pub waiting : ℕ → View S C A → View S C A
  waiting t v = record v { stage = Waiting t }

  -- the state, with this history, is the seat's own
  abbrev pub served : List (C × A) → View S C A → View S C A
  served h v = record v { stage = Served false; kept = h }

  -- the seat has seen the whole history
  abbrev pub informed : List (C × A) → View S C A → View S C A
  informed log v = record v { stage = Served true; seen = log; looks = v.looks + 1 }

  -- the seat has added an entry to the whole history
  abbrev pub counting : List (C × A) → C × A → View S C A → View S C A
  counting log e v = record v { stage = Served true; kept = v.kept ++ e ∷ []; seen = log ++ e ∷ []; mine = v.mine ++ e ∷ [] }

  -- the seat's turn is over
  abbrev pub leaving : View S C A → View S C A
  leaving v = record v { stage = Away }
