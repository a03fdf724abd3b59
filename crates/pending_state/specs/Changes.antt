-- What an entry does to the input that is kept.
use Rattle.std.specs.Prelude.{if◌then◌else◌, ◌≡◌, ℕ, ◌<◌, ◌≤◌, ℤ, pos, ◌≤ℤ◌, List, All, length, Option, Some, None, IsTrue}
use Rattle.win_num.specs.declared.message.Thread.{Thread}
use Rattle.win_num.specs.declared.shapes.Point.{Point}
use Rattle.input_queue.specs.declared.element.Element.{Element as KeptElement}
use Rattle.input_queue.specs.Elements.{is_in, of_group, replaced, with_element, without, without_home}
use Rattle.user_model.specs.declared.call.Call.{Call}
use Rattle.user_model.specs.declared.call.Call.TheVariants.{Mouse}
use Rattle.user_model.specs.declared.entry.Answer.{Answer}
use Rattle.user_model.specs.declared.entry.Answer.TheVariants.{Ended, Got, Input as InputMade, Refused}
use Rattle.user_model.specs.declared.entry.Origin.TheVariants.{Input}
use Rattle.user_model.specs.Retrievals.{removes}
use Rattle.user_model.specs.Inputs.{Injection, of_mouse, of_key, injection}
use Rattle.pending_state.specs.declared.changes.Meant.{Meant}

-- the element of an injection, under its number
abbrev pub element_from : Meant → ℕ → Injection → KeptElement
element_from meant k (of_mouse number p) = record { number = k; home = meant.home; message = number; key = 0; point = p; time = meant.time }
element_from meant k (of_key number key) = record { number = k; home = meant.home; message = number; key = key; point = meant.cursor; time = meant.time }

-- with what is injected under this number
abbrev pub added_as : Meant → ℕ → Option Injection → List KeptElement → List KeptElement
added_as meant k None old = old
added_as meant k (Some i) old = with_element (element_from meant k i) meant.group old

-- with what an entry injects
abbrev pub added_by : Meant → Answer → Call → List KeptElement → List KeptElement
added_by meant (InputMade k) call old = added_as meant k (injection call) old
added_by meant _ call old = old

-- without the one of this number, where the call removes what it retrieves
abbrev pub taken_by : ℕ → Call → List KeptElement → List KeptElement
taken_by n call old = if removes call then without n old else old

-- what an answer leaves of them
abbrev pub left_by : Thread → Answer → Call → List KeptElement → List KeptElement
left_by who (Got Input n m) call old = taken_by n call old
left_by who Ended call old = without_home who old
left_by who _ call old = old

-- a coordinate of a pixel of the screen
abbrev pub IsCoordinate : ℤ → Type 0
IsCoordinate z = (pos 0 ≤ℤ z) × (z ≤ℤ pos 65535)

-- the numbers of an injection fit their fields
abbrev pub FitsInjection : Option Injection → Type 0
FitsInjection None = Unit {0}
FitsInjection (Some (of_mouse number p)) = (number ≤ 65535) × IsCoordinate p.x × IsCoordinate p.y
FitsInjection (Some (of_key number key)) = key ≤ 255

-- there is a place for the element
pub record HasPlace (meant : Meant) (old : List KeptElement) (x : KeptElement) : Type 0 where
  pub later : All (λ y. y.number < x.number) old
  pub some_thread : 1 ≤ meant.home.0
  pub few_threads : meant.home.0 ≤ 15
  pub member : IsTrue (is_in meant.group meant.home)
  pub room : replaced x meant.group old ≡ None → length (of_group meant.group old) < 512

-- the same of what there may be
abbrev pub FitsPlace : Meant → List KeptElement → ℕ → Option Injection → Type 0
FitsPlace meant old k None = Unit {0}
FitsPlace meant old k (Some i) = HasPlace meant old (element_from meant k i)

-- what an entry injects fits
abbrev pub FitsInjecting : Meant → List KeptElement → Answer → Call → Type 0
FitsInjecting meant old (InputMade k) call = FitsInjection (injection call) × FitsPlace meant old k (injection call)
FitsInjecting meant old _ call = Unit {0}

-- the number of inputs after an answer
abbrev pub counted_with : Answer → ℕ → ℕ
counted_with (InputMade k) old = k
counted_with _ old = old

-- where a call puts the cursor
abbrev pub moved_by : Call → Point → Point
moved_by (Mouse number x y) old = record { x = x; y = y }
moved_by _ old = old

-- the cursor after an answer
abbrev pub cursor_with : Answer → Call → Point → Point
cursor_with (Refused code) call old = old
cursor_with _ call old = moved_by call old

-- the coordinates of a call fit their fields
abbrev pub FitsMoving : Call → Type 0
FitsMoving (Mouse number x y) = IsCoordinate x × IsCoordinate y
FitsMoving _ = Unit {0}

-- the same of a call that isn't refused
abbrev pub FitsCursor : Answer → Call → Type 0
FitsCursor (Refused code) call = Unit {0}
FitsCursor _ call = FitsMoving call
