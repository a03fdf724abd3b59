-- The untaken input of a past, as it is kept.
use Rattle.std.specs.Prelude.{◌≡◌, ℕ, ◌<◌, ◌==◌, List, map}
use Rattle.std.specs.Int.{bit_at}
use Rattle.input_queue.specs.declared.element.Element.{Element as KeptElement}
use Rattle.user_model.specs.declared.entry.Setup.{Setup}
use Rattle.user_model.specs.Past.{Past}
use Rattle.user_model.specs.Groups.{is_in_group}
use Rattle.user_model.specs.Inputs.{Element, untaken}

-- an element as it is kept
abbrev pub kept : Element → KeptElement
kept x = record { number = x.number; home = record { 0 = x.home }; message = x.message; key = x.key; point = x.point; time = x.time }

-- the untaken elements of a past
abbrev pub untaken_at : Setup → Past → List KeptElement
untaken_at setup past = map kept (untaken setup past)

-- the group has the bits of the threads in t's group
abbrev pub IsGroupOf : Past → ℕ → ℕ → Type 0
IsGroupOf past t group = (u : ℕ) → u < 16 → (bit_at group u == 1) ≡ is_in_group past t u
