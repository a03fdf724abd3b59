-- The fields that carry a message: a window or a thread, a number and two parameters.
use Rattle.std.specs.Prelude.{ℕ, List, [], ◌∷◌}
use Rattle.call_fields.specs.declared.value.Value.{Value}
use Rattle.call_fields.specs.declared.value.Value.TheVariants as values

abbrev pub message_values : ℕ → ℕ → ℕ → ℕ → List Value
message_values target message wparam lparam = values.Number target ∷ values.Message message ∷ values.Number wparam ∷ values.Number lparam ∷ []
