-- The calls of the machine: each group has its rows in a file of its own.
use Rattle.std.specs.Prelude.{◌≡◌, ℕ, List, [], ◌∷◌, ◌++◌, find, Option, Some, None}
use Rattle.std.specs.Option.{option_or}
use Rattle.std.specs.Str.{bytes_eq}
use Rattle.user_model.specs.declared.call.Call.{Call}
use Rattle.call_fields.specs.declared.value.Value.{Value}
use Rattle.call_fields.specs.Forms.{Row}
use Rattle.call_table.specs.declared.calls.CallName.{CallName}
use Rattle.call_table.specs.declared.calls.CallName.TheVariants as groups
use Rattle.call_table.specs.declared.clock.ClockCall.TheVariants as clock
use Rattle.call_table.specs.Splits.{Split}
use Rattle.call_table.specs.Delivery.{delivery_row, delivery_calls, split_delivery, made_delivery}
use Rattle.call_table.specs.Sends.{send_row, send_calls, split_send, made_send}
use Rattle.call_table.specs.Replies.{reply_row, reply_calls, split_reply, made_reply}
use Rattle.call_table.specs.Registrations.{registration_row, registration_calls, split_registration, made_registration}
use Rattle.call_table.specs.Windows.{window_row, window_calls, split_window, made_window}
use Rattle.call_table.specs.Lookups.{lookup_row, lookup_calls, split_lookup, made_lookup}
use Rattle.call_table.specs.Input.{input_row, input_calls, split_input, made_input}
use Rattle.call_table.specs.Drawing.{drawing_row, drawing_calls, split_drawing, made_drawing}
use Rattle.call_table.specs.Clock.{clock_row, clock_calls, split_clock, made_clock}

-- the word of each call, and the kinds of its fields
abbrev pub call_row : CallName → Row
call_row (groups.Delivery n) = delivery_row n
call_row (groups.Send n) = send_row n
call_row (groups.Reply n) = reply_row n
call_row (groups.Registration n) = registration_row n
call_row (groups.Window n) = window_row n
call_row (groups.Lookup n) = lookup_row n
call_row (groups.Input n) = input_row n
call_row (groups.Drawing n) = drawing_row n
call_row (groups.Clock n) = clock_row n

-- all of them
abbrev pub all_calls : List CallName
all_calls = delivery_calls ++ (send_calls ++ (reply_calls ++ (registration_calls ++ (window_calls ++ (lookup_calls ++ (input_calls ++ (drawing_calls ++ clock_calls)))))))

-- the one with this word
unfoldable pub call_named : List ℕ → Option CallName
call_named word = find (λ n. bytes_eq (call_row n).word word) all_calls

-- the first that is there
abbrev pub first_found : Option Split → List (Option Split) → Option Split
first_found o [] = o
first_found o (p ∷ ps) = first_found (option_or o p) ps

-- a call taken apart by the group that has it; each call is of one
abbrev pub found_split : Call → Option Split
found_split c = first_found (split_delivery c) (split_send c ∷ split_reply c ∷ split_registration c ∷ split_window c ∷ split_lookup c ∷ split_input c ∷ split_drawing c ∷ split_clock c ∷ [])

abbrev pub split_or_none : Option Split → Split
split_or_none (Some s) = s
split_or_none None = record { name = groups.Clock clock.Clock; values = [] }

-- which call it is
abbrev pub call_name : Call → CallName
call_name c = (split_or_none (found_split c)).name

-- the values of its fields
abbrev pub call_parts : Call → List Value
call_parts c = (split_or_none (found_split c)).values

-- the call of this name, of the values at its places
abbrev pub made_call : CallName → List Value → Call
made_call (groups.Delivery n) vs = made_delivery n vs
made_call (groups.Send n) vs = made_send n vs
made_call (groups.Reply n) vs = made_reply n vs
made_call (groups.Registration n) vs = made_registration n vs
made_call (groups.Window n) vs = made_window n vs
made_call (groups.Lookup n) vs = made_lookup n vs
made_call (groups.Input n) vs = made_input n vs
made_call (groups.Drawing n) vs = made_drawing n vs
made_call (groups.Clock n) vs = made_clock n vs

-- this call has this name and these values
pub record IsCallOf (name : CallName) (vs : List Value) (c : Call) : Type 0 where
  pub name_is : call_name c ≡ name
  pub parts_are : call_parts c ≡ vs
