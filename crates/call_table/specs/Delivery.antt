-- Calls that take, post and hand on messages, and that ask which are there, one row each.
use Rattle.std.specs.Prelude.{List, [], ◌∷◌, codes, Option, None}
use Rattle.user_model.specs.declared.call.Call.{Call}
use Rattle.user_model.specs.declared.call.Call.TheVariants as calls
use Rattle.call_fields.specs.declared.form.Field.TheVariants as fields
use Rattle.call_fields.specs.declared.value.Value.{Value}
use Rattle.call_fields.specs.declared.value.Value.TheVariants as values
use Rattle.call_fields.specs.Forms.{Row, row}
use Rattle.call_fields.specs.Values.{message_at, number_at}
use Rattle.call_table.specs.declared.calls.CallName.{CallName}
use Rattle.call_table.specs.declared.calls.CallName.TheVariants as groups
use Rattle.call_table.specs.declared.delivery.DeliveryCall.{DeliveryCall}
use Rattle.call_table.specs.declared.delivery.DeliveryCall.TheVariants as names
use Rattle.call_table.specs.Splits.{Split, split}

-- the word of each, and the kinds of its fields
abbrev pub delivery_row : DeliveryCall → Row
delivery_row names.Peek = row (codes "peek") (fields.Number ∷ fields.Number ∷ fields.Number ∷ fields.Number ∷ [])
delivery_row names.Get = row (codes "get") (fields.Number ∷ fields.Number ∷ fields.Number ∷ [])
delivery_row names.Post = row (codes "post") (fields.Number ∷ fields.Message ∷ fields.Number ∷ fields.Number ∷ [])
delivery_row names.PostThread = row (codes "post_thread") (fields.Number ∷ fields.Message ∷ fields.Number ∷ fields.Number ∷ [])
delivery_row names.PostQuit = row (codes "post_quit") (fields.Number ∷ [])
delivery_row names.Status = row (codes "status") (fields.Number ∷ [])
delivery_row names.Dispatch = row (codes "dispatch") (fields.Number ∷ fields.Message ∷ fields.Number ∷ fields.Number ∷ [])
delivery_row names.Translate = row (codes "translate") (fields.Number ∷ fields.Message ∷ fields.Number ∷ fields.Number ∷ [])

-- all of them
abbrev pub delivery_calls : List CallName
delivery_calls = groups.Delivery names.Peek ∷ groups.Delivery names.Get ∷ groups.Delivery names.Post ∷ groups.Delivery names.PostThread ∷ groups.Delivery names.PostQuit ∷ groups.Delivery names.Status ∷ groups.Delivery names.Dispatch ∷ groups.Delivery names.Translate ∷ []

-- such a call taken apart; a call of another group is not
abbrev pub split_delivery : Call → Option Split
split_delivery (calls.Peek window min max flags) = split (groups.Delivery names.Peek) (values.Number window ∷ values.Number min ∷ values.Number max ∷ values.Number flags ∷ [])
split_delivery (calls.Get window min max) = split (groups.Delivery names.Get) (values.Number window ∷ values.Number min ∷ values.Number max ∷ [])
split_delivery (calls.Post window number wparam lparam) = split (groups.Delivery names.Post) (values.Number window ∷ values.Message number ∷ values.Number wparam ∷ values.Number lparam ∷ [])
split_delivery (calls.PostThread thread number wparam lparam) = split (groups.Delivery names.PostThread) (values.Number thread ∷ values.Message number ∷ values.Number wparam ∷ values.Number lparam ∷ [])
split_delivery (calls.PostQuit code) = split (groups.Delivery names.PostQuit) (values.Number code ∷ [])
split_delivery (calls.Status flags) = split (groups.Delivery names.Status) (values.Number flags ∷ [])
split_delivery (calls.Dispatch window number wparam lparam) = split (groups.Delivery names.Dispatch) (values.Number window ∷ values.Message number ∷ values.Number wparam ∷ values.Number lparam ∷ [])
split_delivery (calls.Translate window number key lparam) = split (groups.Delivery names.Translate) (values.Number window ∷ values.Message number ∷ values.Number key ∷ values.Number lparam ∷ [])
split_delivery c = None

-- the call of this name, of the values at its places
abbrev pub made_delivery : DeliveryCall → List Value → Call
made_delivery names.Peek vs = calls.Peek (number_at vs 0) (number_at vs 1) (number_at vs 2) (number_at vs 3)
made_delivery names.Get vs = calls.Get (number_at vs 0) (number_at vs 1) (number_at vs 2)
made_delivery names.Post vs = calls.Post (number_at vs 0) (message_at vs 1) (number_at vs 2) (number_at vs 3)
made_delivery names.PostThread vs = calls.PostThread (number_at vs 0) (message_at vs 1) (number_at vs 2) (number_at vs 3)
made_delivery names.PostQuit vs = calls.PostQuit (number_at vs 0)
made_delivery names.Status vs = calls.Status (number_at vs 0)
made_delivery names.Dispatch vs = calls.Dispatch (number_at vs 0) (message_at vs 1) (number_at vs 2) (number_at vs 3)
made_delivery names.Translate vs = calls.Translate (number_at vs 0) (message_at vs 1) (number_at vs 2) (number_at vs 3)
