-- Calls made inside or after a send, one row each.
use Rattle.std.specs.Prelude.{List, [], ◌∷◌, codes, Option, None}
use Rattle.user_model.specs.declared.call.Call.{Call}
use Rattle.user_model.specs.declared.call.Call.TheVariants as calls
use Rattle.call_fields.specs.declared.form.Field.TheVariants as fields
use Rattle.call_fields.specs.declared.value.Value.{Value}
use Rattle.call_fields.specs.declared.value.Value.TheVariants as values
use Rattle.call_fields.specs.Forms.{Row, row}
use Rattle.call_fields.specs.Values.{number_at}
use Rattle.call_table.specs.declared.calls.CallName.{CallName}
use Rattle.call_table.specs.declared.calls.CallName.TheVariants as groups
use Rattle.call_table.specs.declared.replies.ReplyCall.{ReplyCall}
use Rattle.call_table.specs.declared.replies.ReplyCall.TheVariants as names
use Rattle.call_table.specs.Splits.{Split, split}

-- the word of each, and the kinds of its fields
abbrev pub reply_row : ReplyCall → Row
reply_row names.Await = row (codes "await") (fields.Number ∷ [])
reply_row names.Leave = row (codes "leave") (fields.Number ∷ [])
reply_row names.Reply = row (codes "reply") (fields.Number ∷ [])
reply_row names.InSend = row (codes "in_send") []

-- all of them
abbrev pub reply_calls : List CallName
reply_calls = groups.Reply names.Await ∷ groups.Reply names.Leave ∷ groups.Reply names.Reply ∷ groups.Reply names.InSend ∷ []

-- such a call taken apart; a call of another group is not
abbrev pub split_reply : Call → Option Split
split_reply (calls.Await send) = split (groups.Reply names.Await) (values.Number send ∷ [])
split_reply (calls.Leave result) = split (groups.Reply names.Leave) (values.Number result ∷ [])
split_reply (calls.Reply result) = split (groups.Reply names.Reply) (values.Number result ∷ [])
split_reply calls.InSend = split (groups.Reply names.InSend) []
split_reply c = None

-- the call of this name, of the values at its places
abbrev pub made_reply : ReplyCall → List Value → Call
made_reply names.Await vs = calls.Await (number_at vs 0)
made_reply names.Leave vs = calls.Leave (number_at vs 0)
made_reply names.Reply vs = calls.Reply (number_at vs 0)
made_reply names.InSend vs = calls.InSend
