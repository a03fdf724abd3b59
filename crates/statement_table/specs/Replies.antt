-- Statements made inside a send, one row each.
use Rattle.std.specs.Prelude.{List, [], ◌∷◌, Option, Some, None}
use Rattle.call_table.specs.declared.calls.CallName.TheVariants as groups
use Rattle.call_table.specs.declared.replies.ReplyCall.{ReplyCall}
use Rattle.call_table.specs.declared.replies.ReplyCall.TheVariants as names
use Rattle.script_tree.specs.declared.statement.CallStatement.{CallStatement}
use Rattle.script_tree.specs.declared.statement.CallStatement.TheVariants as calls
use Rattle.statement_table.specs.declared.part.Part.{Part}
use Rattle.statement_table.specs.declared.part.Part.TheVariants as parts
use Rattle.statement_table.specs.Parts.{operand_in}
use Rattle.statement_table.specs.Splits.{Split, split}

-- the call that such a statement makes, and its parts in their places; a statement of another group is none
abbrev pub split_reply : CallStatement → Option Split
split_reply (calls.Reply result) = split (groups.Reply names.Reply) (parts.Operand result ∷ [])
split_reply calls.InSend = split (groups.Reply names.InSend) []
split_reply c = None

-- the statement that makes this call, of the parts in their places; none makes the machine's own steps
abbrev pub made_reply : ReplyCall → List Part → Option CallStatement
made_reply names.Await ps = None
made_reply names.Leave ps = None
made_reply names.Reply ps = Some (calls.Reply (operand_in ps 0))
made_reply names.InSend ps = Some calls.InSend
