-- One row for each line.
use Rattle.std.specs.Prelude.{ℕ, nat_le, if◌then◌else◌, List, [], ◌∷◌, codes, find, option_map, Option, Some, None}
use Rattle.std.specs.Str.{bytes_eq}
use Rattle.call_table.specs.declared.calls.CallName.{CallName}
use Rattle.call_table.specs.declared.calls.CallName.TheVariants as groups
use Rattle.call_table.specs.declared.windows.WindowCall.TheVariants as windows
use Rattle.call_table.specs.Calls.{call_row, call_named}
use Rattle.script_lines.specs.declared.line.Command.{Command}
use Rattle.script_lines.specs.declared.line.Command.TheVariants as commands
use Rattle.statement_table.specs.declared.part.Place.{Place}
use Rattle.statement_table.specs.declared.part.Place.TheVariants as places
use Rattle.statement_table.specs.declared.compounds.CompoundName.TheVariants as compounds
use Rattle.statement_table.specs.Compounds.{compound_word, compound_places}
use Rattle.statement_table.specs.Places.{field_places, statement_places}

-- the first word of a line; that of a statement of a call is the call's
abbrev pub command_word : Command → List ℕ
command_word commands.Procedure = codes "proc"
command_word commands.Thread = codes "thread"
command_word commands.Let = codes "let"
command_word commands.Compute = codes "let"
command_word commands.If = codes "if"
command_word commands.Else = codes "else"
command_word commands.While = codes "while"
command_word commands.End = codes "end"
command_word commands.Return = codes "return"
command_word (commands.Call n) = (call_row n).word
command_word commands.Sleep = codes "sleep"
command_word commands.Create = codes "create"
command_word commands.Destroy = codes "destroy"
command_word (commands.Compound n) = compound_word n
command_word commands.Default = codes "default"

abbrev pub test_places : List Place
test_places = places.Operand ∷ places.Comparison ∷ places.Operand ∷ []

-- the places of a line after its first word
abbrev pub command_places : Command → List Place
command_places commands.Procedure = places.Beginning ∷ []
command_places commands.Thread = []
command_places commands.Let = places.Letter ∷ places.Operand ∷ []
command_places commands.Compute = places.Letter ∷ places.Operand ∷ places.Operator ∷ places.Operand ∷ []
command_places commands.If = test_places
command_places commands.Else = []
command_places commands.While = test_places
command_places commands.End = []
command_places commands.Return = places.Operand ∷ []
command_places (commands.Call n) = statement_places n
command_places commands.Sleep = places.Operand ∷ []
command_places commands.Create = field_places (groups.Window windows.NewWindow)
command_places commands.Destroy = places.Operand ∷ []
command_places (commands.Compound n) = compound_places n
command_places commands.Default = []

-- the lines that make no one call
abbrev pub own_commands : List Command
own_commands =
    commands.Procedure ∷ commands.Thread ∷ commands.Let ∷ commands.If ∷ commands.Else ∷ commands.While ∷ commands.End ∷ commands.Return ∷
    commands.Sleep ∷ commands.Create ∷ commands.Destroy ∷ commands.Compound compounds.ShowWindow ∷ commands.Compound compounds.EnableWindow ∷
    commands.Compound compounds.SetWindowPos ∷ commands.Compound compounds.SetFocus ∷ commands.Compound compounds.SetActive ∷
    commands.Compound compounds.SetCapture ∷ commands.Compound compounds.ReleaseCapture ∷ commands.Compound compounds.BeginPaint ∷
    commands.Compound compounds.UpdateWindow ∷ commands.Compound compounds.PostAll ∷ commands.Compound compounds.NotifyAll ∷ commands.Compound compounds.Pump ∷
    commands.Compound compounds.Dialog ∷ commands.Default ∷ []

unfoldable pub own_command : List ℕ → Option Command
own_command word = find (λ c. bytes_eq (command_word c) word) own_commands

abbrev pub own_or_call : Option Command → Option CallName → Option Command
own_or_call (Some c) n = Some c
own_or_call None n = option_map (λ m. commands.Call m) n

-- the line that begins with this word: one that makes no one call, else a statement of a call
abbrev pub first_command : List ℕ → Option Command
first_command word = own_or_call (own_command word) (call_named word)

-- a `let` of more than three words has two operands
abbrev pub with_words : ℕ → Command → Command
with_words n commands.Let = if nat_le n 3 then commands.Let else commands.Compute
with_words n c = c

-- the line with this first word and so many words in all
unfoldable pub command_at : List ℕ → ℕ → Option Command
command_at word n = option_map (with_words n) (first_command word)
