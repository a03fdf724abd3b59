-- A line taken apart into its command and its parts, and put together again.
use Rattle.std.specs.Prelude.{List, [], ◌∷◌, Option, Some, option_map}
use Rattle.script_tree.specs.declared.operand.Test.{Test}
use Rattle.script_tree.specs.declared.statement.Creation.{Creation}
use Rattle.script_lines.specs.declared.line.Line.{Line}
use Rattle.script_lines.specs.declared.line.Line.TheVariants as lines
use Rattle.script_lines.specs.declared.line.Command.{Command}
use Rattle.script_lines.specs.declared.line.Command.TheVariants as commands
use Rattle.statement_table.specs.declared.part.Part.{Part}
use Rattle.statement_table.specs.declared.part.Part.TheVariants as parts
use Rattle.statement_table.specs.Parts.{letter_in, operand_in, operator_in, comparison_in, name_in, beginning_in}
use Rattle.statement_table.specs.Compounds.{compound_name, compound_parts, made_compound}
use Rattle.statement_table.specs.Statements.{statement_name, statement_parts, made_statement}

-- which line it is
abbrev pub line_command : Line → Command
line_command (lines.Procedure k) = commands.Procedure
line_command lines.Thread = commands.Thread
line_command (lines.Let v a) = commands.Let
line_command (lines.Compute v a op b) = commands.Compute
line_command (lines.If t) = commands.If
line_command lines.Else = commands.Else
line_command (lines.While t) = commands.While
line_command lines.End = commands.End
line_command (lines.Return a) = commands.Return
line_command (lines.Call c) = commands.Call (statement_name c)
line_command (lines.Sleep ms) = commands.Sleep
line_command (lines.Create c) = commands.Create
line_command (lines.Destroy w) = commands.Destroy
line_command (lines.Compound c) = commands.Compound (compound_name c)
line_command lines.Default = commands.Default

abbrev pub test_parts : Test → List Part
test_parts t = parts.Operand t.left ∷ parts.Comparison t.comparison ∷ parts.Operand t.right ∷ []

abbrev pub creation_parts : Creation → List Part
creation_parts c =
    parts.Name c.class ∷ parts.Name c.title ∷ parts.Operand c.parent ∷ parts.Operand c.style ∷ parts.Operand c.extended_style ∷
    parts.Operand c.left ∷ parts.Operand c.top ∷ parts.Operand c.right ∷ parts.Operand c.bottom ∷ []

-- the parts of a line, one for each place after its first word
abbrev pub line_parts : Line → List Part
line_parts (lines.Procedure k) = parts.Beginning k ∷ []
line_parts lines.Thread = []
line_parts (lines.Let v a) = parts.Letter v ∷ parts.Operand a ∷ []
line_parts (lines.Compute v a op b) = parts.Letter v ∷ parts.Operand a ∷ parts.Operator op ∷ parts.Operand b ∷ []
line_parts (lines.If t) = test_parts t
line_parts lines.Else = []
line_parts (lines.While t) = test_parts t
line_parts lines.End = []
line_parts (lines.Return a) = parts.Operand a ∷ []
line_parts (lines.Call c) = statement_parts c
line_parts (lines.Sleep ms) = parts.Operand ms ∷ []
line_parts (lines.Create c) = creation_parts c
line_parts (lines.Destroy w) = parts.Operand w ∷ []
line_parts (lines.Compound c) = compound_parts c
line_parts lines.Default = []

abbrev pub made_test : List Part → Test
made_test ps = record { left = operand_in ps 0; comparison = comparison_in ps 1; right = operand_in ps 2 }

abbrev pub made_creation : List Part → Creation
made_creation ps = record {
  class = name_in ps 0;
  title = name_in ps 1;
  parent = operand_in ps 2;
  style = operand_in ps 3;
  extended_style = operand_in ps 4;
  left = operand_in ps 5;
  top = operand_in ps 6;
  right = operand_in ps 7;
  bottom = operand_in ps 8;
}

-- the line of these parts in its places
abbrev pub made_line : Command → List Part → Option Line
made_line commands.Procedure ps = Some (lines.Procedure (beginning_in ps 0))
made_line commands.Thread ps = Some lines.Thread
made_line commands.Let ps = Some (lines.Let (letter_in ps 0) (operand_in ps 1))
made_line commands.Compute ps = Some (lines.Compute (letter_in ps 0) (operand_in ps 1) (operator_in ps 2) (operand_in ps 3))
made_line commands.If ps = Some (lines.If (made_test ps))
made_line commands.Else ps = Some lines.Else
made_line commands.While ps = Some (lines.While (made_test ps))
made_line commands.End ps = Some lines.End
made_line commands.Return ps = Some (lines.Return (operand_in ps 0))
made_line (commands.Call n) ps = option_map (λ c. lines.Call c) (made_statement n ps)
made_line commands.Sleep ps = Some (lines.Sleep (operand_in ps 0))
made_line commands.Create ps = Some (lines.Create (made_creation ps))
made_line commands.Destroy ps = Some (lines.Destroy (operand_in ps 0))
made_line (commands.Compound n) ps = Some (lines.Compound (made_compound n ps))
made_line commands.Default ps = Some lines.Default
