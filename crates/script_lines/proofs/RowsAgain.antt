-- A line is found by its first word, and made of its parts again.
use Rattle.std.proofs.Common.{◌≡◌, ℕ, zero, suc, List, [], ◌∷◌, length, Option, Some, None, refl, ap, sym, ◌∙◌, arith}
use Rattle.std.specs.Prelude.{map, option_map, IfSome}
use Rattle.std.specs.List.{AllByRecursion}
use Rattle.call_table.specs.declared.calls.CallName.{CallName}
use Rattle.call_table.specs.declared.calls.CallName.TheVariants as groups
use Rattle.call_table.specs.declared.clock.ClockCall.TheVariants as clock
use Rattle.call_table.specs.declared.delivery.DeliveryCall.TheVariants as delivery
use Rattle.call_table.specs.declared.drawing.DrawingCall.TheVariants as drawing
use Rattle.call_table.specs.declared.input.InputCall.TheVariants as input
use Rattle.call_table.specs.declared.lookups.LookupCall.TheVariants as lookups
use Rattle.call_table.specs.declared.registrations.RegistrationCall.TheVariants as registrations
use Rattle.call_table.specs.declared.replies.ReplyCall.TheVariants as replies
use Rattle.call_table.specs.declared.sends.SendCall.TheVariants as sends
use Rattle.call_table.specs.Calls.{call_named, call_row}
use Rattle.call_table.proofs.CallLaws.{named_again}
use Rattle.script_tree.specs.declared.statement.CallStatement.{CallStatement}
use Rattle.script_tree.specs.declared.statement.CallStatement.TheVariants as calls
use Rattle.script_lines.specs.declared.line.Line.{Line}
use Rattle.script_lines.specs.declared.line.Line.TheVariants as lines
use Rattle.script_lines.specs.declared.line.Command.{Command}
use Rattle.script_lines.specs.declared.line.Command.TheVariants as commands
use Rattle.statement_table.specs.declared.part.Part.{Part}
use Rattle.statement_table.specs.declared.part.Part.TheVariants as parts
use Rattle.script_lines.specs.Known.{Known}
use Rattle.script_lines.specs.LineLimits.{IsOperand, IsPart, IsLine}
use Rattle.script_lines.specs.LineParts.{line_command, line_parts, made_line}
use Rattle.statement_table.specs.Parts.{place_of_part, operand_in}
use Rattle.script_lines.specs.Rows.{command_word, command_places, own_command, own_or_call, with_words, command_at}
use Rattle.statement_table.specs.Statements.{statement_name, made_statement}
use Rattle.statement_table.specs.declared.compounds.CompoundName.{CompoundName}
use Rattle.statement_table.specs.declared.compounds.CompoundName.TheVariants as compounds
use Rattle.statement_table.specs.Compounds.{compound_word, compound_name, made_compound}
use Rattle.statement_table.proofs.CompoundLaws.{compound_again, compound_fits}
use Rattle.statement_table.proofs.StatementLaws.{statement_again, statement_fits}
use Rattle.script_lines.specs.Words.{line_words}

-- ---- statements of calls

-- no other line begins with the word of a statement's call
not_own : (c : CallStatement) → own_command (call_row (statement_name c)).word ≡ None
unfolding own_command
not_own calls.Clock = refl
not_own c = refl

-- ---- lines

statement_found : (n : ℕ) (c : CallStatement) → command_at (command_word (commands.Call (statement_name c))) n ≡ Some (commands.Call (statement_name c))
unfolding command_at
statement_found n c =
    ap (λ (o : Option Command). option_map (with_words n) (own_or_call o (call_named (call_row (statement_name c)).word))) (not_own c)
    ∙ ap (λ (o : Option CallName). option_map (with_words n) (own_or_call None o)) (named_again (statement_name c))

compound_found : (n : ℕ) (c : CompoundName) → command_at (compound_word c) n ≡ Some (commands.Compound c)
unfolding command_at own_command
compound_found n compounds.ShowWindow = refl
compound_found n c = refl

pub command_again : (known : Known) (l : Line) → command_at (command_word (line_command l)) (length (line_words known l)) ≡ Some (line_command l)
unfolding command_at own_command
command_again known (lines.Procedure k) = refl
command_again known lines.Thread = refl
command_again known (lines.Let v a) = refl
command_again known (lines.Compute v a op b) = refl
command_again known (lines.If t) = refl
command_again known lines.Else = refl
command_again known (lines.While t) = refl
command_again known lines.End = refl
command_again known (lines.Return a) = refl
command_again known (lines.Call c) = statement_found (length (line_words known (lines.Call c))) c
command_again known (lines.Sleep a) = refl
command_again known (lines.Create c) = refl
command_again known (lines.Destroy a) = refl
command_again known (lines.Compound c) = compound_found (length (line_words known (lines.Compound c))) (compound_name c)
command_again known lines.Default = refl

pub line_fits : (l : Line) → command_places (line_command l) ≡ map place_of_part (line_parts l)
line_fits (lines.Procedure k) = refl
line_fits lines.Thread = refl
line_fits (lines.Let v a) = refl
line_fits (lines.Compute v a op b) = refl
line_fits (lines.If t) = refl
line_fits lines.Else = refl
line_fits (lines.While t) = refl
line_fits lines.End = refl
line_fits (lines.Return a) = refl
line_fits (lines.Call c) = sym (statement_fits c)
line_fits (lines.Sleep a) = refl
line_fits (lines.Create c) = refl
line_fits (lines.Destroy a) = refl
line_fits (lines.Compound c) = sym (compound_fits c)
line_fits lines.Default = refl

pub line_again : (l : Line) → made_line (line_command l) (line_parts l) ≡ Some l
line_again (lines.Procedure k) = refl
line_again lines.Thread = refl
line_again (lines.Let v a) = refl
line_again (lines.Compute v a op b) = refl
line_again (lines.If t) = refl
line_again lines.Else = refl
line_again (lines.While t) = refl
line_again lines.End = refl
line_again (lines.Return a) = refl
line_again (lines.Call c) = ap (option_map (λ x. lines.Call x)) (statement_again c)
line_again (lines.Sleep a) = refl
line_again (lines.Create c) = refl
line_again (lines.Destroy a) = refl
line_again (lines.Compound c) = ap (λ x. let l : Option Line = Some (lines.Compound x) in l) (compound_again c)
line_again lines.Default = refl

pub made_of : (command : Command) (ps : List Part) (l : Line) → line_command l ≡ command → line_parts l ≡ ps → made_line command ps ≡ Some l
made_of command ps l named same = ap (λ (c : Command). made_line c ps) (sym named) ∙ ap (made_line (line_command l)) (sym same) ∙ line_again l

-- ---- limits

at_fits : (ps : List Part) (k : ℕ) → AllByRecursion IsPart ps → IsOperand (operand_in ps k)
at_fits [] k h = omega arith
at_fits (parts.Operand a ∷ ps) zero h = h.0
at_fits (parts.Letter v ∷ ps) zero h = omega arith
at_fits (p ∷ ps) zero h = omega arith
at_fits (p ∷ ps) (suc k) h = at_fits ps k h.1

module _ (ps : List Part) (h : AllByRecursion IsPart ps) where
  o : (k : ℕ) → IsOperand (operand_in ps k)
  o k = at_fits ps k h

  statement_made_fits : (n : CallName) → IfSome (made_statement n ps) (λ c. IsLine (lines.Call c))
  statement_made_fits (groups.Delivery delivery.Get) = search (o, tt)
  statement_made_fits (groups.Send sends.Send) = search (o, tt)
  statement_made_fits (groups.Reply replies.Reply) = search (o, tt)
  statement_made_fits (groups.Registration registrations.Message) = search (o, tt)
  statement_made_fits (groups.Lookup lookups.Find) = search (o, tt)
  statement_made_fits (groups.Input input.Attach) = search (o, tt)
  statement_made_fits (groups.Drawing drawing.Validate) = search (o, tt)
  statement_made_fits (groups.Clock clock.Clock) = search (o, tt)
  statement_made_fits n = search (o, tt)

  made_call_fits : (c : Option CallStatement) → IfSome c (λ x. IsLine (lines.Call x)) → IfSome (option_map (λ x. lines.Call x) c) IsLine
  made_call_fits None fits = tt
  made_call_fits (Some c) fits = fits

  compound_made_fits : (n : CompoundName) → IsLine (lines.Compound (made_compound n ps))
  compound_made_fits compounds.ShowWindow = (o 0, (o 1, tt))
  compound_made_fits compounds.EnableWindow = (o 0, (o 1, tt))
  compound_made_fits compounds.SetWindowPos = (o 0, (o 1, (o 2, (o 3, (o 4, (o 5, (o 6, tt)))))))
  compound_made_fits compounds.ReleaseCapture = tt
  compound_made_fits compounds.PostAll = (o 0, (o 1, (o 2, tt)))
  compound_made_fits compounds.NotifyAll = (o 0, (o 1, (o 2, tt)))
  compound_made_fits compounds.SetFocus = (o 0, tt)
  compound_made_fits compounds.SetActive = (o 0, tt)
  compound_made_fits compounds.SetCapture = (o 0, tt)
  compound_made_fits compounds.BeginPaint = (o 0, tt)
  compound_made_fits compounds.UpdateWindow = (o 0, tt)
  compound_made_fits compounds.Pump = tt
  compound_made_fits compounds.Dialog = (o 0, tt)

  pub line_made_fits : (command : Command) → IfSome (made_line command ps) IsLine
  line_made_fits commands.Procedure = (tt, tt)
  line_made_fits commands.Thread = tt
  line_made_fits commands.Let = (tt, (o 1, tt))
  line_made_fits commands.Compute = (tt, (o 1, (tt, (o 3, tt))))
  line_made_fits commands.If = (o 0, (tt, (o 2, tt)))
  line_made_fits commands.Else = tt
  line_made_fits commands.While = (o 0, (tt, (o 2, tt)))
  line_made_fits commands.End = tt
  line_made_fits commands.Return = (o 0, tt)
  line_made_fits (commands.Call n) = made_call_fits (made_statement n ps) (statement_made_fits n)
  line_made_fits commands.Sleep = (o 0, tt)
  line_made_fits commands.Create = (tt, (tt, (o 2, (o 3, (o 4, (o 5, (o 6, (o 7, (o 8, tt)))))))))
  line_made_fits commands.Destroy = (o 0, tt)
  line_made_fits (commands.Compound n) = compound_made_fits n
  line_made_fits commands.Default = tt
