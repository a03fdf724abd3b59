use Rattle.std.proofs.lemmas.Grind.{common_steps}
use Rattle.std.proofs.Common.{◌≡◌, ◌++◌, ◌∷◌, [], List, sym, ap, ◌∙◌, append_assoc, arith}
use Rattle.script_lines.specs.declared.line.Line.{Line}
use Rattle.script_lines.specs.declared.line.Line.TheVariants.{If, Else, End}
use Rattle.script_text.specs.declared.builder.Opening.{Opening}
use Rattle.script_text.specs.Building.{opening_lines}
use Rattle.script_text.specs.Lines.{body_lines, statement_lines}
use Rattle.script_text.proofs.BuildLemmas.{closed_block, closed_thread, closed_procedure}
use Rattle.script_text.proofs.builder.Builder.close.Goals as goal

pub returns-in-Procedure-clause-lines : goal.returns-in-Procedure-clause-lines
returns-in-Procedure-clause-lines c =
    closed_procedure _ _ _ _ _ c.in-Some.block c.in-Procedure.field-0 c.close_body.result c.in-Some.ensures.items c.in-Procedure.is c.requires c.close_body.ensures.bodies c.close_body.ensures.kinds

pub returns-in-Thread-clause-lines : goal.returns-in-Thread-clause-lines
returns-in-Thread-clause-lines c =
    closed_thread _ _ _ _ _ c.in-Some.block c.close_body-in-Thread.result c.in-Some.ensures.items c.in-Thread.is c.close_body-in-Thread.ensures.bodies c.close_body-in-Thread.ensures.kinds

pub returns-in-Else-clause-lines : goal.returns-in-Else-clause-lines
returns-in-Else-clause-lines c =
    let b = c.in-Some.block in
    let one : List Line = If c.in-Else.test ∷ (body_lines c.in-Else.first.items ++ Else ∷ []) in
    let two : List Line = body_lines b.statements.items in
    let same : statement_lines c.closed_else.result ≡ (opening_lines b.opening ++ two) ++ End ∷ [] =
    c.closed_else.ensures
    ∙ sym (append_assoc (If c.in-Else.test ∷ body_lines c.in-Else.first.items) (Else ∷ []) (two ++ End ∷ []))
    ∙ sym (append_assoc one two (End ∷ []))
    ∙ ap (λ (o : Opening). (opening_lines o ++ two) ++ End ∷ []) (sym c.in-Else.is) in
    closed_block c.args.self.now.procedures.items c.args.self.now.threads.items c.add_statement-in-Else.new.blocks.items c.args.self.now.blocks.items c.pop_front.new.self.items b c.closed_else.result c.add_statement-in-Else.result c.in-Some.ensures.items same c.add_statement-in-Else.ensures.lines

pub returns-in-Procedure-clause-nest : goal.returns-in-Procedure-clause-nest
returns-in-Procedure-clause-nest c = grind (arith, common_steps)

pub returns-in-Thread-clause-nest : goal.returns-in-Thread-clause-nest
returns-in-Thread-clause-nest c = grind (arith, common_steps)

pub returns-in-If-clause-lines : goal.returns-in-If-clause-lines
returns-in-If-clause-lines c = grind (arith, common_steps)

pub returns-in-While-clause-lines : goal.returns-in-While-clause-lines
returns-in-While-clause-lines c = grind (arith, common_steps)
