use Rattle.std.proofs.lemmas.Grind.{common_steps}
use Rattle.std.proofs.Common.{◌≡◌, ◌++◌, ◌∷◌, [], List, Vec, Global, sym, ap, ◌∙◌, rules, arith}
use Rattle.script_tree.specs.declared.operand.Test.{Test}
use Rattle.script_tree.specs.declared.statement.Statement.{Statement, If as IfOf, IfElse as IfElseOf, While as WhileOf}
use Rattle.script_tree.specs.declared.statement.Statement.TheViews.{the_lemmas}
use Rattle.script_lines.specs.declared.line.Line.{Line}
use Rattle.script_lines.specs.declared.line.Line.TheVariants.{If, Else, While, End}
use Rattle.script_text.specs.Lines.{statement_lines, body_lines}
use Rattle.script_text.proofs.BuildLemmas.{row_is}
use Rattle.script_text.proofs.Puts.{block_put, both_put}
use Rattle.script_text.proofs.flatten.+flatten.Goals as goal

-- the lines of a statement with bodies
if_lines : (test : Test) (body : Vec Statement Global) → statement_lines (IfOf test body) ≡ If test ∷ (body_lines body.items ++ End ∷ [])
if_lines test body = search (rules, the_lemmas, row_is)

while_lines : (test : Test) (body : Vec Statement Global) → statement_lines (WhileOf test body) ≡ While test ∷ (body_lines body.items ++ End ∷ [])
while_lines test body = search (rules, the_lemmas, row_is)

both_lines : (test : Test) (first second : Vec Statement Global) → statement_lines (IfElseOf test first second) ≡ If test ∷ (body_lines first.items ++ Else ∷ (body_lines second.items ++ End ∷ []))
both_lines test first second = search (rules, the_lemmas, row_is)

pub put_statement-returns-in_ok-push-in-If-2 : goal.put_statement-returns-in_ok-push-in-If-2
put_statement-returns-in_ok-push-in-If-2 t c =
    let old = c.args.lines.now.items in
    let a = c.push.new.self.items in
    let shape : statement_lines c.args.statement.now ≡ If c.in-If.test ∷ (body_lines c.in-If.body.items ++ End ∷ []) = rw c.in-If.is (if_lines c.in-If.test c.in-If.body) in
    block_put old a c.put_body.new.lines.items c.push-in-If.new.self.items (body_lines c.in-If.body.items) (If c.in-If.test) End
    c.in_ok-push-in-If.ensures.items (c.in_ok-put_body-in-If.ensures ∙ ap (λ (l : List Statement). a ++ body_lines l) c.deref.ensures.value) c.in_ok-push-in-If-2.ensures.items
    ∙ ap (λ (l : List Line). old ++ l) (sym shape)

pub put_statement-returns-in_ok-push-in-While-2 : goal.put_statement-returns-in_ok-push-in-While-2
put_statement-returns-in_ok-push-in-While-2 t c =
    let old = c.args.lines.now.items in
    let a = c.push-in-While.new.self.items in
    let shape : statement_lines c.args.statement.now ≡ While c.in-While.test ∷ (body_lines c.in-While.body.items ++ End ∷ []) = rw c.in-While.is (while_lines c.in-While.test c.in-While.body) in
    block_put old a c.put_body-in-While.new.lines.items c.push-in-While-2.new.self.items (body_lines c.in-While.body.items) (While c.in-While.test) End
    c.in_ok-push-in-While.ensures.items (c.in_ok-put_body-in-While.ensures ∙ ap (λ (l : List Statement). a ++ body_lines l) c.deref-in-While.ensures.value) c.in_ok-push-in-While-2.ensures.items
    ∙ ap (λ (l : List Line). old ++ l) (sym shape)

pub put_statement-returns-in_ok-push-in-IfElse-3 : goal.put_statement-returns-in_ok-push-in-IfElse-3
put_statement-returns-in_ok-push-in-IfElse-3 t c =
    let old = c.args.lines.now.items in
    let a = c.push-in-IfElse.new.self.items in
    let d = c.push-in-IfElse-2.new.self.items in
    let shape : statement_lines c.args.statement.now ≡ If c.in-IfElse.test ∷ (body_lines c.in-IfElse.first.items ++ Else ∷ (body_lines c.in-IfElse.second.items ++ End ∷ [])) = rw c.in-IfElse.is (both_lines c.in-IfElse.test c.in-IfElse.first c.in-IfElse.second) in
    both_put old a c.put_body-in-IfElse.new.lines.items d c.put_body-in-IfElse-2.new.lines.items c.push-in-IfElse-3.new.self.items (body_lines c.in-IfElse.first.items) (body_lines c.in-IfElse.second.items) (If c.in-IfElse.test) Else End
    c.in_ok-push-in-IfElse.ensures.items (c.in_ok-put_body-in-IfElse.ensures ∙ ap (λ (l : List Statement). a ++ body_lines l) c.deref-in-IfElse.ensures.value) c.in_ok-push-in-IfElse-2.ensures.items
    (c.in_ok-put_body-in-IfElse-2.ensures ∙ ap (λ (l : List Statement). d ++ body_lines l) c.deref-in-IfElse-2.ensures.value) c.in_ok-push-in-IfElse-3.ensures.items
    ∙ ap (λ (l : List Line). old ++ l) (sym shape)

pub put_body-loop-statement-preserved : goal.put_body-loop-statement-preserved
put_body-loop-statement-preserved t c = grind (arith, common_steps)

pub put_body-returns : goal.put_body-returns
put_body-returns t c = grind (arith, common_steps)
