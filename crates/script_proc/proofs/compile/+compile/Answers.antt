use Rattle.std.proofs.Common.{◌-◌, List, subst, refl, ap, ◌∙◌, rules}
use Rattle.script_tree.specs.declared.statement.Statement.{Statement}
use Rattle.script_tree.specs.declared.statement.Statement.TheViews.{the_lemmas}
use Rattle.script_proc.specs.Programs.{IsPut}
use Rattle.script_proc.proofs.Programming.{IsIf, IsIfElse, IsLoopOf, put_if, put_while, put_if_else, put_alone}
use Rattle.script_proc.proofs.compile.+compile.Goals as goal

pub put_statement-returns-in_ok-put_body-in-If-clause-put :
    goal.put_statement-returns-in_ok-put_body-in-If-clause-put
put_statement-returns-in_ok-put_body-in-If-clause-put t c =
    let old = c.args.lines.now.items in
    let a = c.push.new.self.items in
    let b = c.put_body.new.lines.items in
    let shape : IsIf c.args.statement.now c.in-If.test c.in-If.body.items = rw c.in-If.is (search (rules, the_lemmas)) in
    put_if old a b _ c.args.statement.now c.in-If.body.items _ c.len-from.result (c.len.result - c.len-from.result - 1) shape
    (c.len-from.ensures ∙ c.args.lines.now.ok.0) c.in_ok-push-in-If.ensures.items
    (subst (λ (xs : List Statement). IsPut xs a b) c.deref.ensures.value c.in_ok-put_body-in-If.ensures.put)
    (ap (λ k. k - c.len-from.result - 1) (c.len.ensures ∙ c.put_body.new.lines.ok.0)) refl

pub put_statement-returns-in_ok-put_body-in-IfElse-2-clause-put :
    goal.put_statement-returns-in_ok-put_body-in-IfElse-2-clause-put
put_statement-returns-in_ok-put_body-in-IfElse-2-clause-put t c =
    let old = c.args.lines.now.items in
    let a = c.push-in-IfElse.new.self.items in
    let b = c.put_body-in-IfElse.new.lines.items in
    let d = c.push-in-IfElse-2.new.self.items in
    let e = c.put_body-in-IfElse-2.new.lines.items in
    let shape : IsIfElse c.args.statement.now c.in-IfElse.test c.in-IfElse.first.items c.in-IfElse.second.items = rw c.in-IfElse.is (search (rules, the_lemmas)) in
    put_if_else old a b d e _ _ c.args.statement.now c.in-IfElse.first.items c.in-IfElse.second.items _ c.len-from.result c.len-middle.result (c.len-in-IfElse.result - c.len-middle.result - 1) (c.len-middle.result - c.len-from.result) shape
    (c.len-from.ensures ∙ c.args.lines.now.ok.0) c.in_ok-push-in-IfElse.ensures.items
    (subst (λ (xs : List Statement). IsPut xs a b) c.deref-in-IfElse.ensures.value c.in_ok-put_body-in-IfElse.ensures.put)
    (c.len-middle.ensures ∙ c.put_body-in-IfElse.new.lines.ok.0) c.in_ok-push-in-IfElse-2.ensures.items
    (subst (λ (xs : List Statement). IsPut xs d e) c.deref-in-IfElse-2.ensures.value c.in_ok-put_body-in-IfElse-2.ensures.put)
    (ap (λ k. k - c.len-middle.result - 1) (c.len-in-IfElse.ensures ∙ c.put_body-in-IfElse-2.new.lines.ok.0)) refl refl refl

pub put_statement-returns-in_ok-push-in-While-2-clause-put :
    goal.put_statement-returns-in_ok-push-in-While-2-clause-put
put_statement-returns-in_ok-push-in-While-2-clause-put t c =
    let old = c.args.lines.now.items in
    let a = c.push-in-While.new.self.items in
    let b = c.put_body-in-While.new.lines.items in
    let d = c.push-in-While-2.new.self.items in
    let shape : IsLoopOf c.args.statement.now c.in-While.test c.in-While.body.items = rw c.in-While.is (search (rules, the_lemmas)) in
    put_while old a b d _ c.args.statement.now c.in-While.body.items _ c.len-from.result (c.len-in-While.result - c.len-from.result - 1) shape
    (c.len-from.ensures ∙ c.args.lines.now.ok.0) c.in_ok-push-in-While.ensures.items
    (subst (λ (xs : List Statement). IsPut xs a b) c.deref-in-While.ensures.value c.in_ok-put_body-in-While.ensures.put)
    c.in_ok-push-in-While-2.ensures.items
    (ap (λ k. k - c.len-from.result - 1) (c.len-in-While.ensures ∙ c.push-in-While-2.new.self.ok.0)) refl

pub put_statement-returns-in_ok-push-in_default-clause-put : goal.put_statement-returns-in_ok-push-in_default-clause-put
put_statement-returns-in_ok-push-in_default-clause-put t c =
    put_alone c.args.lines.now.items c.push-in_default.new.self.items c.alone.result c.args.statement.now c.alone.ensures c.in_ok-push-in_default.ensures.items
