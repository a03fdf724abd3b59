use Rattle.std.proofs.Common.{[], ◌∷◌, ◌++◌, List, ap, ◌∙◌, subst}
use Rattle.script_tree.specs.declared.statement.Statement.{Statement}
use Rattle.script_tree.specs.Tree.{ProcedureTree}
use Rattle.script_proc.specs.declared.program.Line.TheVariants.{End}
use Rattle.script_proc.specs.Programs.{Grows, EachStarts, procedure_body, itself}
use Rattle.script_proc.proofs.Programming.{is_program}
use Rattle.script_proc.proofs.program.Program.new.Goals as goal

pub returns : goal.returns
returns c =
    let before = c.put_procedures.new.lines.items in
    let first = c.in_ok-push.ensures.items ∙ ap (λ ls. ls ++ End ∷ []) c.new-lines.ensures.items in
    is_program c.args.script.now _ before c.budget.ensures
    (subst (λ ls. Grows ls before) first c.in_ok-procedures.ensures.grows) c.in_ok-threads.ensures.grows
    (subst (λ (xs : List ProcedureTree). EachStarts procedure_body before c.in_ok-procedures.procedures.items xs) c.procedures.ensures c.in_ok-procedures.ensures.begin)
    (subst (λ (xs : List (List Statement)). EachStarts itself c.put_threads.new.lines.items c.in_ok-threads.threads.items xs) c.threads.ensures c.in_ok-threads.ensures.begin)
