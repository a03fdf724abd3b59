use Rattle.std.proofs.Common.{[], ◌∷◌, ◌++◌, List, refl, sym, ap, ◌∙◌, subst}
use Rattle.user_model.specs.declared.call.Call.TheVariants.{EndThread}
use Rattle.script_tree.specs.Pieces.{Lines, Making, Going}
use Rattle.script_tree.specs.Tree.{body_of}
use Rattle.script_tree.specs.Traces.{Makes, program}
use Rattle.script_proc.specs.declared.item.Item.{Item}
use Rattle.script_proc.specs.declared.item.Item.TheVariants.{At, Making as MakingItem}
use Rattle.script_proc.specs.Programs.{Stands, lines_at}
use Rattle.script_proc.specs.Items.{AllCover}
use Rattle.script_proc.proofs.worker.Worker.new.Goals as goal

pub returns : goal.returns
returns c s of =
    let p = c.args.program.now in
    let t = c.args.thread in
    let at = c.thread.result in
    let body = Lines (body_of s t) in
    let items = ap (λ (xs : List Item). xs ++ At at ∷ []) (c.in_ok-push.ensures.items ∙ ap (λ (xs : List Item). xs ++ MakingItem EndThread ∷ []) c.new-items.ensures.items) in
    let begins = subst (λ k. Stands (lines_at p k) (body ∷ [])) (sym c.thread.ensures) (of.threads t) in
    record {
      program = of;
      left = program s t;
      stands = subst (λ xs. AllCover p xs (program s t)) (sym items) (body ∷ [], Making EndThread ∷ [], refl, refl, ([], body ∷ [], refl, begins, refl));
      by = λ more e m. subst (λ v. Makes s (program s t) (Going v) 0 more e) c.start.ensures m;
      counts = refl;
      thread = refl;
    }
