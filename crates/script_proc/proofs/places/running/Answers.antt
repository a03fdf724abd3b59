use Rattle.std.proofs.Common.{[], ◌∷◌, ◌++◌, ap, ◌∙◌, append_assoc}
use Rattle.script_proc.specs.declared.item.Item.TheVariants.{At, Restore, Leaving, Running}
use Rattle.script_proc.proofs.ItemLaws.{running_moves}
use Rattle.script_proc.proofs.places.running.Goals as goal

pub returns : goal.returns
returns c below n e =
    record {
      below = below;
      item = Running c.args.run;
      few = Restore c.args.variables.now.parameters ∷ Leaving c.args.run ∷ At c.procedure.result ∷ [];
      last = e;
      put = ap (λ xs. xs ++ At c.procedure.result ∷ []) (c.push_reserved.ensures.items ∙ ap (λ xs. xs ++ Leaving c.args.run ∷ []) (c.put_one.ensures.items below (Running c.args.run) e)) ∙ ap (λ xs. xs ++ At c.procedure.result ∷ []) (append_assoc below (Restore c.args.variables.now.parameters ∷ []) (Leaving c.args.run ∷ [])) ∙ append_assoc below (Restore c.args.variables.now.parameters ∷ Leaving c.args.run ∷ []) (At c.procedure.result ∷ []);
      moves = running_moves c.args.program.now n c.args.run c.procedure.result c.args.variables.now c.procedure.ensures;
    }
