use Rattle.std.proofs.Common.{[], ◌∷◌, ◌++◌, refl, sym, ap, ◌∙◌, subst, append-nil, append_assoc}
use Rattle.script_tree.specs.Pieces.{Going, Returning}
use Rattle.script_proc.specs.declared.item.Item.TheVariants.{Leaving, Left, Leaves}
use Rattle.script_proc.specs.Items.{state_of}
use Rattle.script_proc.specs.Works.{Moves}
use Rattle.script_proc.proofs.ItemLaws.{plain_moves, leaving_given}
use Rattle.script_proc.proofs.places.leaving.Goals as goal

pub returns-in_default : goal.returns-in_default
returns-in_default c below p n v e =
    let run = c.args.run in
    let mode = c.args.mode.now in
    record {
      below = below;
      item = Leaving run;
      few = [];
      last = e;
      put = c.drop_last.ensures.items below (Leaving run) e ∙ sym (append-nil below);
      moves = plain_moves p n (Leaving run) [] (state_of v mode) (state_of v mode) tt tt (λ s k. leaving_given run mode v s k c.requires.handed c.in_default.not-Returning);
    }

pub returns : goal.returns
returns c below p n v e =
    let run = c.args.run in
    let x = c.in-Returning.value in
    let few = Left x ∷ Leaves run.frame x ∷ [] in
    record {
      below = below;
      item = Leaving run;
      few = few;
      last = e;
      put = c.push_reserved.ensures.items ∙ ap (λ xs. xs ++ Leaves run.frame x ∷ []) (c.put_one.ensures.items below (Leaving run) e) ∙ append_assoc below (Left x ∷ []) (Leaves run.frame x ∷ []);
      moves = subst (λ m. Moves p n (Leaving run) (state_of v m) few (Going v)) (sym c.in-Returning.is) (plain_moves p n (Leaving run) few (Returning v x) (Going v) tt (tt, (tt, tt)) (λ s k. refl));
    }
