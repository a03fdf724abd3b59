use Rattle.std.proofs.Common.{[], ◌∷◌, refl, sym, ◌∙◌, subst, append-nil}
use Rattle.script_tree.specs.Pieces.{Going, Returning}
use Rattle.script_proc.specs.declared.item.Item.TheVariants.{Again, Making}
use Rattle.script_proc.specs.Items.{state_of}
use Rattle.script_proc.specs.Works.{Moves}
use Rattle.script_proc.proofs.ItemLaws.{plain_moves, again_given}
use Rattle.script_proc.proofs.places.again.Goals as goal

pub returns-in_default : goal.returns-in_default
returns-in_default c below p n v e =
    let call = c.args.call in
    let mode = c.args.mode.now in
    record {
      below = below;
      item = Again call;
      few = [];
      last = e;
      put = c.drop_last.ensures.items below (Again call) e ∙ sym (append-nil below);
      moves = plain_moves p n (Again call) [] (state_of v mode) (state_of v mode) tt tt (λ s k. again_given call mode v s k c.requires.handed c.in_default.not-Returning);
    }

pub returns : goal.returns
returns c below p n v e =
    let call = c.args.call in
    let few = Making call ∷ [] in
    record {
      below = below;
      item = Again call;
      few = few;
      last = e;
      put = c.put_one.ensures.items below (Again call) e;
      moves = subst (λ m. Moves p n (Again call) (state_of v m) few (Going v)) (sym c.in-Returning.is) (plain_moves p n (Again call) few (Returning v c.in-Returning.field-0) (Going v) tt (tt, tt) (λ s k. refl));
    }
