use Rattle.std.proofs.Common.{[], ◌∷◌, ◌++◌, sym, ap, ◌∙◌}
use Rattle.script_proc.specs.Items.{few_items, state_of}
use Rattle.script_proc.proofs.Lasts.{last_at}
use Rattle.script_proc.proofs.ItemLaws.{plain_moves}
use Rattle.script_proc.proofs.places.placeless.Goals as goal

pub returns : goal.returns
returns c p n =
    let h = c.in-Some.ensures.item in
    let item = c.in-Some.item.now in
    let at = last_at c.deref.result.now item h.3.0 in
    let same = sym c.deref.ensures.value ∙ at.1 ∙ ap (λ x. at.0 ++ x ∷ []) (sym h.1) in
    let few = few_items c.plain-few.result in
    record {
      below = at.0;
      item = item;
      few = few;
      last = same;
      put = c.set_last.ensures at.0 item same;
      moves = plain_moves p n item few (state_of c.args.variables.now c.args.mode.now) (state_of c.plain-few.new.variables c.plain-few.new.mode) (c.requires.plain at.0 item same) c.plain-few.ensures.plain c.plain-few.ensures.step;
    }
