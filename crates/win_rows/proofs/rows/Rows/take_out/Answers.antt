use Rattle.std.proofs.Common.{◌<◌, ◌∙◌, List, length, sym, ap, subst, remove}
use Rattle.win_rows.specs.declared.window.Window.{Window}
use Rattle.win_rows.proofs.Indexed.{taken_index, taken_rows, some_at}
use Rattle.win_rows.proofs.rows.Rows.take_out.Goals as goal

pub remove-requires : goal.remove-requires
remove-requires c =
    some_at c.self.inside.slab c.self.inside.places.items c.args.i c.remove-place.result c.self.invariant.found
    (subst (λ (ws : List Window). c.args.i < length ws) (sym c.self.view_is) c.requires) c.remove-place.ensures.value

pub invariant_of-self : goal.invariant_of-self
invariant_of-self c =
    taken_index c.self.inside.slab c.remove.new.self c.self.inside.places.items c.remove-place.new.self.items c.self.invariant c.args.i c.remove-place.result
    (subst (λ (ws : List Window). c.args.i < length ws) (sym c.self.view_is) c.requires) c.remove-place.ensures.value c.remove.ensures.updates.others c.remove-place.ensures.items

pub returns : goal.returns
returns c =
    taken_rows c.self.inside.slab c.remove.new.self c.self.inside.places.items c.remove-place.new.self.items c.self.invariant c.args.i c.remove-place.result
    (subst (λ (ws : List Window). c.args.i < length ws) (sym c.self.view_is) c.requires) c.remove-place.ensures.value c.remove.ensures.updates.others c.remove-place.ensures.items
    ∙ ap (λ (ws : List Window). remove ws c.args.i) c.self.view_is
