use Rattle.std.proofs.Common.{◌≡◌, ◌<◌, List, length, get_or, sym, subst}
use Rattle.win_rows.specs.declared.window.Window.{Window}
use Rattle.win_rows.proofs.Indexed.{some_at, row_there}
use Rattle.win_rows.proofs.rows.Rows.at.Goals as goal

pub index-requires-2 : goal.index-requires-2
index-requires-2 c =
    some_at c.self.inside.slab c.self.inside.places.items c.args.i c.index.result.now c.self.invariant.found
    (subst (λ (ws : List Window). c.args.i < length ws) (sym c.self.view_is) c.requires) c.index.ensures

pub returns : goal.returns
returns c =
    subst (λ (ws : List Window). c.index-2.result.now ≡ get_or ws c.args.i c.index-2.result.now) c.self.view_is
    (row_there c.self.inside.slab c.self.inside.places.items c.args.i c.index.result.now c.index-2.result.now c.self.invariant.found
    (subst (λ (ws : List Window). c.args.i < length ws) (sym c.self.view_is) c.requires) c.index.ensures c.index-2.ensures)
