use Rattle.std.proofs.Common.{List, ap, sym, ◌∙◌}
use Rattle.win_num.specs.declared.shapes.Point.{Point}
use Rattle.win_num.specs.PixelSets.{kind_of}
use Rattle.user_model.specs.Pixels.{origin}
use Rattle.user_model.specs.Dirty.{dirty_pixels, is_dirty}
use Rattle.user_model.specs.ReplyDrawing.{bounds_from}
use Rattle.screen_state.proofs.DirtyAt.{area_found}
use Rattle.screen_state.proofs.UpdateBoxes.{found_passing, near_origin, no_area, none_of_kind, some_of_kind, told_edges}
use Rattle.screen_state.proofs.update.update_box.Goals as goal

pub returns-in_default-clause-kind : goal.returns-in_default-clause-kind
returns-in_default-clause-kind c setup past lawful seen lives = c.no_update.ensures.kind ∙ sym (ap (λ (ps : List Point). kind_of ps) (no_area setup past c.args.dirty.now c.args.w.0 seen.dirty c.in_default.ensures))

pub returns-in_default-clause-edges : goal.returns-in_default-clause-edges
returns-in_default-clause-edges c setup past lawful seen lives = c.no_update.ensures.edges ∙ sym (ap (bounds_from (origin past c.args.w.0)) (no_area setup past c.args.dirty.now c.args.w.0 seen.dirty c.in_default.ensures))

pub returns-then-kind-eq1-clause-kind : goal.returns-then-kind-eq1-clause-kind
returns-then-kind-eq1-clause-kind c setup past lawful seen lives =
    let pass = found_passing setup past c.args.dirty.now c.args.w.0 c.in-Some.region.now seen.dirty (area_found c.args.dirty.now c.args.w.0 c.in-Some.region.now c.in-Some.ensures) in
    c.no_update-then-kind-eq1.ensures.kind ∙ (sym c.if-kind-eq1.true ∙ c.told_kind-kind.ensures setup.width setup.height (is_dirty setup past c.args.w.0) pass)

pub returns-then-kind-eq1-clause-edges : goal.returns-then-kind-eq1-clause-edges
returns-then-kind-eq1-clause-edges c setup past lawful seen lives =
    let pass = found_passing setup past c.args.dirty.now c.args.w.0 c.in-Some.region.now seen.dirty (area_found c.args.dirty.now c.args.w.0 c.in-Some.region.now c.in-Some.ensures) in
    c.no_update-then-kind-eq1.ensures.edges ∙ sym (ap (bounds_from (origin past c.args.w.0)) (none_of_kind (dirty_pixels setup past c.args.w.0) (sym (c.told_kind-kind.ensures setup.width setup.height (is_dirty setup past c.args.w.0) pass) ∙ c.if-kind-eq1.true)))

pub returns-clause-kind : goal.returns-clause-kind
returns-clause-kind c setup past lawful seen lives =
    c.told_kind-kind.ensures setup.width setup.height (is_dirty setup past c.args.w.0) (found_passing setup past c.args.dirty.now c.args.w.0 c.in-Some.region.now seen.dirty (area_found c.args.dirty.now c.args.w.0 c.in-Some.region.now c.in-Some.ensures))

pub returns-clause-edges : goal.returns-clause-edges
returns-clause-edges c setup past lawful seen lives =
    let pass = found_passing setup past c.args.dirty.now c.args.w.0 c.in-Some.region.now seen.dirty (area_found c.args.dirty.now c.args.w.0 c.in-Some.region.now c.in-Some.ensures) in
    told_edges (origin past c.args.w.0) c.origin_of-corner.result (dirty_pixels setup past c.args.w.0) c.told_bounds-around.result c.l.result c.t.result c.r.result c.b.result c.behind.result c.behind-2.result c.behind-3.result c.behind-4.result
    (near_origin setup past lawful c.args.tree.now seen.tree c.args.w.0 lives)
    (c.origin_of-corner.ensures setup past lawful seen.tree lives)
    (c.told_bounds-around.ensures setup.width setup.height (is_dirty setup past c.args.w.0) pass)
    (some_of_kind (dirty_pixels setup past c.args.w.0) c.told_kind-kind.result (c.told_kind-kind.ensures setup.width setup.height (is_dirty setup past c.args.w.0) pass) c.if-kind-eq1.false)
    c.l.ensures c.t.ensures c.r.ensures c.b.ensures c.behind.ensures c.behind-2.ensures c.behind-3.ensures c.behind-4.ensures
