use Rattle.std.proofs.Common.{not, eqb, ap, sym, subst, ◌∙◌}
use Rattle.win_num.specs.declared.shapes.Rect.{Rect}
use Rattle.std.proofs.Common.{List}
use Rattle.region_box.specs.Screens.{IsPassing}
use Rattle.user_model.specs.Dirty.{dirty_pixels, is_dirty}
use Rattle.screen_state.proofs.DirtyAt.{area_clean, area_found, area_none, kind_some, none_dirty, passing}
use Rattle.screen_state.proofs.walk.is_dirty.Goals as goal

pub returns-in-Some : goal.returns-in-Some
returns-in-Some c setup past at =
    let same = area_found c.args.dirty.now c.args.w.0 c.in-Some.region.now c.in-Some.ensures in
    let pass = subst (λ (rs : List Rect). IsPassing setup.width setup.height (is_dirty setup past c.args.w.0) rs) (sym same) (passing setup past c.args.dirty.now c.args.w.0 at) in
    ap (λ k. not (eqb k 1)) (c.told_kind.ensures setup.width setup.height (is_dirty setup past c.args.w.0) pass) ∙ kind_some (dirty_pixels setup past c.args.w.0)

pub returns-in-None : goal.returns-in-None
returns-in-None c setup past at = sym (none_dirty setup past c.args.w.0 (area_clean setup past c.args.dirty.now c.args.w.0 at (area_none c.args.dirty.now c.args.w.0 c.in-None.ensures)))
