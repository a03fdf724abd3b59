use Rattle.std.proofs.Common.{◌≤◌, sym, subst, ap, arith}
use Rattle.screen_state.specs.Parts.{IsLiveAt}
use Rattle.screen_state.proofs.Drawing.{in_table, passed_edges}
use Rattle.display_state.specs.Displays.{Shown}
use Rattle.display_state.proofs.Drawn.{colour_fits, erase_at, erased_told, fill_at, filled_told, snapped_told}
use Rattle.display_state.proofs.display.Display.draw.Goals as goal

pub window_or_none-w-requires : goal.window_or_none-w-requires
window_or_none-w-requires c = let x = c.in-Fill-Okay in in_table c.args.tree.now x.w (fill_at c.args.tree.now c.args.classes.now c.args.entry x.w x.l x.t x.r x.b x.colour c.requires x.is-0 x.is-1).0

pub reached_part-requires-clause-live : goal.reached_part-requires-clause-live
reached_part-requires-clause-live c = let x = c.in-Fill-Okay in subst (IsLiveAt c.args.tree.now) (sym c.window_or_none-w.ensures) (fill_at c.args.tree.now c.args.classes.now c.args.entry x.w x.l x.t x.r x.b x.colour c.requires x.is-0 x.is-1).0

pub reached_part-requires-clause-place : goal.reached_part-requires-clause-place
reached_part-requires-clause-place c = let x = c.in-Fill-Okay in passed_edges x.l x.t x.r x.b (fill_at c.args.tree.now c.args.classes.now c.args.entry x.w x.l x.t x.r x.b x.colour c.requires x.is-0 x.is-1).1

pub overflow_cast-colour : goal.overflow_cast-colour
overflow_cast-colour c =
    let x = c.in-Fill-Okay in
    let few : x.colour ≤ 15 = colour_fits x.colour (fill_at c.args.tree.now c.args.classes.now c.args.entry x.w x.l x.t x.r x.b x.colour c.requires x.is-0 x.is-1).2 in
    omega (arith, few)

pub window_or_none-w-requires-in-Erase-Okay : goal.window_or_none-w-requires-in-Erase-Okay
window_or_none-w-requires-in-Erase-Okay c = let x = c.in-Erase-Okay in in_table c.args.tree.now x.w (erase_at c.args.tree.now c.args.classes.now c.args.entry x.w c.requires x.is-0 x.is-1)

pub returns-in_ok-region-in-Fill-Okay-clause-drawn : goal.returns-in_ok-region-in-Fill-Okay-clause-drawn
returns-in_ok-region-in-Fill-Okay-clause-drawn c =
    let x = c.in-Fill-Okay in
    filled_told c.paint.result c.args.tree.now c.args.classes.now c.args.entry x.w c.window_or_none-w.result.0 x.l x.t x.r x.b x.colour c.in_ok-region-in-Fill-Okay.region c.self.inside.screen c.args.self.now c.paint.new.self c.requires x.is-0 x.is-1 c.window_or_none-w.ensures
    (ap (λ (v : Shown). v.screen) c.self.view_is) c.in_ok-region-in-Fill-Okay.ensures c.paint.ensures.ok

pub returns-in_ok-region-in-Erase-Okay-clause-drawn : goal.returns-in_ok-region-in-Erase-Okay-clause-drawn
returns-in_ok-region-in-Erase-Okay-clause-drawn c =
    let x = c.in-Erase-Okay in
    erased_told c.paint-in-Erase-Okay.result c.args.tree.now c.args.classes.now c.args.entry x.w c.window_or_none-w-in-Erase-Okay.result.0 c.class_colour.result c.in_ok-region-in-Erase-Okay.region c.self-in-Erase-Okay.inside.screen c.args.self.now c.paint-in-Erase-Okay.new.self x.is-0 x.is-1 c.window_or_none-w-in-Erase-Okay.ensures
    (ap (λ (v : Shown). v.screen) c.self-in-Erase-Okay.view_is) c.in_ok-region-in-Erase-Okay.ensures c.class_colour.ensures c.paint-in-Erase-Okay.ensures.ok

pub returns-in-Snap-Snap-clause-drawn : goal.returns-in-Snap-Snap-clause-drawn
returns-in-Snap-Snap-clause-drawn c = let x = c.in-Snap-Snap in snapped_told c.snap.result c.args.tree.now c.args.classes.now c.args.entry x.field-0-1 c.args.self.now c.snap.new.self x.is-0 x.is-1 c.snap.ensures.ok

pub returns-in_default-clause-drawn : goal.returns-in_default-clause-drawn
returns-in_default-clause-drawn c = c.draw_other.ensures.drawn c.args.classes.now
