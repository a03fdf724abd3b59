use Rattle.std.proofs.Common.{◌∙◌, length, ap, sym, w32}
use Rattle.std.proofs.lemmas.Int.{to_z-of_z}
use Rattle.std.proofs.lemmas.List.{with_items_is}
use Rattle.screen_buf.proofs.Carries.{carried, copied_by}
use Rattle.screen_buf.proofs.screen.Screen.carry.Goals as goal

pub returns : goal.returns
returns c =
    let d = c.carry_rects-2.ensures.size ∙ ap length c.as_mut_slice-pixels.ensures.value ∙ sym c.self.inside.pixels.ok.0 in
    let e = c.carry_rects.ensures.size ∙ ap length c.as_mut_slice-room.ensures.value ∙ sym c.self.inside.room.ok.0 in
    let first = copied_by (to_z-of_z w32 c.args.dx c.ranges.dx) (to_z-of_z w32 c.args.dy c.ranges.dy) c.carry_rects.ensures in
    carried c.self.inside.pixels.items _ _ c.carry_rects.new.pixels c.carry_rects-2.new.pixels _ _ c.self.inside.width c.self.inside.height c.args.dx c.args.dy c.args.to.now _ _ c.self.view_is c.rects.ensures.value c.rects-2.ensures.value c.as_slice.ensures.value c.as_mut_slice-pixels.ensures.value (with_items_is c.self.inside.pixels c.carry_rects-2.new.pixels d) (c.as_slice-2.ensures.value ∙ with_items_is c.self.inside.room c.carry_rects.new.pixels e) first c.carry_rects-2.ensures
