use Rattle.std.proofs.Common.{◌∙◌, length, ap, sym}
use Rattle.std.proofs.lemmas.List.{with_items_is}
use Rattle.screen_buf.proofs.Rows.{painted}
use Rattle.screen_buf.proofs.screen.Screen.fill.Goals as goal

pub returns : goal.returns
returns c =
    let e = c.paint_rects.ensures.size ∙ ap length c.as_mut_slice.ensures.value ∙ sym c.self.inside.pixels.ok.0 in
    painted _ c.self.inside.pixels.items c.paint_rects.new.pixels _ c.self.inside.width c.self.inside.height c.args.colour _ c.args.r.now c.self.view_is c.as_mut_slice.ensures.value c.rects.ensures.value (with_items_is c.self.inside.pixels c.paint_rects.new.pixels e) c.paint_rects.ensures
