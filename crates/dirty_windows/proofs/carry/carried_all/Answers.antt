use Rattle.std.proofs.Common.{List, ap, arith}
use Rattle.win_num.specs.declared.shapes.Rect.{Rect}
use Rattle.band_region.specs.Regions.{region_has}
use Rattle.dirty_windows.proofs.Carrying.{any_all, any_more}
use Rattle.dirty_windows.proofs.carry.carried_all.Goals as goal

pub loop-k-init : goal.loop-k-init
loop-k-init c p = ap (λ (r : List Rect). region_has r p) c.empty-all.ensures

pub loop-k-preserved : goal.loop-k-preserved
loop-k-preserved c = any_more c.args.entries.now c.args.old.now c.args.new.now c.args.screen c.args.shift c.args.moved.now c.loop-k.k _ c.loop-k.all c.in_ok-part.part _ (omega arith) c.in_ok-all.ensures c.in_ok-part.ensures c.loop-k.invariant

pub returns : goal.returns
returns c = any_all c.args.entries.now c.args.old.now c.args.new.now c.args.screen c.args.shift c.args.moved.now c.loop-k.k c.loop-k.all (omega arith) c.loop-k.invariant
