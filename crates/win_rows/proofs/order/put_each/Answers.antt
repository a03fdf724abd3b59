use Rattle.std.proofs.Common.{◌∙◌, ◌++◌, List, append-nil, sym, ap, arith}
use Rattle.std.proofs.lemmas.List.{take_all}
use Rattle.win_rows.specs.declared.window.Window.{Window}
use Rattle.win_rows.specs.Parts.{parts_of}
use Rattle.win_rows.proofs.Listing.{each_more}
use Rattle.win_rows.proofs.order.put_each.Goals as goal

pub loop-x-init : goal.loop-x-init
loop-x-init c = sym (append-nil c.args.parts.now.items)

pub loop-x-preserved : goal.loop-x-preserved
loop-x-preserved c =
    each_more c.args.kind c.args.depth c.args.windows.now c.loop-x.x-index c.x-item.result c.loop-x.parts.items c.put.new.parts.items c.args.parts.now.items c.loop-x-test.true c.x-item.is c.loop-x.invariant c.in_ok-put.ensures

pub returns : goal.returns
returns c = c.loop-x.invariant ∙ ap (λ (us : List Window). c.args.parts.now.items ++ parts_of c.args.kind c.args.depth us) (take_all c.loop-x.x-index c.args.windows.now (omega arith))
