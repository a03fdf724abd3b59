use Rattle.win_rows.specs.declared.order.Kind.TheVariants.{Told}
use Rattle.win_rows.proofs.Listing.{on_some, two_put, child_parts}
use Rattle.win_rows.proofs.order.put_told.Goals as goal

pub of-requires : goal.of-requires
of-requires c = c.requires.children.1

pub returns : goal.returns
returns c =
    on_some (λ h.
    two_put c.args.parts.now.items c.put.new.parts.items _ _ _ _ c.in_ok-put.ensures h
    (child_parts c.args.children.now.link c.args.rows.now c.args.x Told _ _ c.in_ok-windows.ensures c.requires.children.0)) c.put_each.result c.put_each.ensures
