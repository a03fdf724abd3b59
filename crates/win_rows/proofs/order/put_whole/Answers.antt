use Rattle.win_rows.specs.declared.order.Kind.TheVariants.{Whole}
use Rattle.win_rows.proofs.Listing.{on_some, three_put, owned_parts}
use Rattle.win_rows.proofs.order.put_whole.Goals as goal

pub of-requires : goal.of-requires
of-requires c = c.requires.owned.1

pub returns : goal.returns
returns c =
    on_some (λ h.
    three_put c.args.parts.now.items c.put_each.new.parts.items c.put.new.parts.items _ _ _ _ _ c.in_ok-put_each.ensures
    (owned_parts c.args.owned.now.link c.args.rows.now c.args.x Whole _ _ c.in_ok-windows.ensures c.requires.owned.0) c.in_ok-put.ensures h) c.put-2.result c.put-2.ensures
