use Rattle.std.proofs.Common.{◌∙◌, ◌++◌, List, ap}
use Rattle.win_rows.specs.declared.order.Kind.TheVariants.{Ended}
use Rattle.win_rows.specs.declared.order.Part.{Part}
use Rattle.win_rows.proofs.Listing.{on_some, child_parts}
use Rattle.win_rows.proofs.order.put_ended.Goals as goal

pub of-requires : goal.of-requires
of-requires c = c.requires.children.1

pub returns : goal.returns
returns c =
    on_some (λ h. h ∙ ap (λ (ps : List Part). c.args.parts.now.items ++ ps) (child_parts c.args.children.now.link c.args.rows.now c.args.x Ended _ _ c.in_ok-windows.ensures c.requires.children.0)) c.put_each.result c.put_each.ensures
