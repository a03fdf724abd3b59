use Rattle.std.proofs.Common.{◌∙◌, map, ap}
use Rattle.win_order.specs.Families.{with_windows}
use Rattle.win_order.specs.Listed.{siblings}
use Rattle.win_order.proofs.ListedLaws.{insert_listed}
use Rattle.win_order.proofs.families.Families.set_windows.Goals as goal

pub returns-clause-ok : goal.returns-clause-ok
returns-clause-ok c =
    let p = c.args.parent in
    let ws = c.args.windows.items in
    ap (map siblings) c.in_ok-insert.ensures.entries ∙ (insert_listed c.self.inside.lists.entries p ws ∙ ap (with_windows p ws) c.self.view_is)
