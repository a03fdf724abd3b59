use Rattle.std.proofs.Common.{◌≡◌, ◌∙◌, true, rules, tests}
use Rattle.win_tree.specs.Kin.{is_alone}
use Rattle.win_rows.proofs.Listing.{so_some}
use Rattle.win_tree.proofs.AloneSteps.{alone_order}
use Rattle.win_rows.proofs.Ones.{number_is}
use Rattle.win_tree.proofs.plan.listed.Goals as goal

pub returns-then-is_alone : goal.returns-then-is_alone
returns-then-is_alone c =
    let ws = c.args.rows.now in
    let alone : is_alone ws c.args.w.0 ≡ true = search (rules, tests) in
    so_some (λ v h. h ∙ alone_order ws c.args.w c.args.x.now alone (number_is ws c.args.w.0 c.args.x.now c.requires) c.requires) c.alone_steps.result c.alone_steps.ensures
