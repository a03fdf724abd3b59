use Rattle.std.proofs.Common.{◌∙◌, rules}
use Rattle.script_text.proofs.ReadWhole.{width_told, height_told, budget_told, order_told}
use Rattle.script_text.proofs.parser.script_of.Goals as goal

pub returns : goal.returns
returns c texts head =
    let width = c.in_ok-width.ensures.width ∙ width_told texts c.args.head.now.screen.now head.0 in
    let height = c.in_ok-width.ensures.height ∙ height_told texts c.args.head.now.screen.now head.0 in
    let budget = c.in_ok-budget.ensures ∙ budget_told texts c.args.head.now.budget.now head.1 in
    let order = c.in_ok-order.ensures ∙ order_told texts c.args.head.now.order.now head.2 in
    let procedures = c.in_ok-procedures.ensures in
    search rules
