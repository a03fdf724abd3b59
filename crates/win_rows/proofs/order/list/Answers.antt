use Rattle.std.proofs.Common.{◌≡◌, ◌≤◌, refl, rules, tests}
use Rattle.win_rows.specs.declared.order.Kind.TheVariants.{Whole, Told, Alone, Ended}
use Rattle.win_rows.proofs.Listing.{on_some, list_alone, list_whole, list_told, list_ended}
use Rattle.win_rows.proofs.order.list.Goals as goal

pub returns-in-Alone : goal.returns-in-Alone
returns-in-Alone c =
    let kind : c.args.part.kind ≡ Alone = search (rules, tests) in
    on_some (λ h. list_alone c.args.rows.now c.args.part c.args.part.window c.args.parts.now.items c.args.steps.now.items _ kind refl h) c.put_step.result c.put_step.ensures

pub returns-in-Whole : goal.returns-in-Whole
returns-in-Whole c =
    let kind : c.args.part.kind ≡ Whole = search (rules, tests) in
    let deep : 1 ≤ c.args.part.depth = search (rules, tests) in
    on_some (λ h. list_whole c.args.rows.now c.args.part c.args.part.window c.args.parts.now.items _ c.args.steps.now.items kind refl deep h) c.put_whole.result c.put_whole.ensures

pub returns-in-Told : goal.returns-in-Told
returns-in-Told c =
    let kind : c.args.part.kind ≡ Told = search (rules, tests) in
    let deep : 1 ≤ c.args.part.depth = search (rules, tests) in
    on_some (λ h. list_told c.args.rows.now c.args.part c.args.part.window c.args.parts.now.items _ c.args.steps.now.items kind refl deep h) c.put_told.result c.put_told.ensures

pub returns-in_ok-put_step-in-Ended : goal.returns-in_ok-put_step-in-Ended
returns-in_ok-put_step-in-Ended c =
    let kind : c.args.part.kind ≡ Ended = search (rules, tests) in
    let deep : 1 ≤ c.args.part.depth = search (rules, tests) in
    on_some (λ h. list_ended c.args.rows.now c.args.part c.args.part.window c.args.parts.now.items _ c.args.steps.now.items _ kind refl deep c.in_ok-put_step-in-Ended.ensures h) c.put_ended.result c.put_ended.ensures
