use Rattle.std.proofs.Common.{◌∙◌, ap, sym, map, true}
use Rattle.win_rows.specs.declared.window.Window.{Window}
use Rattle.win_rows.specs.Windows.{number_of}
use Rattle.win_tree.proofs.Drops.{some_rise}
use Rattle.user_model.proofs.ListLaws.{filter_every}
use Rattle.std.proofs.Common.{List, refl}
use Rattle.window_state.proofs.ranks.leave.Goals as goal

pub keep-requires-clause-rising : goal.keep-requires-clause-rising
keep-requires-clause-rising c =
    let ws = c.args.tree.now.live in
    some_rise (λ x. true) c.args.tree.now.last ws c.windows.result.now c.windows.ensures.ordered (c.windows.ensures.numbers ∙ ap (λ (us : List Window). map number_of us) (sym (filter_every (λ (x : Window). true) (λ x. refl) ws)))
