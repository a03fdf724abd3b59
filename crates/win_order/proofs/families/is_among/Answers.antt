use Rattle.std.proofs.Common.{◌∙◌, rules, of_calls}
use Rattle.std.proofs.lemmas.Fn.{always_returns_same}
use Rattle.win_num.specs.declared.message.Hwnd.{Hwnd}
use Rattle.win_order.proofs.GoneLaws.{gone_search}
use Rattle.win_order.proofs.families.is_among.Goals as goal

pub returns : goal.returns
returns c =
    let found = c.binary_search_by_key.ensures.position (λ (v : Hwnd). v.0) (always_returns_same _ _ _ (λ a r f k. search (rules, of_calls))) in
    λ rising. c.is_ok.ensures.value ∙ gone_search c.args.windows.now c.args.window c.binary_search_by_key.result rising c.binary_search_by_key.ensures.bound found
