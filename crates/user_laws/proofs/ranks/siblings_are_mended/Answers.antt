use Rattle.std.proofs.Common.{◌≡◌, ◌∙◌, List, sym, ap, cond, map, subst}
use Rattle.win_num.specs.declared.message.Hwnd.{Hwnd}
use Rattle.win_order.specs.Kept.{age_in, is_child, times, top_levels as tops}
use Rattle.win_order.specs.Layers.{Layers, siblings_of}
use Rattle.win_order.specs.Mended.{AreOwned, IsMended}
use Rattle.win_order.specs.Standing.{Standing}
use Rattle.win_order.specs.Standings.{top_level}
use Rattle.win_order.proofs.KeptLaws.{kept_owned}
use Rattle.user_model.specs.Past.{Past}
use Rattle.user_model.specs.ZOrder.{standings}
use Rattle.window_state.specs.Orders.{IsOrderAt}
use Rattle.window_state.proofs.OrderSteps.{order_of}
use Rattle.user_laws.specs.Ranks.{top_levels}
use Rattle.user_laws.proofs.ranks.siblings_are_mended.Goals as goal

-- the order's top-level windows are the past's
same_tops : (past : Past) (z : Layers) → IsOrderAt past z → tops z ≡ top_levels past
same_tops past z at = ap (λ (ss : List Standing). map (top_level ss) (siblings_of 0 z)) at.standings ∙ ap (λ (ws : List Hwnd). map (top_level (standings past)) ws) (at.lists 0)

pub returns : goal.returns
returns c = record {
  listed = λ setup past p w lawful.
      let order = order_of setup past lawful in
      ap (times w) (sym (order.1.lists p)) ∙ (order.1.kept.listed p w ∙ ap (λ (ss : List Standing). cond (is_child w p ss) 1 0) order.1.standings);
  mended = λ setup past lawful.
      let order = order_of setup past lawful in
      subst IsMended (same_tops past order.0 order.1) order.1.kept.mended;
  premises = λ setup past lawful.
      let order = order_of setup past lawful in
      subst (AreOwned (age_in (standings past))) (same_tops past order.0 order.1) (subst (λ (ss : List Standing). AreOwned (age_in ss) (tops order.0)) order.1.standings (kept_owned order.0 order.1.kept));
}
