use Rattle.std.proofs.Common.{◌||◌, not, eqb, rules, of_calls}
use Rattle.std.proofs.lemmas.Bool.{eqb-true}
use Rattle.std.proofs.lemmas.Fn.{always_returns_same}
use Rattle.win_num.specs.declared.message.Hwnd.{Hwnd}
use Rattle.win_order.specs.Standings.{is_topmost}
use Rattle.win_order.proofs.Booleans.{and_left}
use Rattle.win_order.proofs.InsertLaws.{partitioned}
use Rattle.win_order.proofs.order.new_place.Goals as goal

pub returns-clause-low : goal.returns-clause-low
returns-clause-low c =
    let ss = c.args.standings.now in
    let new = c.args.new in
    λ goes. c.partition_point.ensures.partitioned (λ (w : Hwnd). not (is_topmost ss w.0)) (always_returns_same _ _ _ (λ a r f k. search (rules, of_calls))) (partitioned ss c.args.siblings.now (c.requires (eqb-true new.parent.0 0 (and_left (eqb new.parent.0 0) (not (new.topmost || is_topmost ss new.owner.0)) goes))))
