use Rattle.std.proofs.Common.{◌-◌, List, [], drop, ap, ◌∙◌}
use Rattle.send_variants.specs.Lists.{Entry, ReadyView, list_of, with_list}
use Rattle.send_state.proofs.Losing.{set_twice}
use Rattle.send_state.proofs.state.empty.Goals as goal

pub loop-who-preserved : goal.loop-who-preserved
loop-who-preserved c = record {
  rest =
      ap (λ (v : ReadyView). let w : ReadyView = record v { lists = with_list v.lists c.args.who.0 [] } in w) c.take.ensures.rest
      ∙ ap (λ (l : List (List Entry)). let w : ReadyView = record c.loop-who.ready { lists = l } in w) (set_twice c.loop-who.ready.lists (c.args.who.0 - 1) (drop 1 (list_of c.loop-who.ready.lists c.args.who.0)) [])
      ∙ c.loop-who.invariant.rest;
  lists = c.take.ensures.threads ∙ c.loop-who.invariant.lists;
}
