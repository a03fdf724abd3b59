use Rattle.std.proofs.Common.{◌≡◌, eqb, false, subst, ap, ◌∙◌}
use Rattle.pending_state.specs.Pending.{IsGroupOf}
use Rattle.core_state.proofs.state.CoreState.meant_by.Goals as goal

pub returns : goal.returns
returns c = λ i is some.
    let v = c.args.self.now in
    let home = c.home_by-home.ensures.home i is in
    let meant : eqb c.home_by-home.result 0 ≡ false = ap (λ n. eqb n 0) home ∙ some in
    record {
      home = home;
      group = subst (λ n. IsGroupOf v.past n c.members.result) home (c.members.ensures meant);
      cursor = c.cursor.ensures;
      time = c.time.ensures.time;
    }
