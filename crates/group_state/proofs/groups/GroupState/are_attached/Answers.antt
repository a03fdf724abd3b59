use Rattle.std.proofs.Common.{◌⊎◌, ◌≤◌, inl, inr}
use Rattle.group_state.proofs.Values.{none_attached}
use Rattle.group_state.proofs.groups.GroupState.are_attached.Goals as goal
use Rattle.group_state.proofs.groups.GroupState.are_attached.Goals.{then-t-ge16-via-then-t-ge16, then-t-ge16-via-else-t-ge16+then-u-ge16}

pub returns-then-t-ge16 : goal.returns-then-t-ge16
returns-then-t-ge16 c = λ setup past lawful groups. none_attached setup past c.args.t c.args.u lawful groups.few far
  where
    far : (16 ≤ c.args.t) ⊎ (16 ≤ c.args.u)
    far = elim c.then-t-ge16.branch [
      | then-t-ge16-via-then-t-ge16 w ↦ inl w.if-t-ge16.true
      | then-t-ge16-via-else-t-ge16+then-u-ge16 w ↦ inr w.if-u-ge16.true
    ]
