use Rattle.std.proofs.Common.{[], subst, sym, ◌∙◌}
use Rattle.input_state.specs.State.{State}
use Rattle.group_state.specs.GroupTables.{IsGroupsAt}
use Rattle.group_state.proofs.Empty.{empty_groups}
use Rattle.group_state.proofs.groups.GroupState.new.Goals as goal

pub returns : goal.returns
returns c = λ setup ready same.
    subst (λ (s : State). IsGroupsAt setup [] (record { inputs = s; foreground = 0 })) (sym (c.in_ok-inputs.ensures.ok ∙ c.new.ensures.1)) (empty_groups setup c.args.threads c.new.ensures.0 ready same)
