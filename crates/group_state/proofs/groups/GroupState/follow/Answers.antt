use Rattle.user_model.specs.declared.entry.Origin.TheVariants as origins
use Rattle.group_state.proofs.GroupSteps.{fine_of, no_input_of, refused_is, refused_step}
use Rattle.group_state.proofs.groups.GroupState.follow.Goals as goal

pub follow_call-requires-clause-fine : goal.follow_call-requires-clause-fine
follow_call-requires-clause-fine c = fine_of c.args.entry.answer c.in_default.not-Refused

pub follow_call-requires-clause-no_input : goal.follow_call-requires-clause-no_input
follow_call-requires-clause-no_input c = no_input_of c.args.entry.answer c.args.entry.call (λ n m. c.in_default.not-Got origins.Input n m)

pub returns-in-Refused : goal.returns-in-Refused
returns-in-Refused c = λ setup past n. refused_step setup past c.args.self.now c.args.place c.args.entry n (refused_is c.args.entry.answer _ c.in-Refused.is)

pub returns-in_default : goal.returns-in_default
returns-in_default c = λ setup past n. c.follow_call.ensures setup past n (fine_of c.args.entry.answer c.in_default.not-Refused) (no_input_of c.args.entry.answer c.args.entry.call (λ n m. c.in_default.not-Got origins.Input n m))
