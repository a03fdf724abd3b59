use Rattle.std.proofs.Common.{ap, ◌∙◌}
use Rattle.user_model.specs.declared.entry.Answer.{Answer}
use Rattle.user_model.specs.declared.entry.Answer.TheVariants as answers
use Rattle.user_model.specs.Past.{is_refusal}
use Rattle.user_model.specs.Retrievals.{input_got}
use Rattle.group_state.proofs.GroupSteps.{no_input_from}
use Rattle.group_state.proofs.groups.GroupState.follow_got.Goals as goal

pub follow_call-requires-clause-fine : goal.follow_call-requires-clause-fine
follow_call-requires-clause-fine c = ap is_refusal c.requires.got

pub follow_call-requires-clause-no_input : goal.follow_call-requires-clause-no_input
follow_call-requires-clause-no_input c = ap (λ (a : Answer). input_got a c.args.entry.call) c.requires.got ∙ no_input_from c.args.origin c.args.number c.args.msg c.args.entry.call c.in_default.not-Input

pub follow_input-requires-clause-got : goal.follow_input-requires-clause-got
follow_input-requires-clause-got c = c.requires.got ∙ ap (λ o. answers.Got o c.args.number c.args.msg) c.in-Input.is

pub returns-in_default : goal.returns-in_default
returns-in_default c = λ setup past n. c.follow_call.ensures setup past n (ap is_refusal c.requires.got) (ap (λ (a : Answer). input_got a c.args.entry.call) c.requires.got ∙ no_input_from c.args.origin c.args.number c.args.msg c.args.entry.call c.in_default.not-Input)
