use Rattle.std.proofs.Common.{◌≡◌, ◌≤◌, false, sym, ◌∙◌, arith}
use Rattle.std.specs.Prelude.{◌||◌, nat_lt}
use Rattle.std.proofs.lemmas.Bool.Decides.{nat_tests}
use Rattle.user_model.specs.Inputs.{key_message, of_key}
use Rattle.user_model.specs.Refusals.{invalid_parameter}
use Rattle.user_model.specs.ReplyInput.{inject, is_no_key}
use Rattle.core_window.proofs.Injected.{passed}
use Rattle.core_window.proofs.inputs.key_answer.Goals as goal

pub returns : goal.returns
returns c =
    let v = c.args.state.now in
    let few : c.args.down ≤ 1 = c.if-down-gt1.false in
    let key : is_no_key c.args.key ≡ false = sym c.is_no_key.ensures ∙ c.if-is_no_key.false in
    let fits : (nat_lt 1 c.args.down || is_no_key c.args.key) ≡ false = grind (arith, nat_tests, few, key) in
    c.inject_answer.ensures (of_key (key_message c.args.down) c.args.key) (c.key_home.ensures.home (key_message c.args.down) c.args.key) c.key_message.ensures
    ∙ passed (nat_lt 1 c.args.down || is_no_key c.args.key) invalid_parameter (inject v.setup v.past (of_key (key_message c.args.down) c.args.key)) fits
