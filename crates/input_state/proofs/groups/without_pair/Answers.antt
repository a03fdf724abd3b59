use Rattle.std.proofs.Common.{arith}
use Rattle.std.proofs.lemmas.List.{length-set}
use Rattle.input_state.proofs.GroupLemmas.{one_sided, both_sided}
use Rattle.input_state.proofs.groups.without_pair.Goals as goal

pub returns : goal.returns
returns c =
    both_sided c.args.links.now _ _ c.args.a c.args.b 0
    (one_sided c.args.links.now c.args.a c.args.b c.without_member.result 0 (omega (arith, c.told-links, c.requires.first)) c.without_member.ensures.member (λ v lv ne. c.without_member.ensures.others v lv ne))
    (one_sided _ c.args.b c.args.a c.without_member-2.result 0 (omega (arith, length-set c.args.links.now c.args.a c.without_member.result, c.told-links, c.requires.second)) c.without_member-2.ensures.member (λ v lv ne. c.without_member-2.ensures.others v lv ne))
