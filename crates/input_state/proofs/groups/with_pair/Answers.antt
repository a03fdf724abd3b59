use Rattle.std.proofs.Common.{arith}
use Rattle.std.proofs.lemmas.List.{length-set}
use Rattle.input_state.proofs.GroupLemmas.{one_sided, both_sided}
use Rattle.input_state.proofs.groups.with_pair.Goals as goal

pub returns : goal.returns
returns c =
    both_sided c.args.links.now _ _ c.args.a c.args.b 1
    (one_sided c.args.links.now c.args.a c.args.b c.with_member.result 1 (omega (arith, c.told-links, c.requires.first)) c.with_member.ensures.member (λ v lv ne. c.with_member.ensures.others v ne))
    (one_sided _ c.args.b c.args.a c.with_member-2.result 1 (omega (arith, length-set c.args.links.now c.args.a c.with_member.result, c.told-links, c.requires.second)) c.with_member-2.ensures.member (λ v lv ne. c.with_member-2.ensures.others v ne))
