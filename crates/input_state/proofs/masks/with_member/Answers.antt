use Rattle.std.proofs.Common.{w16}
use Rattle.std.proofs.lemmas.Nat.Bits.{bit_at_set_same, bit_at_set_other}
use Rattle.input_state.proofs.masks.with_member.Goals as goal

pub returns-clause-member : goal.returns-clause-member
returns-clause-member c = bit_at_set_same w16 c.args.mask c.args.t c.requires

pub returns-clause-others : goal.returns-clause-others
returns-clause-others c = bit_at_set_other w16 c.args.mask c.args.t c.requires
