use Rattle.std.proofs.Common.{◌∙◌, refl, subst, arith}
use Rattle.std.proofs.lemmas.List.{get_or_default}
use Rattle.send_variants.specs.declared.slot.Ends.{Ends}
use Rattle.send_variants.specs.Tables.{IsTaken, no_ends}
use Rattle.send_variants.proofs.linked.take_at.Goals as goal

pub returns : goal.returns
returns c = λ was here. (
  c.take_out.new.ends,
  subst (λ (e : Ends). IsTaken c.args.slots.now.items c.take_out.new.slots.items c.args.free.now c.take_out.new.free e c.take_out.new.ends c.args.key was c.take_out.result)
      (c.index_mut.ensures.value ∙ get_or_default c.args.ends.now.items c.args.at c.index_mut.result.now no_ends (omega (arith, c.requires, c.args.ends.now.ok)))
      (c.take_out.ensures was here),
  refl,
)
