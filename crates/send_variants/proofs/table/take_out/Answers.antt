use Rattle.std.proofs.Common.{◌≡◌, List, Option, Some, slice_get, slice_set, ap, subst}
use Rattle.send_variants.specs.declared.slot.Slot.{Slot}
use Rattle.send_variants.specs.Lists.{Entry}
use Rattle.send_variants.specs.Tables.{IsAfterChanged, IsBeforeChanged, IsChangedAt, end_left, entry_of, freed}
use Rattle.send_variants.proofs.Chains.{some_same}
use Rattle.send_variants.proofs.table.take_out.Goals as goal

pub returns-in_err-slot : goal.returns-in_err-slot
returns-in_err-slot c = λ was here. let v = c.in_err-slot.ensures was here in absurd (cc v.0)

pub returns : goal.returns
returns c = λ was here.
    let v = c.in_ok-slot.ensures was here in
    let slot = c.in_ok-slot.slot in
    let same : slot ≡ was = some_same slot was v.0 in
    record {
      entry_is = ap (λ (z : Slot). let o : Option Entry = Some (entry_of z) in o) same;
      free_is = v.1;
      middle = c.join_after.new.slots.items;
      after = subst (λ (z : Slot). IsChangedAt z.before (IsAfterChanged z.after) (slice_get (slice_set c.args.slots.now.items c.args.key (freed was c.args.free.now))) (slice_get c.join_after.new.slots.items)) same (subst (λ (xs : List Slot). IsChangedAt slot.before (IsAfterChanged slot.after) (slice_get xs) (slice_get c.join_after.new.slots.items)) v.2 c.join_after.ensures.slots);
      before = subst (λ (z : Slot). IsChangedAt z.after (IsBeforeChanged z.before) (slice_get c.join_after.new.slots.items) (slice_get c.join_before.new.slots.items)) same c.join_before.ensures.slots;
      first = subst (λ (z : Slot). c.join_after.new.first ≡ end_left z.before c.args.ends.now.first z.after) same c.join_after.ensures.first;
      last = subst (λ (z : Slot). c.join_before.new.last ≡ end_left z.after c.args.ends.now.last z.before) same c.join_before.ensures.last;
    }
