use Rattle.std.proofs.Common.{◌≡◌, ◌∙◌, [], replicate, sym, ap, subst, arith}
use Rattle.send_variants.specs.Lists.{IsSound, total}
use Rattle.send_variants.specs.Tables.{lists_in, no_ends}
use Rattle.send_variants.proofs.Entries.{sound-new, total-empty}
use Rattle.send_variants.proofs.Tables.{lists_empty, empty_row}
use Rattle.send_variants.proofs.linked.LinkedLists.new.Goals as goal

pub invariant_of-result : goal.invariant_of-result
invariant_of-result c =
    let s = c.in_ok-slots.slots.items in
    let free = c.in_ok-slots.ensures in
    let ends : c.in_ok-ends.ends.items ≡ replicate c.args.threads no_ends = c.in_ok-ends.ensures in
    let view : lists_in s c.in_ok-ends.ends.items ≡ replicate c.args.threads [] = ap (lists_in s) ends ∙ lists_empty s c.args.threads in (
      record {
        rows = λ i. [];
        unused = free.0;
        row = λ i lt. empty_row s c.in_ok-ends.ends.items c.args.threads i ends;
        freed = free.1;
        full = omega (arith, ap total view, total-empty c.args.threads, free.2);
      },
      subst IsSound (sym view) (sound-new c.args.threads c.requires.0 c.requires.1),
    )

pub returns : goal.returns
returns c = ap (lists_in c.in_ok-slots.slots.items) c.in_ok-ends.ensures ∙ lists_empty c.in_ok-slots.slots.items c.args.threads
