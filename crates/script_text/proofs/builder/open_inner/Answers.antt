use Rattle.std.proofs.Common.{◌≡◌, ◌≤◌, ◌<◌, List, Option, Some, length, arith, sym, ap, ◌∙◌}
use Rattle.script_text.specs.Building.{kinds, kind_of}
use Rattle.script_text.specs.Nesting.{Kind}
use Rattle.script_text.proofs.BuildLemmas.{length_kinds, none_opened, too_deep, one_opened, not_zero, is_zero}
use Rattle.script_text.proofs.builder.open_inner.Goals as goal
use Rattle.script_text.proofs.builder.open_inner.Goals.{then-is_empty-via-then-is_empty, then-is_empty-via-else-is_empty+then-len-ge-OPEN_LIMIT}

pub returns-then-is_empty-clause-kinds : goal.returns-then-is_empty-clause-kinds
returns-then-is_empty-clause-kinds c =
    let blocks = c.args.blocks.now in
    let kind = kind_of c.args.opening in
    elim c.then-is_empty.branch [
      | then-is_empty-via-then-is_empty w ↦
          let none : length (kinds blocks.items) ≡ 0 = omega (arith, length_kinds blocks.items, blocks.ok.0, is_zero _ (sym c.is_empty.ensures ∙ w.if-is_empty.true)) in
          sym (none_opened kind (kinds blocks.items) none)
      | then-is_empty-via-else-is_empty+then-len-ge-OPEN_LIMIT w ↦
          let many : 33 ≤ length (kinds blocks.items) = omega (arith, length_kinds blocks.items, blocks.ok.0, w.len.ensures, w.if-len-ge-OPEN_LIMIT.true) in
          sym (too_deep kind (kinds blocks.items) many)
    ]

pub returns-clause-kinds : goal.returns-clause-kinds
returns-clause-kinds c =
    let blocks = c.args.blocks.now in
    let kind = kind_of c.args.opening in
    let some : 0 < length (kinds blocks.items) = omega (arith, length_kinds blocks.items, blocks.ok.0, not_zero _ (sym c.is_empty.ensures ∙ c.if-is_empty.false)) in
    let few : length (kinds blocks.items) < 33 = omega (arith, length_kinds blocks.items, blocks.ok.0, c.len.ensures, c.if-len-ge-OPEN_LIMIT.false) in
    let opened = one_opened kind (kinds blocks.items) some few in
    let e = c.in_ok-open_block.ensures.kinds in
    ap (λ (l : List Kind). let o : Option (List Kind) = Some l in o) e ∙ sym opened
