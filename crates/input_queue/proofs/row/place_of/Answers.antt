use Rattle.std.proofs.Common.{◌≡◌, ◌∙◌, ◌<◌, length, get_or, ltb, true, false, ap, arith, rules, tests}
use Rattle.std.proofs.lemmas.Bool.{ltb-true, ltb-false}
use Rattle.std.proofs.lemmas.List.{get_or_default}
use Rattle.std.proofs.lemmas.List.Sorted.{IsPartitionPoint-from_clause, IsPartitionedBy-ltb}
use Rattle.std.specs.List.Sorted.{IsPartitionPoint}
use Rattle.input_queue.specs.declared.element.Element.{Element}
use Rattle.input_queue.proofs.Halving.{missed, numbers_rise}
use Rattle.input_queue.proofs.row.place_of.Goals as goal
use Rattle.input_queue.proofs.row.place_of.Goals.{else-at-len-via-then-at-len+else-number, else-at-len-via-else-at-len}

pub returns-else-at-len-clause-none : goal.returns-else-at-len-clause-none
returns-else-at-len-clause-none c =
    let xs = c.args.elements.now.items in
    let i = c.partition_point-at.result in
    let w = c.args.number in
    let n = λ (x : Element). x.number in
    let point : IsPartitionPoint (λ (x : Element). ltb (n x) w ≡ true) (λ (x : Element). ltb (n x) w ≡ false) xs i =
    IsPartitionPoint-from_clause (λ x. ltb (n x) w) xs i c.partition_point-at.ensures.partitioned (IsPartitionedBy-ltb n xs w (numbers_rise xs c.requires)) (λ a r f' h. search (rules, tests)) in
    let high : (d : Element) → i < length xs → w < (get_or xs i d).number = elim c.else-at-len.branch [
      | else-at-len-via-then-at-len+else-number b ↦ λ d lt.
          let at = ltb-false _ _ (point.1 i d (omega arith) lt) in
          omega (arith, b.number.ensures, ap n (b.index.ensures ∙ get_or_default xs i b.index.result.now d lt), at, b.if-number.false)
      | else-at-len-via-else-at-len b ↦ λ d lt. absurd (omega (arith, lt, b.if-at-len.false, c.len.ensures, c.args.elements.now.ok.0))
    ] in
    missed w xs i c.requires (λ k d lt there. ltb-true _ _ (point.0 k d (omega arith) lt)) high
