use Rattle.std.proofs.Common.{◌≡◌, ◌∙◌, ◌<◌, length, get_or, ltb, true, false, ap, arith, rules, tests}
use Rattle.std.proofs.lemmas.Bool.{ltb-true, ltb-false}
use Rattle.std.proofs.lemmas.List.{get_or_default}
use Rattle.std.proofs.lemmas.List.Sorted.{IsPartitionPoint-from_clause, IsPartitionedBy-ltb}
use Rattle.std.specs.List.Sorted.{IsPartitionPoint}
use Rattle.post_queue.specs.declared.index.Place.{Place}
use Rattle.post_queue.proofs.PlaceLemmas.{missed, numbers_rise}
use Rattle.post_queue.proofs.index.place_of.Goals as goal
use Rattle.post_queue.proofs.index.place_of.Goals.{else-i-len-via-then-i-len+else-index-number, else-i-len-via-else-i-len}

pub returns-else-i-len-clause-no_key : goal.returns-else-i-len-clause-no_key
returns-else-i-len-clause-no_key c =
    let ps = c.args.places.now.items in
    let i = c.partition_point-i.result in
    let w = c.args.number in
    let n = λ (p : Place). p.number in
    let point : IsPartitionPoint (λ (p : Place). ltb (n p) w ≡ true) (λ (p : Place). ltb (n p) w ≡ false) ps i =
    IsPartitionPoint-from_clause (λ p. ltb (n p) w) ps i c.partition_point-i.ensures.partitioned (IsPartitionedBy-ltb n ps w (numbers_rise 0 ps c.requires)) (λ a r f' h. search (rules, tests)) in
    let high : (d : Place) → i < length ps → w < (get_or ps i d).number = elim c.else-i-len.branch [
      | else-i-len-via-then-i-len+else-index-number b ↦ λ d lt.
          let at = ltb-false _ _ (point.1 i d (omega arith) lt) in
          omega (arith, ap n (b.index.ensures ∙ get_or_default ps i b.index.result.now d lt), at, b.if-index-number.false)
      | else-i-len-via-else-i-len b ↦ λ d lt. absurd (omega (arith, lt, b.if-i-len.false, c.len.ensures, c.args.places.now.ok.0))
    ] in
    (missed w 0 ps i c.requires (λ k d lt there. let at = ltb-true _ _ (point.0 k d (omega arith) lt) in omega (arith, at)) high).0

pub returns-else-i-len-clause-nothing : goal.returns-else-i-len-clause-nothing
returns-else-i-len-clause-nothing c =
    let ps = c.args.places.now.items in
    let i = c.partition_point-i.result in
    let w = c.args.number in
    let n = λ (p : Place). p.number in
    let point : IsPartitionPoint (λ (p : Place). ltb (n p) w ≡ true) (λ (p : Place). ltb (n p) w ≡ false) ps i =
    IsPartitionPoint-from_clause (λ p. ltb (n p) w) ps i c.partition_point-i.ensures.partitioned (IsPartitionedBy-ltb n ps w (numbers_rise 0 ps c.requires)) (λ a r f' h. search (rules, tests)) in
    let high : (d : Place) → i < length ps → w < (get_or ps i d).number = elim c.else-i-len.branch [
      | else-i-len-via-then-i-len+else-index-number b ↦ λ d lt.
          let at = ltb-false _ _ (point.1 i d (omega arith) lt) in
          omega (arith, ap n (b.index.ensures ∙ get_or_default ps i b.index.result.now d lt), at, b.if-index-number.false)
      | else-i-len-via-else-i-len b ↦ λ d lt. absurd (omega (arith, lt, b.if-i-len.false, c.len.ensures, c.args.places.now.ok.0))
    ] in
    (missed w 0 ps i c.requires (λ k d lt there. let at = ltb-true _ _ (point.0 k d (omega arith) lt) in omega (arith, at)) high).1
