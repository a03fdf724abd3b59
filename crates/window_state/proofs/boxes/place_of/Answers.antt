use Rattle.std.proofs.Common.{◌≢◌, ◌<◌, ◌∙◌, length, get_or, ltb, sym, ap, arith, rules, tests}
use Rattle.std.proofs.lemmas.Bool.{eqb-true, eq-eqb}
use Rattle.std.proofs.lemmas.List.Sorted.{IsPartitionPoint-from_clause, IsPartitionedBy-ltb}
use Rattle.std.proofs.lemmas.List.{get_or_default}
use Rattle.win_num.specs.declared.message.Hwnd.{Hwnd}
use Rattle.win_rows.proofs.Rising.{none_past}
use Rattle.window_state.proofs.BoxLists.{numbers_sorted, place_hit, place_miss}
use Rattle.window_state.proofs.boxes.place_of.Goals as goal
use Rattle.window_state.proofs.boxes.place_of.Goals.{else-i-numbers-via-then-i-numbers+else-eq, else-i-numbers-via-else-i-numbers}

pub returns-then-eq : goal.returns-then-eq
returns-then-eq c =
    let t = c.args.tree.now in
    let hs = c.windows-numbers.result.now in
    let i = c.partition_point-i.result in
    let d : Hwnd = record { 0 = 0 } in
    place_hit t.last t.live hs i c.args.w.0 d c.windows-numbers.ensures.numbers c.windows-numbers.ensures.ordered c.if-i-numbers.true (eqb-true (get_or hs i d).0 c.args.w.0 (sym c.eq.ensures ∙ c.if-eq.true))

pub returns-else-i-numbers : goal.returns-else-i-numbers
returns-else-i-numbers c =
    let t = c.args.tree.now in
    let hs = c.windows-numbers.result.now in
    let i = c.partition_point-i.result in
    let w = c.args.w.0 in
    let n = λ (v : Hwnd). v.0 in
    let d : Hwnd = record { 0 = 0 } in
    let sorted = numbers_sorted t.last t.live hs c.windows-numbers.ensures.numbers c.windows-numbers.ensures.ordered in
    let point = IsPartitionPoint-from_clause (λ v. ltb (n v) w) hs i c.partition_point-i.ensures.partitioned (IsPartitionedBy-ltb n hs w sorted) (λ a r f' h. search (rules, tests)) in
    let missed = λ (other : (h : Hwnd) → i < length hs → n (get_or hs i h) ≢ w). place_miss t.live hs w d c.windows-numbers.ensures.numbers (none_past n hs w i sorted point other) in
    missed (elim c.else-i-numbers.branch [
      | else-i-numbers-via-then-i-numbers+else-eq b ↦ λ h lt same. absurd (cc (b.eq.ensures, b.if-eq.false, eq-eqb (n (get_or hs i d)) w (ap n (get_or_default hs i d h lt) ∙ same)))
      | else-i-numbers-via-else-i-numbers b ↦ λ h lt same. absurd (omega arith)
    ])
