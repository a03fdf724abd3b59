use Rattle.std.proofs.Common.{◌≡◌, ◌≢◌, ◌<◌, ◌∙◌, length, get_or, true, false, ltb, sym, ap, arith, rules, tests}
use Rattle.std.specs.List.Sorted.{IsNonDecreasingBy, IsPartitionPoint}
use Rattle.std.proofs.lemmas.Bool.{eqb-true, eq-eqb}
use Rattle.std.proofs.lemmas.List.{get_or_default}
use Rattle.std.proofs.lemmas.List.Sorted.{IsPartitionPoint-from_clause, IsPartitionedBy-ltb}
use Rattle.win_rows.proofs.Rising.{any_none, none_past}
use Rattle.screen_owners.specs.declared.shares.Share.{Share}
use Rattle.screen_owners.specs.Shares.{has_share}
use Rattle.screen_owners.proofs.Shared.{rising_numbers}
use Rattle.screen_owners.proofs.ShareLaws.{parent_at, parentless}
use Rattle.screen_owners.proofs.shares.parent_in.Goals as goal
use Rattle.screen_owners.proofs.shares.parent_in.Goals.{else-i-shares-via-then-i-shares+else-eq, else-i-shares-via-else-i-shares}

pub returns-then-eq-clause-some : goal.returns-then-eq-clause-some
returns-then-eq-clause-some c =
    let s = c.index-shares-i.result in
    let row = c.in_ok-row.row.now in
    parent_at c.args.tree.now.live c.args.shares.now c.args.w c.partition_point-i.result s row (omega arith) c.index-shares-i.is (ap (λ (t : Share). t.window.0) c.index-shares-i.is ∙ eqb-true _ row.parent.0 (sym c.eq.ensures ∙ c.if-eq.true)) c.in_ok-row.ensures

pub returns-else-i-shares-clause-none : goal.returns-else-i-shares-clause-none
returns-else-i-shares-clause-none c =
    let ss = c.args.shares.now in
    let i = c.partition_point-i.result in
    let row = c.in_ok-row.row.now in
    let w = row.parent.0 in
    let n = λ (s : Share). s.window.0 in
    let sorted : IsNonDecreasingBy n ss = rising_numbers n ss c.requires in
    let point : IsPartitionPoint (λ (s : Share). ltb (n s) w ≡ true) (λ (s : Share). ltb (n s) w ≡ false) ss i =
    IsPartitionPoint-from_clause (λ s. ltb (n s) w) ss i c.partition_point-i.ensures.partitioned (IsPartitionedBy-ltb n ss w sorted) (λ a r f' h. search (rules, tests)) in
    let missed : ((d : Share) → i < length ss → n (get_or ss i d) ≢ w) → has_share ss w ≡ false =
    λ other. any_none n ss w (none_past n ss w i sorted point other) in
    parentless c.args.tree.now.live ss c.args.w row c.in_ok-row.ensures
    (missed (elim c.else-i-shares.branch [
      | else-i-shares-via-then-i-shares+else-eq b ↦ λ d lt e. let q = b.index-shares-i.result in absurd (cc (eq-eqb (n q) w (ap n (b.index-shares-i.is ∙ get_or_default ss i q d lt) ∙ e), b.eq.ensures, b.if-eq.false))
      | else-i-shares-via-else-i-shares b ↦ λ d lt e. absurd (omega arith)
    ]))
