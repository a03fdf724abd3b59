use Rattle.std.proofs.Common.{◌≡◌, ◌≢◌, ◌<◌, ◌∙◌, length, get_or, true, false, ltb, ap, arith, rules, tests}
use Rattle.std.specs.List.Sorted.{IsNonDecreasingBy, IsPartitionPoint}
use Rattle.std.proofs.lemmas.Bool.{eq-eqb}
use Rattle.std.proofs.lemmas.List.{get_or_default}
use Rattle.std.proofs.lemmas.List.Sorted.{IsPartitionPoint-from_clause, IsPartitionedBy-ltb}
use Rattle.dirty_windows.specs.declared.entries.DirtyWindow.{DirtyWindow}
use Rattle.dirty_windows.proofs.Lists.{number, rises}
use Rattle.dirty_windows.proofs.Settling.{missing_at}
use Rattle.dirty_windows.proofs.entries.place_of.Goals as goal
use Rattle.dirty_windows.proofs.entries.place_of.Goals.{else-i-entries-via-then-i-entries+else-eq, else-i-entries-via-else-i-entries}

pub returns-else-i-entries-clause-missing : goal.returns-else-i-entries-clause-missing
returns-else-i-entries-clause-missing c =
    let es = c.args.entries.now in
    let i = c.partition_point-i.result in
    let w = c.args.w.0 in
    let sorted : IsNonDecreasingBy number es = rises 0 es c.requires in
    let point : IsPartitionPoint (λ (d : DirtyWindow). ltb (number d) w ≡ true) (λ (d : DirtyWindow). ltb (number d) w ≡ false) es i =
    IsPartitionPoint-from_clause (λ d. ltb (number d) w) es i c.partition_point-i.ensures.partitioned (IsPartitionedBy-ltb number es w sorted) (λ a r f' h. search (rules, tests)) in
    let missed : (d : DirtyWindow) → i < length es → number (get_or es i d) ≢ w =
    elim c.else-i-entries.branch [
      | else-i-entries-via-then-i-entries+else-eq b ↦ λ d lt e. let q = b.index-entries-i.result in absurd (cc (eq-eqb (number q) w (ap number (b.index-entries-i.is ∙ get_or_default es i q d lt) ∙ e), b.eq.ensures, b.if-eq.false))
      | else-i-entries-via-else-i-entries b ↦ λ d lt e. absurd (omega arith)
    ] in
    missing_at es w i c.partition_point-i.ensures.bound point missed
