use Rattle.std.proofs.Common.{◌≡◌, ◌≢◌, ◌<◌, ◌∙◌, length, get_or, true, false, ltb, ap, arith, rules, tests}
use Rattle.std.specs.List.Sorted.{IsNonDecreasingBy, IsPartitionPoint}
use Rattle.std.proofs.lemmas.Bool.{eq-eqb}
use Rattle.std.proofs.lemmas.List.{get_or_default}
use Rattle.std.proofs.lemmas.List.Sorted.{IsPartitionPoint-from_clause, IsPartitionedBy-ltb}
use Rattle.paint_sessions.specs.declared.sessions.Session.{Session}
use Rattle.paint_sessions.proofs.Lists.{number, rises}
use Rattle.paint_sessions.proofs.Putting.{missing_at}
use Rattle.paint_sessions.proofs.sessions.place_of.Goals as goal
use Rattle.paint_sessions.proofs.sessions.place_of.Goals.{else-i-sessions-via-then-i-sessions+else-eq, else-i-sessions-via-else-i-sessions}

pub returns-else-i-sessions-clause-missing : goal.returns-else-i-sessions-clause-missing
returns-else-i-sessions-clause-missing c =
    let ss = c.args.sessions.now in
    let i = c.partition_point-i.result in
    let w = c.args.w.0 in
    let sorted : IsNonDecreasingBy number ss = rises 0 ss c.requires in
    let point : IsPartitionPoint (λ (s : Session). ltb (number s) w ≡ true) (λ (s : Session). ltb (number s) w ≡ false) ss i =
    IsPartitionPoint-from_clause (λ s. ltb (number s) w) ss i c.partition_point-i.ensures.partitioned (IsPartitionedBy-ltb number ss w sorted) (λ a r f' h. search (rules, tests)) in
    let missed : (s : Session) → i < length ss → number (get_or ss i s) ≢ w =
    elim c.else-i-sessions.branch [
      | else-i-sessions-via-then-i-sessions+else-eq b ↦ λ s lt e. let q = b.index-sessions-i.result in absurd (cc (eq-eqb (number q) w (ap number (b.index-sessions-i.is ∙ get_or_default ss i q s lt) ∙ e), b.eq.ensures, b.if-eq.false))
      | else-i-sessions-via-else-i-sessions b ↦ λ s lt e. absurd (omega arith)
    ] in
    missing_at ss w i c.partition_point-i.ensures.bound point missed
