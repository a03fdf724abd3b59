use Rattle.std.proofs.Common.{◌≡◌, ◌≢◌, ◌<◌, ◌∙◌, List, length, get_or, None, true, false, ltb, sym, ap, subst, arith, rules, tests}
use Rattle.std.proofs.lemmas.Bool.{eqb-true, eq-eqb}
use Rattle.std.proofs.lemmas.List.Sorted.{IsPartitionPoint-from_clause, IsPartitionedBy-ltb}
use Rattle.std.specs.List.Sorted.{IsNonDecreasingBy, IsPartitionPoint}
use Rattle.std.proofs.lemmas.List.{get_or_default}
use Rattle.win_rows.specs.declared.window.Window.{Window}
use Rattle.win_rows.specs.declared.rows.Place.{Place}
use Rattle.win_rows.specs.Windows.{window_of}
use Rattle.win_rows.specs.Index.{rows_at, IsPlace}
use Rattle.win_rows.proofs.Rising.{rises, places_rise, none_past}
use Rattle.win_rows.proofs.Indexed.{place_found, place_missed}
use Rattle.win_rows.proofs.rows.Rows.place_of.Goals as goal
use Rattle.win_rows.proofs.rows.Rows.place_of.Goals.{else-i-len-via-then-i-len+else-eq, else-i-len-via-else-i-len}

pub returns-then-eq-clause-place : goal.returns-then-eq-clause-place
returns-then-eq-clause-place c =
    let s = c.self.inside.slab in
    let ps = c.self.inside.places.items in
    let q = c.index.result.now in
    let same : q.number.0 ≡ c.args.w.0 = eqb-true q.number.0 c.args.w.0 (sym c.eq.ensures ∙ c.if-eq.true) in
    subst (λ (ws : List Window). IsPlace ws c.args.w.0 c.partition_point-i.result) c.self.view_is
    (place_found s ps c.self.invariant c.args.w.0 c.partition_point-i.result q (omega arith) c.index.ensures same)

pub returns-else-i-len-clause-place : goal.returns-else-i-len-clause-place
returns-else-i-len-clause-place c =
    let s = c.self.inside.slab in
    let ps = c.self.inside.places.items in
    let i = c.partition_point-i.result in
    let w = c.args.w.0 in
    let n = λ (p : Place). p.number.0 in
    let sorted : IsNonDecreasingBy n ps = rises n 0 ps (places_rise 0 ps (rows_at s ps) c.self.invariant.numbers c.self.invariant.rising) in
    let point : IsPartitionPoint (λ (p : Place). ltb (n p) w ≡ true) (λ (p : Place). ltb (n p) w ≡ false) c.deref.result.now i =
    IsPartitionPoint-from_clause (λ p. ltb (n p) w) c.deref.result.now i c.partition_point-i.ensures.partitioned
    (IsPartitionedBy-ltb n c.deref.result.now w (subst (λ (qs : List Place). IsNonDecreasingBy n qs) (sym c.deref.ensures.value) sorted))
    (λ a r f' h. search (rules, tests)) in
    let point' : IsPartitionPoint (λ (p : Place). ltb (n p) w ≡ true) (λ (p : Place). ltb (n p) w ≡ false) ps i =
    subst (λ (qs : List Place). IsPartitionPoint (λ (p : Place). ltb (n p) w ≡ true) (λ (p : Place). ltb (n p) w ≡ false) qs i) c.deref.ensures.value point in
    let missed : ((d : Place) → i < length ps → n (get_or ps i d) ≢ w) → window_of (rows_at s ps) w ≡ None =
    λ other. place_missed s ps c.self.invariant w i (none_past n ps w i sorted point' other) in
    subst (λ (ws : List Window). window_of ws w ≡ None) c.self.view_is
    (missed (elim c.else-i-len.branch [
      | else-i-len-via-then-i-len+else-eq b ↦ λ d lt e. let q = b.index.result.now in absurd (cc (eq-eqb (n q) w (ap n (b.index.ensures ∙ get_or_default ps i q d lt) ∙ e), b.eq.ensures, b.if-eq.false))
      | else-i-len-via-else-i-len b ↦ λ d lt e. absurd (omega arith)
    ]))
