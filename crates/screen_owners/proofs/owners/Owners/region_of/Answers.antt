use Rattle.std.proofs.Common.{◌≡◌, ◌≢◌, ◌<◌, ◌∙◌, List, length, get_or, Some, None, true, false, ltb, sym, ap, subst, arith, rules, tests}
use Rattle.std.specs.Prelude.{option_map}
use Rattle.std.specs.List.Sorted.{IsNonDecreasingBy, IsPartitionPoint}
use Rattle.std.proofs.lemmas.Bool.{eqb-true, eq-eqb, ltb-true}
use Rattle.std.proofs.lemmas.List.{get_or_default}
use Rattle.std.proofs.lemmas.List.Sorted.{IsPartitionPoint-from_clause, IsPartitionedBy-ltb}
use Rattle.win_rows.proofs.Rising.{any_none, none_past}
use Rattle.screen_owners.specs.declared.owners.Owned.{Owned}
use Rattle.screen_owners.specs.Owners.{entry_of, owned_region}
use Rattle.screen_owners.proofs.Shared.{found_at, none_at, rising_numbers}
use Rattle.screen_owners.proofs.owners.Owners.region_of.Goals as goal
use Rattle.screen_owners.proofs.owners.Owners.region_of.Goals.{else-i-len-via-then-i-len+else-eq, else-i-len-via-else-i-len}

pub returns-then-eq : goal.returns-then-eq
returns-then-eq c =
    let es = c.self.inside.entries.items in
    let q = c.index.result.now in
    let i = c.partition_point-i.result in
    let w = c.args.w.0 in
    let n = λ (o : Owned). o.window.0 in
    let sorted : IsNonDecreasingBy n es = rising_numbers n es c.self.invariant in
    let point : IsPartitionPoint (λ (o : Owned). ltb (n o) w ≡ true) (λ (o : Owned). ltb (n o) w ≡ false) c.deref.result.now i =
    IsPartitionPoint-from_clause (λ o. ltb (n o) w) c.deref.result.now i c.partition_point-i.ensures.partitioned
    (IsPartitionedBy-ltb n c.deref.result.now w (subst (λ (os : List Owned). IsNonDecreasingBy n os) (sym c.deref.ensures.value) sorted))
    (λ a r f' h. search (rules, tests)) in
    let point' : IsPartitionPoint (λ (o : Owned). ltb (n o) w ≡ true) (λ (o : Owned). ltb (n o) w ≡ false) es i =
    subst (λ (os : List Owned). IsPartitionPoint (λ (o : Owned). ltb (n o) w ≡ true) (λ (o : Owned). ltb (n o) w ≡ false) os i) c.deref.ensures.value point in
    let same : n q ≡ w = eqb-true (n q) w (sym c.eq.ensures ∙ c.if-eq.true) in
    let found : entry_of es w ≡ Some q = found_at n es w i q (λ k d h. ltb-true _ _ (point'.0 k d (omega arith) h)) (omega arith) c.index.ensures same in
    let here : entry_of c.args.self.now w ≡ Some q = subst (λ (os : List Owned). entry_of os w ≡ Some q) c.self.view_is found in
    let read : c.index-then-eq.result.now ≡ q = c.index-then-eq.ensures ∙ (get_or_default es i c.index-then-eq.result.now q (omega arith) ∙ sym c.index.ensures) in
    ap (λ (o : Owned). Some o.region) read ∙ sym (ap (option_map owned_region) here)

pub returns-else-i-len : goal.returns-else-i-len
returns-else-i-len c =
    let es = c.self.inside.entries.items in
    let i = c.partition_point-i.result in
    let w = c.args.w.0 in
    let n = λ (o : Owned). o.window.0 in
    let sorted : IsNonDecreasingBy n es = rising_numbers n es c.self.invariant in
    let point : IsPartitionPoint (λ (o : Owned). ltb (n o) w ≡ true) (λ (o : Owned). ltb (n o) w ≡ false) c.deref.result.now i =
    IsPartitionPoint-from_clause (λ o. ltb (n o) w) c.deref.result.now i c.partition_point-i.ensures.partitioned
    (IsPartitionedBy-ltb n c.deref.result.now w (subst (λ (os : List Owned). IsNonDecreasingBy n os) (sym c.deref.ensures.value) sorted))
    (λ a r f' h. search (rules, tests)) in
    let point' : IsPartitionPoint (λ (o : Owned). ltb (n o) w ≡ true) (λ (o : Owned). ltb (n o) w ≡ false) es i =
    subst (λ (os : List Owned). IsPartitionPoint (λ (o : Owned). ltb (n o) w ≡ true) (λ (o : Owned). ltb (n o) w ≡ false) os i) c.deref.ensures.value point in
    let missed : ((d : Owned) → i < length es → n (get_or es i d) ≢ w) → entry_of es w ≡ None =
    λ other. none_at n es w (any_none n es w (none_past n es w i sorted point' other)) in
    sym (ap (option_map owned_region) (subst (λ (os : List Owned). entry_of os w ≡ None) c.self.view_is
    (missed (elim c.else-i-len.branch [
      | else-i-len-via-then-i-len+else-eq b ↦ λ d lt e. let q = b.index.result.now in absurd (cc (eq-eqb (n q) w (ap n (b.index.ensures ∙ get_or_default es i q d lt) ∙ e), b.eq.ensures, b.if-eq.false))
      | else-i-len-via-else-i-len b ↦ λ d lt e. absurd (omega arith)
    ]))))
