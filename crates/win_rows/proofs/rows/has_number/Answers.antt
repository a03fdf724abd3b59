use Rattle.std.proofs.Common.{◌∙◌, inl, inr, get_or, eqb, ltb, sym, ap, arith, rules, tests}
use Rattle.std.proofs.lemmas.Bool.{cases_Bool, eqb-true, eq-eqb, le-ltb}
use Rattle.std.proofs.lemmas.List.Sorted.{IsPartitionPoint-from_clause, IsPartitionedBy-ltb}
use Rattle.win_num.specs.declared.message.Hwnd.{Hwnd}
use Rattle.std.proofs.lemmas.List.{get_or_default}
use Rattle.win_rows.proofs.Rising.{any_none, any_some, none_past}
use Rattle.win_rows.proofs.rows.has_number.Goals as goal

pub returns-then-i-numbers : goal.returns-then-i-numbers
returns-then-i-numbers c =
    let ns = c.args.numbers.now in
    let i = c.partition_point-i.result in
    let w = c.args.w.0 in
    let n = λ (v : Hwnd). v.0 in
    let d : Hwnd = record { 0 = 0 } in
    let point = IsPartitionPoint-from_clause (λ v. ltb (n v) w) ns i c.partition_point-i.ensures.partitioned (IsPartitionedBy-ltb n ns w c.requires) (λ a r f' h. search (rules, tests)) in
    elim (cases_Bool (eqb (n (get_or ns i d)) w)) [
      | inl k ↦ c.eq.ensures ∙ k ∙ sym (any_some n ns w i d c.if-i-numbers.true (eqb-true _ _ k))
      | inr k ↦ c.eq.ensures ∙ k ∙ sym (any_none n ns w (none_past n ns w i c.requires point (λ e lt h. absurd (cc (k, eq-eqb (n (get_or ns i d)) w (ap n (get_or_default ns i d e lt) ∙ h))))))
    ]

pub returns-else-i-numbers : goal.returns-else-i-numbers
returns-else-i-numbers c =
    let ns = c.args.numbers.now in
    let i = c.partition_point-i.result in
    let w = c.args.w.0 in
    let n = λ (v : Hwnd). v.0 in
    let point = IsPartitionPoint-from_clause (λ v. ltb (n v) w) ns i c.partition_point-i.ensures.partitioned (IsPartitionedBy-ltb n ns w c.requires) (λ a r f' h. search (rules, tests)) in
    le-ltb _ _ (omega arith) ∙ sym (any_none n ns w (none_past n ns w i c.requires point (λ e lt h. absurd (omega arith))))
