-- What a seat knows after its turn.
use Rattle.std.proofs.Common.{◌≡◌, ℕ, List, [], ◌∷◌, ◌++◌, sym, refl, ap, ◌∙◌, subst, Bool, true, false, Option, Some, Result, Ok, Err, IfOk, OnErr, MatchBool}
use Rattle.std.proofs.lemmas.List.{append_assoc}
use Rattle.atomic_table.specs.declared.shared.Seat.{Seat}
use Rattle.turn_lock.specs.Rule.{Sat}
use Rattle.turn_lock.specs.Seats.{sitting, at_rest, IsSameSeat, Looks, Adds, Finds, InHand, left, left_counted, taking, Takes}
use Rattle.turn_lock.specs.declared.view.View.{View}
use Rattle.turn_lock.specs.declared.view.Stage.TheVariants.{Away}
use Rattle.turn_lock.proofs.Lists.{begins_chain, calls_more, calls_one}

pub rest_by : {S C A : Type 0} (s : Seat (Option S) (View S C A)) (v : View S C A) → s.me ≡ (v, []) → v.stage ≡ Away → v.joined ≡ [] → s ≡ at_rest s
rest_by {S} {C} {A} s v e a b =
    let from : Sat S C A = (v, []) in let to : Sat S C A = (record v { stage = Away; joined = [] }, []) in let idle : from ≡ to = λ i. (record v { stage = a i; joined = b i }, []) in
    let whole : s.me ≡ (record s.me.0 { stage = Away; joined = [] }, []) = e ∙ (idle ∙ sym (ap (λ (m : Sat S C A). let n : Sat S C A = (record m.0 { stage = Away; joined = [] }, []) in n) e)) in
    λ i. record s { me = whole i }

module _ {S C A G : Type 0} (history : S → List (C × A)) (setting : S → G) (lawful : G → List (C × A) → Type 0) (number : C → ℕ) (o : S) (s p : Seat (Option S) (View S C A)) (x : S) (t : Takes history setting lawful number o s p x) where
  abbrev T : Seat (Option S) (View S C A)
  T = taking (history x) t.log s

  pub hand : s.me.0.opening ≡ Some o → InHand history o p
  hand opened = subst (InHand history o) (sym t.taken) record { served = refl; opened = opened; holds = refl; whole = t.kept }

  pub kept_is : history x ≡ p.me.0.kept
  kept_is = sym (ap (λ z. z.me.0.kept) t.taken)

  pub number_is : p.me.0.number ≡ s.me.0.number
  number_is = ap (λ z. z.me.0.number) t.taken

  pub table_is : p.table_id ≡ s.table_id
  table_is = ap (λ z. z.table_id) t.taken

  module _ (q : Seat (Option S) (View S C A)) (out : q ≡ left p) where
    here : q ≡ left T
    here = out ∙ ap left t.taken

    pub rest_left : s ≡ at_rest s → q ≡ at_rest q
    rest_left resting = subst (λ z. z ≡ at_rest z) (sym here) (λ i. record s { me = (record T.me.0 { stage = Away; joined = (resting i).me.0.joined }, []) })

    pub same_left : IsSameSeat (sitting s) (sitting q)
    same_left = subst (λ z. IsSameSeat (sitting s) (sitting z)) (sym here) (refl, refl, refl)

    pub looks_left : Looks history setting lawful number o (sitting s) (sitting q)
    looks_left = subst (λ z. Looks history setting lawful number o (sitting s) (sitting z)) (sym here) (refl, t.seen, subst (λ (y : G × List (C × A)). lawful y.0 y.1) (λ i. (t.ruled i, t.kept i)) t.legal, t.mine)

    pub mine_left : q.me.0.mine ≡ s.me.0.mine
    mine_left = ap (λ z. z.me.0.mine) here

    pub finds_left : (asked : G → List (C × A) → Type 0) → asked (setting x) (history x) → Finds history setting asked o (sitting s) (sitting q)
    finds_left asked is = subst (λ z. Finds history setting asked o (sitting s) (sitting z)) (sym here) (subst (λ (y : G × List (C × A)). asked y.0 y.1) (λ i. (t.ruled i, t.kept i)) is, refl)

  module _ (q : Seat (Option S) (View S C A)) (e : C × A) (out : q ≡ left_counted p e) where
    here' : q ≡ left_counted T e
    here' = out ∙ ap (λ z. left_counted z e) t.taken

    pub rest_counted : s ≡ at_rest s → q ≡ at_rest q
    rest_counted resting = subst (λ z. z ≡ at_rest z) (sym here') (λ i. record s { me = (record (left_counted T e).me.0 { stage = Away; joined = (resting i).me.0.joined }, []) })

    pub same_counted : IsSameSeat (sitting s) (sitting q)
    same_counted = subst (λ z. IsSameSeat (sitting s) (sitting z)) (sym here') (refl, refl, refl)

    pub looks_counted : number e.0 ≡ s.me.0.number → lawful (setting x) (history x ++ e ∷ []) → Looks history setting lawful number o (sitting s) (sitting q)
    looks_counted own legal = subst (λ z. Looks history setting lawful number o (sitting s) (sitting z)) (sym here') (
      refl,
      begins_chain s.me.0.seen t.log (t.log ++ e ∷ []) t.seen (e ∷ [], refl),
      subst (λ (y : G × List (C × A)). lawful y.0 y.1) (λ i. (t.ruled i, (ap (λ h. h ++ e ∷ []) t.kept ∙ append_assoc (history o) t.log (e ∷ [])) i)) legal,
      calls_more number s.me.0.number t.log (e ∷ []) ∙ (λ i. t.mine i ++ calls_one number s.me.0.number e own i),
    )

    pub adds_counted : (asked : G → List (C × A) → Type 0) → asked (setting x) (history x) → Adds history setting asked o (sitting s) (sitting q) e
    adds_counted asked is = subst (λ z. Adds history setting asked o (sitting s) (sitting z) e) (sym here') (t.log, t.seen, subst (λ (y : G × List (C × A)). asked y.0 y.1) (λ i. (t.ruled i, t.kept i)) is, refl, refl)

  -- whatever the call came to
  pub looks_made : {E : Type 0} (full : Bool) (q : Seat (Option S) (View S C A)) (call : C) (said : A → Type 0) (r : Result A E)
      → IfOk r (λ a. MatchBool full ((q ≡ left p) × said a) ((q ≡ left_counted p (call, a)) × lawful (setting x) (history x ++ (call, a) ∷ []))) → OnErr r (q ≡ left p) → number call ≡ s.me.0.number
      → Looks history setting lawful number o (sitting s) (sitting q)
  looks_made true q call said (Ok a) did none own = looks_left q did.0
  looks_made false q call said (Ok a) did none own = looks_counted q (call, a) did.0 own did.1
  looks_made full q call said (Err e) did none own = looks_left q none
