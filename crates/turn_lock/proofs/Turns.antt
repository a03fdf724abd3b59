-- What the steps of one turn come to.
use Rattle.std.proofs.Common.{◌≡◌, ℕ, ◌+◌, ◌%◌, ◌^◌, true, List, [], ◌∷◌, ◌++◌, sym, refl, ap, ◌∙◌, subst, Option, Some, None}
use Rattle.std.proofs.lemmas.List.{append_cancel_left}
use mathlib.Core.Option.{none}
use Rattle.atomic_table.specs.Table.{Step, step, rest, Allows}
use Rattle.atomic_table.specs.declared.shared.Seat.{Seat}
use Rattle.turn_lock.specs.Views.{waiting, served, informed, counting, leaving}
use Rattle.turn_lock.specs.Rule.{Kept, Sat, drew, passed, Serves, learned, counted}
use Rattle.turn_lock.specs.Seats.{at_rest, InHand, left, left_counted, Takes}
use Rattle.turn_lock.specs.declared.view.View.{View}
use Rattle.turn_lock.specs.declared.view.Stage.TheVariants.{Served}
use Rattle.turn_lock.proofs.RuleKept.{state_or, slot_first, counts, passes}

abbrev any : {S : Type 0} → Step S
any = step 0 0 0 0 none

module _ {S C A : Type 0} where
  pub same_seat : (s t : Seat (Option S) (View S C A)) → t.table_id ≡ s.table_id → t.id ≡ s.id → (m : Sat S C A) → t.me ≡ m → t ≡ record s { me = m }
  same_seat s t a b m c = λ i. record { marker = s.marker; table_id = a i; id = b i; me = c i }

  pub drawn : (s t : Seat (Option S) (View S C A)) (n : ℕ) → s ≡ at_rest s → t.table_id ≡ s.table_id → t.id ≡ s.id → drew any s.me n t.me
      → (x : ℕ) × (n ≡ x % 2 ^ 64) × (t ≡ record s { me = (waiting x s.me.0, []) })
  drawn s t n resting a b d = (d.0, d.1, same_seat s t a b (waiting d.0 s.me.0, []) (d.2 ∙ (λ i. (waiting d.0 s.me.0, (resting i).me.1))))

  -- the slot that a seat holds
  pub holds_slot : (me : Sat S C A) (x : Option S) (l : List (ℕ × Option S)) → me.1 ≡ (0, x) ∷ l → me.1 ≡ (0, x) ∷ rest me.1
  holds_slot me x l e = e ∙ ap (λ cs. (0, x) ∷ rest cs) (sym e)

  module _ {G : Type 0} (history : S → List (C × A)) (setting : S → G) (lawful : G → List (C × A) → Type 0) (number : C → ℕ) (o : S) where
    pub took : (s p l e f : Seat (Option S) (View S C A)) (t n : ℕ) (found : Option S) (y : S) → s.me.0.opening ≡ Some o → p ≡ record s { me = (waiting t s.me.0, []) }
        → l.table_id ≡ p.table_id → l.id ≡ p.id → Serves history setting lawful p.me l.me
        → e.table_id ≡ l.table_id → e.id ≡ l.id → l.me.1 ≡ (0, found) ∷ rest l.me.1 → e.me ≡ (l.me.0, (0, None) ∷ rest l.me.1)
        → f.table_id ≡ e.table_id → f.id ≡ e.id → learned history number any e.me n f.me → found ≡ Some y → Takes history setting lawful number o s f y
    took s p l e f t n found y opened pp lt li sv et ei carried em ft fi le is = let x : S = sv.0 in let v : View S C A = served (history x) (waiting t s.me.0) in let pm : p.me ≡ (waiting t s.me.0, []) = ap (λ z. z.me) pp in
        let lm : l.me ≡ (v, (0, Some x) ∷ []) = sv.1 ∙ (λ i. (served (history x) (pm i).0, (0, Some x) ∷ (pm i).1)) in
        let now : e.me ≡ (v, (0, None) ∷ []) = em ∙ (λ i. ((lm i).0, (0, None) ∷ rest (lm i).1)) in
        let k = subst (λ (m : Sat S C A). learned history number any m n f.me) now le o opened in
        let same : x ≡ y = ap (state_or x) (ap slot_first (sym (ap (λ (m : Sat S C A). m.1) lm) ∙ carried) ∙ is) in
        let pt : p.table_id ≡ s.table_id = ap (λ z. z.table_id) pp in let pi : p.id ≡ s.id = ap (λ z. z.id) pp in
        subst (λ z. Takes history setting lawful number o s f z) same record {
          log = k.0;
          taken = same_seat s f (ft ∙ (et ∙ (lt ∙ pt))) (fi ∙ (ei ∙ (li ∙ pi))) (informed k.0 v, (0, None) ∷ []) k.2;
          kept = k.1.0;
          ruled = sv.2 o (ap (λ (m : Sat S C A). m.0.opening) pm ∙ opened);
          legal = sv.3;
          seen = k.1.1;
          mine = k.1.2;
        }

    module _ (seats slots : ℕ) where
      -- the seat may pass the turn on, after it has put back the state with the history that it keeps
      pub may_pass : (s e : Seat (Option S) (View S C A)) (x : S) → s.me.0.stage ≡ Served true → s.me.0.opening ≡ Some o → history x ≡ s.me.0.kept → setting x ≡ setting o → e.me ≡ (s.me.0, (0, Some x) ∷ [])
          → Allows (Kept history setting lawful number o seats) slots e.id e.me 1 (λ n. (n + 1) % 2 ^ 64) (passed (step slots 1 1 0 none) e.me)
      may_pass s e x stage opened kept ruled em = passes history setting lawful number o seats slots e.id e.me true x (ap (λ (m : Sat S C A). m.0.stage) em ∙ stage) (ap (λ (m : Sat S C A). m.1) em) (kept ∙ sym (ap (λ (m : Sat S C A). m.0.kept) em))
          (λ o' is. ruled ∙ ap setting (ap (state_or o) (sym opened ∙ (sym (ap (λ (m : Sat S C A). m.0.opening) em) ∙ is))))

      pub may_count : (s e : Seat (Option S) (View S C A)) (x : S) (a : C × A) → InHand history o s → setting x ≡ setting o → lawful (setting x) (history x) → history x ≡ s.me.0.kept ++ a ∷ [] → number a.0 ≡ s.me.0.number → e.me ≡ (s.me.0, (0, Some x) ∷ [])
          → Allows (Kept history setting lawful number o seats) slots e.id e.me 2 (λ n. (n + 1) % 2 ^ 64) (counted history number (step slots 2 1 0 none) e.me)
      may_count s e x a hand ruled legal longer own em = counts history setting lawful number o seats slots e.id e.me true x a (ap (λ (m : Sat S C A). m.0.stage) em ∙ hand.served) (ap (λ (m : Sat S C A). m.1) em)
          (longer ∙ sym (ap (λ (m : Sat S C A). m.0.kept ++ a ∷ []) em)) legal (λ o' is. ruled ∙ ap setting (ap (state_or o) (sym hand.opened ∙ (sym (ap (λ (m : Sat S C A). m.0.opening) em) ∙ is)))) (own ∙ sym (ap (λ (m : Sat S C A). m.0.number) em))

      pub passes_counted : (s k : Seat (Option S) (View S C A)) (x : S) (a : C × A) → InHand history o s → setting x ≡ setting o → history x ≡ s.me.0.kept ++ a ∷ [] → k.me ≡ (counting s.me.0.seen a s.me.0, (0, Some x) ∷ [])
          → Allows (Kept history setting lawful number o seats) slots k.id k.me 1 (λ n. (n + 1) % 2 ^ 64) (passed (step slots 1 1 0 none) k.me)
      passes_counted s k x a hand ruled longer km = passes history setting lawful number o seats slots k.id k.me true x (ap (λ (m : Sat S C A). m.0.stage) km) (ap (λ (m : Sat S C A). m.1) km) (longer ∙ sym (ap (λ (m : Sat S C A). m.0.kept) km))
          (λ o' is. ruled ∙ ap setting (ap (state_or o) (sym hand.opened ∙ (sym (ap (λ (m : Sat S C A). m.0.opening) km) ∙ is))))

    -- the seat after the state was put back
    pub put : (s e : Seat (Option S) (View S C A)) (x : S) → InHand history o s → e.me ≡ (s.me.0, (0, Some x) ∷ rest s.me.1) → e.me ≡ (s.me.0, (0, Some x) ∷ [])
    put s e x hand em = em ∙ ap (λ (cs : List (ℕ × Option S)). let m : Sat S C A = (s.me.0, (0, Some x) ∷ rest cs) in m) hand.holds

    pub counted_so : (s e k : Seat (Option S) (View S C A)) (x : S) (a : C × A) (n : ℕ) → InHand history o s → e.me ≡ (s.me.0, (0, Some x) ∷ []) → history x ≡ s.me.0.kept ++ a ∷ [] → counted history number any e.me n k.me
        → k.me ≡ (counting s.me.0.seen a s.me.0, (0, Some x) ∷ [])
    counted_so s e k x a n hand em longer did = let got = subst (λ (m : Sat S C A). counted history number any m n k.me) em did o x a hand.opened refl longer in
        got.2 ∙ ap (λ (log : List (C × A)). let m : Sat S C A = (counting log a s.me.0, (0, Some x) ∷ []) in m) (append_cancel_left (history o) got.0 s.me.0.seen (sym got.1.0 ∙ hand.whole))

    pub left_so : (s e f : Seat (Option S) (View S C A)) (x : S) (n : ℕ) → e.table_id ≡ s.table_id → e.id ≡ s.id → e.me ≡ (s.me.0, (0, Some x) ∷ []) → f.table_id ≡ e.table_id → f.id ≡ e.id → passed any e.me n f.me → f ≡ left s
    left_so s e f x n et ei em ft fi did = same_seat s f (ft ∙ et) (fi ∙ ei) (leaving s.me.0, []) (did ∙ (λ i. (leaving (em i).0, [])))

    pub left_counted_so : (s k f : Seat (Option S) (View S C A)) (x : S) (a : C × A) (n : ℕ) → k.table_id ≡ s.table_id → k.id ≡ s.id → k.me ≡ (counting s.me.0.seen a s.me.0, (0, Some x) ∷ []) → f.table_id ≡ k.table_id → f.id ≡ k.id
        → passed any k.me n f.me → f ≡ left_counted s a
    left_counted_so s k f x a n kt ki km ft fi did = same_seat s f (ft ∙ kt) (fi ∙ ki) (leaving (counting s.me.0.seen a s.me.0), []) (did ∙ (λ i. (leaving (km i).0, [])))
