-- Marks of the written windows, and of the owners that held windows wait for.
use Rattle.std.proofs.Common.{◌≡◌, ◌∙◌, ℕ, List, [], ◌∷◌, ◌++◌, Bool, true, false, not, ◌||◌, eqb, nat_eq, if◌then◌else◌, Result, Ok, Err, OnOk, subst, refl, sym, ap}
use Rattle.std.specs.List.{filter, list_any}
use Rattle.std.proofs.lemmas.Bool.{true≢false, eqb-true, eqb-false, eq-eqb, ne_eqb}
use Rattle.std.proofs.lemmas.List.Elements.{filter-append}
use Rattle.std.proofs.lemmas.List.Folds.{list_any-append}
use Rattle.indexmap.specs.IndexSet.{insert_key}
use Rattle.win_order.specs.declared.top_level.TopLevel.{TopLevel}
use Rattle.win_order.specs.Marks.{IsMarked}
use Rattle.win_order.specs.Mending.{has, not_owned_by, owned_by}
use Rattle.win_order.proofs.Booleans.{keep_first, skip_first}
use Rattle.win_order.proofs.MendingLaws.{has_end}

or_absorbs : (a b : Bool) → (b ≡ true → a ≡ true) → a ≡ (a || (b || false))
or_absorbs true b f = refl
or_absorbs false true f = f refl
or_absorbs false false f = refl

-- a number is among those with one more where it was, or is the new one
pub any_key : (ks : List ℕ) (k o : ℕ) → list_any (nat_eq o) (insert_key nat_eq ks k) ≡ (list_any (nat_eq o) ks || (nat_eq o k || false))
any_key ks k o = by (list_any (nat_eq k) ks) refl
  where
    by : (b : Bool) → list_any (nat_eq k) ks ≡ b → list_any (nat_eq o) (if b then ks else ks ++ k ∷ []) ≡ (list_any (nat_eq o) ks || (nat_eq o k || false))
    by true there = or_absorbs (list_any (nat_eq o) ks) (nat_eq o k) (λ e. ap (λ n. list_any (nat_eq n) ks) (eqb-true o k e) ∙ there)
    by false new = list_any-append (nat_eq o) ks (k ∷ [])

pub same_way : (a b : ℕ) (t : Bool) → eqb a b ≡ t → eqb b a ≡ t
same_way a b true e = eq-eqb b a (sym (eqb-true a b e))
same_way a b false e = ne_eqb b a (λ s. eqb-false a b e (sym s))

none_kept : (p q : TopLevel → Bool) (ts : List TopLevel) → filter p ts ≡ [] → filter p (filter q ts) ≡ []
none_kept p q [] e = refl
none_kept p q (t ∷ ts) e = by (p t) (q t) refl refl (none_kept p q ts)
  where
    by : (a b : Bool) → p t ≡ a → q t ≡ b → (filter p ts ≡ [] → filter p (filter q ts) ≡ []) → filter p (filter q (t ∷ ts)) ≡ []
    by true b is kept ih = let never : t ∷ filter p ts ≡ [] = sym (keep_first p t ts is) ∙ e in cc
    by false true is kept ih = ap (filter p) (keep_first q t ts kept) ∙ (skip_first p t (filter q ts) is ∙ ih (sym (skip_first p t ts is) ∙ e))
    by false false is kept ih = ap (filter p) (skip_first q t ts kept) ∙ ih (sym (skip_first p t ts is) ∙ e)

pub none_owned : (w : ℕ) (held : List TopLevel) → owned_by w held ≡ [] → not_owned_by w held ≡ held
none_owned w [] e = refl
none_owned w (t ∷ held) e = by (eqb t.owner.0 w) refl (none_owned w held)
  where
    by : (b : Bool) → eqb t.owner.0 w ≡ b → (owned_by w held ≡ [] → not_owned_by w held ≡ held) → not_owned_by w (t ∷ held) ≡ t ∷ held
    by true is ih = let never : t ∷ owned_by w held ≡ [] = sym (keep_first (λ u. eqb u.owner.0 w) t held is) ∙ e in cc
    by false is ih = keep_first (λ u. not (eqb u.owner.0 w)) t held (ap not is) ∙ ap (λ l. t ∷ l) (ih (sym (skip_first (λ u. eqb u.owner.0 w) t held is) ∙ e))

-- nothing is written or held yet
pub marked_first : IsMarked [] [] [] []
marked_first = record { are_written = λ o. refl; wait = λ o e. refl }

-- a window is held
pub marked_held : (written held : List TopLevel) (marked awaited : List ℕ) (t : TopLevel) → IsMarked written held marked awaited → IsMarked written (held ++ t ∷ []) marked (insert_key nat_eq awaited t.owner.0)
marked_held written held marked awaited t m = record { are_written = m.are_written; wait = λ o e. now o (sym (any_key awaited t.owner.0 o) ∙ e) }
  where
    no_more : (a b : Bool) → (a || (b || false)) ≡ false → (a ≡ false) × (b ≡ false)
    no_more true b e = absurd (true≢false e)
    no_more false true e = absurd (true≢false e)
    no_more false false e = (refl, refl)

    now : (o : ℕ) → (list_any (nat_eq o) awaited || (nat_eq o t.owner.0 || false)) ≡ false → owned_by o (held ++ t ∷ []) ≡ []
    now o e =
        let parts = no_more (list_any (nat_eq o) awaited) (nat_eq o t.owner.0) e in
        filter-append (λ u. eqb u.owner.0 o) held (t ∷ []) ∙ (ap (λ l. l ++ owned_by o (t ∷ [])) (m.wait o parts.0) ∙ skip_first (λ u. eqb u.owner.0 o) t [] (same_way o t.owner.0 false parts.1))

-- a window is written
pub marked_written : (written held : List TopLevel) (marked awaited : List ℕ) (t : TopLevel) → IsMarked written held marked awaited → IsMarked (written ++ t ∷ []) (not_owned_by t.window.0 held) (insert_key nat_eq marked t.window.0) awaited
marked_written written held marked awaited t m = record {
  are_written = λ o. any_key marked t.window.0 o ∙ (ap (λ b. b || (nat_eq o t.window.0 || false)) (m.are_written o) ∙ (ap (λ b. has o written || (b || false)) (sym (same_way o t.window.0 (nat_eq o t.window.0) refl)) ∙ sym (has_end o written t)));
  wait = λ o e. none_kept (λ u. eqb u.owner.0 o) (λ u. not (eqb u.owner.0 t.window.0)) held (m.wait o e);
}

-- a window is written, and those that it owns are no longer held
pub marked_released : {V E : Type 0} (r : Result V E) (written held after : List TopLevel) (marked awaited : List ℕ) (t : TopLevel) → IsMarked written held marked awaited → OnOk r (after ≡ not_owned_by t.window.0 held) → OnOk r (IsMarked (written ++ t ∷ []) after (insert_key nat_eq marked t.window.0) awaited)
marked_released (Ok v) written held after marked awaited t m same = subst (λ l. IsMarked (written ++ t ∷ []) l (insert_key nat_eq marked t.window.0) awaited) (sym same) (marked_written written held marked awaited t m)
marked_released (Err e) written held after marked awaited t m same = tt
