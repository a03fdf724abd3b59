-- A session in the place of another.
use Rattle.std.proofs.Common.{◌≡◌, ◌≢◌, ℕ, suc, ◌<◌, ◌≤◌, true, false, ltb, List, ◌∷◌, ◌++◌, length, take, drop, get_or, set, Some, None, ap, ◌∙◌, sym, subst, arith}
use Rattle.std.specs.Prelude.{option_map}
use Rattle.std.proofs.lemmas.Bool.{ltb-true, ltb-false}
use Rattle.std.specs.List.Sorted.{IsPartitionPoint}
use Rattle.std.proofs.lemmas.List.{get_or_default}
use Rattle.paint_sessions.specs.declared.sessions.Session.{Session}
use Rattle.paint_sessions.specs.LookUps.{clip_in, session_clip, session_of, RisesFrom}
use Rattle.paint_sessions.specs.Places.{IsAt, IsMissingAt, IsPut}
use Rattle.paint_sessions.proofs.Lists.{session_beside, session_gone, session_middle, none_between, number, rises-insert, rises-remove, rises-set, set_middle, split_at, split_for}

-- the session at the place
pub session_at : (ss : List Session) (w i : ℕ) (x : Session) → RisesFrom 0 ss → IsAt ss w i → x ≡ get_or ss i x → session_of ss w ≡ Some x
session_at ss w i x h at e =
    let s : ss ≡ take i ss ++ x ∷ drop (suc i) ss = split_at ss i x at.within e in
    ap (λ ts. session_of ts w) s ∙ session_middle 0 (take i ss) x (drop (suc i) ss) w (ap number e ∙ at.window x) (subst (RisesFrom 0) s h)

pub no_session : (ss : List Session) (w i : ℕ) → RisesFrom 0 ss → IsMissingAt ss w i → session_of ss w ≡ None
no_session ss w i h m = none_between 0 ss w i m.within m.below m.above h

-- one more
pub put_new : (ss ts : List Session) (w i : ℕ) (y : Session) → ts ≡ take i ss ++ y ∷ drop i ss → number y ≡ w → RisesFrom 0 ss → IsMissingAt ss w i → IsPut w (Some y.clip) ss ts
put_new ss ts w i y e n h m =
    let r : RisesFrom 0 (take i ss ++ y ∷ drop i ss) = rises-insert 0 ss i y m.within (λ k s l. omega (arith, n, m.below k s l)) (λ s l. omega (arith, n, m.above s l)) (omega arith) h in
    record {
      rising = subst (RisesFrom 0) (sym e) r;
      same = ap (λ us. clip_in us w) e ∙ ap (option_map session_clip) (session_middle 0 (take i ss) y (drop i ss) w n r);
      others = λ v o. ap (λ us. clip_in us v) e ∙ ap (option_map session_clip) (session_beside (take i ss) y (drop i ss) v (λ k. o (sym k ∙ n))) ∙ sym (ap (λ us. clip_in us v) (split_for ss i));
    }

-- one in the place of another
pub put_at : (ss ts : List Session) (w i : ℕ) (y : Session) → ts ≡ set ss i y → number y ≡ w → RisesFrom 0 ss → IsAt ss w i → IsPut w (Some y.clip) ss ts
put_at ss ts w i y e n h at =
    let x : Session = get_or ss i y in
    let ex : x ≡ get_or ss i x = get_or_default ss i y (get_or ss i y) at.within in
    let s : ss ≡ take i ss ++ x ∷ drop (suc i) ss = split_at ss i x at.within ex in
    let m : number x ≡ w = at.window y in
    let t : ts ≡ take i ss ++ y ∷ drop (suc i) ss = e ∙ set_middle ss i y at.within in
    let r : RisesFrom 0 (take i ss ++ y ∷ drop (suc i) ss) = rises-set 0 (take i ss) x y (drop (suc i) ss) (m ∙ sym n) (subst (RisesFrom 0) s h) in
    record {
      rising = subst (RisesFrom 0) (sym t) r;
      same = ap (λ us. clip_in us w) t ∙ ap (option_map session_clip) (session_middle 0 (take i ss) y (drop (suc i) ss) w n r);
      others = λ v o. ap (λ us. clip_in us v) t ∙ ap (option_map session_clip) (session_beside (take i ss) y (drop (suc i) ss) v (λ k. o (sym k ∙ n)) ∙ sym (session_beside (take i ss) x (drop (suc i) ss) v (λ k. o (sym k ∙ m)))) ∙ sym (ap (λ us. clip_in us v) s);
    }

-- one less
pub taken_at : (ss ts : List Session) (w i : ℕ) (x : Session) → ts ≡ take i ss ++ drop (suc i) ss → x ≡ get_or ss i x → RisesFrom 0 ss → IsAt ss w i → IsPut w None ss ts
taken_at ss ts w i x e ex h at =
    let s : ss ≡ take i ss ++ x ∷ drop (suc i) ss = split_at ss i x at.within ex in
    let m : number x ≡ w = ap number ex ∙ at.window x in
    let r : RisesFrom 0 (take i ss ++ x ∷ drop (suc i) ss) = subst (RisesFrom 0) s h in
    record {
      rising = subst (RisesFrom 0) (sym e) (rises-remove 0 (take i ss) x (drop (suc i) ss) r);
      same = ap (λ us. clip_in us w) e ∙ ap (option_map session_clip) (session_gone 0 (take i ss) x (drop (suc i) ss) w m r);
      others = λ v o. ap (λ us. clip_in us v) e ∙ sym (ap (option_map session_clip) (session_beside (take i ss) x (drop (suc i) ss) v (λ k. o (sym k ∙ m)))) ∙ sym (ap (λ us. clip_in us v) s);
    }

-- none to take out
pub none_taken : (ss ts : List Session) (w i : ℕ) → ts ≡ ss → RisesFrom 0 ss → IsMissingAt ss w i → IsPut w None ss ts
none_taken ss ts w i e h m = record {
  rising = subst (RisesFrom 0) (sym e) h;
  same = ap (λ us. clip_in us w) e ∙ ap (option_map session_clip) (no_session ss w i h m);
  others = λ v o. ap (λ us. clip_in us v) e;
}

-- where a window is missing
pub missing_at : (ss : List Session) (w i : ℕ) → i ≤ length ss → IsPartitionPoint (λ (s : Session). ltb (number s) w ≡ true) (λ (s : Session). ltb (number s) w ≡ false) ss i → ((s : Session) → i < length ss → number (get_or ss i s) ≢ w) → IsMissingAt ss w i
missing_at ss w i le point other = record {
  within = le;
  below = λ k s l. ltb-true _ _ (point.0 k s (omega arith) l);
  above = λ s lt. let high : w ≤ number (get_or ss i s) = ltb-false _ _ (point.1 i s (omega arith) lt) in let ne : number (get_or ss i s) ≢ w = other s lt in omega (arith, high, ne);
}
