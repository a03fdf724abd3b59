-- The numbers of the windows that are topmost, when windows come and go.
use Rattle.std.proofs.Common.{◌≡◌, ◌∙◌, ℕ, ◌+◌, List, [], ◌∷◌, ◌++◌, take, drop, map, reverse, slice_get, Some, add-one, Bool, true, false, cond, not, ◌&&◌, ◌||◌, eqb, nat_eq, refl, sym, ap, subst}
use Rattle.std.specs.List.{filter, list_any, list_all}
use Rattle.std.proofs.lemmas.Bool.{eqb-true, cond-true, cond-false, not-true}
use Rattle.std.proofs.lemmas.Map.Views.{any-filter_same}
use Rattle.std.proofs.lemmas.List.{map-append, reverse-append, take-append-drop}
use Rattle.std.proofs.lemmas.Option.{get_or_from_slice_get, slice_get_within}
use Rattle.std.proofs.Math.Seq.{take-suc}
use Rattle.indexmap.specs.IndexSet.{insert_key}
use Rattle.win_order.specs.declared.standings.Known.{Known}
use Rattle.win_order.specs.Entries.{newest_first, standing}
use Rattle.win_order.specs.Kept.{AllCameNew}
use Rattle.win_order.specs.Standing.{Standing}
use Rattle.win_order.specs.Standings.{is_topmost}
use Rattle.win_order.specs.Tops.{AreTopmost, marked}
use Rattle.win_order.proofs.EntryLaws.{new_topmost, newest_push, topmost_absent}
use Rattle.win_order.proofs.MarkLaws.{any_key, same_way}
use Rattle.win_order.proofs.StandingLaws.{CameNew, among, goes_with, left, topmost_left, topmost_next}

pub none_topmost : (ks : List ℕ) → ks ≡ [] → AreTopmost ks []
none_topmost ks none = record { each = λ w. ap (list_any (nat_eq w)) none }

marked_any : (ks : List ℕ) (w : ℕ) (k : Known) (q : ℕ) (b c : Bool) → (k.topmost || list_any (nat_eq k.owner.0) ks) ≡ b → nat_eq q w ≡ c → list_any (nat_eq q) (marked ks w k) ≡ (list_any (nat_eq q) ks || (b && c))
marked_any ks w k q true c is same = ap (list_any (nat_eq q)) (cond-true (k.topmost || list_any (nat_eq k.owner.0) ks) (insert_key nat_eq ks w) ks is) ∙ (any_key ks w q ∙ ap (λ t. list_any (nat_eq q) ks || t) (or_false (nat_eq q w) ∙ same))
  where
    or_false : (b : Bool) → (b || false) ≡ b
    or_false true = refl
    or_false false = refl
marked_any ks w k q false c is same = ap (list_any (nat_eq q)) (cond-false (k.topmost || list_any (nat_eq k.owner.0) ks) (insert_key nat_eq ks w) ks is) ∙ sym (or_false (list_any (nat_eq q) ks))
  where
    or_false : (b : Bool) → (b || false) ≡ b
    or_false true = refl
    or_false false = refl

-- a new window is among them if it is topmost or its owner is among them
pub topmost_added : (ks : List ℕ) (ss : List Standing) (w : ℕ) (k : Known) → CameNew (standing (w, k)) ss → AllCameNew ss → AreTopmost ks ss → AreTopmost (marked ks w k) (standing (w, k) ∷ ss)
topmost_added ks ss w k n older m = record { each = λ q. by q (k.topmost || list_any (nat_eq k.owner.0) ks) (nat_eq q w) refl refl }
  where
    s : Standing
    s = standing (w, k)

    or_same : (b : Bool) → (b || (b && false)) ≡ b
    or_same true = refl
    or_same false = refl

    no_more : (a b : Bool) → (a || (b && false)) ≡ a
    no_more true b = refl
    no_more false true = refl
    no_more false false = refl

    new_one : (b : Bool) → (false || (b && true)) ≡ b
    new_one true = refl
    new_one false = refl

    by : (q : ℕ) (b c : Bool) → (k.topmost || list_any (nat_eq k.owner.0) ks) ≡ b → nat_eq q w ≡ c → list_any (nat_eq q) (marked ks w k) ≡ is_topmost (s ∷ ss) q
    by q b true is same =
        let old : list_any (nat_eq q) ks ≡ false = m.each q ∙ (ap (is_topmost ss) (eqb-true q w same) ∙ topmost_absent ss w (not-true (among w ss) n.fresh)) in
        marked_any ks w k q b true is same
        ∙ (ap (λ t. t || (b && true)) old
        ∙ (new_one b
        ∙ (sym is
        ∙ (ap (λ t. k.topmost || t) (m.each k.owner.0)
        ∙ (sym (new_topmost s ss older)
        ∙ ap (is_topmost (s ∷ ss)) (sym (eqb-true q w same)))))))
    by q b false is differs =
        marked_any ks w k q b false is differs
        ∙ (no_more (list_any (nat_eq q) ks) b
        ∙ (m.each q
        ∙ sym (topmost_next s ss q (same_way q w false differs))))

-- without the newest window the others are as they were
pub topmost_older : (ks less : List ℕ) (s : Standing) (ss : List Standing) → CameNew s ss → ((q : ℕ) → list_any (nat_eq q) less ≡ cond (nat_eq s.window.0 q) false (list_any (nat_eq q) ks)) → AreTopmost ks (s ∷ ss) → AreTopmost less ss
topmost_older ks less s ss n without m = record { each = λ q. by q (nat_eq s.window.0 q) refl }
  where
    by : (q : ℕ) (b : Bool) → nat_eq s.window.0 q ≡ b → list_any (nat_eq q) less ≡ is_topmost ss q
    by q true is = without q ∙ (cond-true (nat_eq s.window.0 q) false (list_any (nat_eq q) ks) is ∙ sym (ap (is_topmost ss) (sym (eqb-true s.window.0 q is)) ∙ topmost_absent ss s.window.0 (not-true (among s.window.0 ss) n.fresh)))
    by q false is = without q ∙ (cond-false (nat_eq s.window.0 q) false (list_any (nat_eq q) ks) is ∙ (m.each q ∙ topmost_next s ss q is))

-- the windows that stay are as they were, where none has a parent or an owner that goes
pub topmost_staying : (gone : ℕ → Bool) (ks less : List ℕ) (ss : List Standing) → list_all (goes_with gone) ss ≡ true → ((q : ℕ) → list_any (nat_eq q) less ≡ (not (gone q) && list_any (nat_eq q) ks)) → AreTopmost ks ss → AreTopmost less (left gone ss)
topmost_staying gone ks less ss along stays m = record { each = λ q. by q (gone q) refl }
  where
    by : (q : ℕ) (b : Bool) → gone q ≡ b → list_any (nat_eq q) less ≡ is_topmost (left gone ss) q
    by q true is =
        let far : among q (left gone ss) ≡ false = any-filter_same (λ (s : Standing). eqb s.window.0 q) (λ s. not (gone s.window.0)) false (λ s e. ap (λ n. not (gone n)) (eqb-true s.window.0 q e) ∙ ap not is) ss in
        stays q ∙ (ap (λ b. not b && list_any (nat_eq q) ks) is ∙ sym (topmost_absent (left gone ss) q far))
    by q false is = stays q ∙ (ap (λ b. not b && list_any (nat_eq q) ks) is ∙ (m.each q ∙ sym (topmost_left gone ss along q is)))

-- one window goes
pub one_less : (ks less : List ℕ) (w : ℕ) → ((q : ℕ) → list_any (nat_eq q) less ≡ cond (nat_eq w q) false (list_any (nat_eq q) ks)) → (q : ℕ) → list_any (nat_eq q) less ≡ (not (eqb q w) && list_any (nat_eq q) ks)
one_less ks less w without q = without q ∙ (by (nat_eq w q) ∙ ap (λ b. not b && list_any (nat_eq q) ks) (sym (same_way w q (nat_eq w q) refl)))
  where
    by : (b : Bool) → ◌≡◌ {A = Bool} (cond b false (list_any (nat_eq q) ks)) (not b && list_any (nat_eq q) ks)
    by true = refl
    by false = refl

-- several go
pub fewer : (gone : ℕ → Bool) (ks : List ℕ) (q : ℕ) → list_any (nat_eq q) (filter (λ k. not (gone k)) ks) ≡ (not (gone q) && list_any (nat_eq q) ks)
fewer gone ks q = any-filter_same (nat_eq q) (λ k. not (gone k)) (not (gone q)) (λ k e. ap (λ n. not (gone n)) (sym (eqb-true q k e))) ks

-- ---- the oldest windows of a list

new_rest : (xs ys : List Standing) → AllCameNew (xs ++ ys) → AllCameNew ys
new_rest [] ys n = n
new_rest (x ∷ xs) ys n = new_rest xs ys n.1

newest_front : (fs es : List (ℕ × Known)) → newest_first (fs ++ es) ≡ newest_first es ++ newest_first fs
newest_front fs es = ap reverse (map-append standing fs es) ∙ reverse-append (map standing fs) (map standing es)

new_front : (fs es : List (ℕ × Known)) → AllCameNew (newest_first (fs ++ es)) → AllCameNew (newest_first fs)
new_front fs es n = new_rest (newest_first es) (newest_first fs) (subst AllCameNew (newest_front fs es) n)

pub one_more : {X : Type 0} (es : List X) (i : ℕ) (e : X) → slice_get es i ≡ Some e → take (i + 1) es ≡ take i es ++ e ∷ []
one_more {X} es i e is =
    ap (λ n. take n es) (add-one i)
    ∙ (take-suc es i e (slice_get_within es i e is) ∙ ap (λ (x : X). take i es ++ x ∷ []) (get_or_from_slice_get es i e e is))

-- with the next of them
pub topmost_next_one : (es : List (ℕ × Known)) (i : ℕ) (e : ℕ × Known) (ks : List ℕ) → slice_get es i ≡ Some e → AllCameNew (newest_first es) → AreTopmost ks (newest_first (take i es)) → AreTopmost (marked ks e.0 e.1) (newest_first (take (i + 1) es))
topmost_next_one es i e ks is n m =
    let more : newest_first (take (i + 1) es) ≡ standing e ∷ newest_first (take i es) = ap newest_first (one_more es i e is) ∙ newest_push (take i es) e in
    let front : AllCameNew (newest_first (take (i + 1) es)) = new_front (take (i + 1) es) (drop (i + 1) es) (subst (λ (l : List (ℕ × Known)). AllCameNew (newest_first l)) (sym (take-append-drop (i + 1) es)) n) in
    let new : AllCameNew (standing e ∷ newest_first (take i es)) = subst AllCameNew more front in
    subst (AreTopmost (marked ks e.0 e.1)) (sym more) (topmost_added ks (newest_first (take i es)) e.0 e.1 new.0 new.1 m)
