-- What an order keeps: each call leaves it, and it has the premises of the law of mending.
use Rattle.std.proofs.Common.{◌≡◌, ◌∙◌, ℕ, ◌+◌, List, [], ◌∷◌, ◌++◌, map, Bool, true, false, cond, not, ◌&&◌, ◌||◌, eqb, ltb, refl, sym, ap, subst, arith, inl, inr, append_assoc}
use Rattle.std.specs.List.{filter, list_any, list_all}
use Rattle.std.proofs.lemmas.Bool.{false≢true, eqb-true, eqb-false, eq-eqb, ne_eqb, not-true, lt-ltb}
use Rattle.std.proofs.lemmas.List.Folds.{list_all-map, list_any-append}
use Rattle.std.proofs.lemmas.List.Sums.{sum_by-cons, sum_by-insert}
use Rattle.std.proofs.lemmas.List.Sorted.{sum_by-IsPermutation}
use Rattle.std.proofs.lemmas.Map.Views.{any-filter_same}
use Rattle.win_num.specs.declared.message.Hwnd.{Hwnd}
use Rattle.win_order.specs.declared.after.After.{After}
use Rattle.win_order.specs.declared.after.After.TheVariants.{Bottom, Below, Top, Topmost, NoTopmost}
use Rattle.win_order.specs.Standing.{Standing}
use Rattle.win_order.specs.declared.top_level.TopLevel.{TopLevel}
use Rattle.win_order.specs.Families.{place_in, put, windows_of, with_windows, without}
use Rattle.win_order.specs.Kept.{AllCameNew, IsKept, age_in, is_child, is_family, times, top_levels}
use Rattle.win_order.specs.Layers.{IsNew, IsPlace, Layers, empty, has_none, inserted, is_gone, kept, may_stay, placed, relisted, removed, settled, stands}
use Rattle.win_order.specs.Mended.{AreOwned, IsMended, goes_along, has_older_owner, staying}
use Rattle.win_order.specs.Mending.{has, may_follow}
use Rattle.win_order.specs.Siblings.{Siblings}
use Rattle.win_order.specs.Standings.{is_topmost, owner_of, parent_of, pinned, top_level}
use Rattle.win_order.proofs.Booleans.{and_left, and_right, and_true, or_both, or_first, or_second, all_one, all_both, all_kept, all_filtered, any_over, filter_over, keep_first, skip_first}
use Rattle.win_order.proofs.MendingLaws.{staying_mended}
use Rattle.win_order.proofs.OrderLaws.{settled_is_mended, settled_moves}
use Rattle.win_order.proofs.StandingLaws.{Owner, among, among_flagged, among_left, apart, child_along, child_among, child_flagged, child_left, flagged_stays, goes_with, left, left_stays, new_flagged, new_left, newer_stays, owner_along, owner_stands}

-- How often a window is in a list.

times_cons : (v : ℕ) (w : Hwnd) (ws : List Hwnd) → times v (w ∷ ws) ≡ cond (eqb w.0 v) 1 0 + times v ws
times_cons v w ws = sum_by-cons (λ (u : Hwnd). cond (eqb u.0 v) 1 0) w ws

any_by_times : (b : Bool) (n : ℕ) → (b || ltb 0 n) ≡ ltb 0 (cond b 1 0 + n)
any_by_times true n = sym (lt-ltb 0 (1 + n) (omega arith))
any_by_times false n = ap (ltb 0) (omega arith)

pub listed_any : (v : ℕ) (ws : List Hwnd) → list_any (λ u. eqb u.0 v) ws ≡ ltb 0 (times v ws)
listed_any v [] = refl
listed_any v (w ∷ ws) = ap (λ b. eqb w.0 v || b) (listed_any v ws) ∙ (any_by_times (eqb w.0 v) (times v ws) ∙ ap (ltb 0) (sym (times_cons v w ws)))

pub test_of_count : (b : Bool) → ltb 0 (cond b 1 0) ≡ b
test_of_count true = refl
test_of_count false = refl

abbrev pub Lists : List Standing → List Hwnd → Type 0
Lists ss ws = (v : ℕ) → times v ws ≡ cond (is_child v 0 ss) 1 0

pub listed_here : (ss : List Standing) (ws : List Hwnd) → Lists ss ws → (v : ℕ) → list_any (λ u. eqb u.0 v) ws ≡ is_child v 0 ss
listed_here ss ws listed v = listed_any v ws ∙ (ap (ltb 0) (listed v) ∙ test_of_count (is_child v 0 ss))

pub each_here : (front ws : List Hwnd) → list_all (λ w. list_any (λ u. eqb u.0 w.0) (front ++ ws)) ws ≡ true
each_here front [] = refl
each_here front (w ∷ ws) =
    let here : list_any (λ u. eqb u.0 w.0) (front ++ w ∷ ws) ≡ true = list_any-append (λ u. eqb u.0 w.0) front (w ∷ ws) ∙ or_second (list_any (λ u. eqb u.0 w.0) front) (eqb w.0 w.0 || list_any (λ u. eqb u.0 w.0) ws) (or_first (eqb w.0 w.0) (list_any (λ u. eqb u.0 w.0) ws) (eq-eqb w.0 w.0 refl)) in
    let rest : list_all (λ v. list_any (λ u. eqb u.0 v.0) (front ++ w ∷ ws)) ws ≡ true = subst (λ l. list_all (λ v. list_any (λ u. eqb u.0 v.0) l) ws ≡ true) (append_assoc front (w ∷ []) ws) (each_here (front ++ w ∷ []) ws) in
    and_true (list_any (λ u. eqb u.0 w.0) (front ++ w ∷ ws)) (list_all (λ v. list_any (λ u. eqb u.0 v.0) (front ++ w ∷ ws)) ws) here rest

pub each_stands : (ss : List Standing) (ws : List Hwnd) → Lists ss ws → list_all (λ w. is_child w.0 0 ss) ws ≡ true
each_stands ss ws listed = all_one (λ (w : Hwnd). list_any (λ u. eqb u.0 w.0) ws) (λ w. is_child w.0 0 ss) (λ w e. sym (listed_here ss ws listed w.0) ∙ e) ws (each_here [] ws)

-- The premises of the law of mending.

may_follow_owner : (ss : List Standing) (ws : List Hwnd) (w : Hwnd) → list_any (λ u. eqb u.0 (owner_of ss w.0).0) ws ≡ true → may_follow (map (top_level ss) ws) (top_level ss w) ≡ true
may_follow_owner ss ws w there = or_second (eqb (owner_of ss w.0).0 0) (has (owner_of ss w.0).0 (map (top_level ss) ws)) (any_over (top_level ss) (λ t. eqb t.window.0 (owner_of ss w.0).0) ws ∙ there)

owner_listed : (ss : List Standing) (ws : List Hwnd) → Lists ss ws → (w : Hwnd) → Owner ss w.0 (owner_of ss w.0).0 → may_follow (map (top_level ss) ws) (top_level ss w) ≡ true
owner_listed ss ws listed w (inl none) = or_first (eqb (owner_of ss w.0).0 0) (has (owner_of ss w.0).0 (map (top_level ss) ws)) none
owner_listed ss ws listed w (inr k) = may_follow_owner ss ws w (listed_here ss ws listed (owner_of ss w.0).0 ∙ k.there)

owner_older : (ss : List Standing) (w : Hwnd) → Owner ss w.0 (owner_of ss w.0).0 → has_older_owner (age_in ss) (top_level ss w) ≡ true
owner_older ss w (inl none) = or_first (eqb (owner_of ss w.0).0 0) (ltb (age_in ss (owner_of ss w.0).0) (age_in ss w.0)) none
owner_older ss w (inr k) = or_second (eqb (owner_of ss w.0).0 0) (ltb (age_in ss (owner_of ss w.0).0) (age_in ss w.0)) (lt-ltb (age_in ss (owner_of ss w.0).0) (age_in ss w.0) k.older)

abbrev low : List Standing → List Hwnd → List Hwnd
low ss ws = filter (λ (w : Hwnd). not (is_topmost ss w.0)) ws

owner_low : (ss : List Standing) (ws : List Hwnd) → Lists ss ws → (w : Hwnd) → not (is_topmost ss w.0) ≡ true → Owner ss w.0 (owner_of ss w.0).0 → may_follow (map (top_level ss) (low ss ws)) (top_level ss w) ≡ true
owner_low ss ws listed w plain (inl none) = or_first (eqb (owner_of ss w.0).0 0) (has (owner_of ss w.0).0 (map (top_level ss) (low ss ws))) none
owner_low ss ws listed w plain (inr k) =
    let o = (owner_of ss w.0).0 in
    let kept = any-filter_same (λ (u : Hwnd). eqb u.0 o) (λ u. not (is_topmost ss u.0)) true (λ u e. ap (λ n. not (is_topmost ss n)) (eqb-true u.0 o e) ∙ ap not (k.ordinary (not-true (is_topmost ss w.0) plain))) ws in
    may_follow_owner ss (low ss ws) w (kept ∙ (listed_here ss ws listed o ∙ k.there))

-- windows that stand with their owners are in the order of their ages
pub owned_of : (ss : List Standing) → AllCameNew ss → (ws : List Hwnd) → Lists ss ws → AreOwned (age_in ss) (map (top_level ss) ws)
owned_of ss new ws listed =
    let tops = map (top_level ss) ws in
    let stand = each_stands ss ws listed in
    let lows : list_all (may_follow (map (top_level ss) (low ss ws))) (map (top_level ss) (low ss ws)) ≡ true =
    list_all-map (may_follow (map (top_level ss) (low ss ws))) (top_level ss) (low ss ws)
    ∙ all_both (λ (w : Hwnd). is_child w.0 0 ss) (λ w. not (is_topmost ss w.0)) (λ w. may_follow (map (top_level ss) (low ss ws)) (top_level ss w)) (λ w a b. owner_low ss ws listed w b (owner_stands ss new w.0 a)) (low ss ws) (all_kept (λ w. is_child w.0 0 ss) (λ w. not (is_topmost ss w.0)) ws stand) (all_filtered (λ w. not (is_topmost ss w.0)) ws) in
    record {
      owners = list_all-map (may_follow tops) (top_level ss) ws ∙ all_one (λ (w : Hwnd). is_child w.0 0 ss) (λ w. may_follow tops (top_level ss w)) (λ w e. owner_listed ss ws listed w (owner_stands ss new w.0 e)) ws stand;
      ordinary_owners = subst (λ l. list_all (may_follow l) l ≡ true) (sym (filter_over (top_level ss) (λ t. not t.topmost) ws)) lows;
      older = list_all-map (has_older_owner (age_in ss)) (top_level ss) ws ∙ all_one (λ (w : Hwnd). is_child w.0 0 ss) (λ w. has_older_owner (age_in ss) (top_level ss w)) (λ w e. owner_older ss w (owner_stands ss new w.0 e)) ws stand;
    }

-- the premises of the law of mending
pub kept_owned : (z : Layers) → IsKept z → AreOwned (age_in z.standings) (top_levels z)
kept_owned z k = owned_of z.standings k.older (windows_of z.families 0) (k.listed 0)

pub empty_kept : IsKept empty
empty_kept = record { older = tt; listed = λ p w. refl; families = refl; mended = record { parted = refl; above = refl } }

-- The lists with one made anew.

pub with_first : (p : Hwnd) (ws : List Hwnd) (f : Siblings) (fs : List Siblings) → eqb f.parent.0 p.0 ≡ true → with_windows p ws (f ∷ fs) ≡ record { parent = p; windows = ws } ∷ fs
with_first p ws f fs e = rw (e, with_windows) refl

pub with_next : (p : Hwnd) (ws : List Hwnd) (f : Siblings) (fs : List Siblings) → eqb f.parent.0 p.0 ≡ false → with_windows p ws (f ∷ fs) ≡ f ∷ with_windows p ws fs
with_next p ws f fs e = rw (e, with_windows) refl

pub windows_first : (f : Siblings) (fs : List Siblings) (q : ℕ) → eqb f.parent.0 q ≡ true → windows_of (f ∷ fs) q ≡ f.windows
windows_first f fs q e = rw (e, windows_of) refl

pub windows_next : (f : Siblings) (fs : List Siblings) (q : ℕ) → eqb f.parent.0 q ≡ false → windows_of (f ∷ fs) q ≡ windows_of fs q
windows_next f fs q e = rw (e, windows_of) refl

windows_same_by : (p : Hwnd) (ws : List Hwnd) (f : Siblings) (fs : List Siblings) (b : Bool) → eqb f.parent.0 p.0 ≡ b → windows_of (with_windows p ws fs) p.0 ≡ ws → windows_of (with_windows p ws (f ∷ fs)) p.0 ≡ ws
windows_same_by p ws f fs true is ih = ap (λ l. windows_of l p.0) (with_first p ws f fs is) ∙ windows_first (record { parent = p; windows = ws }) fs p.0 (eq-eqb p.0 p.0 refl)
windows_same_by p ws f fs false is ih = ap (λ l. windows_of l p.0) (with_next p ws f fs is) ∙ (windows_next f (with_windows p ws fs) p.0 is ∙ ih)

pub windows_same : (p : Hwnd) (ws : List Hwnd) (fs : List Siblings) → windows_of (with_windows p ws fs) p.0 ≡ ws
windows_same p ws [] = windows_first (record { parent = p; windows = ws }) [] p.0 (eq-eqb p.0 p.0 refl)
windows_same p ws (f ∷ fs) = windows_same_by p ws f fs (eqb f.parent.0 p.0) refl (windows_same p ws fs)

windows_else_by : (p : Hwnd) (ws : List Hwnd) (f : Siblings) (fs : List Siblings) (q : ℕ) (b c : Bool) → eqb f.parent.0 p.0 ≡ b → eqb f.parent.0 q ≡ c → eqb p.0 q ≡ false → windows_of (with_windows p ws fs) q ≡ windows_of fs q → windows_of (with_windows p ws (f ∷ fs)) q ≡ windows_of (f ∷ fs) q
windows_else_by p ws f fs q true true is isq differs ih = absurd (false≢true (sym differs ∙ (ap (λ n. eqb n q) (sym (eqb-true f.parent.0 p.0 is)) ∙ isq)))
windows_else_by p ws f fs q true false is isq differs ih = ap (λ l. windows_of l q) (with_first p ws f fs is) ∙ (windows_next (record { parent = p; windows = ws }) fs q differs ∙ sym (windows_next f fs q isq))
windows_else_by p ws f fs q false true is isq differs ih = ap (λ l. windows_of l q) (with_next p ws f fs is) ∙ (windows_first f (with_windows p ws fs) q isq ∙ sym (windows_first f fs q isq))
windows_else_by p ws f fs q false false is isq differs ih = ap (λ l. windows_of l q) (with_next p ws f fs is) ∙ (windows_next f (with_windows p ws fs) q isq ∙ (ih ∙ sym (windows_next f fs q isq)))

pub windows_else : (p : Hwnd) (ws : List Hwnd) (fs : List Siblings) (q : ℕ) → eqb p.0 q ≡ false → windows_of (with_windows p ws fs) q ≡ windows_of fs q
windows_else p ws [] q differs = windows_next (record { parent = p; windows = ws }) [] q differs
windows_else p ws (f ∷ fs) q differs = windows_else_by p ws f fs q (eqb f.parent.0 p.0) (eqb f.parent.0 q) refl refl differs (windows_else p ws fs q differs)

filter_count : (b g c : Bool) (n : ℕ) → (c ≡ true → g ≡ b) → cond (not b) (cond c 1 0 + cond g 0 n) (cond g 0 n) ≡ cond g 0 (cond c 1 0 + n)
filter_count true true c n e = refl
filter_count true false true n e = absurd (false≢true (e refl))
filter_count true false false n e = omega arith
filter_count false true true n e = absurd (false≢true (sym (e refl)))
filter_count false true false n e = refl
filter_count false false c n e = refl

filter_times_by : (gone : ℕ → Bool) (v : ℕ) (u : Hwnd) (ws : List Hwnd) (b : Bool) → gone u.0 ≡ b → times v (filter (λ x. not (gone x.0)) (u ∷ ws)) ≡ cond (not b) (cond (eqb u.0 v) 1 0 + times v (filter (λ x. not (gone x.0)) ws)) (times v (filter (λ x. not (gone x.0)) ws))
filter_times_by gone v u ws true is = ap (times v) (skip_first (λ (x : Hwnd). not (gone x.0)) u ws (ap not is))
filter_times_by gone v u ws false is = ap (times v) (keep_first (λ (x : Hwnd). not (gone x.0)) u ws (ap not is)) ∙ times_cons v u (filter (λ x. not (gone x.0)) ws)

cond_zero : (g : Bool) → ◌≡◌ {A = ℕ} 0 (cond g 0 0)
cond_zero true = refl
cond_zero false = refl

filter_times : (gone : ℕ → Bool) (v : ℕ) (ws : List Hwnd) → times v (filter (λ x. not (gone x.0)) ws) ≡ cond (gone v) 0 (times v ws)
filter_times gone v [] = cond_zero (gone v)
filter_times gone v (u ∷ ws) =
    filter_times_by gone v u ws (gone u.0) refl
    ∙ (ap (λ n. cond (not (gone u.0)) (cond (eqb u.0 v) 1 0 + n) n) (filter_times gone v ws)
    ∙ (filter_count (gone u.0) (gone v) (eqb u.0 v) (times v ws) (λ e. ap gone (sym (eqb-true u.0 v e)))
    ∙ ap (λ n. cond (gone v) 0 n) (sym (times_cons v u ws))))

put_count : (b c : Bool) (n : ℕ) → c ≡ b → cond c 0 n + cond b 1 0 ≡ cond b 1 n
put_count true true n e = refl
put_count true false n e = absurd (false≢true e)
put_count false true n e = absurd (false≢true (sym e))
put_count false false n e = omega arith

same_test : (a b : ℕ) (t : Bool) → eqb a b ≡ t → eqb b a ≡ t
same_test a b true e = eq-eqb b a (sym (eqb-true a b e))
same_test a b false e = ne_eqb b a (λ s. eqb-false a b e (sym s))

put_times : (after : After) (w : Hwnd) (ws : List Hwnd) (v : ℕ) → times v (put after w ws) ≡ cond (eqb w.0 v) 1 (times v ws)
put_times after w ws v =
    let others = without w.0 ws in
    sum_by-insert (λ (u : Hwnd). cond (eqb u.0 v) 1 0) others (place_in after others) w
    ∙ (ap (λ n. n + cond (eqb w.0 v) 1 0) (filter_times (λ n. eqb n w.0) v ws)
    ∙ put_count (eqb w.0 v) (eqb v w.0) (times v ws) (same_test w.0 v (eqb w.0 v) refl))

settled_times_by : (ss : List Standing) (p : ℕ) (ws : List Hwnd) (v : ℕ) (b : Bool) → eqb p 0 ≡ b → times v (settled ss p ws) ≡ times v ws
settled_times_by ss p ws v true is = ap (λ n. times v (settled ss n ws)) (eqb-true p 0 is) ∙ sum_by-IsPermutation (λ (u : Hwnd). cond (eqb u.0 v) 1 0) ws (settled ss 0 ws) (settled_moves ss ws)
settled_times_by ss p ws v false is = rw is refl

settled_times : (ss : List Standing) (p : ℕ) (ws : List Hwnd) (v : ℕ) → times v (settled ss p ws) ≡ times v ws
settled_times ss p ws v = settled_times_by ss p ws v (eqb p 0) refl

put_listed : (b c : Bool) → ◌≡◌ {A = ℕ} (cond b 1 (cond c 1 0)) (cond ((b && true) || c) 1 0)
put_listed true c = refl
put_listed false c = refl

else_listed : (b c : Bool) → ◌≡◌ {A = ℕ} (cond c 1 0) (cond ((b && false) || c) 1 0)
else_listed true c = refl
else_listed false c = refl

relisted_by : (ss old : List Standing) (p w : Hwnd) (after : After) (fs : List Siblings) (q v : ℕ) (b : Bool) → eqb p.0 q ≡ b → ((q v : ℕ) → times v (windows_of fs q) ≡ cond (is_child v q old) 1 0) → is_child v q ss ≡ ((eqb w.0 v && b) || is_child v q old) → times v (windows_of (relisted ss p w after fs) q) ≡ cond (is_child v q ss) 1 0
relisted_by ss old p w after fs q v true is listed changed =
    let anew = settled ss p.0 (put after w (windows_of fs p.0)) in
    let same = eqb-true p.0 q is in
    ap (λ n. times v (windows_of (relisted ss p w after fs) n)) (sym same)
    ∙ (ap (times v) (windows_same p anew fs)
    ∙ (settled_times ss p.0 (put after w (windows_of fs p.0)) v
    ∙ (put_times after w (windows_of fs p.0) v
    ∙ (ap (λ n. cond (eqb w.0 v) 1 (times v (windows_of fs n))) same
    ∙ (ap (λ n. cond (eqb w.0 v) 1 n) (listed q v)
    ∙ (put_listed (eqb w.0 v) (is_child v q old)
    ∙ ap (λ t. cond t 1 0) (sym changed)))))))
relisted_by ss old p w after fs q v false is listed changed =
    ap (times v) (windows_else p (settled ss p.0 (put after w (windows_of fs p.0))) fs q is)
    ∙ (listed q v ∙ (else_listed (eqb w.0 v) (is_child v q old) ∙ ap (λ t. cond t 1 0) (sym changed)))

relisted_listed : (ss old : List Standing) (p w : Hwnd) (after : After) (fs : List Siblings) → ((q v : ℕ) → times v (windows_of fs q) ≡ cond (is_child v q old) 1 0) → ((q v : ℕ) → is_child v q ss ≡ ((eqb w.0 v && eqb p.0 q) || is_child v q old)) → (q v : ℕ) → times v (windows_of (relisted ss p w after fs) q) ≡ cond (is_child v q ss) 1 0
relisted_listed ss old p w after fs listed changed q v = relisted_by ss old p w after fs q v (eqb p.0 q) refl listed (changed q v)

relisted_mended_by : (ss : List Standing) (p w : Hwnd) (after : After) (fs : List Siblings) (b : Bool) → eqb p.0 0 ≡ b → AllCameNew ss → Lists ss (windows_of (relisted ss p w after fs) 0) → (b ≡ false → IsMended (map (top_level ss) (windows_of fs 0))) → IsMended (map (top_level ss) (windows_of (relisted ss p w after fs) 0))
relisted_mended_by ss p w after fs true is new listed stays =
    let anew = put after w (windows_of fs p.0) in
    let zero = eqb-true p.0 0 is in
    let here : windows_of (relisted ss p w after fs) 0 ≡ settled ss 0 anew = ap (windows_of (relisted ss p w after fs)) (sym zero) ∙ (windows_same p (settled ss p.0 anew) fs ∙ ap (λ n. settled ss n anew) zero) in
    let lists : Lists ss anew = λ v. sym (settled_times ss 0 anew v) ∙ (ap (times v) (sym here) ∙ listed v) in
    subst (λ l. IsMended (map (top_level ss) l)) (sym here) (settled_is_mended (age_in ss) ss anew (owned_of ss new anew lists))
relisted_mended_by ss p w after fs false is new listed stays =
    subst (λ l. IsMended (map (top_level ss) l)) (sym (windows_else p (settled ss p.0 (put after w (windows_of fs p.0))) fs 0 is)) (stays refl)

-- The lists are those of parents that stand.

each_counted : (t : ℕ → Bool) (ws : List Hwnd) → ((v : ℕ) → times v ws ≡ cond (t v) 1 0) → list_all (λ w. t w.0) ws ≡ true
each_counted t ws listed = all_one (λ (w : Hwnd). list_any (λ u. eqb u.0 w.0) ws) (λ w. t w.0) (λ w e. sym (listed_any w.0 ws ∙ (ap (ltb 0) (listed w.0) ∙ test_of_count (t w.0))) ∙ e) ws (each_here [] ws)

all_with : (q : Siblings → Bool) (p : Hwnd) (ws : List Hwnd) (fs : List Siblings) → q (record { parent = p; windows = ws }) ≡ true → list_all q fs ≡ true → list_all q (with_windows p ws fs) ≡ true
all_with q p ws [] new a = and_true (q (record { parent = p; windows = ws })) true new refl
all_with q p ws (f ∷ fs) new a = by (eqb f.parent.0 p.0) refl (all_with q p ws fs new (and_right (q f) (list_all q fs) a))
  where
    by : (b : Bool) → eqb f.parent.0 p.0 ≡ b → list_all q (with_windows p ws fs) ≡ true → list_all q (with_windows p ws (f ∷ fs)) ≡ true
    by true is ih = ap (list_all q) (with_first p ws f fs is) ∙ and_true (q (record { parent = p; windows = ws })) (list_all q fs) new (and_right (q f) (list_all q fs) a)
    by false is ih = ap (list_all q) (with_next p ws f fs is) ∙ and_true (q f) (list_all q (with_windows p ws fs)) (and_left (q f) (list_all q fs) a) ih

family_more : (old ss : List Standing) → ((v : ℕ) → among v old ≡ true → among v ss ≡ true) → ((v p : ℕ) → is_child v p old ≡ true → is_child v p ss ≡ true) → (f : Siblings) → is_family old f ≡ true → is_family ss f ≡ true
family_more old ss more child f is =
    let p = f.parent.0 in
    let parent = and_left (eqb p 0 || among p old) (list_all (λ v. is_child v.0 p old) f.windows) is in
    let windows = and_right (eqb p 0 || among p old) (list_all (λ v. is_child v.0 p old) f.windows) is in
    and_true (eqb p 0 || among p ss) (list_all (λ v. is_child v.0 p ss) f.windows) (or_both (eqb p 0) (eqb p 0) (among p old) (among p ss) (λ h. h) (more p) parent) (all_one (λ (v : Hwnd). is_child v.0 p old) (λ v. is_child v.0 p ss) (λ v. child v.0 p) f.windows windows)

relisted_families : (ss old : List Standing) (p w : Hwnd) (after : After) (fs : List Siblings) → ((v : ℕ) → among v old ≡ true → among v ss ≡ true) → ((v q : ℕ) → is_child v q old ≡ true → is_child v q ss ≡ true) → (eqb p.0 0 || among p.0 ss) ≡ true → ((q v : ℕ) → times v (windows_of (relisted ss p w after fs) q) ≡ cond (is_child v q ss) 1 0) → list_all (is_family old) fs ≡ true → list_all (is_family ss) (relisted ss p w after fs) ≡ true
relisted_families ss old p w after fs more child parent listed families =
    let anew = settled ss p.0 (put after w (windows_of fs p.0)) in
    let counted : (v : ℕ) → times v anew ≡ cond (is_child v p.0 ss) 1 0 = λ v. ap (times v) (sym (windows_same p anew fs)) ∙ listed p.0 v in
    all_with (is_family ss) p anew fs (and_true (eqb p.0 0 || among p.0 ss) (list_all (λ v. is_child v.0 p.0 ss) anew) parent (each_counted (λ v. is_child v p.0 ss) anew counted)) (all_one (is_family old) (is_family ss) (family_more old ss more child) fs families)

-- Tops that stay the same.

pub tops_same : (f g : Hwnd → TopLevel) (p : Hwnd → Bool) → ((w : Hwnd) → p w ≡ true → f w ≡ g w) → (ws : List Hwnd) → list_all p ws ≡ true → map f ws ≡ map g ws
tops_same f g p same [] a = refl
tops_same f g p same (w ∷ ws) a = ap (λ t. t ∷ map f ws) (same w (and_left (p w) (list_all p ws) a)) ∙ ap (λ l. g w ∷ l) (tops_same f g p same ws (and_right (p w) (list_all p ws) a))

-- a new window
pub inserted_kept : (w p owner : Hwnd) (topmost : Bool) (z : Layers) → IsKept z → IsNew w.0 p.0 owner.0 z → IsKept (inserted w p owner topmost z)
inserted_kept w p owner topmost z k n =
    let s : Standing = record { window = w; parent = p; owner = owner; topmost = topmost } in
    let old = z.standings in
    let new : AllCameNew (s ∷ old) = (record { window = n.window; fresh = n.fresh; parent = n.parent; owner = n.owner }, k.older) in
    let listed = relisted_listed (s ∷ old) old p w Top z.families k.listed (λ q v. refl) in
    let same = tops_same (top_level (s ∷ old)) (top_level old) (λ v. is_child v.0 0 old) (λ v e. newer_stays s old v (apart old w.0 v.0 n.fresh (child_among v.0 0 old e))) (windows_of z.families 0) (each_stands old (windows_of z.families 0) (k.listed 0)) in
    let families = relisted_families (s ∷ old) old p w Top z.families (λ v. or_second (eqb w.0 v) (among v old)) (λ v q. or_second (eqb w.0 v && eqb p.0 q) (is_child v q old)) (or_both (eqb p.0 0) (eqb p.0 0) (among p.0 old) (among p.0 (s ∷ old)) (λ h. h) (or_second (eqb w.0 p.0) (among p.0 old)) n.parent) listed k.families in
    record { older = new; listed = listed; families = families; mended = relisted_mended_by (s ∷ old) p w Top z.families (eqb p.0 0) refl new (listed 0) (λ child. subst IsMended (sym same) k.mended) }

-- A window that is put elsewhere.

pub record Pins (ss us : List Standing) (w : ℕ) : Type 0 where
  pub new : AllCameNew us
  pub there : (v : ℕ) → among v us ≡ among v ss
  pub child : (v p : ℕ) → is_child v p us ≡ is_child v p ss
  pub stays : is_child w 0 ss ≡ false → (v : Hwnd) → is_child v.0 0 ss ≡ true → top_level us v ≡ top_level ss v

pins : (after : After) (w : ℕ) (ss : List Standing) → AllCameNew ss → Pins ss (pinned after w ss) w
pins Topmost w ss n = record { new = new_flagged w true ss n; there = among_flagged w true ss; child = child_flagged w true ss; stays = flagged_stays w true ss n }
pins NoTopmost w ss n = record { new = new_flagged w false ss n; there = among_flagged w false ss; child = child_flagged w false ss; stays = flagged_stays w false ss n }
pins Top w ss n = record { new = n; there = λ v. refl; child = λ v p. refl; stays = λ lone v there. refl }
pins Bottom w ss n = record { new = n; there = λ v. refl; child = λ v p. refl; stays = λ lone v there. refl }
pins (Below sibling) w ss n = record { new = n; there = λ v. refl; child = λ v p. refl; stays = λ lone v there. refl }

parent_first : (s : Standing) (ss : List Standing) (w : ℕ) → eqb s.window.0 w ≡ true → parent_of (s ∷ ss) w ≡ s.parent
parent_first s ss w e = rw (e, parent_of) refl

parent_next : (s : Standing) (ss : List Standing) (w : ℕ) → eqb s.window.0 w ≡ false → parent_of (s ∷ ss) w ≡ parent_of ss w
parent_next s ss w e = rw (e, parent_of) refl

parent_is_by : (s : Standing) (ss : List Standing) (w : ℕ) (b : Bool) → eqb s.window.0 w ≡ b → (b || among w ss) ≡ true → (among w ss ≡ true → is_child w (parent_of ss w).0 ss ≡ true) → is_child w (parent_of (s ∷ ss) w).0 (s ∷ ss) ≡ true
parent_is_by s ss w true is e ih = subst (λ (h : Hwnd). is_child w h.0 (s ∷ ss) ≡ true) (sym (parent_first s ss w is)) (or_first (eqb s.window.0 w && eqb s.parent.0 s.parent.0) (is_child w s.parent.0 ss) (and_true (eqb s.window.0 w) (eqb s.parent.0 s.parent.0) is (eq-eqb s.parent.0 s.parent.0 refl)))
parent_is_by s ss w false is e ih = subst (λ (h : Hwnd). is_child w h.0 (s ∷ ss) ≡ true) (sym (parent_next s ss w is)) (or_second (eqb s.window.0 w && eqb s.parent.0 (parent_of ss w).0) (is_child w (parent_of ss w).0 ss) (ih e))

pub parent_is : (ss : List Standing) (w : ℕ) → among w ss ≡ true → is_child w (parent_of ss w).0 ss ≡ true
parent_is [] w e = absurd (false≢true e)
parent_is (s ∷ ss) w e = parent_is_by s ss w (eqb s.window.0 w) refl e (parent_is ss w)

lone_child_by : (s : Standing) (ss : List Standing) → not (among s.window.0 ss) ≡ true → (w q : ℕ) (b : Bool) → eqb s.window.0 w ≡ b → eqb (parent_of (s ∷ ss) w).0 q ≡ false → (eqb (parent_of ss w).0 q ≡ false → is_child w q ss ≡ false) → is_child w q (s ∷ ss) ≡ false
lone_child_by s ss fresh w q true is differs ih =
    let parent : eqb s.parent.0 q ≡ false = ap (λ (h : Hwnd). eqb h.0 q) (sym (parent_first s ss w is)) ∙ differs in
    let none : is_child w q ss ≡ false = not-true (is_child w q ss) (no_child (is_child w q ss) refl) in
    rw (is, parent) none
  where
    no_child : (b : Bool) → is_child w q ss ≡ b → not b ≡ true
    no_child true e = absurd (false≢true (sym (not-true (among s.window.0 ss) fresh) ∙ (ap (λ n. among n ss) (eqb-true s.window.0 w is) ∙ child_among w q ss e)))
    no_child false e = refl
lone_child_by s ss fresh w q false is differs ih = rw is (ih (ap (λ (h : Hwnd). eqb h.0 q) (sym (parent_next s ss w is)) ∙ differs))

-- a window has one parent
pub lone_child : (ss : List Standing) → AllCameNew ss → (w q : ℕ) → eqb (parent_of ss w).0 q ≡ false → is_child w q ss ≡ false
lone_child [] n w q differs = refl
lone_child (s ∷ ss) n w q differs = lone_child_by s ss n.0.fresh w q (eqb s.window.0 w) refl differs (lone_child ss n.1 w q)

child_again_by : (ss : List Standing) (w v p q : ℕ) (a b : Bool) → eqb w v ≡ a → eqb p q ≡ b → is_child w p ss ≡ true → is_child v q ss ≡ ((a && b) || is_child v q ss)
child_again_by ss w v p q true true isw isp there = ap (λ n. is_child n q ss) (sym (eqb-true w v isw)) ∙ (ap (λ n. is_child w n ss) (sym (eqb-true p q isp)) ∙ there)
child_again_by ss w v p q true false isw isp there = refl
child_again_by ss w v p q false b isw isp there = refl

parent_stands_by : (s : Standing) (ss : List Standing) → (eqb s.parent.0 0 || among s.parent.0 ss) ≡ true → (w : ℕ) (b : Bool) → eqb s.window.0 w ≡ b → (eqb (parent_of ss w).0 0 || among (parent_of ss w).0 ss) ≡ true → (eqb (parent_of (s ∷ ss) w).0 0 || among (parent_of (s ∷ ss) w).0 (s ∷ ss)) ≡ true
parent_stands_by s ss own w true is ih = subst (λ (h : Hwnd). (eqb h.0 0 || among h.0 (s ∷ ss)) ≡ true) (sym (parent_first s ss w is)) (or_both (eqb s.parent.0 0) (eqb s.parent.0 0) (among s.parent.0 ss) (among s.parent.0 (s ∷ ss)) (λ h. h) (or_second (eqb s.window.0 s.parent.0) (among s.parent.0 ss)) own)
parent_stands_by s ss own w false is ih =
    let p = (parent_of ss w).0 in
    subst (λ (h : Hwnd). (eqb h.0 0 || among h.0 (s ∷ ss)) ≡ true) (sym (parent_next s ss w is)) (or_both (eqb p 0) (eqb p 0) (among p ss) (among p (s ∷ ss)) (λ h. h) (or_second (eqb s.window.0 p) (among p ss)) ih)

-- a parent is 0 or stands
parent_stands : (ss : List Standing) → AllCameNew ss → (w : ℕ) → (eqb (parent_of ss w).0 0 || among (parent_of ss w).0 ss) ≡ true
parent_stands [] n w = refl
parent_stands (s ∷ ss) n w = parent_stands_by s ss n.0.parent w (eqb s.window.0 w) refl (parent_stands ss n.1 w)

pub placed_kept : (w : Hwnd) (after : After) (z : Layers) → IsKept z → IsPlace w.0 after z → IsKept (placed w after z)
placed_kept w after z k place =
    let old = z.standings in
    let p = parent_of old w.0 in
    let us = pinned after w.0 old in
    let g = pins after w.0 old k.older in
    let there = parent_is old w.0 place.window in
    let listed = relisted_listed us old p w after z.families k.listed (λ q v. g.child v q ∙ child_again_by old w.0 v p.0 q (eqb w.0 v) (eqb p.0 q) refl refl there) in
    let same : is_child w.0 0 old ≡ false → map (top_level us) (windows_of z.families 0) ≡ map (top_level old) (windows_of z.families 0) = λ lone. tops_same (top_level us) (top_level old) (λ v. is_child v.0 0 old) (λ v e. g.stays lone v e) (windows_of z.families 0) (each_stands old (windows_of z.families 0) (k.listed 0)) in
    let families = relisted_families us old p w after z.families (λ v e. g.there v ∙ e) (λ v q e. g.child v q ∙ e) (or_both (eqb p.0 0) (eqb p.0 0) (among p.0 old) (among p.0 us) (λ h. h) (λ e. g.there p.0 ∙ e) (parent_stands old k.older w.0)) listed k.families in
    record { older = g.new; listed = listed; families = families; mended = relisted_mended_by us p w after z.families (eqb p.0 0) refl g.new (listed 0) (λ child. subst IsMended (sym (same (lone_child old k.older w.0 0 child))) k.mended) }

-- Windows that go.

abbrev pub cut_out : (ℕ → Bool) → Siblings → Siblings
cut_out gone f = record { parent = f.parent; windows = filter (λ v. not (gone v.0)) f.windows }

abbrev cleared : (ℕ → Bool) → Layers → Layers
cleared gone z = record { standings = left gone z.standings; families = map (cut_out gone) (filter (λ f. not (gone f.parent.0)) z.families) }

abbrev pub keeps : (ℕ → Bool) → List Siblings → List Siblings
keeps gone fs = map (cut_out gone) (filter (λ f. not (gone f.parent.0)) fs)

windows_gone_by : (gone : ℕ → Bool) (f : Siblings) (fs : List Siblings) (q : ℕ) (b c : Bool) → gone f.parent.0 ≡ b → eqb f.parent.0 q ≡ c → gone q ≡ true → windows_of (keeps gone fs) q ≡ [] → windows_of (keeps gone (f ∷ fs)) q ≡ []
windows_gone_by gone f fs q true c is isq goes ih = ap (λ l. windows_of (map (cut_out gone) l) q) (skip_first (λ g. not (gone g.parent.0)) f fs (ap not is)) ∙ ih
windows_gone_by gone f fs q false true is isq goes ih = absurd (false≢true (sym is ∙ (ap gone (eqb-true f.parent.0 q isq) ∙ goes)))
windows_gone_by gone f fs q false false is isq goes ih = ap (λ l. windows_of (map (cut_out gone) l) q) (keep_first (λ g. not (gone g.parent.0)) f fs (ap not is)) ∙ rw (isq, windows_of) ih

pub windows_gone : (gone : ℕ → Bool) (fs : List Siblings) (q : ℕ) → gone q ≡ true → windows_of (keeps gone fs) q ≡ []
windows_gone gone [] q goes = refl
windows_gone gone (f ∷ fs) q goes = windows_gone_by gone f fs q (gone f.parent.0) (eqb f.parent.0 q) refl refl goes (windows_gone gone fs q goes)

windows_left_by : (gone : ℕ → Bool) (f : Siblings) (fs : List Siblings) (q : ℕ) (b c : Bool) → gone f.parent.0 ≡ b → eqb f.parent.0 q ≡ c → gone q ≡ false → windows_of (keeps gone fs) q ≡ filter (λ v. not (gone v.0)) (windows_of fs q) → windows_of (keeps gone (f ∷ fs)) q ≡ filter (λ v. not (gone v.0)) (windows_of (f ∷ fs) q)
windows_left_by gone f fs q true true is isq stays ih = absurd (false≢true (sym stays ∙ (sym (ap gone (eqb-true f.parent.0 q isq)) ∙ is)))
windows_left_by gone f fs q true false is isq stays ih = ap (λ l. windows_of (map (cut_out gone) l) q) (skip_first (λ g. not (gone g.parent.0)) f fs (ap not is)) ∙ (ih ∙ ap (filter (λ v. not (gone v.0))) (sym (windows_next f fs q isq)))
windows_left_by gone f fs q false true is isq stays ih = ap (λ l. windows_of (map (cut_out gone) l) q) (keep_first (λ g. not (gone g.parent.0)) f fs (ap not is)) ∙ (windows_first (cut_out gone f) (keeps gone fs) q isq ∙ ap (filter (λ v. not (gone v.0))) (sym (windows_first f fs q isq)))
windows_left_by gone f fs q false false is isq stays ih = ap (λ l. windows_of (map (cut_out gone) l) q) (keep_first (λ g. not (gone g.parent.0)) f fs (ap not is)) ∙ (windows_next (cut_out gone f) (keeps gone fs) q isq ∙ (ih ∙ ap (filter (λ v. not (gone v.0))) (sym (windows_next f fs q isq))))

pub windows_left : (gone : ℕ → Bool) (fs : List Siblings) (q : ℕ) → gone q ≡ false → windows_of (keeps gone fs) q ≡ filter (λ v. not (gone v.0)) (windows_of fs q)
windows_left gone [] q stays = refl
windows_left gone (f ∷ fs) q stays = windows_left_by gone f fs q (gone f.parent.0) (eqb f.parent.0 q) refl refl stays (windows_left gone fs q stays)

left_count : (g c : Bool) → ◌≡◌ {A = ℕ} (cond g 0 (cond c 1 0)) (cond (not g && c) 1 0)
left_count true c = refl
left_count false c = refl

nobody_left : (g c : Bool) → (g ≡ false → c ≡ false) → ◌≡◌ {A = ℕ} 0 (cond (not g && c) 1 0)
nobody_left true c e = refl
nobody_left false c e = ap (λ t. cond t 1 0) (sym (e refl))

cleared_listed_by : (gone : ℕ → Bool) (z : Layers) → IsKept z → list_all (goes_with gone) z.standings ≡ true → (q v : ℕ) (b : Bool) → gone q ≡ b → times v (windows_of (keeps gone z.families) q) ≡ cond (is_child v q (left gone z.standings)) 1 0
cleared_listed_by gone z k along q v true is =
    ap (times v) (windows_gone gone z.families q is) ∙ (nobody_left (gone v) (is_child v q z.standings) (λ stays. child_along gone z.standings v q along is stays) ∙ ap (λ t. cond t 1 0) (sym (child_left gone z.standings v q)))
cleared_listed_by gone z k along q v false is =
    ap (times v) (windows_left gone z.families q is)
    ∙ (filter_times gone v (windows_of z.families q)
    ∙ (ap (λ n. cond (gone v) 0 n) (k.listed q v)
    ∙ (left_count (gone v) (is_child v q z.standings)
    ∙ ap (λ t. cond t 1 0) (sym (child_left gone z.standings v q)))))

along_tops : (gone : ℕ → Bool) (ss : List Standing) → gone 0 ≡ false → list_all (goes_with gone) ss ≡ true → (ws : List Hwnd) → list_all (goes_along gone) (map (top_level ss) ws) ≡ true
along_tops gone ss nobody along [] = refl
along_tops gone ss nobody along (w ∷ ws) = and_true (goes_along gone (top_level ss w)) (list_all (goes_along gone) (map (top_level ss) ws)) (along_by (gone w.0) refl) (along_tops gone ss nobody along ws)
  where
    along_by : (b : Bool) → gone w.0 ≡ b → (not (gone (owner_of ss w.0).0) || gone w.0) ≡ true
    along_by true is = or_second (not (gone (owner_of ss w.0).0)) (gone w.0) is
    along_by false is = or_first (not (gone (owner_of ss w.0).0)) (gone w.0) (ap not (owner_along gone ss w.0 nobody along is))

family_left : (gone : ℕ → Bool) (ss : List Standing) (f : Siblings) → is_family ss f ≡ true → not (gone f.parent.0) ≡ true → is_family (left gone ss) (cut_out gone f) ≡ true
family_left gone ss f is stays =
    let p = f.parent.0 in
    let parent = and_left (eqb p 0 || among p ss) (list_all (λ v. is_child v.0 p ss) f.windows) is in
    let windows = and_right (eqb p 0 || among p ss) (list_all (λ v. is_child v.0 p ss) f.windows) is in
    let some = filter (λ (v : Hwnd). not (gone v.0)) f.windows in
    and_true (eqb p 0 || among p (left gone ss)) (list_all (λ v. is_child v.0 p (left gone ss)) some)
    (or_both (eqb p 0) (eqb p 0) (among p ss) (among p (left gone ss)) (λ h. h) (λ e. among_left gone ss p (not-true (gone p) stays) ∙ e) parent)
    (all_both (λ (v : Hwnd). is_child v.0 p ss) (λ v. not (gone v.0)) (λ v. is_child v.0 p (left gone ss)) (λ v c g. child_left gone ss v.0 p ∙ and_true (not (gone v.0)) (is_child v.0 p ss) g c) some (all_kept (λ v. is_child v.0 p ss) (λ v. not (gone v.0)) f.windows windows) (all_filtered (λ v. not (gone v.0)) f.windows))

families_left : (gone : ℕ → Bool) (ss : List Standing) (fs : List Siblings) → list_all (is_family ss) fs ≡ true → list_all (is_family (left gone ss)) (keeps gone fs) ≡ true
families_left gone ss fs families =
    list_all-map (is_family (left gone ss)) (cut_out gone) (filter (λ f. not (gone f.parent.0)) fs)
    ∙ all_both (is_family ss) (λ f. not (gone f.parent.0)) (λ f. is_family (left gone ss) (cut_out gone f)) (family_left gone ss) (filter (λ f. not (gone f.parent.0)) fs) (all_kept (is_family ss) (λ f. not (gone f.parent.0)) fs families) (all_filtered (λ f. not (gone f.parent.0)) fs)

pub cleared_kept : (gone : ℕ → Bool) (z : Layers) → gone 0 ≡ false → list_all (goes_with gone) z.standings ≡ true → IsKept z → IsKept (cleared gone z)
cleared_kept gone z nobody along k =
    let ss = z.standings in
    let ws = windows_of z.families 0 in
    let tops : map (top_level (left gone ss)) (filter (λ v. not (gone v.0)) ws) ≡ staying gone (map (top_level ss) ws) =
    tops_same (top_level (left gone ss)) (top_level ss) (λ v. not (gone v.0)) (λ v e. left_stays gone ss along v (not-true (gone v.0) e)) (filter (λ v. not (gone v.0)) ws) (all_filtered (λ (v : Hwnd). not (gone v.0)) ws)
    ∙ sym (filter_over (top_level ss) (λ t. not (gone t.window.0)) ws) in
    record {
      older = new_left gone ss along k.older;
      listed = λ q v. cleared_listed_by gone z k along q v (gone q) refl;
      families = families_left gone ss z.families k.families;
      mended = subst IsMended (sym (ap (map (top_level (left gone ss))) (windows_left gone z.families 0 nobody) ∙ tops)) (staying_mended gone (map (top_level ss) ws) (along_tops gone ss nobody along ws) k.mended);
    }

pub nobody_stands : (ss : List Standing) → AllCameNew ss → among 0 ss ≡ false
nobody_stands [] n = refl
nobody_stands (s ∷ ss) n = ap (λ b. b || among 0 ss) (not-true (eqb s.window.0 0) n.0.window) ∙ nobody_stands ss n.1

stands_apart_from_nobody : (w : ℕ) (ss : List Standing) → AllCameNew ss → among w ss ≡ true → eqb 0 w ≡ false
stands_apart_from_nobody w ss older there = ne_eqb 0 w (λ e. false≢true (sym (nobody_stands ss older) ∙ (ap (λ n. among n ss) e ∙ there)))

pub alone : (w : ℕ) (ss : List Standing) → list_all (λ s. not (eqb s.parent.0 w) && not (eqb s.owner.0 w)) ss ≡ true → list_all (goes_with (λ v. eqb v w)) ss ≡ true
alone w ss none = all_one (λ (s : Standing). not (eqb s.parent.0 w) && not (eqb s.owner.0 w)) (goes_with (λ v. eqb v w)) (λ s e. or_second (eqb s.window.0 w) (not (eqb s.parent.0 w) && not (eqb s.owner.0 w)) e) ss none

pub new_without : (w : ℕ) (ss : List Standing) → AllCameNew ss → among w ss ≡ true → list_all (λ s. not (eqb s.parent.0 w) && not (eqb s.owner.0 w)) ss ≡ true → AllCameNew (filter (λ s. not (eqb s.window.0 w)) ss)
new_without w ss older there none = new_left (λ v. eqb v w) ss (alone w ss none) older

pub removed_kept : (w : ℕ) (z : Layers) → IsKept z → stands w z ≡ true → has_none w z ≡ true → IsKept (removed w z)
removed_kept w z k there none = cleared_kept (λ v. eqb v w) z (stands_apart_from_nobody w z.standings k.older there) (alone w z.standings none) k

pub kept_kept : (staying : List Hwnd) (z : Layers) → IsKept z → may_stay staying z.standings ≡ true → IsKept (kept staying z)
kept_kept staying z k along = cleared_kept (is_gone staying) z refl along k
