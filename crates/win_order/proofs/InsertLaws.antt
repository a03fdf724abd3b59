-- A new window comes to a mended list: no other window moves.
use Rattle.std.proofs.Common.{◌≡◌, ◌∙◌, ℕ, zero, suc, ◌*◌, ◌<◌, ◌≤◌, List, [], ◌∷◌, ◌++◌, length, take, drop, map, Bool, true, false, cond, not, ◌&&◌, ◌||◌, eqb, ltb, Result, Ok, Err, OnOk, is_err, refl, sym, ap, subst, arith, append_assoc, append-nil}
use Rattle.std.specs.Prelude.{slice_index_or}
use Rattle.std.specs.List.{filter, list_any, list_all, insert}
use Rattle.std.specs.List.Sorted.{IsPartitionedBy, IsPartitionPoint}
use Rattle.std.proofs.lemmas.Bool.{false≢true, true≢false, eqb-true, eq-eqb, not-true}
use Rattle.std.proofs.lemmas.List.{map-append, take-append-drop}
use Rattle.std.proofs.Math.Seq.{take-length, drop-length}
use Rattle.std.proofs.lemmas.List.Elements.{filter-append}
use Rattle.std.proofs.lemmas.List.Folds.{list_any-append, list_all-append, list_all-map}
use Rattle.win_num.specs.declared.message.Hwnd.{Hwnd}
use Rattle.win_order.specs.declared.after.After.TheVariants.{Top}
use Rattle.win_order.specs.declared.standings.Known.{Known}
use Rattle.win_order.specs.declared.top_level.TopLevel.{TopLevel}
use Rattle.win_order.specs.Entries.{goes_low, standing}
use Rattle.win_order.specs.Families.{put, windows_of, with_windows}
use Rattle.win_order.specs.Kept.{AllCameNew, IsKept, is_child}
use Rattle.win_order.specs.Layers.{IsNew, Layers, inserted, settled}
use Rattle.win_order.specs.Mended.{IsMended, is_above_owners, is_parted}
use Rattle.win_order.specs.Mending.{has, may_follow, mended, parted, rewritten}
use Rattle.win_order.specs.Siblings.{Siblings}
use Rattle.win_order.specs.Standing.{Standing}
use Rattle.win_order.specs.Standings.{is_topmost, top_level}
use Rattle.win_order.proofs.Booleans.{and_left, and_right, and_true, any_over, keep_all, or_both, or_first, or_other, or_rest, skip_all, witness}
use Rattle.win_order.proofs.EntryLaws.{new_topmost}
use Rattle.win_order.proofs.KeptLaws.{Lists, each_stands, listed_any, listed_here, tops_same}
use Rattle.win_order.proofs.MendingLaws.{above_cons, above_end, above_parts, has_end, mended_stays, nothing_held, parted_cons, parted_tail}
use Rattle.win_order.proofs.OrderLaws.{windows_again}
use Rattle.win_order.proofs.StandingLaws.{CameNew, among, apart, child_among, newer_stays, owner_first}

-- Lists of top-level windows.

has_more : (below more : List TopLevel) (t : TopLevel) → ((o : ℕ) → has o below ≡ true → has o more ≡ true) → (o : ℕ) → has o (below ++ t ∷ []) ≡ true → has o (more ++ t ∷ []) ≡ true
has_more below more t f o e = has_end o more t ∙ or_both (has o below) (has o more) (eqb t.window.0 o || false) (eqb t.window.0 o || false) (f o) (λ h. h) (sym (has_end o below t) ∙ e)

above_more : (below more ts : List TopLevel) → ((o : ℕ) → has o below ≡ true → has o more ≡ true) → is_above_owners below ts ≡ true → is_above_owners more ts ≡ true
above_more below more [] f above = refl
above_more below more (t ∷ ts) f above =
    let parts = above_parts below ts t above in
    above_cons more ts t (or_both (eqb t.owner.0 0) (eqb t.owner.0 0) (has t.owner.0 below) (has t.owner.0 more) (λ h. h) (f t.owner.0) parts.0) (above_more (below ++ t ∷ []) (more ++ t ∷ []) ts (has_more below more t f) parts.1)

above_insert : (below low : List TopLevel) (t : TopLevel) (high : List TopLevel) → is_above_owners below (low ++ high) ≡ true → may_follow (below ++ low) t ≡ true → is_above_owners below (low ++ t ∷ high) ≡ true
above_insert below [] t high above free = above_cons below high t (subst (λ l. may_follow l t ≡ true) (append-nil below) free) (above_more below (below ++ t ∷ []) high (λ o e. has_end o below t ∙ or_first (has o below) (eqb t.window.0 o || false) e) above)
above_insert below (a ∷ low) t high above free =
    let parts = above_parts below (low ++ high) a above in
    above_cons below (low ++ t ∷ high) a parts.0 (above_insert (below ++ a ∷ []) low t high parts.1 (subst (λ l. may_follow l t ≡ true) (sym (append_assoc below (a ∷ []) low)) free))

not_twice : (b : Bool) → not (not b) ≡ b
not_twice true = refl
not_twice false = refl

all_not_twice : (p : TopLevel → Bool) (ts : List TopLevel) → list_all p ts ≡ true → list_all (λ t. not (not (p t))) ts ≡ true
all_not_twice p [] a = refl
all_not_twice p (t ∷ ts) a = and_true (not (not (p t))) (list_all (λ u. not (not (p u))) ts) (not_twice (p t) ∙ and_left (p t) (list_all p ts) a) (all_not_twice p ts (and_right (p t) (list_all p ts) a))

filter_end : (q : TopLevel → Bool) (low high : List TopLevel) (t : TopLevel) → filter q ((low ++ high) ++ t ∷ []) ≡ (filter q low ++ filter q high) ++ filter q (t ∷ [])
filter_end q low high t = filter-append q (low ++ high) (t ∷ []) ∙ ap (λ l. l ++ filter q (t ∷ [])) (filter-append q low high)

parted_low : (low high : List TopLevel) (t : TopLevel) → list_all (λ u. not u.topmost) low ≡ true → list_all (λ u. u.topmost) high ≡ true → t.topmost ≡ false → parted ((low ++ high) ++ t ∷ []) ≡ low ++ t ∷ high
parted_low low high t l h plain =
    let ordinary = filter_end (λ u. not u.topmost) low high t ∙ (ap (λ x. (x ++ filter (λ u. not u.topmost) high) ++ filter (λ u. not u.topmost) (t ∷ [])) (keep_all (λ u. not u.topmost) low l) ∙ (ap (λ x. (low ++ x) ++ filter (λ u. not u.topmost) (t ∷ [])) (skip_all (λ u. not u.topmost) high (all_not_twice (λ u. u.topmost) high h)) ∙ (ap (λ x. x ++ filter (λ u. not u.topmost) (t ∷ [])) (append-nil low) ∙ ap (λ x. low ++ x) (keep_all (λ u. not u.topmost) (t ∷ []) (and_true (not t.topmost) true (ap not plain) refl))))) in
    let top = filter_end (λ u. u.topmost) low high t ∙ (ap (λ x. (x ++ filter (λ u. u.topmost) high) ++ filter (λ u. u.topmost) (t ∷ [])) (skip_all (λ u. u.topmost) low l) ∙ (ap (λ x. x ++ filter (λ u. u.topmost) (t ∷ [])) (keep_all (λ u. u.topmost) high h) ∙ (ap (λ x. high ++ x) (skip_all (λ u. u.topmost) (t ∷ []) (and_true (not t.topmost) true (ap not plain) refl)) ∙ append-nil high))) in
    ap (λ x. x ++ filter (λ u. u.topmost) ((low ++ high) ++ t ∷ [])) ordinary ∙ (ap (λ x. (low ++ t ∷ []) ++ x) top ∙ append_assoc low (t ∷ []) high)

-- an ordinary window comes below the topmost ones
mended_low : (low high : List TopLevel) (t : TopLevel) → list_all (λ u. not u.topmost) low ≡ true → list_all (λ u. u.topmost) high ≡ true → t.topmost ≡ false → may_follow low t ≡ true → is_above_owners [] (low ++ high) ≡ true → mended ((low ++ high) ++ t ∷ []) ≡ low ++ t ∷ high
mended_low low high t l h plain free above =
    ap (λ x. rewritten (2 * length x) [] [] x) (parted_low low high t l h plain) ∙ nothing_held (2 * length (low ++ t ∷ high)) [] (low ++ t ∷ high) (omega arith) (above_insert [] low t high above free)

parted_end : (ts : List TopLevel) (t : TopLevel) → is_parted ts ≡ true → t.topmost ≡ true → is_parted (ts ++ t ∷ []) ≡ true
parted_end [] t a top = parted_cons t [] t.topmost refl (λ _. refl) (λ _. refl)
parted_end (x ∷ ts) t a top =
    let tail = parted_tail ts x.topmost a in
    parted_cons x (ts ++ t ∷ []) x.topmost refl (λ e. list_all-append (λ u. u.topmost) ts (t ∷ []) ∙ and_true (list_all (λ u. u.topmost) ts) (t.topmost && true) (tail.0 e) (and_true t.topmost true top refl)) (λ _. parted_end ts t tail.1 top)

-- a topmost window comes to the top
mended_high : (ts : List TopLevel) (t : TopLevel) → IsMended ts → t.topmost ≡ true → may_follow ts t ≡ true → mended (ts ++ t ∷ []) ≡ ts ++ t ∷ []
mended_high ts t m top free = mended_stays (ts ++ t ∷ []) (record { parted = parted_end ts t m.parted top; above = above_end [] ts t m.above free })

-- The new window among those that stand.

new_tops : (s : Standing) (ss : List Standing) → CameNew s ss → (ws : List Hwnd) → Lists ss ws → map (top_level (s ∷ ss)) ws ≡ map (top_level ss) ws
new_tops s ss n ws listed = tops_same (top_level (s ∷ ss)) (top_level ss) (λ v. is_child v.0 0 ss) (λ v e. newer_stays s ss v (apart ss s.window.0 v.0 n.fresh (child_among v.0 0 ss e))) ws (each_stands ss ws listed)

owner_follows : (s : Standing) (ss : List Standing) → CameNew s ss → (ws : List Hwnd) → Lists ss ws → (b : Bool) → eqb s.owner.0 0 ≡ b → (b || has s.owner.0 (map (top_level ss) ws)) ≡ true
owner_follows s ss n ws listed true none = refl
owner_follows s ss n ws listed false some = any_over (top_level ss) (λ t. eqb t.window.0 s.owner.0) ws ∙ (listed_here ss ws listed s.owner.0 ∙ and_right (eqb s.parent.0 0) (is_child s.owner.0 0 ss) (or_rest (eqb s.owner.0 0) (eqb s.parent.0 0 && is_child s.owner.0 0 ss) n.owner some))

follows_as : (s : Standing) (ss : List Standing) (ts : List TopLevel) → (eqb s.owner.0 0 || has s.owner.0 ts) ≡ true → may_follow ts (top_level (s ∷ ss) s.window) ≡ true
follows_as s ss ts free = subst (λ (h : Hwnd). (eqb h.0 0 || has h.0 ts) ≡ true) (sym (owner_first s ss s.window.0 (eq-eqb s.window.0 s.window.0 refl))) free

no_owner_high : (ss : List Standing) (o : ℕ) (high : List Hwnd) → is_topmost ss o ≡ false → list_all (λ w. is_topmost ss w.0) high ≡ true → (b : Bool) → list_any (λ u. eqb u.0 o) high ≡ b → b ≡ false
no_owner_high ss o high plain h true there =
    let found = witness (λ (u : Hwnd). eqb u.0 o) (λ u. is_topmost ss u.0) high there h in
    sym found.2 ∙ (ap (is_topmost ss) (eqb-true found.0.0 o found.1) ∙ plain)
no_owner_high ss o high plain h false there = refl

follows_low : (ss : List Standing) (o : ℕ) (low high : List Hwnd) → is_topmost ss o ≡ false → list_all (λ w. is_topmost ss w.0) high ≡ true → (eqb o 0 || has o (map (top_level ss) (low ++ high))) ≡ true → (eqb o 0 || has o (map (top_level ss) low)) ≡ true
follows_low ss o low high plain h free =
    let none : has o (map (top_level ss) high) ≡ false = any_over (top_level ss) (λ t. eqb t.window.0 o) high ∙ no_owner_high ss o high plain h (list_any (λ u. eqb u.0 o) high) refl in
    or_both (eqb o 0) (eqb o 0) (has o (map (top_level ss) (low ++ high))) (has o (map (top_level ss) low)) (λ e. e) (λ e. or_other (has o (map (top_level ss) low)) (has o (map (top_level ss) high)) (sym (ap (has o) (map-append (top_level ss) low high) ∙ list_any-append (λ t. eqb t.window.0 o) (map (top_level ss) low) (map (top_level ss) high)) ∙ e) none) free

settled_low : (s : Standing) (ss : List Standing) → CameNew s ss → AllCameNew ss → (low high : List Hwnd) → Lists ss (low ++ high) → IsMended (map (top_level ss) (low ++ high)) → (s.topmost || is_topmost ss s.owner.0) ≡ false → list_all (λ w. not (is_topmost ss w.0)) low ≡ true → list_all (λ w. is_topmost ss w.0) high ≡ true → settled (s ∷ ss) 0 ((low ++ high) ++ s.window ∷ []) ≡ low ++ s.window ∷ high
settled_low s ss n older low high listed m plain l h =
    let t = top_level (s ∷ ss) s.window in
    let a = map (top_level ss) low in
    let b = map (top_level ss) high in
    let both = map-append (top_level ss) low high in
    let tops : map (top_level (s ∷ ss)) ((low ++ high) ++ s.window ∷ []) ≡ (a ++ b) ++ t ∷ [] = map-append (top_level (s ∷ ss)) (low ++ high) (s.window ∷ []) ∙ ap (λ x. x ++ t ∷ []) (new_tops s ss n (low ++ high) listed ∙ both) in
    let owner = follows_low ss s.owner.0 low high (or_right s.topmost (is_topmost ss s.owner.0) plain) h (owner_follows s ss n (low ++ high) listed (eqb s.owner.0 0) refl) in
    let is = mended_low a b t (list_all-map (λ u. not u.topmost) (top_level ss) low ∙ l) (list_all-map (λ u. u.topmost) (top_level ss) high ∙ h) (new_topmost s ss older ∙ plain) (follows_as s ss a owner) (ap (is_above_owners []) (sym both) ∙ m.above) in
    ap (λ x. map (λ (u : TopLevel). u.window) (mended x)) tops ∙ (ap (map (λ (u : TopLevel). u.window)) is ∙ (map-append (λ (u : TopLevel). u.window) a (t ∷ b) ∙ (ap (λ x. x ++ s.window ∷ map (λ (u : TopLevel). u.window) b) (windows_again ss low) ∙ ap (λ x. low ++ s.window ∷ x) (windows_again ss high))))
  where
    or_right : (c d : Bool) → (c || d) ≡ false → d ≡ false
    or_right true d e = absurd (true≢false e)
    or_right false d e = e

settled_high : (s : Standing) (ss : List Standing) → CameNew s ss → AllCameNew ss → (ws : List Hwnd) → Lists ss ws → IsMended (map (top_level ss) ws) → (s.topmost || is_topmost ss s.owner.0) ≡ true → settled (s ∷ ss) 0 (ws ++ s.window ∷ []) ≡ ws ++ s.window ∷ []
settled_high s ss n older ws listed m top =
    let t = top_level (s ∷ ss) s.window in
    let a = map (top_level ss) ws in
    let tops : map (top_level (s ∷ ss)) (ws ++ s.window ∷ []) ≡ a ++ t ∷ [] = map-append (top_level (s ∷ ss)) ws (s.window ∷ []) ∙ ap (λ x. x ++ t ∷ []) (new_tops s ss n ws listed) in
    let is = mended_high a t m (new_topmost s ss older ∙ top) (follows_as s ss a (owner_follows s ss n ws listed (eqb s.owner.0 0) refl)) in
    ap (λ x. map (λ (u : TopLevel). u.window) (mended x)) tops ∙ (ap (map (λ (u : TopLevel). u.window)) is ∙ (map-append (λ (u : TopLevel). u.window) a (t ∷ []) ∙ ap (λ x. x ++ s.window ∷ []) (windows_again ss ws)))

-- The lists of siblings.

none_all : (w : ℕ) (ws : List Hwnd) → list_any (λ v. eqb v.0 w) ws ≡ false → list_all (λ v. not (eqb v.0 w)) ws ≡ true
none_all w [] e = refl
none_all w (v ∷ ws) e = by (eqb v.0 w) (list_any (λ u. eqb u.0 w) ws) e (none_all w ws)
  where
    by : (a b : Bool) → (a || b) ≡ false → (b ≡ false → list_all (λ u. not (eqb u.0 w)) ws ≡ true) → (not a && list_all (λ u. not (eqb u.0 w)) ws) ≡ true
    by true b e ih = absurd (true≢false e)
    by false b e ih = ih e

insert_last : (ws : List Hwnd) (w : Hwnd) → insert ws (length ws) w ≡ ws ++ w ∷ []
insert_last ws w = ap (λ l. l ++ w ∷ drop (length ws) ws) (take-length ws) ∙ ap (λ l. ws ++ w ∷ l) (drop-length ws)

put_new : (w : Hwnd) (ws : List Hwnd) → list_any (λ v. eqb v.0 w.0) ws ≡ false → put Top w ws ≡ ws ++ w ∷ []
put_new w ws missing = ap (λ l. insert l (length l) w) (keep_all (λ v. not (eqb v.0 w.0)) ws (none_all w.0 ws missing)) ∙ insert_last ws w

new_missing : (z : Layers) → IsKept z → (w p : ℕ) → not (among w z.standings) ≡ true → list_any (λ v. eqb v.0 w) (windows_of z.families p) ≡ false
new_missing z k w p fresh = by (is_child w p z.standings) refl
  where
    by : (b : Bool) → is_child w p z.standings ≡ b → list_any (λ v. eqb v.0 w) (windows_of z.families p) ≡ false
    by true e = absurd (false≢true (sym (not-true (among w z.standings) fresh) ∙ child_among w p z.standings e))
    by false e = listed_any w (windows_of z.families p) ∙ ap (ltb 0) (k.listed p w ∙ ap (λ b. cond b 1 0) e)

-- Where the search ends.

low_take : (q : Hwnd → Bool) (ws : List Hwnd) (at : ℕ) → at ≤ length ws → ((k : ℕ) (d : Hwnd) → 0 ≤ k → k < at → q (slice_index_or ws k d) ≡ true) → list_all q (take at ws) ≡ true
low_take q ws zero le f = refl
low_take q [] (suc at) le f = absurd (omega arith)
low_take q (w ∷ ws) (suc at) le f = and_true (q w) (list_all q (take at ws)) (f 0 w (omega arith) (omega arith)) (low_take q ws at (omega arith) (λ k d a b. f (suc k) d (omega arith) (omega arith)))

high_drop : (q : Hwnd → Bool) (ws : List Hwnd) (at : ℕ) → ((k : ℕ) (d : Hwnd) → at ≤ k → k < length ws → q (slice_index_or ws k d) ≡ true) → list_all q (drop at ws) ≡ true
high_drop q [] zero f = refl
high_drop q (w ∷ ws) zero f = and_true (q w) (list_all q ws) (f 0 w (omega arith) (omega arith)) (high_drop q ws zero (λ k d a b. f (suc k) d (omega arith) (omega arith)))
high_drop q [] (suc at) f = refl
high_drop q (w ∷ ws) (suc at) f = high_drop q ws at (λ k d a b. f (suc k) d (omega arith) (omega arith))

not_false : (b : Bool) → not b ≡ false → b ≡ true
not_false true e = refl
not_false false e = absurd (true≢false e)

all_at : (f : Hwnd → TopLevel) (xs : List Hwnd) (k : ℕ) (d : Hwnd) → k < length xs → list_all (λ t. t.topmost) (map f xs) ≡ true → (f (slice_index_or xs k d)).topmost ≡ true
all_at f [] k d lt h = absurd (omega arith)
all_at f (x ∷ xs) zero d lt h = and_left (f x).topmost (list_all (λ t. t.topmost) (map f xs)) h
all_at f (x ∷ xs) (suc k) d lt h = all_at f xs k d (omega arith) (and_right (f x).topmost (list_all (λ t. t.topmost) (map f xs)) h)

partitioned_by : (f : Hwnd → TopLevel) (ws : List Hwnd) → is_parted (map f ws) ≡ true → (i j : ℕ) (d : Hwnd) → i ≤ j → j < length ws → not (f (slice_index_or ws j d)).topmost ≡ true → not (f (slice_index_or ws i d)).topmost ≡ true
partitioned_by f [] a i j d le lt e = absurd (omega arith)
partitioned_by f (w ∷ ws) a zero zero d le lt e = e
partitioned_by f (w ∷ ws) a zero (suc j) d le lt e = by (f w).topmost refl
  where
    by : (b : Bool) → (f w).topmost ≡ b → not (f w).topmost ≡ true
    by true is = absurd (false≢true (sym (ap not (all_at f ws j d (omega arith) ((parted_tail (map f ws) (f w).topmost a).0 is))) ∙ e))
    by false is = ap not is
partitioned_by f (w ∷ ws) a (suc i) zero d le lt e = absurd (omega arith)
partitioned_by f (w ∷ ws) a (suc i) (suc j) d le lt e = partitioned_by f ws (parted_tail (map f ws) (f w).topmost a).1 i j d (omega arith) (omega arith) e

-- the topmost windows stand above the others
pub partitioned : (ss : List Standing) (ws : List Hwnd) → is_parted (map (top_level ss) ws) ≡ true → IsPartitionedBy (λ w. not (is_topmost ss w.0)) ws
partitioned ss ws a = partitioned_by (top_level ss) ws a

-- the list with a new window at its place is the list with it on top, mended
pub new_list : (z : Layers) → IsKept z → (w : Hwnd) (k : Known) → IsNew w.0 k.parent.0 k.owner.0 z → (at : ℕ) → at ≤ length (windows_of z.families k.parent.0)
    → (goes_low z.standings k ≡ false → at ≡ length (windows_of z.families k.parent.0))
    → (goes_low z.standings k ≡ true → IsPartitionPoint (λ (v : Hwnd). not (is_topmost z.standings v.0) ≡ true) (λ v. not (is_topmost z.standings v.0) ≡ false) (windows_of z.families k.parent.0) at)
    → settled (record { window = w; parent = k.parent; owner = k.owner; topmost = k.topmost } ∷ z.standings) k.parent.0 (put Top w (windows_of z.families k.parent.0)) ≡ insert (windows_of z.families k.parent.0) at w
new_list z kept w k new at within high low =
    let s : Standing = record { window = w; parent = k.parent; owner = k.owner; topmost = k.topmost } in
    let ws = windows_of z.families k.parent.0 in
    ap (settled (s ∷ z.standings) k.parent.0) (put_new w ws (new_missing z kept w.0 k.parent.0 new.fresh)) ∙ new_list_by (eqb k.parent.0 0) (k.topmost || is_topmost z.standings k.owner.0) refl refl
  where
    new_list_by : (b t : Bool) → eqb k.parent.0 0 ≡ b → (k.topmost || is_topmost z.standings k.owner.0) ≡ t → settled (record { window = w; parent = k.parent; owner = k.owner; topmost = k.topmost } ∷ z.standings) k.parent.0 (windows_of z.families k.parent.0 ++ w ∷ []) ≡ insert (windows_of z.families k.parent.0) at w
    new_list_by false t child is =
        let last = high (ap (λ b. b && not (k.topmost || is_topmost z.standings k.owner.0)) child) in
        rw child (sym (ap (λ n. insert (windows_of z.families k.parent.0) n w) last ∙ insert_last (windows_of z.families k.parent.0) w))
    new_list_by true true top is =
        let s : Standing = record { window = w; parent = k.parent; owner = k.owner; topmost = k.topmost } in
        let zero = eqb-true k.parent.0 0 top in
        let last = high (ap (λ b. b && not (k.topmost || is_topmost z.standings k.owner.0)) top ∙ ap not is) in
        ap (λ n. settled (s ∷ z.standings) n (windows_of z.families n ++ w ∷ [])) zero
        ∙ (settled_high s z.standings (record { window = new.window; fresh = new.fresh; parent = new.parent; owner = new.owner }) kept.older (windows_of z.families 0) (kept.listed 0) kept.mended is
        ∙ (ap (λ n. windows_of z.families n ++ w ∷ []) (sym zero) ∙ sym (ap (λ n. insert (windows_of z.families k.parent.0) n w) last ∙ insert_last (windows_of z.families k.parent.0) w)))
    new_list_by true false top is =
        let s : Standing = record { window = w; parent = k.parent; owner = k.owner; topmost = k.topmost } in
        let zero = eqb-true k.parent.0 0 top in
        let ws = windows_of z.families 0 in
        let goes : goes_low z.standings k ≡ true = ap (λ b. b && not (k.topmost || is_topmost z.standings k.owner.0)) top ∙ ap not is in
        let here = subst (λ n. IsPartitionPoint (λ (v : Hwnd). not (is_topmost z.standings v.0) ≡ true) (λ v. not (is_topmost z.standings v.0) ≡ false) (windows_of z.families n) at) zero (low goes) in
        let le : at ≤ length ws = subst (λ n. at ≤ length (windows_of z.families n)) zero within in
        let whole = take-append-drop at ws in
        let first = low_take (λ v. not (is_topmost z.standings v.0)) ws at le here.0 in
        let last = high_drop (λ v. is_topmost z.standings v.0) ws at (λ j d a b. not_false (is_topmost z.standings (slice_index_or ws j d).0) (here.1 j d a b)) in
        ap (λ n. settled (s ∷ z.standings) n (windows_of z.families n ++ w ∷ [])) zero
        ∙ (ap (λ l. settled (s ∷ z.standings) 0 (l ++ w ∷ [])) (sym whole)
        ∙ (settled_low s z.standings (record { window = new.window; fresh = new.fresh; parent = new.parent; owner = new.owner }) kept.older (take at ws) (drop at ws) (subst (Lists z.standings) (sym whole) (kept.listed 0)) (subst (λ l. IsMended (map (top_level z.standings) l)) (sym whole) kept.mended) is first last
        ∙ ap (λ n. insert (windows_of z.families n) at w) (sym zero)))

-- so the order with the window at that place is the order with the window inserted
pub inserted_is : (z : Layers) → IsKept z → (w : Hwnd) (k : Known) → IsNew w.0 k.parent.0 k.owner.0 z → (ws : List Hwnd) → ws ≡ windows_of z.families k.parent.0 → (at : ℕ) → at ≤ length ws
    → (goes_low z.standings k ≡ false → at ≡ length ws)
    → (goes_low z.standings k ≡ true → IsPartitionPoint (λ (v : Hwnd). not (is_topmost z.standings v.0) ≡ true) (λ v. not (is_topmost z.standings v.0) ≡ false) ws at)
    → (ss : List Standing) → ss ≡ standing (w.0, k) ∷ z.standings → (fs : List Siblings) → fs ≡ with_windows k.parent (insert ws at w) z.families
    → record { standings = ss; families = fs } ≡ inserted w k.parent k.owner k.topmost z
inserted_is z kept w k new ws same at within high low ss first fs lists =
    let listed = new_list z kept w k new at (subst (λ l. at ≤ length l) same within) (λ e. high e ∙ ap length same) (λ e. subst (λ l. IsPartitionPoint (λ (v : Hwnd). not (is_topmost z.standings v.0) ≡ true) (λ v. not (is_topmost z.standings v.0) ≡ false) l at) same (low e)) in
    ap (λ (l : List Standing). let y : Layers = record { standings = l; families = fs } in y) first
    ∙ ap (λ (l : List Siblings). let y : Layers = record { standings = standing (w.0, k) ∷ z.standings; families = l } in y) (lists ∙ ap (λ l. with_windows k.parent l z.families) (ap (λ l. insert l at w) same ∙ sym listed))

pub where_ok : {V E : Type 0} (r : Result V E) (P : Type 0) → is_err r ≡ false → OnOk r P → P
where_ok (Ok v) P e ok = ok
where_ok (Err x) P e ok = absurd (true≢false e)

pub on_ok : {V E : Type 0} (r : Result V E) (P : Type 0) → P → OnOk r P
on_ok (Ok v) P p = p
on_ok (Err x) P p = tt
