-- Entries by rising number, in front of a place, at it and behind it.
use Rattle.std.proofs.Common.{◌≡◌, ◌≢◌, ℕ, zero, suc, ◌<◌, ◌≤◌, cond, eqb, List, [], ◌∷◌, ◌++◌, length, take, drop, get_or, set, Some, None, refl, ap, ◌∙◌, sym, subst, arith}
use Rattle.std.specs.List.Sorted.{IsNonDecreasingBy}
use Rattle.std.proofs.lemmas.Bool.{eq-eqb, ne_eqb}
use Rattle.dirty_windows.specs.declared.entries.DirtyWindow.{DirtyWindow}
use Rattle.dirty_windows.specs.LookUps.{entry_of, RisesFrom}

-- the number of an entry
abbrev pub number : DirtyWindow → ℕ
number d = d.window.0

-- ---- numbers that rise

-- each is above the first number
pub above_first : (first : ℕ) (ds : List DirtyWindow) (j : ℕ) (d : DirtyWindow) → RisesFrom first ds → j < length ds → first < number (get_or ds j d)
above_first first [] j d h lt = absurd (omega (arith, lt))
above_first first (x ∷ xs) zero d h lt = h.0
above_first first (x ∷ xs) (suc j) d h lt = omega (arith, h.0, above_first (number x) xs j d h.1 (omega (arith, lt)))

pub rises : (first : ℕ) (ds : List DirtyWindow) → RisesFrom first ds → IsNonDecreasingBy number ds
rises first [] h i j d le lt = absurd (omega (arith, lt))
rises first (x ∷ xs) h zero zero d le lt = omega arith
rises first (x ∷ xs) h zero (suc j) d le lt = omega (arith, above_first (number x) xs j d h.1 (omega (arith, lt)))
rises first (x ∷ xs) h (suc i) zero d le lt = absurd (omega (arith, le))
rises first (x ∷ xs) h (suc i) (suc j) d le lt = rises (number x) xs h.1 i j d (omega (arith, le)) (omega (arith, lt))

-- from a lesser number they rise too
pub lower : (low first : ℕ) (ds : List DirtyWindow) → low < first → RisesFrom first ds → RisesFrom low ds
lower low first [] l h = tt
lower low first (x ∷ xs) l h = (omega (arith, l, h.0), h.1)

-- one more, between lesser and greater numbers
pub rises-insert : (first : ℕ) (ds : List DirtyWindow) (i : ℕ) (y : DirtyWindow) → i ≤ length ds → ((k : ℕ) (d : DirtyWindow) → k < i → number (get_or ds k d) < number y) → ((d : DirtyWindow) → i < length ds → number y < number (get_or ds i d)) → first < number y → RisesFrom first ds → RisesFrom first (take i ds ++ y ∷ drop i ds)
rises-insert first [] zero y le below above lt h = (lt, tt)
rises-insert first [] (suc i) y le below above lt h = absurd (omega (arith, le))
rises-insert first (x ∷ xs) zero y le below above lt h = (lt, (above x (omega arith), h.1))
rises-insert first (x ∷ xs) (suc i) y le below above lt h = (h.0, rises-insert (number x) xs i y (omega (arith, le)) (λ k d l. below (suc k) d (omega (arith, l))) (λ d l. above d (omega (arith, l))) (below 0 x (omega arith)) h.1)

-- one in the place of another of the same number
pub rises-set : (first : ℕ) (front : List DirtyWindow) (x y : DirtyWindow) (back : List DirtyWindow) → number x ≡ number y → RisesFrom first (front ++ x ∷ back) → RisesFrom first (front ++ y ∷ back)
rises-set first [] x y back e h = (subst (λ n. first < n) e h.0, subst (λ n. RisesFrom n back) e h.1)
rises-set first (a ∷ front) x y back e h = (h.0, rises-set (number a) front x y back e h.1)

-- one less
pub rises-remove : (first : ℕ) (front : List DirtyWindow) (x : DirtyWindow) (back : List DirtyWindow) → RisesFrom first (front ++ x ∷ back) → RisesFrom first (front ++ back)
rises-remove first [] x back h = lower first (number x) back h.0 h.1
rises-remove first (a ∷ front) x back h = (h.0, rises-remove (number a) front x back h.1)

-- what stands behind others is above the first number
middle_above : (first : ℕ) (front : List DirtyWindow) (x : DirtyWindow) (back : List DirtyWindow) → RisesFrom first (front ++ x ∷ back) → first < number x
middle_above first [] x back h = h.0
middle_above first (a ∷ front) x back h = omega (arith, h.0, middle_above (number a) front x back h.1)

-- ---- look-ups

-- the first entry, if it is the window's, or else the one behind it
pub entry_same : (x : DirtyWindow) (xs : List DirtyWindow) (w : ℕ) → number x ≡ w → entry_of (x ∷ xs) w ≡ Some x
entry_same x xs w e = ap (λ b. cond b (Some x) (entry_of xs w)) (eq-eqb (number x) w e)

pub entry_other : (x : DirtyWindow) (xs : List DirtyWindow) (w : ℕ) → number x ≢ w → entry_of (x ∷ xs) w ≡ entry_of xs w
entry_other x xs w n = ap (λ b. cond b (Some x) (entry_of xs w)) (ne_eqb (number x) w n)

-- a number up to the first has no entry
pub none_up_to : (first : ℕ) (ds : List DirtyWindow) (w : ℕ) → RisesFrom first ds → w ≤ first → entry_of ds w ≡ None
none_up_to first [] w h l = refl
none_up_to first (x ∷ xs) w h l = entry_other x xs w (λ e. absurd (omega (arith, h.0, l, e))) ∙ none_up_to (number x) xs w h.1 (omega (arith, h.0, l))

-- the entry that stands in the middle
pub entry_middle : (first : ℕ) (front : List DirtyWindow) (y : DirtyWindow) (back : List DirtyWindow) (w : ℕ) → number y ≡ w → RisesFrom first (front ++ y ∷ back) → entry_of (front ++ y ∷ back) w ≡ Some y
entry_middle first [] y back w e h = entry_same y back w e
entry_middle first (a ∷ front) y back w e h = entry_other a (front ++ y ∷ back) w (λ k. absurd (omega (arith, middle_above (number a) front y back h.1, e, k))) ∙ entry_middle (number a) front y back w e h.1

-- and that of another window, without the one in the middle
pub entry_beside : (front : List DirtyWindow) (y : DirtyWindow) (back : List DirtyWindow) (v : ℕ) → number y ≢ v → entry_of (front ++ y ∷ back) v ≡ entry_of (front ++ back) v
entry_beside [] y back v n = entry_other y back v n
entry_beside (a ∷ front) y back v n = ap (λ o. cond (eqb (number a) v) (Some a) o) (entry_beside front y back v n)

-- the window of the one in the middle has no other entry
pub entry_gone : (first : ℕ) (front : List DirtyWindow) (x : DirtyWindow) (back : List DirtyWindow) (w : ℕ) → number x ≡ w → RisesFrom first (front ++ x ∷ back) → entry_of (front ++ back) w ≡ None
entry_gone first [] x back w e h = none_up_to (number x) back w h.1 (omega (arith, e))
entry_gone first (a ∷ front) x back w e h = entry_other a (front ++ back) w (λ k. absurd (omega (arith, middle_above (number a) front x back h.1, e, k))) ∙ entry_gone (number a) front x back w e h.1

-- a list up to a place, and from a place on
pub rises-take : (n first : ℕ) (ds : List DirtyWindow) → RisesFrom first ds → RisesFrom first (take n ds)
rises-take zero first ds h = tt
rises-take (suc n) first [] h = tt
rises-take (suc n) first (x ∷ xs) h = (h.0, rises-take n (number x) xs h.1)

pub split_at : (ds : List DirtyWindow) (i : ℕ) (x : DirtyWindow) → i < length ds → x ≡ get_or ds i x → ds ≡ take i ds ++ x ∷ drop (suc i) ds
split_at [] i x lt e = absurd (omega (arith, lt))
split_at (y ∷ ys) zero x lt e = ap (λ z. z ∷ ys) (sym e)
split_at (y ∷ ys) (suc i) x lt e = ap (λ zs. y ∷ zs) (split_at ys i x (omega (arith, lt)) e)

pub split_for : (ds : List DirtyWindow) (i : ℕ) → ds ≡ take i ds ++ drop i ds
split_for ds zero = refl
split_for [] (suc i) = refl
split_for (y ∷ ys) (suc i) = ap (λ zs. y ∷ zs) (split_for ys i)

pub set_middle : (ds : List DirtyWindow) (i : ℕ) (y : DirtyWindow) → i < length ds → set ds i y ≡ take i ds ++ y ∷ drop (suc i) ds
set_middle [] i y lt = absurd (omega (arith, lt))
set_middle (x ∷ xs) zero y lt = refl
set_middle (x ∷ xs) (suc i) y lt = ap (λ zs. x ∷ zs) (set_middle xs i y (omega (arith, lt)))

-- one between lesser and greater numbers has no entry
pub none_between : (first : ℕ) (ds : List DirtyWindow) (w i : ℕ) → i ≤ length ds → ((k : ℕ) (d : DirtyWindow) → k < i → number (get_or ds k d) < w) → ((d : DirtyWindow) → i < length ds → w < number (get_or ds i d)) → RisesFrom first ds → entry_of ds w ≡ None
none_between first [] w i le below above h = refl
none_between first (x ∷ xs) w zero le below above h = none_up_to w (x ∷ xs) w (above x (omega arith), h.1) (omega arith)
none_between first (x ∷ xs) w (suc i) le below above h = entry_other x xs w (λ e. absurd (omega (arith, below 0 x (omega arith), e))) ∙ none_between (number x) xs w i (omega (arith, le)) (λ k d l. below (suc k) d (omega (arith, l))) (λ d l. above d (omega (arith, l))) h.1

-- an entry of the list
pub above_item : (ds : List DirtyWindow) (i : ℕ) (d : DirtyWindow) → RisesFrom 0 ds → i < length ds → d ≡ get_or ds i d → 0 < number d
above_item ds i d h lt e = omega (arith, above_first 0 ds i d h lt, ap number e)
