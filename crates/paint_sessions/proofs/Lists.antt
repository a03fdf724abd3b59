-- Sessions by rising number, in front of a place, at it and behind it.
use Rattle.std.proofs.Common.{◌≡◌, ◌≢◌, ℕ, zero, suc, ◌<◌, ◌≤◌, cond, eqb, List, [], ◌∷◌, ◌++◌, length, take, drop, get_or, set, Some, None, refl, ap, ◌∙◌, sym, subst, arith}
use Rattle.std.specs.List.Sorted.{IsNonDecreasingBy}
use Rattle.std.proofs.lemmas.Bool.{eq-eqb, ne_eqb}
use Rattle.paint_sessions.specs.declared.sessions.Session.{Session}
use Rattle.paint_sessions.specs.LookUps.{session_of, RisesFrom}

-- the number of a session
abbrev pub number : Session → ℕ
number s = s.window.0

-- ---- numbers that rise

-- each is at least the first number
pub above_first : (first : ℕ) (ss : List Session) (j : ℕ) (s : Session) → RisesFrom first ss → j < length ss → first ≤ number (get_or ss j s)
above_first first [] j s h lt = absurd (omega (arith, lt))
above_first first (x ∷ xs) zero s h lt = h.0
above_first first (x ∷ xs) (suc j) s h lt = omega (arith, h.0, above_first (suc (number x)) xs j s h.1 (omega (arith, lt)))

pub rises : (first : ℕ) (ss : List Session) → RisesFrom first ss → IsNonDecreasingBy number ss
rises first [] h i j s le lt = absurd (omega (arith, lt))
rises first (x ∷ xs) h zero zero s le lt = omega arith
rises first (x ∷ xs) h zero (suc j) s le lt = omega (arith, above_first (suc (number x)) xs j s h.1 (omega (arith, lt)))
rises first (x ∷ xs) h (suc i) zero s le lt = absurd (omega (arith, le))
rises first (x ∷ xs) h (suc i) (suc j) s le lt = rises (suc (number x)) xs h.1 i j s (omega (arith, le)) (omega (arith, lt))

-- from a lesser number on they rise too
pub lower : (low first : ℕ) (ss : List Session) → low ≤ first → RisesFrom first ss → RisesFrom low ss
lower low first [] l h = tt
lower low first (x ∷ xs) l h = (omega (arith, l, h.0), h.1)

-- one more, between lesser and greater numbers
pub rises-insert : (first : ℕ) (ss : List Session) (i : ℕ) (y : Session) → i ≤ length ss → ((k : ℕ) (s : Session) → k < i → number (get_or ss k s) < number y) → ((s : Session) → i < length ss → number y < number (get_or ss i s)) → first ≤ number y → RisesFrom first ss → RisesFrom first (take i ss ++ y ∷ drop i ss)
rises-insert first [] zero y le below above lt h = (lt, tt)
rises-insert first [] (suc i) y le below above lt h = absurd (omega (arith, le))
rises-insert first (x ∷ xs) zero y le below above lt h = (lt, (above x (omega arith), h.1))
rises-insert first (x ∷ xs) (suc i) y le below above lt h = (h.0, rises-insert (suc (number x)) xs i y (omega (arith, le)) (λ k s l. below (suc k) s (omega (arith, l))) (λ s l. above s (omega (arith, l))) (below 0 x (omega arith)) h.1)

-- one in the place of another of the same number
pub rises-set : (first : ℕ) (front : List Session) (x y : Session) (back : List Session) → number x ≡ number y → RisesFrom first (front ++ x ∷ back) → RisesFrom first (front ++ y ∷ back)
rises-set first [] x y back e h = (subst (λ n. first ≤ n) e h.0, subst (λ n. RisesFrom (suc n) back) e h.1)
rises-set first (a ∷ front) x y back e h = (h.0, rises-set (suc (number a)) front x y back e h.1)

-- one less
pub rises-remove : (first : ℕ) (front : List Session) (x : Session) (back : List Session) → RisesFrom first (front ++ x ∷ back) → RisesFrom first (front ++ back)
rises-remove first [] x back h = lower first (suc (number x)) back (omega (arith, h.0)) h.1
rises-remove first (a ∷ front) x back h = (h.0, rises-remove (suc (number a)) front x back h.1)

-- what stands behind others is at least the first number
middle_above : (first : ℕ) (front : List Session) (x : Session) (back : List Session) → RisesFrom first (front ++ x ∷ back) → first ≤ number x
middle_above first [] x back h = h.0
middle_above first (a ∷ front) x back h = omega (arith, h.0, middle_above (suc (number a)) front x back h.1)

-- ---- look-ups

-- the first session, if it is the window's, or else the one behind it
pub session_same : (x : Session) (xs : List Session) (w : ℕ) → number x ≡ w → session_of (x ∷ xs) w ≡ Some x
session_same x xs w e = ap (λ b. cond b (Some x) (session_of xs w)) (eq-eqb (number x) w e)

pub session_other : (x : Session) (xs : List Session) (w : ℕ) → number x ≢ w → session_of (x ∷ xs) w ≡ session_of xs w
session_other x xs w n = ap (λ b. cond b (Some x) (session_of xs w)) (ne_eqb (number x) w n)

-- a number below the first has no session
pub none_below : (first : ℕ) (ss : List Session) (w : ℕ) → RisesFrom first ss → w < first → session_of ss w ≡ None
none_below first [] w h l = refl
none_below first (x ∷ xs) w h l = session_other x xs w (λ e. absurd (omega (arith, h.0, l, e))) ∙ none_below (suc (number x)) xs w h.1 (omega (arith, h.0, l))

-- the session that stands in the middle
pub session_middle : (first : ℕ) (front : List Session) (y : Session) (back : List Session) (w : ℕ) → number y ≡ w → RisesFrom first (front ++ y ∷ back) → session_of (front ++ y ∷ back) w ≡ Some y
session_middle first [] y back w e h = session_same y back w e
session_middle first (a ∷ front) y back w e h = session_other a (front ++ y ∷ back) w (λ k. absurd (omega (arith, middle_above (suc (number a)) front y back h.1, e, k))) ∙ session_middle (suc (number a)) front y back w e h.1

-- and that of another window, without the one in the middle
pub session_beside : (front : List Session) (y : Session) (back : List Session) (v : ℕ) → number y ≢ v → session_of (front ++ y ∷ back) v ≡ session_of (front ++ back) v
session_beside [] y back v n = session_other y back v n
session_beside (a ∷ front) y back v n = ap (λ o. cond (eqb (number a) v) (Some a) o) (session_beside front y back v n)

-- the window of the one in the middle has no other session
pub session_gone : (first : ℕ) (front : List Session) (x : Session) (back : List Session) (w : ℕ) → number x ≡ w → RisesFrom first (front ++ x ∷ back) → session_of (front ++ back) w ≡ None
session_gone first [] x back w e h = none_below (suc (number x)) back w h.1 (omega (arith, e))
session_gone first (a ∷ front) x back w e h = session_other a (front ++ back) w (λ k. absurd (omega (arith, middle_above (suc (number a)) front x back h.1, e, k))) ∙ session_gone (suc (number a)) front x back w e h.1

-- a list up to a place, and from a place on
pub rises-take : (n first : ℕ) (ss : List Session) → RisesFrom first ss → RisesFrom first (take n ss)
rises-take zero first ss h = tt
rises-take (suc n) first [] h = tt
rises-take (suc n) first (x ∷ xs) h = (h.0, rises-take n (suc (number x)) xs h.1)

pub split_at : (ss : List Session) (i : ℕ) (x : Session) → i < length ss → x ≡ get_or ss i x → ss ≡ take i ss ++ x ∷ drop (suc i) ss
split_at [] i x lt e = absurd (omega (arith, lt))
split_at (y ∷ ys) zero x lt e = ap (λ z. z ∷ ys) (sym e)
split_at (y ∷ ys) (suc i) x lt e = ap (λ zs. y ∷ zs) (split_at ys i x (omega (arith, lt)) e)

pub split_for : (ss : List Session) (i : ℕ) → ss ≡ take i ss ++ drop i ss
split_for ss zero = refl
split_for [] (suc i) = refl
split_for (y ∷ ys) (suc i) = ap (λ zs. y ∷ zs) (split_for ys i)

pub set_middle : (ss : List Session) (i : ℕ) (y : Session) → i < length ss → set ss i y ≡ take i ss ++ y ∷ drop (suc i) ss
set_middle [] i y lt = absurd (omega (arith, lt))
set_middle (x ∷ xs) zero y lt = refl
set_middle (x ∷ xs) (suc i) y lt = ap (λ zs. x ∷ zs) (set_middle xs i y (omega (arith, lt)))

-- one between lesser and greater numbers has no session
pub none_between : (first : ℕ) (ss : List Session) (w i : ℕ) → i ≤ length ss → ((k : ℕ) (s : Session) → k < i → number (get_or ss k s) < w) → ((s : Session) → i < length ss → w < number (get_or ss i s)) → RisesFrom first ss → session_of ss w ≡ None
none_between first [] w i le below above h = refl
none_between first (x ∷ xs) w zero le below above h = none_below (suc w) (x ∷ xs) w (above x (omega arith), h.1) (omega arith)
none_between first (x ∷ xs) w (suc i) le below above h = session_other x xs w (λ e. absurd (omega (arith, below 0 x (omega arith), e))) ∙ none_between (suc (number x)) xs w i (omega (arith, le)) (λ k s l. below (suc k) s (omega (arith, l))) (λ s l. above s (omega (arith, l))) h.1
