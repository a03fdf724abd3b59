-- Lists of settings.
use Rattle.std.proofs.Common.{◌≡◌, ◌&&◌, filter, ℕ, ◌+◌, ◌<◌, ◌≤◌, ◌^◌, take, drop, ◌==◌, Bool, true, false, not, cond, List, [], ◌∷◌, ◌++◌, length, get_or, set, Option, Some, None, refl, ap, sym, ◌∙◌, arith}
use Rattle.std.specs.List.{items_where_true}
use Rattle.std.proofs.lemmas.List.Elements.{filter-append, All-cons, All-filter, All-head, All-map, All-nil, All-push, All-tail, All-weaker}
use Rattle.std.proofs.lemmas.List.{append-nil, append_assoc, drop_all, take_all, length-append, length-map, length-take-le, drop_more, take_more, get_or_at, set_at, map-append}
use Rattle.std.proofs.lemmas.Bool.{eqb-true, false≢true}
use Rattle.std.proofs.lemmas.Bool.Decides.{nat_tests}
use Rattle.std.specs.Prelude.{nat_le, ◌||◌}
use Rattle.std.specs.Option.{option_map}
use Rattle.win_num.specs.declared.message.Hwnd.{Hwnd}
use Rattle.win_num.specs.declared.message.Thread.{Thread}
use Rattle.timer_source.specs.declared.setting.Setting.{Setting}
use Rattle.timer_source.specs.declared.timer.Timer.{Timer}
use Rattle.timer_source.specs.Settings.{AreEarly, is_of, is_set_for, of_thread, has_no_room, without, without_window, anew, restarted, sooner, soonest, timer_of, passing, first_passing, or_timer, with_timer}

-- what is taken out leaves early settings
pub early_without : (w : Hwnd) (id : ℕ) (settings left : List Setting) → left ≡ without w id settings → AreEarly settings → AreEarly left
early_without w id settings left e early = rw e (All-filter (λ s. not (is_of w id s)) (λ s. s.base < 2 ^ 54) settings early)

-- the same of a window's
pub early_without_window : (w : Hwnd) (settings left : List Setting) → left ≡ without_window w settings → AreEarly settings → AreEarly left
early_without_window w settings left e early = rw e (All-filter (λ s. not (s.hwnd.0 == w.0)) (λ s. s.base < 2 ^ 54) settings early)

-- what is taken out leaves a thread no more
no_more : (u : Thread) (w : Hwnd) (id : ℕ) (settings : List Setting) → length (of_thread u (without w id settings)) ≤ length (of_thread u settings)
no_more u w id [] = omega arith
no_more u w id (s ∷ settings) =
    let rest : length (of_thread u (without w id settings)) ≤ length (of_thread u settings) = no_more u w id settings in
    elim (is_of w id s) as (λ b. length (of_thread u (cond (not b) (s ∷ without w id settings) (without w id settings))) ≤ length (of_thread u (s ∷ settings))) [
      | true ↦ elim (s.thread.0 == u.0) as (λ o. length (of_thread u (without w id settings)) ≤ length (cond o (s ∷ of_thread u settings) (of_thread u settings))) [ true ↦ omega (arith, rest) | false ↦ rest ]
      | false ↦ elim (s.thread.0 == u.0) as (λ o. length (cond o (s ∷ of_thread u (without w id settings)) (of_thread u (without w id settings))) ≤ length (cond o (s ∷ of_thread u settings) (of_thread u settings))) [ true ↦ omega (arith, rest) | false ↦ rest ]
    ]

-- and one less, where it was its own
one_less : (u : Thread) (w : Hwnd) (id : ℕ) (settings : List Setting) → is_set_for u w id settings ≡ true → length (of_thread u (without w id settings)) < length (of_thread u settings)
one_less u w id [] h = absurd (false≢true h)
one_less u w id (s ∷ settings) h = by (s.thread.0 == u.0) (is_of w id s) refl refl (one_less u w id settings) h
  where
    by : (o b : Bool) → (s.thread.0 == u.0) ≡ o → is_of w id s ≡ b → (is_set_for u w id settings ≡ true → length (of_thread u (without w id settings)) < length (of_thread u settings)) → ((o && b) || is_set_for u w id settings) ≡ true → length (of_thread u (without w id (s ∷ settings))) < length (of_thread u (s ∷ settings))
    by true true eo eb less k = rw (eb, eo) (let rest = no_more u w id settings in omega (arith, rest))
    by true false eo eb less k = rw (eb, eo) (let rest = less k in omega (arith, rest))
    by false true eo eb less k = rw (eb, eo) (less k)
    by false false eo eb less k = rw (eb, eo) (less k)

-- a thread has at most 256 timers and room for this one, so it has room once the old one is out
room_left : (t : Thread) (w : Hwnd) (id : ℕ) (settings : List Setting) → has_no_room t w id settings ≡ false → length (of_thread t settings) ≤ 256 → length (of_thread t (without w id settings)) < 256
room_left t w id settings room few = by (is_set_for t w id settings) refl room
  where
    below : (n : ℕ) → nat_le 256 n ≡ false → n < 256
    below n h = grind (arith, nat_tests, h)

    by : (b : Bool) → is_set_for t w id settings ≡ b → (not b && nat_le 256 (length (of_thread t settings))) ≡ false → length (of_thread t (without w id settings)) < 256
    by true is k = let less = one_less t w id settings is in omega (arith, less, few)
    by false is k = let less = below (length (of_thread t settings)) k in let rest = no_more t w id settings in omega (arith, less, rest)

-- where every thread had at most 256 timers, it has no more once one is set for which there is room
pub few_set : (t u : Thread) (w : Hwnd) (id : ℕ) (settings left : List Setting) (s : Setting) → left ≡ without w id settings ++ s ∷ [] → s.thread ≡ t → has_no_room t w id settings ≡ false → length (of_thread u settings) ≤ 256 → length (of_thread u left) ≤ 256
few_set t u w id settings left s e own room few = rw (e, filter-append (λ r. r.thread.0 == u.0) (without w id settings) (s ∷ [])) (by (s.thread.0 == u.0) refl)
  where
    by : (o : Bool) → (s.thread.0 == u.0) ≡ o → length (of_thread u (without w id settings) ++ cond o (s ∷ []) []) ≤ 256
    by true eo =
        let same : t.0 ≡ u.0 = sym (ap (λ (r : Thread). r.0) own) ∙ eqb-true s.thread.0 u.0 eo in
        let left : length (of_thread u (without w id settings)) < 256 = room_left u w id settings (sym (ap (λ n. has_no_room (record { 0 = n }) w id settings) same) ∙ room) few in
        let longer = length-append (of_thread u (without w id settings)) (s ∷ []) in
        omega (arith, left, longer)
    by false eo = rw (append-nil (of_thread u (without w id settings))) (let rest = no_more u w id settings in omega (arith, rest, few))

-- the same of those that fail a test
pub early_kept : (stays : Setting → Bool) (settings left : List Setting) → left ≡ filter stays settings → AreEarly settings → AreEarly left
early_kept stays settings left e early = rw e (All-filter stays (λ s. s.base < 2 ^ 54) settings early)

abbrev IsEarly : Setting → Type 0
IsEarly s = s.base < 2 ^ 54

picked : (bs : List Bool) (xs : List Setting) → AreEarly xs → AreEarly (items_where_true bs xs)
picked [] xs h = All-nil IsEarly
picked (b ∷ bs) [] h = All-nil IsEarly
picked (true ∷ bs) (x ∷ xs) h = All-cons IsEarly x (items_where_true bs xs) (All-head IsEarly x xs h) (picked bs xs (All-tail IsEarly x xs h))
picked (false ∷ bs) (x ∷ xs) h = picked bs xs (All-tail IsEarly x xs h)

-- the same of those that a list of answers picks
pub early_picked : (answers : List Bool) (settings left : List Setting) → left ≡ items_where_true answers settings → AreEarly settings → AreEarly left
early_picked answers settings left e early = rw e (picked answers settings early)

-- a new one at an early clock
pub early_push : (settings left : List Setting) (s : Setting) → left ≡ settings ++ s ∷ [] → AreEarly settings → s.base < 2 ^ 54 → AreEarly left
early_push settings left s e early now = rw e (All-push (λ r. r.base < 2 ^ 54) settings s early now)

-- begun anew at an early clock
pub early_base : (w : Hwnd) (id clock : ℕ) (s : Setting) → clock < 2 ^ 54 → s.base < 2 ^ 54 → (anew w id clock s).base < 2 ^ 54
early_base w id clock s now early = elim (is_of w id s) as (λ b. (cond b (record s { base = clock }) s).base < 2 ^ 54) [ true ↦ now | false ↦ early ]

pub early_restarted : (w : Hwnd) (id clock : ℕ) (settings left : List Setting) → left ≡ restarted w id clock settings → clock < 2 ^ 54 → AreEarly settings → AreEarly left
early_restarted w id clock settings left e now early = rw e (All-map (λ s. s.base < 2 ^ 54) _ settings (All-weaker (λ s. s.base < 2 ^ 54) _ (λ s h. early_base w id clock s now h) settings early))

-- of three, it does not matter which two are compared first
pub sooner_assoc : (x r s : Setting) → sooner x (Some (sooner r (Some s))) ≡ sooner (sooner x (Some r)) (Some s)
sooner_assoc x r s = grind (arith, nat_tests)

-- the one of a list that is due first, and one behind it
abbrev pub or_later : Option Setting → Setting → Setting
or_later None s = s
or_later (Some r) s = sooner r (Some s)

pub soonest-push : (settings : List Setting) (s : Setting) → soonest (settings ++ s ∷ []) ≡ Some (or_later (soonest settings) s)
soonest-push [] s = refl
soonest-push (x ∷ settings) s = ap (λ m. Some (sooner x m)) (soonest-push settings s) ∙ ap Some (regrouped (soonest settings))
  where
    regrouped : (m : Option Setting) → sooner x (Some (or_later m s)) ≡ sooner (sooner x m) (Some s)
    regrouped None = refl
    regrouped (Some r) = sooner_assoc x r s

pub timer_of-or_later : (m : Option Setting) (s : Setting) → timer_of (or_later m s) ≡ or_timer (option_map timer_of m) (timer_of s)
timer_of-or_later None s = refl
timer_of-or_later (Some r) s = grind (arith, nat_tests)

-- one more setting of the thread behind the others
pub first_passing-own : (t : Thread) (test : Timer → Bool) (settings : List Setting) (s : Setting) → (s.thread.0 == t.0) ≡ true → first_passing t test (settings ++ s ∷ []) ≡ with_timer test (first_passing t test settings) (timer_of s)
first_passing-own t test settings s own = ap (λ kept. option_map timer_of (soonest kept)) (filter-append (λ r. (r.thread.0 == t.0) && test (timer_of r)) settings (s ∷ [])) ∙ rw own (by_answer (test (timer_of s)))
  where
    by_answer : (b : Bool) → option_map timer_of (soonest (passing t test settings ++ cond b (s ∷ []) [])) ≡ cond b (Some (or_timer (first_passing t test settings) (timer_of s))) (first_passing t test settings)
    by_answer true = ap (option_map timer_of) (soonest-push (passing t test settings) s) ∙ ap Some (timer_of-or_later (soonest (passing t test settings)) s)
    by_answer false = ap (λ kept. option_map timer_of (soonest kept)) (append-nil (passing t test settings))

-- one more setting of another thread
pub first_passing-other : (t : Thread) (test : Timer → Bool) (settings : List Setting) (s : Setting) → (s.thread.0 == t.0) ≡ false → first_passing t test (settings ++ s ∷ []) ≡ first_passing t test settings
first_passing-other t test settings s other = ap (λ kept. option_map timer_of (soonest kept)) (filter-append (λ r. (r.thread.0 == t.0) && test (timer_of r)) settings (s ∷ []) ∙ rw other (append-nil (passing t test settings)))

-- a slice of all elements, written back
pub written_back : (n : ℕ) (new old : List Setting) → length new ≡ length old → length old ≤ n → take n (new ++ drop (length new) old) ≡ new
written_back n new old same fits = rw (drop_all (length new) old (omega arith), append-nil) (take_all n new (omega arith))

pub anew-true : (w : Hwnd) (id clock : ℕ) (s : Setting) → is_of w id s ≡ true → record s { base = clock } ≡ anew w id clock s
anew-true w id clock s is = rw is refl

pub anew-false : (w : Hwnd) (id clock : ℕ) (s : Setting) → is_of w id s ≡ false → s ≡ anew w id clock s
anew-false w id clock s is = rw is refl

-- one more setting begun anew, as at a step of a loop
pub restarted-step : (w : Hwnd) (id clock i : ℕ) (xs ys : List Setting) (y d : Setting) → i < length xs → ys ≡ restarted w id clock (take i xs) ++ drop i xs → y ≡ anew w id clock (get_or ys i d) → set ys i y ≡ restarted w id clock (take (i + 1) xs) ++ drop (i + 1) xs
restarted-step w id clock i xs ys y d l e ey =
    let front : List Setting = restarted w id clock (take i xs) in
    let rest : List Setting = drop (i + 1) xs in
    let x : Setting = get_or xs i d in
    let len : length front ≡ i = length-map (take i xs) (anew w id clock) ∙ length-take-le i xs (omega arith) in
    let shape : ys ≡ front ++ x ∷ rest = e ∙ ap (λ r. front ++ r) (drop_more xs i d l) in
    let read : get_or ys i d ≡ x = ap (λ r. get_or r i d) shape ∙ get_or_at front x rest d i len in
    let written : set ys i y ≡ front ++ y ∷ rest = ap (λ r. set r i y) shape ∙ set_at front x rest y i len in
    let longer : restarted w id clock (take (i + 1) xs) ≡ front ++ anew w id clock x ∷ [] = ap (restarted w id clock) (take_more xs i d l) ∙ map-append (anew w id clock) (take i xs) (x ∷ []) in
    written ∙ ap (λ v. front ++ v ∷ rest) (ey ∙ ap (anew w id clock) read) ∙ sym (ap (λ r. r ++ rest) longer ∙ append_assoc front (anew w id clock x ∷ []) rest)

-- a loop's step at a timer of the thread
pub own_step : (t : Thread) (test : Timer → Bool) (settings : List Setting) (i : ℕ) (d : Setting) (best next : Option Timer) → i < length settings → ((get_or settings i d).thread.0 == t.0) ≡ true → best ≡ first_passing t test (take i settings) → next ≡ with_timer test best (timer_of (get_or settings i d)) → next ≡ first_passing t test (take (i + 1) settings)
own_step t test settings i d best next l own before e = rw (take_more settings i d l) (e ∙ ap (λ b. with_timer test b (timer_of (get_or settings i d))) before ∙ sym (first_passing-own t test (take i settings) (get_or settings i d) own))

-- and at one of another thread
pub other_step : (t : Thread) (test : Timer → Bool) (settings : List Setting) (i : ℕ) (d : Setting) (best : Option Timer) → i < length settings → ((get_or settings i d).thread.0 == t.0) ≡ false → best ≡ first_passing t test (take i settings) → best ≡ first_passing t test (take (i + 1) settings)
other_step t test settings i d best l other before = rw (take_more settings i d l) (before ∙ sym (first_passing-other t test (take i settings) (get_or settings i d) other))
