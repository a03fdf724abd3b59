-- Timers as they are kept, in lists.
use Rattle.std.proofs.Common.{◌≡◌, ℕ, suc, Bool, true, false, not, cond, eqb, ◌∷◌, ◌++◌, List, [], length, Some, Ok, Err, refl, ap, subst, sym, ◌∙◌, arith}
use Rattle.std.specs.Prelude.{◌&&◌, ◌||◌, filter, find, map, is_some}
use Rattle.std.specs.Prelude.{Result, OnOk, OnErr}
use Rattle.win_num.specs.declared.code.Code.{Code}
use Rattle.win_num.specs.declared.code.Code.TheVariants.{Win}
use Rattle.std.specs.List.{AllByRecursion}
use Rattle.std.proofs.lemmas.Bool.{eqb-true}
use Rattle.std.proofs.lemmas.Bool.Decides.{nat_tests}
use Rattle.win_num.specs.declared.message.Hwnd.{Hwnd}
use Rattle.win_num.specs.declared.message.Thread.{Thread}
use Rattle.timer_source.specs.declared.setting.Setting.{Setting}
use Rattle.timer_source.specs.Settings.{is_of, is_set, is_set_for, of_thread, without}
use Rattle.user_model.specs.Past.{Past}
use Rattle.user_model.specs.Windows.{thread_of}
use Rattle.user_model.specs.Timers.{WinTimer, is_timer}
use Rattle.timer_state.specs.TimerLists.{kept}

pub map_agree : {X Y : Type 0} (P : X → Type 0) (f g : X → Y) → ((x : X) → P x → f x ≡ g x) → (xs : List X) → AllByRecursion P xs → map f xs ≡ map g xs
map_agree P f g same [] h = refl
map_agree P f g same (x ∷ xs) h = ap (λ y. y ∷ map f xs) (same x h.0) ∙ ap (λ ys. g x ∷ ys) (map_agree P f g same xs h.1)

pub map_twice : {X Y Z : Type 0} (f : Y → Z) (g : X → Y) (xs : List X) → map f (map g xs) ≡ map (λ x. f (g x)) xs
map_twice f g [] = refl
map_twice f g (x ∷ xs) = ap (λ ys. f (g x) ∷ ys) (map_twice f g xs)

pub map_joined : {X Y : Type 0} (f : X → Y) (xs ys : List X) → map f (xs ++ ys) ≡ map f xs ++ map f ys
map_joined f [] ys = refl
map_joined f (x ∷ xs) ys = ap (λ zs. f x ∷ zs) (map_joined f xs ys)

pub filter_mapped : {X Y : Type 0} (test : Y → Bool) (f : X → Y) (xs : List X) → filter test (map f xs) ≡ map f (filter (λ x. test (f x)) xs)
filter_mapped test f [] = refl
filter_mapped test f (x ∷ xs) = pick (test (f x)) (filter_mapped test f xs)
  where
    pick : (b : Bool) → filter test (map f xs) ≡ map f (filter (λ y. test (f y)) xs) → cond b (f x ∷ filter test (map f xs)) (filter test (map f xs)) ≡ map f (cond b (x ∷ filter (λ y. test (f y)) xs) (filter (λ y. test (f y)) xs))
    pick true rest = ap (λ ys. f x ∷ ys) rest
    pick false rest = rest

pub nothing_behind : {X : Type 0} (xs : List X) → xs ++ [] ≡ xs
nothing_behind [] = refl
nothing_behind (x ∷ xs) = ap (λ ys. x ∷ ys) (nothing_behind xs)

pub swapped : (a b c d : ℕ) → (eqb a b && eqb c d) ≡ (eqb b a && eqb d c)
swapped a b c d = grind (arith, nat_tests)

and_false : (b : Bool) → (b && false) ≡ false
and_false true = refl
and_false false = refl

-- the timer of a window with an id, among those that are kept
pub is_set-kept : (past : Past) (w : Hwnd) (id : ℕ) (xs : List WinTimer) → is_set w id (map (kept past) xs) ≡ is_some (find (is_timer w.0 id) xs)
is_set-kept past w id [] = refl
is_set-kept past w id (x ∷ xs) = pick (is_timer w.0 id x) (is_set-kept past w id xs)
  where
    pick : (b : Bool) → is_set w id (map (kept past) xs) ≡ is_some (find (is_timer w.0 id) xs) → (b || is_set w id (map (kept past) xs)) ≡ is_some (cond b (Some x) (find (is_timer w.0 id) xs))
    pick true rest = refl
    pick false rest = rest

-- where the window is of a thread, its timer is one of that thread's
pub is_set_for-kept : (past : Past) (t : Thread) (w : Hwnd) (id : ℕ) (xs : List WinTimer) → eqb (thread_of past w.0) t.0 ≡ true → is_set_for t w id (map (kept past) xs) ≡ is_some (find (is_timer w.0 id) xs)
is_set_for-kept past t w id [] own = refl
is_set_for-kept past t w id (x ∷ xs) own = ap (λ b. b || is_set_for t w id (map (kept past) xs)) (one x) ∙ pick (is_timer w.0 id x) (is_set_for-kept past t w id xs own)
  where
    one : (x : WinTimer) → (eqb (thread_of past x.hwnd) t.0 && is_timer w.0 id x) ≡ is_timer w.0 id x
    one x = by (eqb x.hwnd w.0) refl
      where
        by : (b : Bool) → eqb x.hwnd w.0 ≡ b → (eqb (thread_of past x.hwnd) t.0 && (b && eqb x.id id)) ≡ (b && eqb x.id id)
        by true same = ap (λ b. b && eqb x.id id) (ap (λ h. eqb (thread_of past h) t.0) (eqb-true x.hwnd w.0 same) ∙ own)
        by false same = and_false (eqb (thread_of past x.hwnd) t.0)

    pick : (b : Bool) → is_set_for t w id (map (kept past) xs) ≡ is_some (find (is_timer w.0 id) xs) → (b || is_set_for t w id (map (kept past) xs)) ≡ is_some (cond b (Some x) (find (is_timer w.0 id) xs))
    pick true rest = refl
    pick false rest = rest

-- those of a thread
pub of_thread-kept : (past : Past) (t : Thread) (xs : List WinTimer) → of_thread t (map (kept past) xs) ≡ map (kept past) (filter (λ x. eqb (thread_of past x.hwnd) t.0) xs)
of_thread-kept past t xs = filter_mapped (λ s. eqb s.thread.0 t.0) (kept past) xs

pub length_mapped : {X Y : Type 0} (f : X → Y) (xs : List X) → length (map f xs) ≡ length xs
length_mapped f [] = refl
length_mapped f (x ∷ xs) = ap suc (length_mapped f xs)

both_stay : (a b : Bool) → (a || b) ≡ false → (a ≡ false) × (b ≡ false)
both_stay true b h = absurd cc
both_stay false b h = (refl, h)

-- where a timer isn't set, nothing is taken out
pub unset_stays : (w : Hwnd) (id : ℕ) (xs : List Setting) → is_set w id xs ≡ false → without w id xs ≡ xs
unset_stays w id [] h = refl
unset_stays w id (x ∷ xs) h =
    let both = both_stay (is_of w id x) (is_set w id xs) h in
    ap (λ b. cond (not b) (x ∷ without w id xs) (without w id xs)) both.0 ∙ ap (λ l. x ∷ l) (unset_stays w id xs both.1)

-- a timer that was taken back, where there was one
pub killed : (w : Hwnd) (id : ℕ) (old new : List Setting) (r : Result Unit Code) → r ≡ cond (is_set w id old) (Ok tt) (Err (Win 87)) → OnOk r (new ≡ without w id old) → OnErr r (new ≡ old) → new ≡ without w id old
killed w id old new r answer ok err = by (is_set w id old) refl answer
  where
    by : (b : Bool) → is_set w id old ≡ b → r ≡ cond b (Ok tt) (Err (Win 87)) → new ≡ without w id old
    by true k a = subst (λ q. OnOk q (new ≡ without w id old)) a ok
    by false k a = subst (λ q. OnErr q (new ≡ old)) a err ∙ sym (unset_stays w id old k)
