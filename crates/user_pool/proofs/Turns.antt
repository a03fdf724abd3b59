-- Who is chosen, and that it can move.
use Rattle.std.proofs.Common.{◌≡◌, ◌≢◌, ℕ, zero, suc, ◌+◌, ◌<◌, ◌≤◌, Bool, true, false, not, cond, eqb, List, [], ◌∷◌, length, Option, Some, None, refl, sym, ◌∙◌, subst, inl, inr, ◌⊎◌, arith, add-one}
use Rattle.std.specs.Prelude.{◌&&◌, nat_lt, find}
use Rattle.std.proofs.lemmas.Bool.{cases_lt, false≢true}
use Rattle.std.proofs.lemmas.Bool.Decides.{nat_tests, eqb_tells}
use Rattle.win_num.specs.declared.code.Code.{Code}
use Rattle.win_num.specs.declared.code.Code.TheVariants.{Full}
use Rattle.user_model.specs.declared.call.Call.{Call}
use Rattle.user_model.specs.declared.entry.Answer.{Answer}
use Rattle.user_model.specs.declared.entry.Entry.{Entry}
use Rattle.user_model.specs.declared.entry.Setup.{Setup}
use Rattle.user_model.specs.Past.{Past, or_else, is_full}
use Rattle.user_model.specs.Places.{has_ended, mine}
use Rattle.user_model.specs.Refusals.{refuse}
use Rattle.user_model.specs.Threads.{lowest, is_thread}
use Rattle.user_model.specs.Replies.{thread_reply}
use Rattle.user_model.specs.Idle.{reply, is_idle, is_barred, still_waits, last_entry}
use Rattle.script_tree.specs.Tree.{Tree}
use Rattle.log_text.specs.Ends.{setup_of, used}
use Rattle.user_pool.specs.Runs.{is_runnable, left, listed, last_thread, first_above, in_turn, clock_move, choice, HasEntriesLeft, IsMove, IsRun}
use Rattle.user_pool.specs.Moves.{CanMove}

-- ---- booleans

pub and_both : (a b : Bool) → (a && b) ≡ true → (a ≡ true) × (b ≡ true)
and_both true b e = (refl, e)
and_both false b e = absurd (false≢true e)

pub not_true : (a : Bool) → not a ≡ true → a ≡ false
not_true true e = absurd (false≢true e)
not_true false e = refl

pub and_right : (a b : Bool) → a ≡ true → (a && b) ≡ false → b ≡ false
and_right true b t e = e
and_right false b t e = absurd (false≢true t)

-- ---- the least that passes, and the first that passes

-- a number from 1 to n that passes
pub record IsHit (test : ℕ → Bool) (n t : ℕ) : Type 0 where
  pub positive : 0 < t
  pub within : t ≤ n
  pub passes : test t ≡ true

hit_more : (test : ℕ → Bool) (n t : ℕ) (o : Option ℕ) (b : Bool) → (o ≡ Some t → IsHit test n t) → test (n + 1) ≡ b → or_else o (cond b (Some (n + 1)) None) ≡ Some t → IsHit test (n + 1) t
hit_more test n t (Some i) b below here e = let h = below e in record { positive = h.positive; within = omega (arith, h.within); passes = h.passes }
hit_more test n t None true below here e = let same : n + 1 ≡ t = cc in record { positive = omega arith; within = omega arith; passes = subst (λ x. test x ≡ true) same here }
hit_more test n t None false below here e = absurd cc

pub lowest_hit : (test : ℕ → Bool) (n t : ℕ) → lowest test n ≡ Some t → IsHit test n t
lowest_hit test zero t e = absurd cc
lowest_hit test (suc n) t e = rw (← add-one) (hit_more test n t (lowest test n) (test (n + 1)) (lowest_hit test n t) refl (rw add-one e))

none_parts : (o : Option ℕ) (b : Bool) (k : ℕ) → or_else o (cond b (Some k) None) ≡ None → (o ≡ None) × (b ≡ false)
none_parts (Some i) b k e = absurd cc
none_parts None true k e = absurd cc
none_parts None false k e = (refl, refl)

-- where none is found, none passes
pub lowest_all : (test : ℕ → Bool) (n t : ℕ) → lowest test n ≡ None → 0 < t → t ≤ n → test t ≡ false
lowest_all test zero t e positive within = absurd (omega arith)
lowest_all test (suc n) t e positive within =
    let parts = none_parts (lowest test n) (test (suc n)) (suc n) e in
    elim (cases_lt n t) [
      | inl above ↦ let same : suc n ≡ t = omega (arith, above) in subst (λ k. test k ≡ false) same parts.1
      | inr le ↦ lowest_all test n t parts.0 positive le
    ]

-- where none passes, none is found
pub lowest_nobody : (test : ℕ → Bool) (n : ℕ) → ((t : ℕ) → 0 < t → t ≤ n → test t ≡ false) → lowest test n ≡ None
lowest_nobody test zero h = refl
lowest_nobody test (suc n) h = rw (lowest_nobody test n (λ t p w. h t p (omega (arith, w))), h (suc n) (omega arith) (omega arith)) refl

found_step : (test : ℕ → Bool) (x t : ℕ) (o : Option ℕ) (b : Bool) → test x ≡ b → (o ≡ Some t → test t ≡ true) → cond b (Some x) o ≡ Some t → test t ≡ true
found_step test x t o true here rest e = let same : x ≡ t = cc in subst (λ y. test y ≡ true) same here
found_step test x t o false here rest e = rest e

-- what is found passes
pub found_passes : (test : ℕ → Bool) (xs : List ℕ) (t : ℕ) → find test xs ≡ Some t → test t ≡ true
found_passes test [] t e = absurd cc
found_passes test (x ∷ xs) t e = found_step test x t (find test xs) (test x) refl (found_passes test xs t) e

-- ---- who is chosen can move

-- a thread is barred exactly where it is idle
pub barred_is_idle : (setup : Setup) (past : Past) (t : ℕ) → 0 < t → is_barred setup past t ≡ is_idle setup past t
unfolding is_barred
barred_is_idle setup past t positive = let miss : eqb t 0 ≡ false = grind (arith, nat_tests) in rw miss refl

pub runnable_can : (s : Tree) (past : Past) (t : ℕ) → is_runnable s past t ≡ true → CanMove s past t
runnable_can s past t e =
    let parts = and_both (is_thread (setup_of s) t) (not (is_idle (setup_of s) past t) && nat_lt (used past t) s.budget) e in
    let more = and_both (not (is_idle (setup_of s) past t)) (nat_lt (used past t) s.budget) parts.1 in
    record { known = parts.0; busy = not_true (is_idle (setup_of s) past t) more.0; remains = grind (arith, nat_tests, more.1) }

pub thread_positive : (s : Tree) (t : ℕ) → is_thread (setup_of s) t ≡ true → 0 < t
thread_positive s t e = grind (arith, nat_tests, e)

pub thread_within : (s : Tree) (t : ℕ) → is_thread (setup_of s) t ≡ true → t ≤ length s.threads
thread_within s t e = grind (arith, nat_tests, e)

pub is_thread_of : (s : Tree) (t : ℕ) → 0 < t → t ≤ length s.threads → is_thread (setup_of s) t ≡ true
is_thread_of s t positive within = grind (arith, nat_tests)

above_runs : (s : Tree) (past : Past) (low t : ℕ) → first_above s past low ≡ Some t → is_runnable s past t ≡ true
above_runs s past low t e = (and_both (nat_lt low t) (is_runnable s past t) (lowest_hit (λ x. nat_lt low x && is_runnable s past x) (length s.threads) t e).passes).1

or_else_is : (a b : Option ℕ) (t : ℕ) → or_else a b ≡ Some t → (a ≡ Some t) ⊎ (b ≡ Some t)
or_else_is (Some i) b t e = inl e
or_else_is None b t e = inr e

clock_or_none : (b : Bool) (t : ℕ) → cond b None (Some 0) ≡ Some t → t ≡ 0
clock_or_none true t e = absurd cc
clock_or_none false t e = let z : 0 ≡ t = cc in sym z

pub turn_runs : (s : Tree) (past : Past) (t : ℕ) → in_turn s past ≡ Some t → is_runnable s past t ≡ true
turn_runs s past t e =
    elim (or_else_is (first_above s past (last_thread past)) (first_above s past 0) t e) [
      | inl a ↦ above_runs s past (last_thread past) t a
      | inr a ↦ above_runs s past 0 t a
    ]

pub chosen_runs : (s : Tree) (past : Past) (t : ℕ) → choice s past ≡ Some t → 0 < t → is_runnable s past t ≡ true
chosen_runs s past t e positive =
    elim (or_else_is (listed s past) (or_else (in_turn s past) (clock_move s past)) t e) [
      | inl a ↦ found_passes (is_runnable s past) (left s past) t a
      | inr b ↦ elim (or_else_is (in_turn s past) (clock_move s past) t b) [
        | inl a ↦ turn_runs s past t a
        | inr z ↦ absurd (omega (arith, clock_or_none (is_barred (setup_of s) past 0) t z))
      ]
    ]

pub chosen_can_move : (s : Tree) (past : Past) (t : ℕ) → choice s past ≡ Some t → 0 < t → CanMove s past t
chosen_can_move s past t e positive = runnable_can s past t (chosen_runs s past t e positive)

-- ---- who makes a move can move

left_parts : (s : Tree) (past : Past) (t : ℕ) → 0 < t → HasEntriesLeft s past t → (t ≤ length s.threads) × (used past t < s.budget)
left_parts s past zero positive left = absurd (omega arith)
left_parts s past (suc n) positive left = (omega (arith, left.0), left.1)

pub move_can : (s : Tree) (past : Past) (e : Entry) → IsMove s past e → 0 < e.who.0 → CanMove s past e.who.0
move_can s past e move positive =
    let parts = left_parts s past e.who.0 positive move.remains in
    record { known = is_thread_of s e.who.0 positive parts.0; busy = sym (barred_is_idle (setup_of s) past e.who.0 positive) ∙ move.free; remains = parts.1 }

-- ---- who is chosen may move

never_zero : (s : Tree) (past : Past) (o : Option ℕ) → ((t : ℕ) → o ≡ Some t → is_runnable s past t ≡ true) → o ≢ Some 0
never_zero s past o runs e = absurd (omega (arith, thread_positive s 0 (runnable_can s past 0 (runs 0 e)).known))

-- what the choice of the clock tells
clock_chosen : (a b : Option ℕ) (barred : Bool) → a ≢ Some 0 → b ≢ Some 0 → or_else a (or_else b (cond barred None (Some 0))) ≡ Some 0 → barred ≡ false
clock_chosen (Some i) b x f g e = absurd (f e)
clock_chosen None (Some j) x f g e = absurd (g e)
clock_chosen None None true f g e = absurd cc
clock_chosen None None false f g e = refl

-- the one that is chosen isn't barred
pub chosen_free : (s : Tree) (past : Past) (t : ℕ) → choice s past ≡ Some t → is_barred (setup_of s) past t ≡ false
chosen_free s past zero chosen = clock_chosen (listed s past) (in_turn s past) (is_barred (setup_of s) past 0)
    (never_zero s past (listed s past) (λ t e. found_passes (is_runnable s past) (left s past) t e))
    (never_zero s past (in_turn s past) (λ t e. turn_runs s past t e)) chosen
chosen_free s past (suc n) chosen = barred_is_idle (setup_of s) past (suc n) (omega arith) ∙ (chosen_can_move s past (suc n) chosen (omega arith)).busy

-- who can move isn't barred
pub can_free : (s : Tree) (past : Past) (t : ℕ) → 0 < t → CanMove s past t → is_barred (setup_of s) past t ≡ false
can_free s past t positive can = barred_is_idle (setup_of s) past t positive ∙ can.busy

-- and has entries left
pub can_left : (s : Tree) (past : Past) (t : ℕ) → 0 < t → CanMove s past t → HasEntriesLeft s past t
can_left s past zero positive can = absurd (omega arith)
can_left s past (suc n) positive can = (omega (arith, thread_within s (suc n) can.known), can.remains)

-- and has entries left
pub chosen_left : (s : Tree) (past : Past) (t : ℕ) → choice s past ≡ Some t → HasEntriesLeft s past t
chosen_left s past zero chosen = tt
chosen_left s past (suc n) chosen = can_left s past (suc n) (omega arith) (chosen_can_move s past (suc n) chosen (omega arith))

-- ---- a thread that can move has not ended

pub idle_parts : (ended waits : Bool) → cond ended true waits ≡ false → (ended ≡ false) × (waits ≡ false)
idle_parts true waits e = absurd (false≢true (sym e))
idle_parts false waits e = (refl, e)

pub not_ended : (s : Tree) (past : Past) (t : ℕ) → CanMove s past t → has_ended past t ≡ false
not_ended s past t can = (idle_parts (has_ended past t) (still_waits (setup_of s) past t (last_entry past t)) can.busy).0

pub refuse_not : (refused : Bool) (code : Code) (a : Answer) → refused ≡ false → refuse refused code a ≡ a
refuse_not true code a e = absurd (false≢true (sym e))
refuse_not false code a e = refl

-- the reply to a thread that has room
pub reply_thread : (setup : Setup) (past : Past) (t : ℕ) (call : Call) → 0 < t → reply setup past t call ≡ refuse (is_full past) Full (thread_reply setup past t call)
unfolding reply
reply_thread setup past t call positive = let miss : eqb t 0 ≡ false = grind (arith, nat_tests) in rw miss refl

-- ---- how many entries there are

more : {X : Type 0} (b : Bool) (x : X) (xs : List X) → b ≡ true → length (cond b (x ∷ xs) xs) ≡ length xs + 1
more true x xs e = omega arith
more false x xs e = absurd (false≢true e)

same : {X : Type 0} (b : Bool) (x : X) (xs : List X) → b ≡ false → length (cond b (x ∷ xs) xs) ≡ length xs
same true x xs e = absurd (false≢true (sym e))
same false x xs e = refl

pub used_own : (e : Entry) (past : Past) (t : ℕ) → eqb e.who.0 t ≡ true → used (e ∷ past) t ≡ used past t + 1
used_own e past t hit = more (eqb e.who.0 t) e (mine past t) hit

pub used_other : (e : Entry) (past : Past) (t : ℕ) → eqb e.who.0 t ≡ false → used (e ∷ past) t ≡ used past t
used_other e past t miss = same (eqb e.who.0 t) e (mine past t) miss

-- a thread makes no more entries than its budget
pub used_within : (s : Tree) (past : Past) (t : ℕ) → IsRun s past → 0 < t → used past t ≤ s.budget
used_within s [] t run positive = omega arith
used_within s (e ∷ past) t run positive =
    elim (eqb_tells e.who.0 t) [
      | inl x ↦ omega (arith, used_own e past t x.0, subst (λ u. used past u < s.budget) x.1 (move_can s past e run.0 (omega (arith, x.1))).remains)
      | inr x ↦ omega (arith, used_other e past t x.0, used_within s past t run.1 positive)
    ]
