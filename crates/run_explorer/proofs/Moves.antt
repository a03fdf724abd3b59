-- Who may move within a bound.
use Rattle.std.proofs.Common.{◌≡◌, ◌≢◌, ℕ, zero, suc, ◌+◌, ◌<◌, ◌≤◌, ◌-◌, Bool, true, false, not, cond, eqb, [], ◌∷◌, ◌++◌, length, Option, Some, None, refl, sym, ap, ◌∙◌, subst, inl, inr, arith}
use Rattle.std.specs.Prelude.{◌&&◌, ◌||◌, nat_lt, nat_le}
use Rattle.std.proofs.lemmas.Bool.{cases_Bool, cases_lt, false≢true}
use Rattle.std.proofs.lemmas.Bool.Decides.{nat_tests, eqb_tells}
use Rattle.user_model.specs.declared.entry.Entry.{Entry}
use Rattle.user_model.specs.Past.{Past, or_else}
use Rattle.user_model.specs.Threads.{lowest, is_thread}
use Rattle.user_model.specs.Idle.{is_idle, is_barred}
use Rattle.script_tree.specs.Tree.{Tree}
use Rattle.log_text.specs.Ends.{setup_of, used}
use Rattle.user_pool.specs.Runs.{is_runnable, last_thread, first_above, in_turn, listed, clock_move, choice, IsMove}
use Rattle.user_pool.specs.Moves.{CanMove}
use Rattle.user_pool.proofs.Turns.{and_both, lowest_hit, lowest_all, lowest_nobody, runnable_can, move_can, thread_positive, thread_within}
use Rattle.user_model.proofs.Lowest.{lowest_found, lowest_here}
use Rattle.user_pool.proofs.Choices.{by_clock}
use Rattle.user_pool.proofs.NeverCut.{none_runs}
use Rattle.user_pool.proofs.NeverFull.{quiet}
use Rattle.run_explorer.specs.Orders.{is_switch, switches}
use Rattle.run_explorer.specs.Steps.{is_held, may_move, next_above, least, CanGoOn, MayTake}

-- ---- who can move

all_three : (known idle remains : Bool) → known ≡ true → idle ≡ false → remains ≡ true → (known && (not idle && remains)) ≡ true
all_three known idle remains e f g = rw (e, f, g) refl

pub can_runs : (s : Tree) (past : Past) (t : ℕ) → CanMove s past t → is_runnable s past t ≡ true
can_runs s past t can =
    let below : nat_lt (used past t) s.budget ≡ true = grind (arith, nat_tests, can.remains) in
    all_three (is_thread (setup_of s) t) (is_idle (setup_of s) past t) (nat_lt (used past t) s.budget) can.known can.busy below

pub mover_runs : (s : Tree) (past : Past) (e : Entry) → IsMove s past e → 0 < e.who.0 → is_runnable s past e.who.0 ≡ true
mover_runs s past e move positive = can_runs s past e.who.0 (move_can s past e move positive)

no_thread : (known rest : Bool) → known ≡ false → (known && rest) ≡ false
no_thread known rest e = rw e refl

idle_stays : (known idle remains : Bool) → not idle ≡ false → (known && (not idle && remains)) ≡ false
idle_stays true true remains e = refl
idle_stays false true remains e = refl
idle_stays known false remains e = absurd (false≢true (sym e))

-- what holds of each thread of the script holds of each number
nobody : (s : Tree) (past : Past) → ((t : ℕ) → 0 < t → t ≤ length s.threads → is_runnable s past t ≡ false) → (t : ℕ) → is_runnable s past t ≡ false
nobody s past none t = elim (cases_Bool (is_thread (setup_of s) t)) [
  | inl known ↦ none t (thread_positive s t known) (thread_within s t known)
  | inr other ↦ no_thread (is_thread (setup_of s) t) (not (is_idle (setup_of s) past t) && nat_lt (used past t) s.budget) other
]

-- where the clock isn't barred, no thread can move
pub quiet_stays : (s : Tree) (past : Past) → is_barred (setup_of s) past 0 ≡ false → (t : ℕ) → is_runnable s past t ≡ false
quiet_stays s past free = nobody s past (λ t positive within.
    idle_stays (is_thread (setup_of s) t) (is_idle (setup_of s) past t) (nat_lt (used past t) s.budget)
    (lowest_all (λ u. not (is_idle (setup_of s) past u)) (length s.threads) t (quiet (setup_of s) past free).0 positive within))

pub clock_free : (s : Tree) (past : Past) (e : Entry) → IsMove s past e → e.who.0 ≡ 0 → is_barred (setup_of s) past 0 ≡ false
clock_free s past e move zeroth = ap (λ (w : ℕ). is_barred (setup_of s) past w) (sym zeroth) ∙ move.free

-- ---- where nobody is chosen, nobody moves

or_none : (a b : Option ℕ) → or_else a b ≡ None → (a ≡ None) × (b ≡ None)
or_none (Some i) b e = absurd cc
or_none None b e = (refl, e)

barred_is : (b : Bool) → cond {A = Option ℕ} b None (Some 0) ≡ None → b ≡ true
barred_is true e = refl
barred_is false e = absurd cc

pub none_moves : (s : Tree) (past : Past) (e : Entry) → choice s past ≡ None → IsMove s past e → ⊥
none_moves s past e over move =
    let first = or_none (listed s past) (or_else (in_turn s past) (clock_move s past)) over in
    let second = or_none (in_turn s past) (clock_move s past) first.1 in
    elim (cases_lt 0 e.who.0) [
      | inl positive ↦
          let can = move_can s past e move positive in
          false≢true (sym (none_runs s past e.who.0 second.0 positive (thread_within s e.who.0 can.known)) ∙ can_runs s past e.who.0 can)
      | inr le ↦ false≢true (sym (clock_free s past e move (omega (arith, le))) ∙ barred_is (is_barred (setup_of s) past 0) second.1)
    ]

-- ---- within a bound

pub switches_more : (s : Tree) (newer past : Past) → switches s past ≤ switches s (newer ++ past)
switches_more s [] past = omega arith
switches_more s (e ∷ newer) past = omega (arith, switches_more s newer past)

held_or_not : (held last : Bool) → (held ≡ true → last ≡ true) → (not held || last) ≡ true
held_or_not true last h = h refl
held_or_not false last h = refl

switch_is : (clock same runs : Bool) → clock ≡ false → same ≡ false → runs ≡ true → (not clock && (not same && runs)) ≡ true
switch_is clock same runs e f g = rw (e, f, g) refl

pub one_more : (b : Bool) (n : ℕ) → b ≡ true → n + cond b 1 0 ≡ n + 1
one_more b n e = rw e refl

both_true : (a b : Bool) → a ≡ true → b ≡ true → (a && b) ≡ true
both_true a b e f = rw (e, f) refl

-- a thread whose move keeps to the bound may make it
pub mover_may : (s : Tree) (bound : ℕ) (past : Past) (e : Entry) → IsMove s past e → switches s (e ∷ past) ≤ bound → 0 < e.who.0 → may_move s bound past e.who.0 ≡ true
mover_may s bound past e move few positive =
    let runs = mover_runs s past e move positive in
    both_true (is_runnable s past e.who.0) (not (is_held s bound past) || eqb e.who.0 (last_thread past)) runs
    (held_or_not (is_held s bound past) (eqb e.who.0 (last_thread past)) (λ held. last_is held))
  where
    last_is : is_held s bound past ≡ true → eqb e.who.0 (last_thread past) ≡ true
    last_is held =
        let parts = and_both (nat_le bound (switches s past)) (is_runnable s past (last_thread past)) held in
        elim (cases_Bool (eqb e.who.0 (last_thread past))) [
          | inl same ↦ same
          | inr other ↦
              let clock : eqb e.who.0 0 ≡ false = grind (arith, nat_tests, positive) in
              let switch : is_switch s past e.who.0 ≡ true = switch_is (eqb e.who.0 0) (eqb e.who.0 (last_thread past)) (is_runnable s past (last_thread past)) clock other parts.1 in
              let full : bound ≤ switches s past = grind (arith, nat_tests, parts.0) in
              absurd (omega (arith, full, few, one_more (is_switch s past e.who.0) (switches s past) switch))
        ]

-- where none may move, none can
pub none_may : (s : Tree) (bound : ℕ) (past : Past) → next_above s bound past 0 ≡ None → (t : ℕ) → is_runnable s past t ≡ false
none_may s bound past none = nobody s past (λ t positive within. stays t positive within)
  where
    no_may : (t : ℕ) → 0 < t → t ≤ length s.threads → may_move s bound past t ≡ true → ⊥
    no_may t positive within may =
        let hit : nat_lt 0 t ≡ true = grind (arith, nat_tests, positive) in
        false≢true (sym (lowest_all (λ u. nat_lt 0 u && may_move s bound past u) (length s.threads) t none positive within) ∙ both_true (nat_lt 0 t) (may_move s bound past t) hit may)

    free_may : (t : ℕ) → is_held s bound past ≡ false → is_runnable s past t ≡ true → may_move s bound past t ≡ true
    free_may t free runs = both_true (is_runnable s past t) (not (is_held s bound past) || eqb t (last_thread past)) runs (held_or_not (is_held s bound past) (eqb t (last_thread past)) (λ held. absurd (false≢true (sym free ∙ held))))

    last_may : is_runnable s past (last_thread past) ≡ true → may_move s bound past (last_thread past) ≡ true
    last_may runs =
        let same : eqb (last_thread past) (last_thread past) ≡ true = grind (arith, nat_tests) in
        both_true (is_runnable s past (last_thread past)) (not (is_held s bound past) || eqb (last_thread past) (last_thread past)) runs (held_or_not (is_held s bound past) (eqb (last_thread past) (last_thread past)) (λ held. same))

    stays : (t : ℕ) → 0 < t → t ≤ length s.threads → is_runnable s past t ≡ false
    stays t positive within = elim (cases_Bool (is_runnable s past t)) [
      | inr idle ↦ idle
      | inl runs ↦ elim (cases_Bool (is_held s bound past)) [
        | inr free ↦ absurd (no_may t positive within (free_may t free runs))
        | inl held ↦
            let last = (and_both (nat_le bound (switches s past)) (is_runnable s past (last_thread past)) held).1 in
            let known = (runnable_can s past (last_thread past) last).known in
            absurd (no_may (last_thread past) (thread_positive s (last_thread past) known) (thread_within s (last_thread past) known) (last_may last))
      ]
    ]

-- where none is found who moves first, the run is over
pub least_over : (s : Tree) (bound : ℕ) (past : Past) → least s bound past ≡ None → choice s past ≡ None
least_over s bound past none =
    let parts = or_none (next_above s bound past 0) (clock_move s past) none in
    let nobody_above : first_above s past 0 ≡ None = lowest_nobody (λ t. nat_lt 0 t && is_runnable s past t) (length s.threads) (λ t positive within. and_no (nat_lt 0 t) (is_runnable s past t) (none_may s bound past parts.0 t)) in
    by_clock s past true nobody_above (barred_is (is_barred (setup_of s) past 0) parts.1)
  where
    and_no : (a b : Bool) → b ≡ false → (a && b) ≡ false
    and_no true b e = e
    and_no false b e = refl

-- ---- the least who may move

-- what passes is no less than what is found
pub found_least : (test : ℕ → Bool) (n t u : ℕ) → lowest test n ≡ Some t → 0 < u → u ≤ n → test u ≡ true → t ≤ u
found_least test zero t u e positive within passes = absurd (omega arith)
found_least test (suc n) t u e positive within passes = pick (λ found below. found_least test n t u found positive below passes) (lowest test n) refl (test (suc n)) refl e
  where
    pick : (lowest test n ≡ Some t → u ≤ n → t ≤ u) → (o : Option ℕ) → lowest test n ≡ o → (b : Bool) → test (suc n) ≡ b → or_else o (cond b (Some (suc n)) None) ≡ Some t → t ≤ u
    pick before (Some i) found b here is = elim (cases_lt u (suc n)) [
      | inl below ↦ let same : i ≡ t = cc in before (found ∙ ap (λ (k : ℕ). let o : Option ℕ = Some k in o) same) (omega (arith, below))
      | inr le ↦ let same : i ≡ t = cc in let inside = (lowest_hit test n t (found ∙ ap (λ (k : ℕ). let o : Option ℕ = Some k in o) same)).within in omega (arith, inside, le)
    ]
    pick before None found true here is = elim (cases_lt u (suc n)) [
      | inl below ↦ absurd (false≢true (sym (lowest_all test n u found positive (omega (arith, below))) ∙ passes))
      | inr le ↦ let same : suc n ≡ t = cc in omega (arith, le, same, within)
    ]
    pick before None found false here is = absurd cc

pub above_least : (s : Tree) (bound : ℕ) (past : Past) (low t u : ℕ) → next_above s bound past low ≡ Some t → low < u → may_move s bound past u ≡ true → t ≤ u
above_least s bound past low t u next above may =
    let runs = (and_both (is_runnable s past u) (not (is_held s bound past) || eqb u (last_thread past)) may).0 in
    let known = (runnable_can s past u runs).known in
    let hit : nat_lt low u ≡ true = grind (arith, nat_tests, above) in
    found_least (λ v. nat_lt low v && may_move s bound past v) (length s.threads) t u next (thread_positive s u known) (thread_within s u known) (both_true (nat_lt low u) (may_move s bound past u) hit may)

pub none_above : (s : Tree) (bound : ℕ) (past : Past) (low u : ℕ) → next_above s bound past low ≡ None → low < u → may_move s bound past u ≡ true → ⊥
none_above s bound past low u none above may =
    let runs = (and_both (is_runnable s past u) (not (is_held s bound past) || eqb u (last_thread past)) may).0 in
    let known = (runnable_can s past u runs).known in
    let hit : nat_lt low u ≡ true = grind (arith, nat_tests, above) in
    false≢true (sym (lowest_all (λ v. nat_lt low v && may_move s bound past v) (length s.threads) u none (thread_positive s u known) (thread_within s u known)) ∙ both_true (nat_lt low u) (may_move s bound past u) hit may)

-- who is found passes
pub next_may : (s : Tree) (bound : ℕ) (past : Past) (low t : ℕ) → next_above s bound past low ≡ Some t → (low < t) × (may_move s bound past t ≡ true)
next_may s bound past low t next =
    let parts = and_both (nat_lt low t) (may_move s bound past t) (lowest_hit (λ v. nat_lt low v && may_move s bound past v) (length s.threads) t next).passes in
    (grind (arith, nat_tests, parts.0), parts.1)

-- ---- leave to move

pub may_can : (s : Tree) (bound : ℕ) (past : Past) (t : ℕ) → may_move s bound past t ≡ true → CanMove s past t
may_can s bound past t may = runnable_can s past t (and_both (is_runnable s past t) (not (is_held s bound past) || eqb t (last_thread past)) may).0

pub take_can : (s : Tree) (bound : ℕ) (past : Past) (actor : ℕ) → MayTake s bound past actor → CanGoOn s past actor
take_can s bound past actor may = record { clock = may.clock; thread = λ positive. may_can s bound past actor (may.thread positive) }

pub move_goes : (s : Tree) (past : Past) (e : Entry) → IsMove s past e → CanGoOn s past e.who.0
move_goes s past e move = record { clock = λ zeroth. clock_free s past e move zeroth; thread = λ positive. move_can s past e move positive }

free_is : (b : Bool) (t : ℕ) → cond {A = Option ℕ} b None (Some 0) ≡ Some t → (b ≡ false) × (t ≡ 0)
free_is true t e = absurd cc
free_is false t e = let same : 0 ≡ t = cc in (refl, sym same)

-- the one who moves first may
pub least_may : (s : Tree) (bound : ℕ) (past : Past) (t : ℕ) → least s bound past ≡ Some t → MayTake s bound past t
least_may s bound past t first = pick (next_above s bound past 0) refl first
  where
    pick : (o : Option ℕ) → next_above s bound past 0 ≡ o → or_else o (clock_move s past) ≡ Some t → MayTake s bound past t
    pick (Some i) next is =
        let same : i ≡ t = cc in
        let parts = next_may s bound past 0 t (next ∙ ap (λ (k : ℕ). let o : Option ℕ = Some k in o) same) in
        record { clock = λ zeroth. absurd (omega (arith, zeroth, parts.0)); thread = λ positive. parts.1 }
    pick None next is =
        let free = free_is (is_barred (setup_of s) past 0) t is in
        record { clock = λ zeroth. free.0; thread = λ positive. absurd (omega (arith, positive, free.1)) }

-- ---- how the next one is found

lowest_same : (f g : ℕ → Bool) (n : ℕ) → ((t : ℕ) → f t ≡ g t) → lowest f n ≡ lowest g n
lowest_same f g zero same = refl
lowest_same f g (suc n) same = rw (lowest_same f g n same, same (suc n)) refl

and_always : (a b held : Bool) → held ≡ false → a ≡ (a && (not held || b))
and_always true b held e = rw e refl
and_always false b held e = refl

-- where nobody is held, it is the next that can move
pub free_next : (s : Tree) (bound : ℕ) (past : Past) (low : ℕ) → is_held s bound past ≡ false → first_above s past low ≡ next_above s bound past low
free_next s bound past low free =
    lowest_same (λ t. nat_lt low t && is_runnable s past t) (λ t. nat_lt low t && may_move s bound past t) (length s.threads)
    (λ t. ap (λ b. nat_lt low t && b) (and_always (is_runnable s past t) (eqb t (last_thread past)) (is_held s bound past) free))

other_held : (a b held : Bool) → held ≡ true → b ≡ false → (a && (not held || b)) ≡ false
other_held true b held e f = rw (e, f) refl
other_held false b held e f = refl

and_none : (a b : Bool) → b ≡ false → (a && b) ≡ false
and_none true b e = e
and_none false b e = refl

no_and : (a b : Bool) → a ≡ false → (a && b) ≡ false
no_and a b e = rw e refl

-- a thread other than the one that is held may not move
held_other : (s : Tree) (bound : ℕ) (past : Past) (low t : ℕ) → is_held s bound past ≡ true → t ≢ last_thread past → (nat_lt low t && may_move s bound past t) ≡ false
held_other s bound past low t held other =
    let miss : eqb t (last_thread past) ≡ false = grind (arith, nat_tests, other) in
    and_none (nat_lt low t) (may_move s bound past t) (other_held (is_runnable s past t) (eqb t (last_thread past)) (is_held s bound past) held miss)

-- where one is, it is the only one
pub held_next : (s : Tree) (bound : ℕ) (past : Past) (low : ℕ) → is_held s bound past ≡ true → low < last_thread past → next_above s bound past low ≡ Some (last_thread past)
held_next s bound past low held above =
    let last = last_thread past in
    let runs : is_runnable s past last ≡ true = (and_both (nat_le bound (switches s past)) (is_runnable s past last) held).1 in
    let known = (runnable_can s past last runs).known in
    let test : ℕ → Bool = λ t. nat_lt low t && may_move s bound past t in
    let same : eqb last last ≡ true = grind (arith, nat_tests) in
    let lower : nat_lt low last ≡ true = grind (arith, nat_tests, above) in
    let hit : test last ≡ true = both_true (nat_lt low last) (may_move s bound past last) lower (both_true (is_runnable s past last) (not (is_held s bound past) || eqb last last) runs (held_or_not (is_held s bound past) (eqb last last) (λ h. same))) in
    let back : last - 1 + 1 ≡ last = omega (arith, above) in
    let before : lowest test (last - 1) ≡ None = lowest_nobody test (last - 1) (λ t positive within. held_other s bound past low t held (λ e. absurd (omega (arith, e, within, above)))) in
    let found : lowest test (last - 1 + 1) ≡ Some (last - 1 + 1) = lowest_here test (last - 1) before (subst (λ (k : ℕ). test k ≡ true) (sym back) hit) in
    lowest_found test (length s.threads) last (subst (λ (k : ℕ). lowest test k ≡ Some k) back found) (thread_within s last known)

pub held_none : (s : Tree) (bound : ℕ) (past : Past) (low : ℕ) → is_held s bound past ≡ true → last_thread past ≤ low → next_above s bound past low ≡ None
held_none s bound past low held le = lowest_nobody (λ t. nat_lt low t && may_move s bound past t) (length s.threads) (λ t positive within. stays t)
  where
    stays : (t : ℕ) → (nat_lt low t && may_move s bound past t) ≡ false
    stays t = elim (eqb_tells t (last_thread past)) [
      | inl x ↦ let miss : nat_lt low t ≡ false = grind (arith, nat_tests, le, x.1) in no_and (nat_lt low t) (may_move s bound past t) miss
      | inr x ↦ held_other s bound past low t held x.1
    ]

-- ---- a move that may be made keeps to the bound

pub no_more : (b : Bool) (n : ℕ) → b ≡ false → n + cond b 1 0 ≡ n
no_more b n e = let none : cond {A = ℕ} b 1 0 ≡ 0 = rw e refl in omega (arith, none)

not_last : (held last : Bool) → (not held || last) ≡ true → last ≡ false → held ≡ false
not_last true last e f = absurd (false≢true (sym f ∙ e))
not_last false last e f = refl

and_left : (a b : Bool) → (a && b) ≡ false → b ≡ true → a ≡ false
and_left true b e f = absurd (false≢true (sym e ∙ f))
and_left false b e f = refl

-- who takes the turn is no clock, and not the last one, who could still move
pub record TakesTurn (s : Tree) (past : Past) (actor : ℕ) : Type 0 where
  pub thread : 0 < actor
  pub other : eqb actor (last_thread past) ≡ false
  pub last : is_runnable s past (last_thread past) ≡ true

pub not_false : (b : Bool) → not b ≡ true → b ≡ false
not_false true e = absurd (false≢true e)
not_false false e = refl

pub takes_turn : (s : Tree) (past : Past) (actor : ℕ) → is_switch s past actor ≡ true → TakesTurn s past actor
takes_turn s past actor switch =
    let one = and_both (not (eqb actor 0)) (not (eqb actor (last_thread past)) && is_runnable s past (last_thread past)) switch in
    let two = and_both (not (eqb actor (last_thread past))) (is_runnable s past (last_thread past)) one.1 in
    let thread : eqb actor 0 ≡ false = not_false (eqb actor 0) one.0 in
    record { thread = grind (arith, nat_tests, thread); other = not_false (eqb actor (last_thread past)) two.0; last = two.1 }

pub switch_left : (s : Tree) (bound : ℕ) (past : Past) (actor : ℕ) → MayTake s bound past actor → is_switch s past actor ≡ true → switches s past < bound
switch_left s bound past actor may switch =
    let takes = takes_turn s past actor switch in
    let free : is_held s bound past ≡ false = not_last (is_held s bound past) (eqb actor (last_thread past)) (and_both (is_runnable s past actor) (not (is_held s bound past) || eqb actor (last_thread past)) (may.thread takes.thread)).1 takes.other in
    let below : nat_le bound (switches s past) ≡ false = and_left (nat_le bound (switches s past)) (is_runnable s past (last_thread past)) free takes.last in
    grind (arith, nat_tests, below)

pub take_few : (s : Tree) (bound : ℕ) (past : Past) (e : Entry) → MayTake s bound past e.who.0 → switches s past ≤ bound → switches s (e ∷ past) ≤ bound
take_few s bound past e may few = elim (cases_Bool (is_switch s past e.who.0)) [
  | inl switch ↦ omega (arith, switch_left s bound past e.who.0 may switch, one_more (is_switch s past e.who.0) (switches s past) switch)
  | inr keeps ↦ omega (arith, few, no_more (is_switch s past e.who.0) (switches s past) keeps)
]
