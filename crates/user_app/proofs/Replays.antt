-- A run is the one that is listed by the order in which its threads moved.
use Rattle.std.proofs.Common.{◌≡◌, ℕ, zero, suc, ◌<◌, ◌≤◌, Bool, true, false, not, cond, eqb, List, [], ◌∷◌, ◌++◌, length, Option, Some, None, refl, sym, ap, ◌∙◌, subst, inl, inr, append_assoc, append-nil, arith}
use Rattle.std.specs.Prelude.{◌&&◌, ◌||◌, nat_lt, find, is_none}
use Rattle.std.proofs.lemmas.Bool.{cases_Bool, false≢true}
use Rattle.std.proofs.lemmas.Bool.Decides.{nat_tests}
use Rattle.user_model.specs.declared.entry.Entry.{Entry}
use Rattle.user_model.specs.declared.entry.Setup.{Setup}
use Rattle.user_model.specs.Past.{Past, or_else}
use Rattle.user_model.specs.Places.{has_ended}
use Rattle.user_model.specs.Threads.{lowest, is_thread}
use Rattle.user_model.specs.Idle.{is_idle, is_barred, is_quiet, first_busy, have_all_ended, ends_stuck}
use Rattle.script_tree.specs.declared.statement.Statement.{Statement}
use Rattle.script_tree.specs.Tree.{Tree}
use Rattle.script_text.specs.Lines.{bodies_of}
use Rattle.log_text.specs.declared.end.End.TheVariants as ends
use Rattle.log_text.specs.Ends.{setup_of, used, could_go_on, is_spent, end_of}
use Rattle.user_pool.specs.Runs.{is_runnable, behind_first, left, listed, last_thread, first_above, in_turn, clock_move, choice, HasEntriesLeft, IsMove, IsRun, IsByChoice, IsListed}
use Rattle.user_pool.proofs.Turns.{barred_is_idle, is_thread_of, lowest_all, lowest_nobody, thread_positive, thread_within}
use Rattle.user_app.specs.Replays.{movers, ordered}
use Rattle.user_app.proofs.SameBodies.{SameBodies}
use Rattle.user_app.proofs.SameRuns.{SameMoves, run_too}

-- ---- another order list changes no move

bodies_themselves : (xs : List (List Statement)) → SameBodies xs xs
bodies_themselves [] = tt
bodies_themselves (x ∷ xs) = (refl, bodies_themselves xs)

pub other_order : (s : Tree) (numbers : List ℕ) → SameMoves s (ordered s numbers)
other_order s numbers = record {
  setup = refl;
  budget = refl;
  names = refl;
  procedure_names = refl;
  procedures = bodies_themselves (bodies_of s.procedures);
  count = refl;
  bodies = bodies_themselves s.threads;
}

-- ---- who moved could move

entries_left : (s : Tree) (past : Past) (t : ℕ) → 0 < t → HasEntriesLeft s past t → (t ≤ length s.threads) × (used past t < s.budget)
entries_left s past zero positive h = absurd (omega arith)
entries_left s past (suc n) positive h = (omega (arith, h.0), h.1)

all_three : (known idle remains : Bool) → known ≡ true → idle ≡ false → remains ≡ true → (known && (not idle && remains)) ≡ true
all_three known idle remains e f g = rw (e, f, g) refl

mover_runs : (s : Tree) (past : Past) (e : Entry) → IsMove s past e → eqb e.who.0 0 ≡ false → is_runnable s past e.who.0 ≡ true
mover_runs s past e move thread =
    let positive : 0 < e.who.0 = grind (arith, nat_tests, thread) in
    let more = entries_left s past e.who.0 positive move.remains in
    let below : nat_lt (used past e.who.0) s.budget ≡ true = grind (arith, nat_tests, more.1) in
    all_three (is_thread (setup_of s) e.who.0) (is_idle (setup_of s) past e.who.0) (nat_lt (used past e.who.0) s.budget)
    (is_thread_of s e.who.0 positive more.0) (sym (barred_is_idle (setup_of s) past e.who.0 positive) ∙ move.free) below

-- ---- what is left of the order list

module _ (s : Tree) where
  -- the numbers of those that moved, and some behind them
  abbrev numbered : Past → List ℕ → Tree
  numbered past rest = ordered s (movers past ++ rest)

  -- a thread that moved stands before what is behind
  thread_further : (e : Entry) (past : Past) (rest : List ℕ) → eqb e.who.0 0 ≡ false → movers (e ∷ past) ++ rest ≡ movers past ++ e.who.0 ∷ rest
  thread_further e past rest thread = ap (λ b. cond b (movers past) (movers past ++ e.who.0 ∷ []) ++ rest) thread ∙ append_assoc (movers past) (e.who.0 ∷ []) rest

  clock_further : (e : Entry) (past : Past) (rest : List ℕ) → eqb e.who.0 0 ≡ true → movers (e ∷ past) ++ rest ≡ movers past ++ rest
  clock_further e past rest clock = ap (λ b. cond b (movers past) (movers past ++ e.who.0 ∷ []) ++ rest) clock

  left_step : (e : Entry) (past : Past) (rest : List ℕ) (b : Bool) → eqb e.who.0 0 ≡ b → IsMove s past e → ((more : List ℕ) → left (numbered past more) past ≡ more) → left (numbered (e ∷ past) rest) (e ∷ past) ≡ rest
  left_step e past rest true clock move before =
      let t : Tree = ordered s (movers (e ∷ past) ++ rest) in
      ap (λ b. cond b (left t past) (behind_first (is_runnable s past) (left t past))) clock ∙ ap (λ (xs : List ℕ). left (ordered s xs) past) (clock_further e past rest clock) ∙ before rest
  left_step e past rest false thread move before =
      let t : Tree = ordered s (movers (e ∷ past) ++ rest) in
      ap (λ b. cond b (left t past) (behind_first (is_runnable s past) (left t past))) thread
      ∙ ap (λ (xs : List ℕ). behind_first (is_runnable s past) (left (ordered s xs) past)) (thread_further e past rest thread)
      ∙ ap (behind_first (is_runnable s past)) (before (e.who.0 ∷ rest))
      ∙ ap (λ b. cond b rest (behind_first (is_runnable s past) rest)) (mover_runs s past e move thread)

  -- all that stand for those that moved are used up
  rest_left : (past : Past) (rest : List ℕ) → IsRun s past → left (numbered past rest) past ≡ rest
  rest_left [] rest run = refl
  rest_left (e ∷ past) rest run = left_step e past rest (eqb e.who.0 0) refl run.0 (λ more. rest_left past more run.1)

-- ---- where all are idle, nobody is chosen but the clock

not_busy : (busy : Option ℕ) (ended stuck : Bool) → (not (is_none busy) || ended || stuck) ≡ false → busy ≡ None
not_busy (Some t) ended stuck e = absurd (false≢true (sym e))
not_busy None ended stuck e = refl

quiet : (setup : Setup) (past : Past) → is_barred setup past 0 ≡ false → first_busy setup past ≡ None
unfolding is_barred
quiet setup past free = not_busy (first_busy setup past) (have_all_ended setup past) (ends_stuck past) free

idle_stays : (known idle remains : Bool) → not idle ≡ false → (known && (not idle && remains)) ≡ false
idle_stays true true remains e = refl
idle_stays false true remains e = refl
idle_stays known false remains e = absurd (false≢true (sym e))

no_thread_stays : (known rest : Bool) → known ≡ false → (known && rest) ≡ false
no_thread_stays known rest e = rw e refl

-- what holds of each thread of the script that can't move holds of each number
nobody_runs : (s : Tree) (past : Past) → ((t : ℕ) → 0 < t → t ≤ length s.threads → is_runnable s past t ≡ false) → (t : ℕ) → is_runnable s past t ≡ false
nobody_runs s past none t = elim (cases_Bool (is_thread (setup_of s) t)) [
  | inl known ↦ none t (thread_positive s t known) (thread_within s t known)
  | inr other ↦ no_thread_stays (is_thread (setup_of s) t) (not (is_idle (setup_of s) past t) && nat_lt (used past t) s.budget) other
]

quiet_stays : (s : Tree) (past : Past) → first_busy (setup_of s) past ≡ None → (t : ℕ) → is_runnable s past t ≡ false
quiet_stays s past none = nobody_runs s past (λ t positive within.
    idle_stays (is_thread (setup_of s) t) (is_idle (setup_of s) past t) (nat_lt (used past t) s.budget) (lowest_all (λ u. not (is_idle (setup_of s) past u)) (length s.threads) t none positive within))

find_nobody : (test : ℕ → Bool) (xs : List ℕ) → ((t : ℕ) → test t ≡ false) → find test xs ≡ None
find_nobody test [] none = refl
find_nobody test (x ∷ xs) none = rw (none x) (find_nobody test xs none)

and_false : (a b : Bool) → b ≡ false → (a && b) ≡ false
and_false true b e = e
and_false false b e = refl

no_turn : (s : Tree) (past : Past) → ((t : ℕ) → is_runnable s past t ≡ false) → in_turn s past ≡ None
no_turn s past none =
    let above : (low : ℕ) → first_above s past low ≡ None = λ low. lowest_nobody (λ t. nat_lt low t && is_runnable s past t) (length s.threads) (λ t positive within. and_false (nat_lt low t) (is_runnable s past t) (none t)) in
    rw (above (last_thread past), above 0) refl

only_clock : (s : Tree) (past : Past) → ((t : ℕ) → is_runnable s past t ≡ false) → choice s past ≡ clock_move s past
only_clock s past none =
    ap (λ o. or_else o (or_else (in_turn s past) (clock_move s past))) (find_nobody (is_runnable s past) (left s past) none)
    ∙ ap (λ o. or_else o (clock_move s past)) (no_turn s past none)

clock_goes : (s : Tree) (past : Past) (e : Entry) → IsMove s past e → eqb e.who.0 0 ≡ true → is_barred (setup_of s) past 0 ≡ false
clock_goes s past e move clock =
    let zeroth : e.who.0 ≡ 0 = grind (arith, nat_tests, clock) in
    ap (λ (w : ℕ). is_barred (setup_of s) past w) (sym zeroth) ∙ move.free

-- ---- each mover is the one who is chosen

module _ (s : Tree) where
  clock_chosen : (e : Entry) (past : Past) (rest : List ℕ) → IsMove s past e → eqb e.who.0 0 ≡ true → choice (numbered s past rest) past ≡ Some e.who.0
  clock_chosen e past rest move clock =
      let free = clock_goes s past e move clock in
      let zeroth : 0 ≡ e.who.0 = grind (arith, nat_tests, clock) in
      only_clock (numbered s past rest) past (quiet_stays s past (quiet (setup_of s) past free))
      ∙ ap (λ b. cond {A = Option ℕ} b None (Some 0)) free
      ∙ ap (λ (t : ℕ). let o : Option ℕ = Some t in o) zeroth

  thread_chosen : (e : Entry) (past : Past) (rest : List ℕ) → IsMove s past e → eqb e.who.0 0 ≡ false → left (numbered s past (e.who.0 ∷ rest)) past ≡ e.who.0 ∷ rest → choice (numbered s past (e.who.0 ∷ rest)) past ≡ Some e.who.0
  thread_chosen e past rest move thread were =
      let t : Tree = numbered s past (e.who.0 ∷ rest) in
      let found : listed t past ≡ Some e.who.0 = ap (find (is_runnable s past)) were ∙ ap (λ b. cond {A = Option ℕ} b (Some e.who.0) (find (is_runnable s past) rest)) (mover_runs s past e move thread) in
      ap (λ o. or_else o (or_else (in_turn t past) (clock_move t past))) found

  chosen_step : (e : Entry) (past : Past) (rest : List ℕ) (b : Bool) → eqb e.who.0 0 ≡ b → IsRun s (e ∷ past) → ((more : List ℕ) → IsByChoice (numbered s past more) past) → IsByChoice (numbered s (e ∷ past) rest) (e ∷ past)
  chosen_step e past rest true clock run before =
      subst (λ (xs : List ℕ). (choice (ordered s xs) past ≡ Some e.who.0) × IsByChoice (ordered s xs) past) (sym (clock_further s e past rest clock)) (clock_chosen e past rest run.0 clock, before rest)
  chosen_step e past rest false thread run before =
      subst (λ (xs : List ℕ). (choice (ordered s xs) past ≡ Some e.who.0) × IsByChoice (ordered s xs) past) (sym (thread_further s e past rest thread))
      (thread_chosen e past rest run.0 thread (rest_left s past (e.who.0 ∷ rest) run.1), before (e.who.0 ∷ rest))

  all_chosen : (past : Past) (rest : List ℕ) → IsRun s past → IsByChoice (numbered s past rest) past
  all_chosen [] rest run = tt
  all_chosen (e ∷ past) rest run = chosen_step e past rest (eqb e.who.0 0) refl run (λ more. all_chosen past more run.1)

-- each entry of a run is by the one whom the order of the movers chooses
pub movers_are_chosen : (s : Tree) (past : Past) → IsRun s past → IsByChoice (ordered s (movers past)) past
movers_are_chosen s past run = subst (λ (xs : List ℕ). IsByChoice (ordered s xs) past) (append-nil (movers past)) (all_chosen s past [] run)

-- ---- and where nobody can move any more, it is the listed run

nobody_left : (s : Tree) (past : Past) → IsRun s past → left (ordered s (movers past)) past ≡ []
nobody_left s past run = subst (λ (xs : List ℕ). left (ordered s xs) past ≡ []) (append-nil (movers past)) (rest_left s past [] run)

listed_over : (s : Tree) (past : Past) → IsRun s past → in_turn s past ≡ None → clock_move s past ≡ None → IsListed (ordered s (movers past)) past
listed_over s past run turn clock =
    let t : Tree = ordered s (movers past) in
    record {
      run = run_too s t (other_order s (movers past)) past run;
      chosen = movers_are_chosen s past run;
      over = ap (λ (xs : List ℕ). or_else (find (is_runnable s past) xs) (or_else (in_turn s past) (clock_move s past))) (nobody_left s past run) ∙ rw (turn, clock) refl;
    }

or_none : (a b : Option ℕ) → or_else a b ≡ None → (a ≡ None) × (b ≡ None)
or_none (Some i) b e = absurd cc
or_none None b e = (refl, e)

pub over_is_listed : (s : Tree) (past : Past) → IsRun s past → choice s past ≡ None → IsListed (ordered s (movers past)) past
over_is_listed s past run over =
    let first = or_none (listed s past) (or_else (in_turn s past) (clock_move s past)) over in
    let second = or_none (in_turn s past) (clock_move s past) first.1 in
    listed_over s past run second.0 second.1

bars : (setup : Setup) (past : Past) → (not (is_quiet setup past) || have_all_ended setup past || ends_stuck past) ≡ true → is_barred setup past 0 ≡ true
unfolding is_barred
bars setup past barred = barred

no_clock : (s : Tree) (past : Past) → (not (is_quiet (setup_of s) past) || have_all_ended (setup_of s) past || ends_stuck past) ≡ true → clock_move s past ≡ None
no_clock s past barred = ap (λ b. cond {A = Option ℕ} b None (Some 0)) (bars (setup_of s) past barred)

ended_bars : (quiet ended stuck : Bool) → ended ≡ true → (not quiet || ended || stuck) ≡ true
ended_bars true ended stuck e = rw e refl
ended_bars false ended stuck e = refl

busy_bars : (quiet ended stuck : Bool) → quiet ≡ false → (not quiet || ended || stuck) ≡ true
busy_bars quiet ended stuck e = rw e refl

done_is : (ended stuck spent : Bool) → cond ended ends.Done (cond stuck ends.Stuck (cond spent ends.Spent ends.Cut)) ≡ ends.Done → ended ≡ true
done_is true stuck spent e = refl
done_is false true spent e = absurd cc
done_is false false true e = absurd cc
done_is false false false e = absurd cc

spent_is : (ended stuck spent : Bool) → cond ended ends.Done (cond stuck ends.Stuck (cond spent ends.Spent ends.Cut)) ≡ ends.Spent → spent ≡ true
spent_is true stuck spent e = absurd cc
spent_is false true spent e = absurd cc
spent_is false false true e = refl
spent_is false false false e = absurd cc

and_both : (a b : Bool) → (a && b) ≡ true → (a ≡ true) × (b ≡ true)
and_both true b e = (refl, e)
and_both false b e = absurd (false≢true e)

not_true : (a : Bool) → not a ≡ true → a ≡ false
not_true true e = absurd (false≢true e)
not_true false e = refl

none_of : (o : Option ℕ) → is_none o ≡ true → o ≡ None
none_of None e = refl
none_of (Some n) e = absurd (false≢true e)

has_not_ended : (a : Bool) → not a ≡ false → a ≡ true
has_not_ended true e = refl
has_not_ended false e = absurd (false≢true (sym e))

ended_is_idle : (s : Tree) (past : Past) (t : ℕ) → has_ended past t ≡ true → not (is_idle (setup_of s) past t) ≡ false
ended_is_idle s past t e = rw e refl

-- all threads have ended
pub done_is_listed : (s : Tree) (past : Past) → IsRun s past → end_of s past ≡ ends.Done → IsListed (ordered s (movers past)) past
done_is_listed s past run done =
    let ended : have_all_ended (setup_of s) past ≡ true = done_is (have_all_ended (setup_of s) past) (ends_stuck past) (is_spent s past) done in
    let none = none_of (lowest (λ t. not (has_ended past t)) (length s.threads)) ended in
    let stay : (t : ℕ) → is_runnable s past t ≡ false = nobody_runs s past (λ t positive within.
    idle_stays (is_thread (setup_of s) t) (is_idle (setup_of s) past t) (nat_lt (used past t) s.budget)
    (ended_is_idle s past t (has_not_ended (has_ended past t) (lowest_all (λ u. not (has_ended past u)) (length s.threads) t none positive within)))) in
    listed_over s past run (no_turn s past stay) (no_clock s past (ended_bars (is_quiet (setup_of s) past) (have_all_ended (setup_of s) past) (ends_stuck past) ended))

runs_on : (known idle : Bool) (u b : ℕ) → (not idle && not (eqb u b)) ≡ false → (known && (not idle && nat_lt u b)) ≡ false
runs_on known true u b e = and_false known false refl
runs_on known false u b e =
    let same : eqb u b ≡ true = has_not_ended (eqb u b) e in
    let out : nat_lt u b ≡ false = grind (arith, nat_tests, same) in
    and_false known (nat_lt u b) out

-- the budgets of all that aren't idle are used up
pub spent_is_listed : (s : Tree) (past : Past) → IsRun s past → end_of s past ≡ ends.Spent → IsListed (ordered s (movers past)) past
spent_is_listed s past run spent =
    let both = and_both (not (is_quiet (setup_of s) past)) (is_none (lowest (could_go_on s past) (length s.threads))) (spent_is (have_all_ended (setup_of s) past) (ends_stuck past) (is_spent s past) spent) in
    let none = none_of (lowest (could_go_on s past) (length s.threads)) both.1 in
    let stay : (t : ℕ) → is_runnable s past t ≡ false = nobody_runs s past (λ t positive within.
    runs_on (is_thread (setup_of s) t) (is_idle (setup_of s) past t) (used past t) s.budget (lowest_all (could_go_on s past) (length s.threads) t none positive within)) in
    listed_over s past run (no_turn s past stay) (no_clock s past (busy_bars (is_quiet (setup_of s) past) (have_all_ended (setup_of s) past) (ends_stuck past) (not_true (is_quiet (setup_of s) past) both.0)))
