-- A run that is over is done, stuck or spent.
use Rattle.std.proofs.Common.{◌≡◌, ◌≢◌, ℕ, ◌<◌, ◌≤◌, Bool, true, false, not, cond, eqb, Option, Some, None, refl, ap, sym, length, arith}
use Rattle.std.specs.Prelude.{◌&&◌, ◌||◌, nat_lt, is_none}
use Rattle.std.proofs.lemmas.Bool.{false≢true}
use Rattle.std.proofs.lemmas.Bool.Decides.{nat_tests}
use Rattle.user_model.specs.declared.entry.Setup.{Setup}
use Rattle.user_model.specs.Past.{Past, or_else}
use Rattle.user_model.specs.Threads.{lowest, is_thread}
use Rattle.user_model.specs.Idle.{is_idle, is_barred, is_quiet, have_all_ended, ends_stuck}
use Rattle.script_tree.specs.Tree.{Tree}
use Rattle.log_text.specs.declared.end.End.TheVariants as ends
use Rattle.log_text.specs.Ends.{setup_of, used, could_go_on, end_of}
use Rattle.user_pool.specs.Runs.{is_runnable, last_thread, first_above, in_turn, listed, clock_move, choice, IsRun}
use Rattle.user_pool.proofs.Turns.{lowest_all, lowest_nobody, and_right, is_thread_of, used_within}

or_none : (a b : Option ℕ) → or_else a b ≡ None → (a ≡ None) × (b ≡ None)
or_none (Some i) b e = absurd cc
or_none None b e = (refl, e)

clock_barred : (b : Bool) → cond {A = Option ℕ} b None (Some 0) ≡ None → b ≡ true
clock_barred true e = refl
clock_barred false e = absurd cc

-- nobody can move where nobody is chosen
pub none_runs : (s : Tree) (past : Past) (t : ℕ) → in_turn s past ≡ None → 0 < t → t ≤ length s.threads → is_runnable s past t ≡ false
none_runs s past t none positive within =
    let zeroth = (or_none (first_above s past (last_thread past)) (first_above s past 0) none).1 in
    let hit : nat_lt 0 t ≡ true = grind (arith, nat_tests, positive) in
    and_right (nat_lt 0 t) (is_runnable s past t) hit (lowest_all (λ x. nat_lt 0 x && is_runnable s past x) (length s.threads) t zeroth positive within)

at_budget : (idle : Bool) (u b : ℕ) → u ≤ b → (not idle && nat_lt u b) ≡ false → (not idle && not (eqb u b)) ≡ false
at_budget true u b le e = refl
at_budget false u b le e =
    let above : b ≤ u = grind (arith, nat_tests, e) in
    let same : eqb u b ≡ true = grind (arith, nat_tests, le, above) in
    ap not same

-- a thread that can't move is idle, or has used its budget up
cannot_go_on : (s : Tree) (past : Past) (t : ℕ) → IsRun s past → 0 < t → t ≤ length s.threads → is_runnable s past t ≡ false → could_go_on s past t ≡ false
cannot_go_on s past t run positive within stays =
    at_budget (is_idle (setup_of s) past t) (used past t) s.budget (used_within s past t run positive)
    (and_right (is_thread (setup_of s) t) (not (is_idle (setup_of s) past t) && nat_lt (used past t) s.budget) (is_thread_of s t positive within) stays)

bars : (setup : Setup) (past : Past) → is_barred setup past 0 ≡ true → (not (is_quiet setup past) || have_all_ended setup past || ends_stuck past) ≡ true
unfolding is_barred
bars setup past barred = barred

ends_well : (quiet ended stuck none : Bool) → none ≡ true → (not quiet || ended || stuck) ≡ true → cond ended ends.Done (cond stuck ends.Stuck (cond (not quiet && none) ends.Spent ends.Cut)) ≢ ends.Cut
ends_well quiet true stuck none h b f = absurd cc
ends_well quiet false true none h b f = absurd cc
ends_well true false false none h b f = absurd (false≢true b)
ends_well false false false true h b f = absurd cc
ends_well false false false false h b f = absurd (false≢true h)

only_spent : (quiet ended stuck none : Bool) → none ≡ true → (not quiet || ended || stuck) ≡ true → ended ≡ false → stuck ≡ false → cond ended ends.Done (cond stuck ends.Stuck (cond (not quiet && none) ends.Spent ends.Cut)) ≡ ends.Spent
only_spent quiet true stuck none h b e f = absurd (false≢true (sym e))
only_spent quiet false true none h b e f = absurd (false≢true (sym f))
only_spent true false false none h b e f = absurd (false≢true b)
only_spent false false false true h b e f = refl
only_spent false false false false h b e f = absurd (false≢true h)

-- where a run is over, the clock is barred, and all that aren't idle have used their budgets up
record Over (s : Tree) (past : Past) : Type 0 where
  none : is_none (lowest (could_go_on s past) (length s.threads)) ≡ true
  barred : (not (is_quiet (setup_of s) past) || have_all_ended (setup_of s) past || ends_stuck past) ≡ true

over_is : (s : Tree) (past : Past) → IsRun s past → choice s past ≡ None → Over s past
over_is s past run over =
    let first = or_none (listed s past) (or_else (in_turn s past) (clock_move s past)) over in
    let second = or_none (in_turn s past) (clock_move s past) first.1 in
    record {
      none = ap is_none (lowest_nobody (could_go_on s past) (length s.threads) (λ t p w. cannot_go_on s past t run p w (none_runs s past t second.0 p w)));
      barred = bars (setup_of s) past (clock_barred (is_barred (setup_of s) past 0) second.1);
    }

pub never_cut : (s : Tree) (past : Past) → IsRun s past → choice s past ≡ None → end_of s past ≢ ends.Cut
never_cut s past run over =
    let so = over_is s past run over in
    ends_well (is_quiet (setup_of s) past) (have_all_ended (setup_of s) past) (ends_stuck past) (is_none (lowest (could_go_on s past) (length s.threads))) so.none so.barred

-- a run that is over, where some thread hasn't ended and all isn't stuck, is spent
pub spent_is : (s : Tree) (past : Past) → IsRun s past → choice s past ≡ None → have_all_ended (setup_of s) past ≡ false → ends_stuck past ≡ false → end_of s past ≡ ends.Spent
spent_is s past run over ended stuck =
    let so = over_is s past run over in
    only_spent (is_quiet (setup_of s) past) (have_all_ended (setup_of s) past) (ends_stuck past) (is_none (lowest (could_go_on s past) (length s.threads))) so.none so.barred ended stuck
