-- The clock's move between two phases.
use Rattle.std.proofs.Common.{◌≡◌, ◌≢◌, ℕ, ◌<◌, ◌≤◌, Bool, true, false, not, cond, eqb, List, ◌∷◌, length, get_or, Option, Some, None, refl, ap, ◌∙◌, sym, subst, arith}
use Rattle.std.specs.Prelude.{◌&&◌, ◌||◌, is_none}
use Rattle.std.proofs.lemmas.Bool.{false≢true}
use Rattle.std.proofs.lemmas.Bool.Decides.{nat_tests}
use Rattle.std.proofs.lemmas.List.{length-map}
use Rattle.win_num.specs.declared.message.Thread.{Thread}
use Rattle.user_model.specs.declared.call.Call.TheVariants.{Advance}
use Rattle.user_model.specs.declared.entry.Entry.{Entry}
use Rattle.user_model.specs.declared.entry.Setup.{Setup}
use Rattle.user_model.specs.Past.{Past, is_full}
use Rattle.user_model.specs.Places.{has_ended, is_end}
use Rattle.user_model.specs.Threads.{lowest}
use Rattle.user_model.specs.Idle.{is_barred, is_quiet, have_all_ended, ends_stuck}
use Rattle.user_model.specs.Machines.{entry_by}
use Rattle.script_tree.specs.Tree.{Tree}
use Rattle.script_tree.proofs.PastLaws.{trace_of-other}
use Rattle.script_proc.specs.declared.program.Program.{Program}
use Rattle.script_proc.specs.declared.worker.Worker.{Worker}
use Rattle.script_proc.specs.Workers.{IsWorkerOf, thread_of}
use Rattle.log_text.specs.declared.end.End.TheVariants as ends
use Rattle.log_text.specs.Ends.{setup_of, is_spent, end_of}
use Rattle.user_pool.specs.Runs.{IsRun}
use Rattle.user_pool.specs.Teams.{threads_of, AreTeams}
use Rattle.user_pool.proofs.Ended.{has_ended-next}
use Rattle.user_pool.proofs.Turns.{lowest_all, lowest_nobody}
use Rattle.user_pool.proofs.Handing.{get_map, threads_within}

-- the entry that the clock makes
abbrev pub clock_entry : Tree → Past → Entry
clock_entry s past = let who : Thread = record { 0 = 0 } in entry_by (setup_of s) past who Advance

-- it is a move of a run
pub clock_run : (s : Tree) (past : Past) → is_barred (setup_of s) past 0 ≡ false → is_full past ≡ false → IsRun s past → IsRun s (clock_entry s past ∷ past)
clock_run s past free room run = (record { free = free; remains = tt; call = refl; answer = refl; room = room }, run)

unbars : (setup : Setup) (past : Past) → is_barred setup past 0 ≡ false → (not (is_quiet setup past) || have_all_ended setup past || ends_stuck past) ≡ false
unfolding is_barred
unbars setup past barred = barred

not_ended : (quiet ended stuck : Bool) → (not quiet || ended || stuck) ≡ false → ended ≡ false
not_ended quiet false stuck e = refl
not_ended true true stuck e = absurd (false≢true (sym e))
not_ended false true stuck e = absurd (false≢true (sym e))

kept : (ends ended : Bool) → cond (ends && false) true ended ≡ ended
kept true ended = refl
kept false ended = refl

-- it ends no thread
ended_before : (past : Past) (e : Entry) (t : ℕ) → e.who.0 ≡ 0 → 0 < t → has_ended (e ∷ past) t ≡ has_ended past t
ended_before past e t who positive =
    let miss : eqb e.who.0 t ≡ false = grind (arith, nat_tests, who, positive) in
    has_ended-next e past t ∙ ap (λ b. cond (is_end e.answer && b) true (has_ended past t)) miss ∙ kept (is_end e.answer) (has_ended past t)

true_or_not : (b : Bool) → (b ≡ true → ⊥) → b ≡ false
true_or_not true h = absurd (h refl)
true_or_not false h = refl

none_of : (o : Option ℕ) → is_none o ≡ true → o ≡ None
none_of None e = refl
none_of (Some n) e = absurd (false≢true e)

pub lives_on : (setup : Setup) (past : Past) (e : Entry) → e.who.0 ≡ 0 → have_all_ended setup past ≡ false → have_all_ended setup (e ∷ past) ≡ false
lives_on setup past e who lives = true_or_not (have_all_ended setup (e ∷ past)) (λ all.
    let none = none_of (lowest (λ t. not (has_ended (e ∷ past) t)) setup.threads) all in
    let before : (t : ℕ) → 0 < t → t ≤ setup.threads → not (has_ended past t) ≡ false = λ t positive within. ap not (sym (ended_before past e t who positive)) ∙ lowest_all (λ u. not (has_ended (e ∷ past) u)) setup.threads t none positive within in
    false≢true (sym lives ∙ ap is_none (lowest_nobody (λ t. not (has_ended past t)) setup.threads before)))

stuck_end : (ended stuck spent : Bool) → ended ≡ false → stuck ≡ true → ends.Stuck ≡ cond ended ends.Done (cond stuck ends.Stuck (cond spent ends.Spent ends.Cut))
stuck_end ended stuck spent e k = cc

-- where it says that all is stuck, the run has ended so
pub stuck_is : (s : Tree) (past : Past) → is_barred (setup_of s) past 0 ≡ false → ends_stuck (clock_entry s past ∷ past) ≡ true → ends.Stuck ≡ end_of s (clock_entry s past ∷ past)
stuck_is s past free stuck =
    let lives : have_all_ended (setup_of s) past ≡ false = not_ended (is_quiet (setup_of s) past) (have_all_ended (setup_of s) past) (ends_stuck past) (unbars (setup_of s) past free) in
    let now : Past = clock_entry s past ∷ past in
    stuck_end (have_all_ended (setup_of s) now) (ends_stuck now) (is_spent s now) (lives_on (setup_of s) past (clock_entry s past) refl lives) stuck

-- the workers stand for what they stood for
pub teams_clock : {T : Type 0} (s : Tree) (p : Program) (past : Past) (e : Entry) (groups : List T) (ws : T → List Worker) → e.who.0 ≡ 0 → AreTeams s p past groups ws → AreTeams s p (e ∷ past) groups ws
teams_clock s p past e groups ws who teams = record {
  some = teams.some;
  threads = teams.threads;
  workers = λ g d lt. record {
    at = λ i w inside.
        let list : List Worker = ws (get_or groups g d) in
        let v : Worker = get_or list i w in
        let are = teams.threads g d lt in
        let number : thread_of v ≡ get_or (threads_of (length groups) g (length s.threads)) i 0 = sym (get_map thread_of list i w 0 inside) ∙ ap (λ (l : List ℕ). get_or l i 0) are in
        let range = threads_within (length groups) g (length s.threads) i 0 (omega (arith, inside, ap (λ (l : List ℕ). length l) are, length-map list thread_of)) in
        let other : e.who.0 ≢ thread_of v = λ same. absurd (omega (arith, same, who, number, range.0)) in
        subst (λ tr. IsWorkerOf s p (thread_of v) tr v) (sym (trace_of-other past e (thread_of v) other)) ((teams.workers g d lt).at i w inside);
  };
}
