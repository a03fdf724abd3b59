-- How a run by groups has ended.
use Rattle.std.proofs.Common.{◌≡◌, ◌⊎◌, ℕ, zero, suc, ◌<◌, ◌≤◌, Bool, true, false, not, cond, eqb, List, length, get_or, Option, Some, None, refl, ap, ◌∙◌, sym, subst, inl, inr, arith}
use Rattle.std.specs.Prelude.{◌&&◌, ◌||◌, is_none}
use Rattle.std.proofs.lemmas.Bool.{false≢true}
use Rattle.std.proofs.lemmas.Bool.Decides.{nat_tests}
use Rattle.user_model.specs.declared.entry.Setup.{Setup}
use Rattle.user_model.specs.Past.{Past}
use Rattle.user_model.specs.Places.{has_ended}
use Rattle.user_model.specs.Threads.{lowest}
use Rattle.user_model.specs.Idle.{is_idle, is_barred, is_quiet, have_all_ended, ends_stuck, still_waits, last_entry}
use Rattle.script_tree.specs.Tree.{Tree}
use Rattle.script_proc.specs.declared.worker.Worker.{Worker}
use Rattle.script_proc.specs.Workers.{thread_of}
use Rattle.log_text.specs.declared.end.End.TheVariants as ends
use Rattle.log_text.specs.Ends.{setup_of, used, could_go_on, end_of}
use Rattle.user_pool.specs.Runs.{IsRun}
use Rattle.std.proofs.lemmas.List.{length-map}
use Rattle.user_pool.specs.Teams.{threads_of, HaveThreads, IsStopped, AreStopped, AreIdle, IsOneBusy}
use Rattle.user_pool.proofs.Turns.{barred_is_idle, idle_parts, lowest_all, lowest_nobody, used_within}
use Rattle.user_pool.proofs.Handing.{some_of, is_there, get_map, threads_within}

stopped_so : (idle : Bool) (u b : ℕ) → u ≤ b → (idle ≡ true) ⊎ (b ≤ u) → (not idle && not (eqb u b)) ≡ false
stopped_so true u b le h = refl
stopped_so false u b le (inl e) = absurd (false≢true e)
stopped_so false u b le (inr h) = let same : eqb u b ≡ true = grind (arith, nat_tests, le, h) in ap not same

either_idle : (idle barred : Bool) (u b : ℕ) → barred ≡ idle → (barred ≡ true) ⊎ (b ≤ u) → (idle ≡ true) ⊎ (b ≤ u)
either_idle idle barred u b same (inl e) = inl (sym same ∙ e)
either_idle idle barred u b same (inr h) = inr h

-- a thread that is stopped could not go on
stays : (s : Tree) (past : Past) (t : ℕ) → IsRun s past → 0 < t → IsStopped s past t → could_go_on s past t ≡ false
stays s past t run positive stopped =
    stopped_so (is_idle (setup_of s) past t) (used past t) s.budget (used_within s past t run positive)
    (either_idle (is_idle (setup_of s) past t) (is_barred (setup_of s) past t) (used past t) s.budget (barred_is_idle (setup_of s) past t positive) stopped)

bars : (setup : Setup) (past : Past) → is_barred setup past 0 ≡ true → (not (is_quiet setup past) || have_all_ended setup past || ends_stuck past) ≡ true
unfolding is_barred
bars setup past barred = barred

spent_end : (quiet ended stuck none : Bool) → quiet ≡ false → ended ≡ false → stuck ≡ false → none ≡ true → ends.Spent ≡ cond ended ends.Done (cond stuck ends.Stuck (cond (not quiet && none) ends.Spent ends.Cut))
spent_end quiet ended stuck none q e s n = cc

done_end : (quiet ended stuck none : Bool) → quiet ≡ true → stuck ≡ false → (not quiet || ended || stuck) ≡ true → ends.Done ≡ cond ended ends.Done (cond stuck ends.Stuck (cond (not quiet && none) ends.Spent ends.Cut))
done_end quiet true stuck none q s b = refl
done_end true false true none q s b = absurd (false≢true (sym s))
done_end true false false none q s b = absurd (false≢true b)
done_end false false stuck none q s b = absurd (false≢true q)

some_there : (o : Option ℕ) → (o ≡ None → ⊥) → is_none o ≡ false
some_there (Some n) h = refl
some_there None h = absurd (h refl)

none_there : (o : Option ℕ) → o ≡ None → is_none o ≡ true
none_there o e = ap is_none e

module _ {T : Type 0} (s : Tree) (past : Past) (groups : List T) (ws : T → List Worker) (some : 0 < length groups) (threads : HaveThreads (length s.threads) groups ws) where
  -- what holds of the thread of each worker holds of each thread
  each_thread : (P : ℕ → Type 0) → ((g : ℕ) (d : T) → g < length groups → (i : ℕ) (w : Worker) → i < length (ws (get_or groups g d)) → P (thread_of (get_or (ws (get_or groups g d)) i w))) → (t : ℕ) → 0 < t → t ≤ length s.threads → P t
  each_thread P each zero positive within = absurd (omega (arith, positive))
  each_thread P each (suc k) positive within =
      let at = is_there groups ws some (length s.threads) threads k (omega (arith, within)) in
      let d : T = some_of groups 0 some in
      let w : Worker = some_of (ws (get_or groups at.group d)) at.place at.in_group in
      subst P (at.is w) (each at.group d at.in_groups at.place w at.in_group)

  pub none_goes : IsRun s past → ((g : ℕ) (d : T) → g < length groups → AreStopped s past (ws (get_or groups g d))) → is_none (lowest (could_go_on s past) (length s.threads)) ≡ true
  none_goes run stopped =
      none_there (lowest (could_go_on s past) (length s.threads)) (lowest_nobody (could_go_on s past) (length s.threads) (λ t p w. stays s past t run p (each_thread (IsStopped s past) (λ g d lt i v inside. stopped g d lt i v inside) t p w)))

  -- all are idle
  pub done_is : is_barred (setup_of s) past 0 ≡ true → ends_stuck past ≡ false → ((g : ℕ) (d : T) → g < length groups → AreIdle (setup_of s) past (ws (get_or groups g d))) → ends.Done ≡ end_of s past
  done_is barred goes idle =
      let each : (t : ℕ) → 0 < t → t ≤ length s.threads → not (is_idle (setup_of s) past t) ≡ false = λ t p w. ap not (sym (barred_is_idle (setup_of s) past t p) ∙ each_thread (λ k. is_barred (setup_of s) past k ≡ true) (λ g d lt i v inside. idle g d lt i v inside) t p w) in
      let quiet : is_quiet (setup_of s) past ≡ true = none_there (lowest (λ t. not (is_idle (setup_of s) past t)) (length s.threads)) (lowest_nobody (λ t. not (is_idle (setup_of s) past t)) (length s.threads) each) in
      done_end (is_quiet (setup_of s) past) (have_all_ended (setup_of s) past) (ends_stuck past) (is_none (lowest (could_go_on s past) (length s.threads))) quiet goes (bars (setup_of s) past barred)

  -- one isn't
  busy_end : (t : ℕ) → 0 < t → t ≤ length s.threads → is_barred (setup_of s) past t ≡ false → ends_stuck past ≡ false → is_none (lowest (could_go_on s past) (length s.threads)) ≡ true → ends.Spent ≡ end_of s past
  busy_end t positive within free goes none =
      let busy : is_idle (setup_of s) past t ≡ false = sym (barred_is_idle (setup_of s) past t positive) ∙ free in
      let lives : has_ended past t ≡ false = (idle_parts (has_ended past t) (still_waits (setup_of s) past t (last_entry past t)) busy).0 in
      let quiet : is_quiet (setup_of s) past ≡ false = some_there (lowest (λ u. not (is_idle (setup_of s) past u)) (length s.threads)) (λ e. false≢true (sym (lowest_all (λ u. not (is_idle (setup_of s) past u)) (length s.threads) t e positive within) ∙ ap not busy)) in
      let ended : have_all_ended (setup_of s) past ≡ false = some_there (lowest (λ u. not (has_ended past u)) (length s.threads)) (λ e. false≢true (sym (lowest_all (λ u. not (has_ended past u)) (length s.threads) t e positive within) ∙ ap not lives)) in
      spent_end (is_quiet (setup_of s) past) (have_all_ended (setup_of s) past) (ends_stuck past) (is_none (lowest (could_go_on s past) (length s.threads))) quiet ended goes none

  pub spent_is : IsRun s past → ends_stuck past ≡ false → ((g : ℕ) (d : T) → g < length groups → AreStopped s past (ws (get_or groups g d))) → (g : ℕ) (d : T) → g < length groups → IsOneBusy (setup_of s) past (ws (get_or groups g d)) → ends.Spent ≡ end_of s past
  spent_is run goes stopped g d lt busy =
      let list : List Worker = ws (get_or groups g d) in
      let w : Worker = some_of list busy.0 busy.1 in
      let are = threads g d lt in
      let number : thread_of (get_or list busy.0 w) ≡ get_or (threads_of (length groups) g (length s.threads)) busy.0 0 = sym (get_map thread_of list busy.0 w 0 busy.1) ∙ ap (λ (l : List ℕ). get_or l busy.0 0) are in
      let range = threads_within (length groups) g (length s.threads) busy.0 0 (omega (arith, busy.1, ap (λ (l : List ℕ). length l) are, length-map list thread_of)) in
      busy_end (thread_of (get_or list busy.0 w)) (omega (arith, number, range.0)) (omega (arith, number, range.1)) (busy.2 w) goes (none_goes run stopped)
