-- How a phase starts: each thread with a new seat.
use Rattle.std.proofs.Common.{◌≡◌, ℕ, ◌+◌, ◌<◌, ◌≤◌, List, [], ◌∷◌, ◌++◌, length, get_or, refl, ap, ◌∙◌, sym, subst, inl, arith}
use Rattle.std.specs.Prelude.{map}
use Rattle.std.proofs.lemmas.List.{length-map}
use Rattle.win_num.specs.declared.message.Thread.{Thread}
use Rattle.user_model.specs.declared.call.Call.{Call}
use Rattle.user_model.specs.declared.entry.Answer.{Answer}
use Rattle.user_model.specs.declared.entry.Entry.{Entry}
use Rattle.user_model.specs.Past.{Past}
use Rattle.script_tree.specs.Tree.{Tree}
use Rattle.script_tree.specs.Traces.{trace_of}
use Rattle.script_proc.specs.declared.program.Program.{Program}
use Rattle.script_proc.specs.declared.worker.Worker.{Worker}
use Rattle.script_proc.specs.Workers.{IsWorkerOf, thread_of}
use Rattle.turn_lock.specs.Seats.{Lock, Sitting, new_seat}
use Rattle.user_desk.specs.Desks.{seen_by, made_by}
use Rattle.user_pool.specs.Runs.{IsRun}
use Rattle.user_pool.specs.Teams.{threads_of, HasWorked, AreWorkers, AreTeams, HaveThreads, KeepWorkers, HaveNewSeats, AllSeated, AllAtWork}
use Rattle.user_pool.proofs.Interleavings.{run_interleaves}
use Rattle.user_pool.proofs.Handing.{get_map, seats_fit, threads_within}

nowhere : (newer : List Entry) (e : Entry) (before : Past) → [] ≡ newer ++ e ∷ before → ⊥
nowhere [] e before is = absurd cc
nowhere (x ∷ newer) e before is = absurd cc

pub starts_work : (s : Tree) (p : Program) (opening : Past) (t : ℕ) (w : Worker) → IsRun s opening → 0 < t → t ≤ length s.threads → IsWorkerOf s p t (trace_of opening t) w → HasWorked s p opening t [] [] w
starts_work s p opening t w run positive within stands = record {
  part = record {
    own = refl;
    part = (run_interleaves s opening run).parts t positive within;
    free = λ newer e before is who. absurd (nowhere newer e before is);
  };
  worker = inl stands;
}

module _ {T : Type 0} (groups now : List T) (ws : T → List Worker) (kept : KeepWorkers groups now ws) where
  pub threads_kept : (n : ℕ) → HaveThreads n groups ws → HaveThreads n now ws
  threads_kept n threads g d lt =
      let before : g < length groups = omega (arith, lt, kept.count) in
      ap (λ (l : List Worker). map thread_of l) (kept.at g d before) ∙ threads g d before ∙ ap (λ k. threads_of k g n) (sym kept.count)

  pub teams_kept : (s : Tree) (p : Program) (past : Past) → AreTeams s p past groups ws → AreTeams s p past now ws
  teams_kept s p past teams = record {
    some = omega (arith, teams.some, kept.count);
    threads = threads_kept (length s.threads) teams.threads;
    workers = λ g d lt.
        let before : g < length groups = omega (arith, lt, kept.count) in
        subst (AreWorkers s p past) (sym (kept.at g d before)) (teams.workers g d before);
  }

module _ {S T : Type 0} (desk : Lock S) (groups : List T) (ws : T → List Worker) (f : T → List (Sitting S (Thread × Call) Answer)) (s : Tree) (p : Program) (opening : Past) (teams : AreTeams s p opening groups ws) (new : HaveNewSeats desk (length s.threads) groups f) where
  pub seated_new : desk.seats ≡ length s.threads + 1 → AllSeated desk groups ws f
  seated_new count g x lt =
      seats_fit desk (ws (get_or groups g x)) (f (get_or groups g x)) (threads_of (length groups) g (length s.threads)) (teams.threads g x lt) (new g x lt)
      (λ i d inside. omega (arith, count, (threads_within (length groups) g (length s.threads) i d inside).1))

  pub working_new : IsRun s opening → AllAtWork s p opening groups ws f
  working_new run g x lt i w seat inside =
      let list : List Worker = ws (get_or groups g x) in
      let threads : List ℕ = threads_of (length groups) g (length s.threads) in
      let are : map thread_of list ≡ threads = teams.threads g x lt in
      let in_threads : i < length threads = omega (arith, inside, ap (λ (l : List ℕ). length l) are, length-map list thread_of) in
      let number : thread_of (get_or list i w) ≡ get_or threads i 0 = sym (get_map thread_of list i w 0 inside) ∙ ap (λ (l : List ℕ). get_or l i 0) are in
      let here : get_or (f (get_or groups g x)) i seat ≡ new_seat desk (get_or threads i 0) = ap (λ (l : List (Sitting S (Thread × Call) Answer)). get_or l i seat) (new g x lt) ∙ get_map (new_seat desk) threads i 0 seat in_threads in
      let range = threads_within (length groups) g (length s.threads) i 0 in_threads in
      let stands : IsWorkerOf s p (get_or threads i 0) (trace_of opening (get_or threads i 0)) (get_or list i w) = subst (λ k. IsWorkerOf s p k (trace_of opening k) (get_or list i w)) number ((teams.workers g x lt).at i w inside) in
      subst (λ (y : Sitting S (Thread × Call) Answer). HasWorked s p opening y.number (seen_by y) (made_by y) (get_or list i w)) (sym here) (starts_work s p opening (get_or threads i 0) (get_or list i w) run range.0 range.1 stands)
