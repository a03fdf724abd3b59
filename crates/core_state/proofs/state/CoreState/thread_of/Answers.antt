use Rattle.std.proofs.Common.{◌≡◌, ℕ, Option, true, reverse, subst, ap, sym, ◌∙◌}
use Rattle.user_model.specs.Past.{Past}
use Rattle.std.specs.Prelude.{option_map, unwrap_or}
use Rattle.user_model.specs.declared.entry.Setup.{Setup}
use Rattle.user_model.specs.Legal.{IsLawful}
use Rattle.user_model.specs.Threads.{is_running}
use Rattle.user_model.specs.Windows.{Window, is_live, thread_of}
use Rattle.user_model.proofs.WindowFacts.{live_running, live_window}
use Rattle.window_state.specs.Trees.{thread_in}
use Rattle.core_state.specs.States.{Seen}
use Rattle.core_state.proofs.Deliveries.{thread_in-is}
use Rattle.window_state.proofs.Lookups.{none_threaded}
use Rattle.core_state.proofs.state.CoreState.thread_of.Goals as goal

-- the thread of a live window runs
thread_runs : (setup : Setup) (past : Past) (w : ℕ) → IsLawful setup past → is_live past w ≡ true → is_running setup past (thread_of past w) ≡ true
thread_runs setup past w lawful lives =
    let x = live_window past w lives in
    ap (is_running setup past) (ap (λ (o : Option Window). unwrap_or (option_map (λ y. y.thread) o) 0) x.1) ∙ live_running setup past w x.0 lawful x.1

-- the clause on the thread, once for both arms
runs : (seen : Seen) (setup : Setup) (past : Past) (w n : ℕ) → IsLawful setup past → {spare : ℕ} → record { setup = setup; past = past; spare = spare } ≡ seen → n ≡ thread_of seen.past w → is_live seen.past w ≡ true → is_running seen.setup seen.past n ≡ true
runs seen setup past w n lawful view is lives =
    let live_there : is_live past w ≡ true = subst (λ (v : Seen). is_live v.past w ≡ true) (sym view) lives in
    ap (is_running seen.setup seen.past) is ∙ subst (λ (v : Seen). is_running v.setup v.past (thread_of v.past w) ≡ true) view (thread_runs setup past w lawful live_there)

pub returns-in-Some : goal.returns-in-Some
returns-in-Some c =
    let s = c.self.inside in
    let past : Past = reverse s.history.items in
    let is =
    c.thread_of.ensures
    ∙ ap (thread_in s.tree.live) c.in-Some.ensures.same
    ∙ thread_in-is past s.tree.live c.args.w c.self.invariant.tree.windows
    ∙ ap (λ (v : Seen). thread_of v.past c.args.w) c.self.view_is in
    record { thread = is; running = λ lives. runs c.args.self.now s.setup past c.args.w _ c.self.invariant.lawful c.self.view_is is lives }

pub returns-in-None : goal.returns-in-None
returns-in-None c =
    let s = c.self.inside in
    let past : Past = reverse s.history.items in
    let is =
    none_threaded s.tree.live c.args.w c.in-None.ensures.window
    ∙ thread_in-is past s.tree.live c.args.w c.self.invariant.tree.windows
    ∙ ap (λ (v : Seen). thread_of v.past c.args.w) c.self.view_is in
    record { thread = is; running = λ lives. runs c.args.self.now s.setup past c.args.w _ c.self.invariant.lawful c.self.view_is is lives }
