-- No thread is in the group of 0, so nothing is set for it.
use Rattle.std.proofs.Common.{◌≡◌, ℕ, ◌≤◌, Bool, true, false, cond, Option, refl, ap, ◌∙◌, arith}
use Rattle.std.specs.Prelude.{◌&&◌, option_map, unwrap_or}
use Rattle.std.proofs.lemmas.Bool.{and_parts}
use Rattle.input_state.specs.Groups.{Reaches, here, step}
use Rattle.user_model.specs.declared.entry.Setup.{Setup}
use Rattle.user_model.specs.Past.{Past}
use Rattle.user_model.specs.Threads.{is_running}
use Rattle.user_model.specs.Windows.{Window, is_live, thread_of}
use Rattle.user_model.specs.Groups.{attached, is_in_group}
use Rattle.user_model.specs.Focus.{Slot, last_set, value_of}
use Rattle.user_model.specs.Legal.{IsLawful}
use Rattle.user_model.proofs.GroupThreads.{running_is_thread}
use Rattle.user_model.proofs.WindowFacts.{live_running, live_window}
use Rattle.group_state.proofs.Reaching.{IsLinked, attached_bounds, steps_of_reaching, thread_bounds}

unjoined : (setup : Setup) (past : Past) (u v : ℕ) → IsLawful setup past → u ≡ 0 → IsLinked (attached past) u v → ⊥
unjoined setup past u v lawful none l =
    let some : 1 ≤ u = (attached_bounds setup past u v lawful l).0.0 in
    omega (arith, none, some)

alone : (setup : Setup) (past : Past) {t u : ℕ} → IsLawful setup past → t ≡ 0 → Reaches (IsLinked (attached past)) t u → u ≡ 0
alone setup past lawful none here = none
alone setup past lawful none (step r l) = absurd (unjoined setup past _ _ lawful (alone setup past lawful none r) l)

thread_runs : (setup : Setup) (past : Past) (w : ℕ) → IsLawful setup past → is_live past w ≡ true → is_running setup past (thread_of past w) ≡ true
thread_runs setup past w lawful lives =
    let x = live_window past w lives in
    ap (is_running setup past) (ap (λ (o : Option Window). unwrap_or (option_map (λ y. y.thread) o) 0) x.1) ∙ live_running setup past w x.0 lawful x.1

held_none : (setup : Setup) (past : Past) (w : ℕ) → IsLawful setup past → (b : Bool) → (is_live past w && is_in_group past 0 (thread_of past w)) ≡ b → cond b w 0 ≡ 0
held_none setup past w lawful false h = refl
held_none setup past w lawful true h =
    let parts = and_parts (is_live past w) (is_in_group past 0 (thread_of past w)) h in
    let none : thread_of past w ≡ 0 = alone setup past lawful refl (steps_of_reaching (attached past) 0 (thread_of past w) parts.1) in
    let some : 1 ≤ thread_of past w = (thread_bounds setup (thread_of past w) (running_is_thread setup past (thread_of past w) (thread_runs setup past w lawful parts.0))).0 in
    absurd (omega (arith, none, some))

pub nobody_has : (setup : Setup) (past : Past) (slot : Slot) → IsLawful setup past → value_of past 0 slot ≡ 0
nobody_has setup past slot lawful = held_none setup past (last_set (is_in_group past 0) slot past) lawful (is_live past (last_set (is_in_group past 0) slot past) && is_in_group past 0 (thread_of past (last_set (is_in_group past 0) slot past))) refl
