use Rattle.std.proofs.Common.{rules, ◌≡◌, Some, reverse, ap, sym, ◌∙◌}
use Rattle.user_model.specs.declared.call.Call.TheVariants.{Await}
use Rattle.user_model.specs.Past.{Past}
use Rattle.user_model.specs.Idle.{last_entry, least_of, times_of}
use Rattle.user_model.specs.Stacks.{top}
use Rattle.core_state.specs.Frames.{wait_end}
use Rattle.thread_state.specs.Threads.{waiting_call}
use Rattle.core_state.specs.States.{Seen}
use Rattle.std.specs.Prelude.{option_and_then}
use Rattle.core_state.proofs.Waits.{await_times, least_alone}
use Rattle.core_state.proofs.state.CoreState.wake_time.Goals as goal

pub returns-in-Await : goal.returns-in-Await
returns-in-Await c =
    let s = c.self.inside in
    let past : Past = reverse s.history.items in
    let t = c.args.thread in
    let waits : waiting_call (last_entry past t) ≡ Some (Await c.in-Await.field-0) = search rules in
    c.wait_end.ensures
    ∙ ap (λ (v : Seen). option_and_then (wait_end v.past) (top v.past t)) (sym c.self.view_is)
    ∙ sym (least_alone (option_and_then (wait_end past) (top past t)))
    ∙ ap least_of (await_times s.setup past t c.in-Await.field-0 c.self.invariant.lawful waits)
    ∙ ap (λ (v : Seen). least_of (times_of v.past t (last_entry v.past t))) c.self.view_is
