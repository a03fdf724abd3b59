use Rattle.std.proofs.Common.{reverse, arith}
use Rattle.user_model.specs.Past.{Past}
use Rattle.window_state.proofs.TreeAnswers.{last_small}
use Rattle.core_state.proofs.state.CoreState.next_window.Goals as goal

pub overflow_add-result : goal.overflow_add-result
overflow_add-result c =
    let s = c.self.inside in
    let past : Past = reverse s.history.items in
    let small = last_small past s.tree c.self.invariant.tree s.setup c.self.invariant.lawful in
    omega (arith, small, c.last.ensures)
