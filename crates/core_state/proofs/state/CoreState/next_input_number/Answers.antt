use Rattle.std.proofs.Common.{◌≡◌, ◌≤◌, ◌<◌, arith, length, false, reverse, subst, sym}
use Rattle.std.proofs.lemmas.Bool.Decides.{nat_tests}
use Rattle.user_model.specs.Past.{Past, is_full}
use Rattle.user_model.specs.Inputs.{inputs}
use Rattle.user_model.proofs.InputCounts.{inputs_bound}
use Rattle.core_state.specs.States.{Seen}
use Rattle.core_state.proofs.state.CoreState.next_input_number.Goals as goal

pub overflow_add-result : goal.overflow_add-result
overflow_add-result c =
    let past : Past = reverse c.self.inside.history.items in
    let room : is_full past ≡ false = subst (λ (s : Seen). is_full s.past ≡ false) (sym c.self.view_is) c.requires in
    let few : length past < 2097152 = grind (arith, nat_tests, room) in
    let bound : length (inputs past) ≤ length past = inputs_bound past in
    let kept : c.self.inside.progress.inputs ≡ length (inputs past) = c.self.invariant.injected in
    omega (arith, few, bound, kept)
