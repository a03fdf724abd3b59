use Rattle.std.proofs.Common.{◌≡◌, ◌≤◌, ◌<◌, ◌+◌, arith, length, false, reverse, subst, ap, sym, ◌∙◌}
use Rattle.std.proofs.lemmas.Bool.Decides.{nat_tests}
use Rattle.win_num.specs.declared.send.SendId.{SendId}
use Rattle.user_model.specs.Past.{Past, is_full}
use Rattle.user_model.specs.Sends.{sends}
use Rattle.user_model.specs.ReplySends.{next_send_number}
use Rattle.core_state.specs.States.{Seen}
use Rattle.core_state.proofs.SendNumbers.{sends_bound}
use Rattle.core_state.proofs.state.CoreState.next_send.Goals as goal

pub overflow_add-result : goal.overflow_add-result
overflow_add-result c =
    let past : Past = reverse c.self.inside.history.items in
    let room : is_full past ≡ false = subst (λ (s : Seen). is_full s.past ≡ false) (sym c.self.view_is) c.requires in
    let few : length past < 2097152 = grind (arith, nat_tests, room) in
    let bound : length (sends past) ≤ length past = sends_bound past in
    omega (arith, few, bound, c.begun.ensures, c.self.invariant.sends.book.begun)

pub returns : goal.returns
returns c =
    let past : Past = reverse c.self.inside.history.items in
    let one : c.begun.result + 1 ≡ next_send_number past = omega (arith, c.begun.ensures, c.self.invariant.sends.book.begun) in
    ap (λ n. let s : SendId = record { 0 = n } in s) one
    ∙ ap (λ (v : Seen). let s : SendId = record { 0 = next_send_number v.past } in s) c.self.view_is
