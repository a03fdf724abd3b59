use Rattle.std.proofs.Common.{◌≡◌, ◌≤◌, ◌<◌, arith, length, false, reverse, subst, sym}
use Rattle.std.proofs.lemmas.Bool.Decides.{nat_tests}
use Rattle.user_model.specs.Past.{Past, is_full}
use Rattle.user_model.specs.Posts.{posts}
use Rattle.user_model.proofs.PostCounts.{count_bound}
use Rattle.core_state.specs.States.{Seen}
use Rattle.core_state.proofs.state.CoreState.next_post_number.Goals as goal

pub overflow_add-result : goal.overflow_add-result
overflow_add-result c =
    let past : Past = reverse c.self.inside.history.items in
    let room : is_full past ≡ false = subst (λ (s : Seen). is_full s.past ≡ false) (sym c.self.view_is) c.requires in
    let few : length past < 2097152 = grind (arith, nat_tests, room) in
    let bound : length (posts past) ≤ length past = count_bound past in
    let kept : c.self.inside.progress.posts ≡ length (posts past) = c.self.invariant.posts in
    omega (arith, few, bound, kept)
