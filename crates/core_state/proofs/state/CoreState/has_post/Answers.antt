use Rattle.std.proofs.Common.{◌≡◌, ◌≤◌, ◌<◌, ◌+◌, ◌||◌, [], is_some, length, true, arith, reverse, subst, ap, sym, ◌∙◌}
use Rattle.std.specs.List.{list_any}
use Rattle.post_queue.specs.Queue.{Posted}
use Rattle.user_model.specs.Past.{Past}
use Rattle.user_model.specs.Status.{has_post}
use Rattle.thread_state.specs.Threads.{ThreadView, thread_at}
use Rattle.core_state.specs.States.{Seen}
use Rattle.core_state.proofs.StatusReads.{posts_now}
use Rattle.core_state.proofs.state.CoreState.has_post.Goals as goal

pub returns : goal.returns
returns c =
    let s = c.self.inside in
    let past : Past = reverse s.history.items in
    let t = c.args.thread in
    let known : t ≤ s.setup.threads = subst (λ (v : Seen). t ≤ v.setup.threads) (sym c.self.view_is) c.requires.known in
    let within : c.from.result < length s.threads.items = omega (arith, known, c.requires.some, c.from.ensures, c.self.invariant.count) in
    let place : c.from.result + 1 ≡ t = omega (arith, c.requires.some, c.from.ensures) in
    let kept : c.index.result.now ≡ thread_at past t = c.index.ensures ∙ c.self.invariant.each.at c.from.result c.index.result.now within ∙ ap (thread_at past) place in
    c.has_post.ensures
    ∙ ap (λ (v : ThreadView). list_any (λ (p : Posted). true) v.queue.posted || is_some v.quit) kept
    ∙ posts_now past t
    ∙ ap (λ (v : Seen). has_post v.past t []) c.self.view_is
