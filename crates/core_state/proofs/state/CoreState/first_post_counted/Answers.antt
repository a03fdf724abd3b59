use Rattle.std.proofs.Common.{◌≡◌, ◌≤◌, ◌<◌, ◌+◌, length, arith, reverse, subst, ap, sym, ◌∙◌}
use Rattle.std.specs.Prelude.{IfSome, find, option_map}
use Rattle.post_queue.specs.Queue.{pair_of}
use Rattle.user_model.specs.Past.{Past}
use Rattle.user_model.specs.Posts.{first_post, passes, posted}
use Rattle.thread_state.specs.Passing.{passes_in}
use Rattle.thread_state.specs.Reads.{reads}
use Rattle.thread_state.specs.Threads.{ThreadView, thread_at, told_post}
use Rattle.core_state.specs.States.{Seen}
use Rattle.core_state.proofs.Deliveries.{first_kept}
use Rattle.core_state.proofs.PostReads.{reads_kept}
use Rattle.core_state.proofs.state.CoreState.first_post_counted.Goals as goal

pub returns-clause-first : goal.returns-clause-first
returns-clause-first g c =
    let s = c.self.inside in
    let past : Past = reverse s.history.items in
    let t = c.args.thread in
    let known : t ≤ s.setup.threads = subst (λ (v : Seen). t ≤ v.setup.threads) (sym c.self.view_is) c.requires.known in
    let within : c.from.result < length s.threads.items = omega (arith, known, c.requires.some, c.from.ensures, c.self.invariant.count) in
    let place : c.from.result + 1 ≡ t = omega (arith, c.requires.some, c.from.ensures) in
    let kept : c.index.result.now ≡ thread_at past t = c.index.ensures ∙ c.self.invariant.each.at c.from.result c.index.result.now within ∙ ap (thread_at past) place in
    c.first_counted.ensures.found
    ∙ ap (λ (v : ThreadView). option_map pair_of (find (passes_in s.tree.live c.args.filter) v.queue.posted)) kept
    ∙ first_kept past s.tree.live t c.args.filter c.self.invariant.tree.windows
    ∙ ap (λ (v : Seen). option_map told_post (first_post v.past t c.args.filter)) c.self.view_is

pub returns-clause-reads : goal.returns-clause-reads
returns-clause-reads g c =
    let s = c.self.inside in
    let past : Past = reverse s.history.items in
    let t = c.args.thread in
    let known : t ≤ s.setup.threads = subst (λ (v : Seen). t ≤ v.setup.threads) (sym c.self.view_is) c.requires.known in
    let within : c.from.result < length s.threads.items = omega (arith, known, c.requires.some, c.from.ensures, c.self.invariant.count) in
    let place : c.from.result + 1 ≡ t = omega (arith, c.requires.some, c.from.ensures) in
    let kept : c.index.result.now ≡ thread_at past t = c.index.ensures ∙ c.self.invariant.each.at c.from.result c.index.result.now within ∙ ap (thread_at past) place in
    let most : reads (passes_in s.tree.live c.args.filter) c.index.result.now.queue.posted ≡ reads (passes c.args.self.now.past c.args.filter) (posted c.args.self.now.past t) =
    ap (λ (v : ThreadView). reads (passes_in s.tree.live c.args.filter) v.queue.posted) kept
    ∙ reads_kept past s.tree.live t c.args.filter c.self.invariant.tree.windows
    ∙ ap (λ (v : Seen). reads (passes v.past c.args.filter) (posted v.past t)) c.self.view_is in
    subst (λ n. IfSome c.first_counted.result (λ found. c.first_counted.new.steps ≡ c.args.steps.now + n)) most c.first_counted.ensures.reads

pub returns-clause-most : goal.returns-clause-most
returns-clause-most g c =
    let s = c.self.inside in
    let past : Past = reverse s.history.items in
    let t = c.args.thread in
    let known : t ≤ s.setup.threads = subst (λ (v : Seen). t ≤ v.setup.threads) (sym c.self.view_is) c.requires.known in
    let within : c.from.result < length s.threads.items = omega (arith, known, c.requires.some, c.from.ensures, c.self.invariant.count) in
    let place : c.from.result + 1 ≡ t = omega (arith, c.requires.some, c.from.ensures) in
    let kept : c.index.result.now ≡ thread_at past t = c.index.ensures ∙ c.self.invariant.each.at c.from.result c.index.result.now within ∙ ap (thread_at past) place in
    let most : reads (passes_in s.tree.live c.args.filter) c.index.result.now.queue.posted ≡ reads (passes c.args.self.now.past c.args.filter) (posted c.args.self.now.past t) =
    ap (λ (v : ThreadView). reads (passes_in s.tree.live c.args.filter) v.queue.posted) kept
    ∙ reads_kept past s.tree.live t c.args.filter c.self.invariant.tree.windows
    ∙ ap (λ (v : Seen). reads (passes v.past c.args.filter) (posted v.past t)) c.self.view_is in
    subst (λ n. c.first_counted.new.steps ≤ c.args.steps.now + n) most c.first_counted.ensures.most
