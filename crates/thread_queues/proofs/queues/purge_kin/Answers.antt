use Rattle.std.proofs.Common.{◌≡◌, ℕ, Bool, eqb, rules, ◌∙◌}
use Rattle.std.specs.List.{list_any}
use Rattle.post_queue.specs.Queue.{queue}
use Rattle.thread_queues.specs.Changes.{without_windows}
use Rattle.thread_queues.specs.Deliveries.{kin_in}
use Rattle.thread_state.specs.Threads.{ThreadView}
use Rattle.thread_queues.proofs.KinLists.{kin_any, purged}
use Rattle.thread_queues.proofs.Outcomes.{one_purged}
use Rattle.thread_queues.proofs.queues.purge_kin.Goals as goal

pub returns : goal.returns
returns c =
    let live = c.args.tree.now.live in
    let v : ℕ = c.args.window.0 in
    let test : ℕ → Bool = λ w. list_any (λ u. eqb w u) (kin_in live v) in
    let t : ThreadView = c.index_mut.result.now in
    let now : c.purge.new.self ≡ record t { queue = queue t.queue.limit (without_windows t.queue.posted (kin_in live v)) } = c.purge.ensures test (λ w b k. search (rules, kin_any)) ∙ purged live v t in
    one_purged c.args.threads.now.items c.args.who.0 c.from.result (kin_in live v) t c.purge.new.self c.requires c.from.ensures c.index_mut.ensures.value now
