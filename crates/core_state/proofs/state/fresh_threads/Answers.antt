use Rattle.std.proofs.Common.{◌≡◌, All, sym, ap, ◌∙◌, subst, length, ◌+◌}
use Rattle.std.proofs.lemmas.List.{length_push}
use Rattle.std.proofs.lemmas.List.Elements.{All-push}
use Rattle.thread_state.specs.Threads.{ThreadView, fresh_thread}
use Rattle.core_state.proofs.state.fresh_threads.Goals as goal

pub loop-preserved : goal.loop-preserved
loop-preserved c =
    let pushed = c.in_ok-push.ensures.items in
    record {
      count = ap length pushed ∙ length_push c.loop.threads.items c.new.result ∙ ap (λ n. n + 1) c.loop.invariant.count;
      fresh = subst (All (λ (s : ThreadView). s ≡ fresh_thread)) (sym pushed) (All-push (λ (s : ThreadView). s ≡ fresh_thread) c.loop.threads.items c.new.result c.loop.invariant.fresh c.new.ensures);
    }
