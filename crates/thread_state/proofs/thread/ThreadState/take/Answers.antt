use Rattle.std.proofs.Common.{◌==◌, ◌≡◌, ◌≤◌, ◌∙◌, List, true, false, ap, is_some, length, nat_lt, not, subst, sym}
use Rattle.post_queue.specs.Queue.{Posted, Queue, message_of}
use Rattle.queue_status.specs.Counts.{MayGo, one_less}
use Rattle.thread_state.specs.Counts.{posts_counted}
use Rattle.thread_state.specs.Passing.{IsMissedBy}
use Rattle.thread_state.proofs.Counts.{fewer, may_go, none_left, posted_less}
use Rattle.thread_state.proofs.Misses.{missed_without}
use Rattle.thread_state.proofs.thread.ThreadState.take.Goals as goal

pub remove-requires-clause-some : goal.remove-requires-clause-some
remove-requires-clause-some c =
    let s = c.self.inside in
    let there : is_some (message_of s.posts.posted c.args.number) ≡ true = sym (c.is_some.ensures ∙ ap is_some c.remove-taken.ensures.message) ∙ c.if-is_some.true in
    subst (MayGo (nat_lt s.seen c.args.number)) (sym c.self.invariant.counted) (may_go s.seen s.posts.posted s.quit s.quit_is_new c.args.number c.remove-taken.ensures.rises there)

pub invariant_of-self : goal.invariant_of-self
invariant_of-self c =
    let s = c.self.inside in
    let ps = s.posts.posted in
    let there : is_some (message_of ps c.args.number) ≡ true = sym (c.is_some.ensures ∙ ap is_some c.remove-taken.ensures.message) ∙ c.if-is_some.true in
    record {
      missed = subst (λ (q : Queue). IsMissedBy s.missed q.posted) (sym c.remove-taken.ensures.rest) (missed_without s.missed ps c.args.number c.self.invariant.missed);
      limit = ap (λ (q : Queue). q.limit) c.remove-taken.ensures.rest ∙ c.self.invariant.limit;
      few = subst (λ (q : Queue). length q.posted ≤ 10000) (sym c.remove-taken.ensures.rest) (fewer (λ p. not (p.number == c.args.number)) ps c.self.invariant.few);
      counted =
          c.remove.ensures
          ∙ ap (one_less (nat_lt s.seen c.args.number)) c.self.invariant.counted
          ∙ posted_less s.seen ps s.quit s.quit_is_new c.args.number c.remove-taken.ensures.rises there
          ∙ ap (λ (q : Queue). posts_counted s.seen q.posted s.quit s.quit_is_new) (sym c.remove-taken.ensures.rest);
    }

pub invariant_of-self-else-is_some : goal.invariant_of-self-else-is_some
invariant_of-self-else-is_some c =
    let s = c.self.inside in
    let ps = s.posts.posted in
    let none : is_some (message_of ps c.args.number) ≡ false = sym (c.is_some.ensures ∙ ap is_some c.remove-taken.ensures.message) ∙ c.if-is_some.false in
    let same : c.remove-taken.new.self.posted ≡ ps = ap (λ (q : Queue). q.posted) c.remove-taken.ensures.rest ∙ none_left c.args.number ps none in
    record {
      missed = subst (IsMissedBy s.missed) (sym same) c.self.invariant.missed;
      limit = ap (λ (q : Queue). q.limit) c.remove-taken.ensures.rest ∙ c.self.invariant.limit;
      few = subst (λ (l : List Posted). length l ≤ 10000) (sym same) c.self.invariant.few;
      counted = c.self.invariant.counted ∙ ap (λ (l : List Posted). posts_counted s.seen l s.quit s.quit_is_new) (sym same);
    }
