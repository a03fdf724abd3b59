use Rattle.std.proofs.Common.{◌≤◌, Some, None, sym, subst, ◌∙◌}
use Rattle.send_frames.specs.Book.{IsNextAbove}
use Rattle.send_state.specs.Parts.{SendParts}
use Rattle.send_state.proofs.Losing.{known-within}
use Rattle.send_state.proofs.StoryLosses.{kept_so, losses_noted, noted_at}
use Rattle.send_state.proofs.state.SendState.note_losses.Goals as goal

pub loop-send-preserved-then-is_losable : goal.loop-send-preserved-then-is_losable
loop-send-preserved-then-is_losable g c =
    let s = c.in-Some.send.0 in
    let p = c.args.self.now in
    let next = subst (λ (q : SendParts). IsNextAbove q.book.known c.loop-send.last.0 (Some s)) c.self.view_is c.in-Some.ensures.next in
    record {
      noted = λ test computes.
          noted_at test p c.args.place c.loop-send.last.0 s next c.args.stories.now c.loop-send.stories c.note.new.stories
          (sym (c.is_losable.ensures test computes) ∙ c.if-is_losable.true) (c.loop-send.invariant.noted test computes) c.note.ensures;
      within = subst (λ (q : SendParts). s ≤ q.book.begun) c.self.view_is (known-within c.self.inside.sends s c.in-Some.ensures.sound c.in-Some.ensures.next.1);
    }

pub loop-send-preserved : goal.loop-send-preserved
loop-send-preserved g c =
    let s = c.in-Some.send.0 in
    let p = c.args.self.now in
    let next = subst (λ (q : SendParts). IsNextAbove q.book.known c.loop-send.last.0 (Some s)) c.self.view_is c.in-Some.ensures.next in
    record {
      noted = λ test computes.
          kept_so test p c.args.place c.loop-send.last.0 s next c.args.stories.now c.loop-send.stories
          (sym (c.is_losable.ensures test computes) ∙ c.if-is_losable.false) (c.loop-send.invariant.noted test computes);
      within = subst (λ (q : SendParts). s ≤ q.book.begun) c.self.view_is (known-within c.self.inside.sends s c.in-Some.ensures.sound c.in-Some.ensures.next.1);
    }

pub returns : goal.returns
returns g c = λ test computes.
    let none = subst (λ (q : SendParts). IsNextAbove q.book.known c.loop-send.last.0 None) c.self.view_is c.in_default.ensures.next in
    losses_noted test c.args.self.now c.args.place c.loop-send.last.0 c.args.stories.now c.loop-send.stories none (c.loop-send.invariant.noted test computes)
