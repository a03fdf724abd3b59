use Rattle.std.proofs.Common.{◌≤◌, cond, ap, sym, ◌∙◌, arith}
use Rattle.send_frames.specs.Book.{Book, forgotten}
use Rattle.send_state.proofs.Losing.{begun-forgotten, freed-all, freed-at, known-within}
use Rattle.send_state.proofs.state.free.Goals as goal

pub loop-send-preserved-then-is_from : goal.loop-send-preserved-then-is_from
loop-send-preserved-then-is_from c =
    let at = freed-at c.args.who.0 c.args.sends.now c.loop-send.sends c.loop-send.last.0 c.in-Some.send.0 c.loop-send.invariant.so_far c.in-Some.ensures.next in
    let chosen = ap (λ b. cond b (forgotten c.loop-send.sends c.in-Some.send.0) c.loop-send.sends) (sym c.is_from.ensures ∙ c.if-is_from.true) in
    let begun = ap (λ (b : Book). b.begun) c.forget.ensures.forgotten ∙ begun-forgotten c.loop-send.sends c.in-Some.send.0 in
    let within : c.in-Some.send.0 ≤ c.loop-send.sends.begun = known-within c.loop-send.sends c.in-Some.send.0 c.in-Some.ensures.sound c.in-Some.ensures.next.1 in
    record {
      so_far = c.forget.ensures.forgotten ∙ sym (at ∙ chosen);
      begun = begun ∙ c.loop-send.invariant.begun;
      within = omega (arith, within, begun);
      threads = c.forget.ensures.threads ∙ c.loop-send.invariant.threads;
    }

pub loop-send-preserved : goal.loop-send-preserved
loop-send-preserved c =
    let at = freed-at c.args.who.0 c.args.sends.now c.loop-send.sends c.loop-send.last.0 c.in-Some.send.0 c.loop-send.invariant.so_far c.in-Some.ensures.next in
    let chosen = ap (λ b. cond b (forgotten c.loop-send.sends c.in-Some.send.0) c.loop-send.sends) (sym c.is_from.ensures ∙ c.if-is_from.false) in
    record {
      so_far = sym (at ∙ chosen);
      begun = c.loop-send.invariant.begun;
      within = known-within c.loop-send.sends c.in-Some.send.0 c.in-Some.ensures.sound c.in-Some.ensures.next.1;
      threads = c.loop-send.invariant.threads;
    }

pub returns-clause-freed : goal.returns-clause-freed
returns-clause-freed c =
    let low : c.loop-send.last.0 ≤ c.args.sends.now.begun = omega (arith, c.loop-send.invariant.within, c.loop-send.invariant.begun) in
    freed-all c.args.who.0 c.args.sends.now c.loop-send.sends c.loop-send.last.0 c.loop-send.invariant.so_far low c.in_default.ensures.next
