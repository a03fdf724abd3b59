use Rattle.std.proofs.Common.{sym, ◌∙◌, arith}
use Rattle.script_text.proofs.FirstLines.{nothing_taken, all_taken, no_feed, more_taken, bad_taken}
use Rattle.script_text.proofs.reading.Reading.take_all.Goals as goal

pub loop-rest-init : goal.loop-rest-init
loop-rest-init c = nothing_taken c.args.bytes.now c.args.self.now c.requires.nothing

pub returns-in_default-clause-bad : goal.returns-in_default-clause-bad
returns-in_default-clause-bad c = λ e. no_feed c.args.bytes.now c.loop-rest.self c.loop-rest.before c.loop-rest.rest.now c.loop-rest.invariant (sym c.is_empty.ensures ∙ c.loop-rest-test.true) c.in_default.ensures.none

pub take_next-requires-clause-known : goal.take_next-requires-clause-known
take_next-requires-clause-known c = c.loop-rest.invariant.reading.front.stood.named

pub take_next-requires-clause-sound : goal.take_next-requires-clause-sound
take_next-requires-clause-sound c = c.loop-rest.invariant.reading.sound

pub take_next-requires-clause-few : goal.take_next-requires-clause-few
take_next-requires-clause-few c = c.loop-rest.invariant.reading.front.stood.few

pub returns-then-not-branch-clause-bad : goal.returns-then-not-branch-clause-bad
returns-then-not-branch-clause-bad c = λ e.
    let t = c.loop-rest.invariant in
    bad_taken c.args.bytes.now c.loop-rest.self c.loop-rest.before c.loop-rest.rest.now t c.in-Some.line.now c.in-Some.behind.now c.in-Some.ensures.line (c.in_ok-take_next.ensures.bad t.texts t.many t.reading c.if-not-branch.true)

pub overflow_add-before : goal.overflow_add-before
overflow_add-before c = omega (arith, c.loop-rest.invariant.short, c.in-Some.ensures.shorter, c.requires.short)

pub loop-rest-smaller : goal.loop-rest-smaller
loop-rest-smaller c = c.in-Some.ensures.shorter

pub loop-rest-preserved : goal.loop-rest-preserved
loop-rest-preserved c =
    let t = c.loop-rest.invariant in
    more_taken c.args.bytes.now c.loop-rest.self c.loop-rest.before c.loop-rest.rest.now t c.in-Some.line.now c.in-Some.behind.now c.in-Some.ensures.line c.take_next.new.self c.in-Some.ensures.shorter (c.in_ok-take_next.ensures.good t.texts t.many t.reading c.if-not-branch.false)

pub returns-clause-good : goal.returns-clause-good
returns-clause-good c = λ e. all_taken c.args.bytes.now c.loop-rest.self c.loop-rest.before c.loop-rest.rest.now c.loop-rest.invariant (sym c.loop-rest-test.ensures)
