use Rattle.std.proofs.Common.{◌≡◌, false, refl, sym, ◌∙◌, subst}
use Rattle.std.proofs.lemmas.Bool.{false≢true}
use Rattle.user_model.specs.declared.call.Call.TheVariants.{Advance}
use Rattle.illegal_text.specs.declared.illegal.Why.TheVariants as reasons
use Rattle.log_replay.specs.Replays.{ClockHeld, MayMake}
use Rattle.log_replay.proofs.Telling.{wrong_here, clock_told, clock_may, step_told}
use Rattle.log_replay.proofs.moves.clock_move.Goals as goal

pub returns-then-not-same_call-clause-told : goal.returns-then-not-same_call-clause-told
returns-then-not-same_call-clause-told g c =
    let s = c.args.script.now in
    let past = g.M.Machine.past c.args.machine.now in
    let may : MayMake s past c.args.entry.who.0 Advance = clock_may s past c.args.entry.who.0 c.requires.clock (subst (ClockHeld s past) c.in_default.is c.clock_fault.ensures) in
    wrong_here s past past c.args.entry (reasons.Call Advance) refl (may, λ same. false≢true (sym c.if-not-same_call.true ∙ c.same_call.ensures.1 same))

pub returns-clause-told : goal.returns-clause-told
returns-clause-told g c =
    let s = c.args.script.now in
    let past = g.M.Machine.past c.args.machine.now in
    let may : MayMake s past c.args.entry.who.0 Advance = clock_may s past c.args.entry.who.0 c.requires.clock (subst (ClockHeld s past) c.in_default.is c.clock_fault.ensures) in
    step_told s past (g.M.Machine.past c.step.new.self) c.args.entry Advance c.in_ok-answer.answer (g.M.Machine.setup c.args.machine.now) c.answer_fault.result c.requires.setup c.requires.room
    may (c.same_call.ensures.0 c.if-not-same_call.false) c.in_ok-answer.ensures.entry c.in_ok-answer.ensures.answer c.answer_fault.ensures
