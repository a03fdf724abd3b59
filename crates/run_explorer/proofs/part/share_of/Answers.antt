use Rattle.std.proofs.Common.{◌<◌, ◌≤◌, length, arith}
use Rattle.run_explorer.proofs.Parts.{no_share, share_next, share_whole}
use Rattle.run_explorer.proofs.part.share_of.Goals as goal

pub loop-step-init : goal.loop-step-init
loop-step-init c = record { share = no_share c.args.count c.new-share.result (c.new-share.ensures.share); place = omega arith; few = omega (arith, c.new-share.ensures.none) }

pub loop-step-preserved : goal.loop-step-preserved
loop-step-preserved c =
    let lt : c.loop-step.step-index < length c.args.steps.now = omega arith in
    record {
      share = share_next c.args.count c.args.steps.now c.loop-step.step-index _ c.loop-step.share c.after-share.result lt c.loop-step.invariant.share (λ s bound past e were counted place mover. c.after-share.ensures.share s bound past e were counted (omega (arith, place, c.loop-step.invariant.place)) mover);
      place = omega (arith, c.loop-step.invariant.place);
      few = omega (arith, c.loop-step.invariant.few, c.after-share.ensures.turns);
    }

pub returns : goal.returns
returns c =
    let le : length c.args.steps.now ≤ c.loop-step.step-index = omega arith in
    share_whole c.args.count c.args.steps.now c.loop-step.step-index c.loop-step.share le c.loop-step.invariant.share
