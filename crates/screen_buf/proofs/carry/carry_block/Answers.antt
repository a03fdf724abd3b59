use Rattle.std.proofs.Common.{◌∙◌, arith}
use Rattle.screen_buf.proofs.Carries.{block_step, part_within}
use Rattle.screen_buf.proofs.carry.carry_block.Goals as goal

pub carry_span-requires-clause-to_within : goal.carry_span-requires-clause-to_within
carry_span-requires-clause-to_within c =
    let h = c.requires.fits.bottom in
    let r = c.loop-row-test.true in
    part_within _ _ _ c.args.width c.args.height _ (c.loop-row.invariant.size ∙ c.requires.to_size) c.requires.fits.right (omega arith)

pub carry_span-requires-clause-from_within : goal.carry_span-requires-clause-from_within
carry_span-requires-clause-from_within c =
    let h = c.requires.fits.from_bottom in
    let r = c.loop-row-test.true in
    part_within _ _ _ c.args.width c.args.height _ c.requires.from_size c.requires.fits.from_right (omega arith)

pub loop-row-preserved : goal.loop-row-preserved
loop-row-preserved c = block_step _ _ _ _ _ _ _ _ c.requires.fits c.loop-row-test.true c.loop-row.invariant c.carry_span.ensures
