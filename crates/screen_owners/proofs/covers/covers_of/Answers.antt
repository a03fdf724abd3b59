use Rattle.std.proofs.lemmas.Grind.{common_steps}
use Rattle.std.proofs.Common.{get_or, arith}
use Rattle.std.proofs.lemmas.List.{get_or_default}
use Rattle.win_num.specs.declared.message.Hwnd.{Hwnd}
use Rattle.screen_owners.proofs.Cuts.{put_more}
use Rattle.screen_owners.proofs.covers.covers_of.Goals as goal

pub loop-child-preserved : goal.loop-child-preserved
loop-child-preserved c p on =
    let xs = c.siblings-siblings.result.now in
    let i = c.loop-child.child-index in
    let d : Hwnd = record { 0 = 0 } in
    put_more _ xs i _ _ _ _ (get_or xs i d) (omega arith) (get_or_default xs i d (get_or xs i d) (omega arith)) (c.in_ok-put.ensures p on) (c.loop-child.invariant p on)

pub returns : goal.returns
returns c = grind (arith, common_steps)
