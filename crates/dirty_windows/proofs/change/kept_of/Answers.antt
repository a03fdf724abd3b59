use Rattle.std.proofs.Common.{List, subst, arith}
use Rattle.std.proofs.lemmas.List.{take_all}
use Rattle.dirty_windows.specs.declared.entries.DirtyWindow.{DirtyWindow}
use Rattle.dirty_windows.specs.Changes.{IsCut}
use Rattle.dirty_windows.proofs.Lists.{above_item}
use Rattle.dirty_windows.proofs.Cutting.{cut_more, cut_start}
use Rattle.dirty_windows.proofs.change.kept_of.Goals as goal

pub loop-d-init : goal.loop-d-init
loop-d-init c = cut_start c.args.owners.now c.args.moved.now c.args.carried.now c.args.entries.now _ c.new-kept.ensures.items

pub settle-requires-clause-rising : goal.settle-requires-clause-rising
settle-requires-clause-rising c = c.loop-d.invariant.rising

pub settle-requires-clause-window : goal.settle-requires-clause-window
settle-requires-clause-window c = above_item c.args.entries.now c.loop-d.d-index c.d-item.result c.requires.rising c.loop-d-test.true c.d-item.is

pub loop-d-preserved : goal.loop-d-preserved
loop-d-preserved c = cut_more c.args.owners.now c.args.moved.now c.args.carried.now c.args.entries.now c.loop-d.d-index c.d-item.result c.in_ok-update.update c.loop-d.kept.items _ c.requires.rising c.loop-d-test.true c.d-item.is c.in_ok-update.ensures.area c.in_ok-update.ensures.erases c.in_ok-settle.ensures.ok c.loop-d.invariant

pub returns : goal.returns
returns c = subst (λ (ds : List DirtyWindow). IsCut c.args.owners.now c.args.moved.now c.args.carried.now ds c.loop-d.kept.items) (take_all c.loop-d.d-index c.args.entries.now (omega arith)) c.loop-d.invariant
