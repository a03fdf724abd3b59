use Rattle.std.proofs.Common.{rules, tests}
use Rattle.std.proofs.lemmas.Fn.{filter_same}
use Rattle.std.proofs.iter.Serving.{serving}
use Rattle.dirty_windows.specs.declared.entries.DirtyWindow.{DirtyWindow}
use Rattle.dirty_windows.specs.LookUps.{is_among, AreSorted}
use Rattle.dirty_windows.proofs.entries.keep_listed.Goals as goal

pub retain-requires : goal.retain-requires
retain-requires c = let sorted : AreSorted c.args.live.now = c.requires in grind (serving, sorted)

pub returns : goal.returns
returns c = filter_same _ (λ (d : DirtyWindow). is_among d.window.0 c.args.live.now) _ (λ x b q k. search (rules, tests)) _ _ c.retain.ensures.filtered
