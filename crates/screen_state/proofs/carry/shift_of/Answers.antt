use Rattle.std.proofs.Common.{sym, ◌∙◌}
use Rattle.screen_state.proofs.Shifts.{copied_none, copied_some}
use Rattle.screen_state.proofs.carry.shift_of.Goals as goal

pub returns-in-Some : goal.returns-in-Some
returns-in-Some c = copied_some c.args.setup c.args.tree.now c.args.layout.now.tree c.args.entry c.in-Some.w c.find_window-w.result.0 c.origin_of.result c.origin_of-in-Some.result c.shift_between.result (sym c.copied_window.ensures ∙ c.in-Some.is) c.find_window-w.ensures c.origin_of.ensures c.origin_of-in-Some.ensures c.shift_between.ensures

pub returns-in-None : goal.returns-in-None
returns-in-None c = copied_none c.args.setup c.args.tree.now c.args.layout.now.tree c.args.entry (sym c.copied_window.ensures ∙ c.in-None.is)
