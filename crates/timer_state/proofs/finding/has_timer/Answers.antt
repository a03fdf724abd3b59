use Rattle.std.proofs.Common.{rules, is_some, sym, ap, ◌∙◌}
use Rattle.timer_source.specs.Settings.{is_set}
use Rattle.window_state.proofs.Lookups.{none_found}
use Rattle.window_state.proofs.TreeFacts.{is_live_at}
use Rattle.timer_state.proofs.Reading.{owner_lives, timer_found}
use Rattle.timer_state.proofs.finding.has_timer.Goals as goal

pub returns-in-Some : goal.returns-in-Some
returns-in-Some c = λ setup past lawful at kept. c.has.ensures ∙ ap (is_set c.in-Some.window c.args.id) kept ∙ timer_found past c.in-Some.window c.args.w c.args.id (search rules)

pub returns-in-None : goal.returns-in-None
returns-in-None c = λ setup past lawful at kept.
    sym (ap is_some (owner_lives setup past c.args.w c.args.id lawful (is_live_at past c.args.tree.now at c.args.w ∙ ap is_some (none_found c.args.tree.now.live c.args.w (sym c.in-None.is ∙ c.find.ensures.window)))))
