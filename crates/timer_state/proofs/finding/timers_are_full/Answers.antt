use Rattle.std.proofs.Common.{length, nat_le, ap, ◌∙◌}
use Rattle.timer_source.specs.Settings.{of_thread}
use Rattle.timer_state.proofs.Reading.{full_found}
use Rattle.timer_state.proofs.finding.timers_are_full.Goals as goal

pub returns : goal.returns
returns c = λ past kept. c.is_full.ensures ∙ ap (λ l. nat_le 256 (length (of_thread c.args.thread l))) kept ∙ full_found past c.args.thread
