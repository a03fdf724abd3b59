use Rattle.std.proofs.Common.{length, arith, ap, ◌∙◌}
use Rattle.timer_source.specs.Settings.{restarted}
use Rattle.timer_source.proofs.SettingLemmas.{early_restarted, written_back}
use Rattle.timer_source.proofs.timers.Timers.restart.Goals as goal

pub invariant_of-self : goal.invariant_of-self
invariant_of-self c =
    let back = written_back c.self.inside.settings.len c.begin_anew.new.settings c.self.inside.settings.items (c.begin_anew.auto.settings ∙ ap length c.deref_mut.ensures.value) (omega (arith, c.deref_mut.ensures.len, ap length c.deref_mut.ensures.value)) in
    early_restarted c.args.w c.args.id c.args.clock c.self.inside.settings.items _ (back ∙ c.begin_anew.ensures ∙ ap (restarted c.args.w c.args.id c.args.clock) c.deref_mut.ensures.value) c.requires c.self.invariant
