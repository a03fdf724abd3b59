use Rattle.std.proofs.Common.{rules, filter, not, ap, ◌∙◌}
use Rattle.std.proofs.lemmas.Fn.{filter_same}
use Rattle.timer_source.proofs.SettingLemmas.{early_picked}
use Rattle.timer_source.proofs.timers.Timers.purge_those.Goals as goal

pub invariant_of-self : goal.invariant_of-self
invariant_of-self g c = early_picked c.retain.ensures.filtered.0 _ _ c.retain.ensures.filtered.4 c.self.invariant

pub returns : goal.returns
returns g c = λ test told.
    filter_same _ (λ s. not (test s.hwnd.0)) _ (λ x b f' k. search (rules, told)) _ _ c.retain.ensures.filtered
    ∙ ap (filter (λ s. not (test s.hwnd.0))) c.self.view_is
