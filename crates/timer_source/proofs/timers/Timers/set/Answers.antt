use Rattle.std.proofs.Common.{◌≡◌, false, rules, refl}
use Rattle.timer_source.specs.Settings.{AreEarly, has_no_room, without, setting_at}
use Rattle.timer_source.proofs.SettingLemmas.{early_without, early_push, few_set}
use Rattle.timer_source.proofs.timers.Timers.set.Goals as goal
use Rattle.timer_source.proofs.timers.Timers.set.Goals.{else-not-stands_for-via-then-not-stands_for+else-is_full, else-not-stands_for-via-else-not-stands_for}

pub invariant_of-self-2 : goal.invariant_of-self-2
invariant_of-self-2 c =
    let left : AreEarly (without c.args.w c.args.id c.self.inside.settings.items) = early_without c.args.w c.args.id c.self.inside.settings.items _ refl c.self.invariant in
    early_push (without c.args.w c.args.id c.self.inside.settings.items) _ (setting_at c.args.t c.args.w c.args.id c.args.ms c.args.clock) (search rules) left c.requires

pub returns-clause-few : goal.returns-clause-few
returns-clause-few c = λ u few.
    let room : has_no_room c.args.t c.args.w c.args.id c.args.self.now ≡ false = elim c.else-not-stands_for.branch [
      | else-not-stands_for-via-then-not-stands_for+else-is_full w ↦ search rules
      | else-not-stands_for-via-else-not-stands_for w ↦ search rules
    ] in
    few_set c.args.t u c.args.w c.args.id c.args.self.now _ (setting_at c.args.t c.args.w c.args.id c.args.ms c.args.clock) (search rules) refl room few
