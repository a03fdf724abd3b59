use Rattle.std.proofs.Common.{rules, refl}
use Rattle.core_state.proofs.DisplaySteps.{no_draws}
use Rattle.core_state.proofs.change.add_item.Goals as goal

pub returns-in_default : goal.returns-in_default
returns-in_default c = record {
  classes = search rules;
  tree = search rules;
  order = search rules;
  threads = search rules;
  sends = search rules;
  timers = search rules;
  inputs = search rules;
  drawn = λ drawn. absurd (no_draws c.args.entry.call c.args.entry.answer c.in_default.not-Okay c.in_default.not-Painting c.in_default.not-Snap drawn);
  display = λ drawn. refl;
  classes_stay = search rules;
  tree_stays = search rules;
  order_stays = search rules;
  threads_stay = search rules;
  sends_stay = search rules;
  timers_stay = search rules;
  inputs_stay = search rules;
  display_stays = search rules;
}
