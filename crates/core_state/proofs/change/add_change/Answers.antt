use Rattle.std.proofs.Common.{◌≡◌, true, false, refl, sym, ◌∙◌}
use Rattle.std.proofs.lemmas.Bool.{false≢true}
use Rattle.dialog_state.specs.Dialogs.{turns}
use Rattle.dialog_state.proofs.Steps.{follows_same}
use Rattle.core_state.proofs.TurnedDialogs.{adds_nothing, on_any_err, on_any_ok, threads_stay}
use Rattle.core_state.proofs.change.add_change.Goals as goal

pub returns-then-turns : goal.returns-then-turns
returns-then-turns c =
    let r = c.follow.result in
    let a = c.args.entry.answer in
    let call = c.args.entry.call in
    let stamp = c.args.stamp in
    let turned : turns a call ≡ true = sym c.turns.ensures ∙ c.if-turns.true in
    let nothing = adds_nothing a call turned in
    record {
      classes = on_any_ok r (nothing.classes c.args.classes.now);
      tree = on_any_ok r (nothing.tree c.args.entry.who.0 c.args.tree.now);
      order = on_any_ok r (nothing.order c.args.tree.now c.args.order.now);
      threads = on_any_ok r (threads_stay a call c.args.tree.now.live stamp.time stamp.cursor stamp.shift c.args.entry.who.0 c.args.threads.now.items turned);
      sends = on_any_ok r (nothing.sends c.args.tree.now.live stamp.time stamp.place c.args.entry.who c.args.sends.now);
      timers = on_any_ok r (nothing.timers c.args.entry.who stamp.time c.args.timers.now);
      inputs = on_any_ok r (nothing.inputs c.args.meant c.args.inputs.now);
      drawn = on_any_ok r (λ drawn. absurd (false≢true (sym nothing.drawn ∙ drawn)));
      display = on_any_ok r (λ drawn. refl);
      dialogs = c.follow.ensures.ok;
      classes_stay = on_any_err r refl;
      tree_stays = on_any_err r refl;
      order_stays = on_any_err r refl;
      threads_stay = on_any_err r refl;
      sends_stay = on_any_err r refl;
      timers_stay = on_any_err r refl;
      inputs_stay = on_any_err r refl;
      display_stays = on_any_err r refl;
      dialogs_stay = c.follow.ensures.err;
    }

pub returns : goal.returns
returns c =
    let r = c.add_item.result in
    let a = c.args.entry.answer in
    let call = c.args.entry.call in
    let still : turns a call ≡ false = sym c.turns.ensures ∙ c.if-turns.false in
    let added = c.add_item.ensures in
    record {
      classes = added.classes;
      tree = added.tree;
      order = added.order;
      threads = added.threads;
      sends = added.sends;
      timers = added.timers;
      inputs = added.inputs;
      drawn = added.drawn;
      display = added.display;
      dialogs = on_any_ok r (follows_same a call c.args.dialogs.now still);
      classes_stay = added.classes_stay;
      tree_stays = added.tree_stays;
      order_stays = added.order_stays;
      threads_stay = added.threads_stay;
      sends_stay = added.sends_stay;
      timers_stay = added.timers_stay;
      inputs_stay = added.inputs_stay;
      display_stays = added.display_stays;
      dialogs_stay = on_any_err r refl;
    }
