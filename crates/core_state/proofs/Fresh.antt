-- The parts of a machine without entries stand for the past without entries.
use Rattle.std.proofs.Common.{◌≡◌, ℕ, List, [], All, length, reverse, ap, sym, subst, arith}
use Rattle.user_model.specs.declared.entry.Entry.{Entry}
use Rattle.user_model.specs.declared.entry.Setup.{Setup}
use Rattle.user_model.specs.declared.story.SendStory.{SendStory}
use Rattle.user_model.specs.Setups.{IsSetup}
use Rattle.input_queue.specs.declared.element.Element.{Element as KeptElement}
use Rattle.core_state.specs.declared.progress.Progress.{Progress}
use Rattle.core_state.specs.Progress.{no_progress}
use Rattle.core_state.specs.States.{Stands, parts}
use Rattle.win_rows.specs.Windows.{Windows, no_windows}
use Rattle.win_class.specs.ClassTable.{ClassTable, no_classes}
use Rattle.send_state.specs.Parts.{SendParts, no_parts}
use Rattle.send_state.specs.Standing.{MarksStand, PartsStand}
use Rattle.send_state.specs.Tallies.{tally_at}
use Rattle.send_state.proofs.Marks.{marks-fresh}
use Rattle.send_state.specs.declared.tally.Tally.{Tally}
use Rattle.timer_source.specs.declared.setting.Setting.{Setting}
use Rattle.thread_state.specs.Threads.{ThreadView, fresh_thread}
use Rattle.win_order.specs.Layers.{Layers, empty}
use Rattle.display_state.specs.Displays.{Shown, IsDisplayAt}
use Rattle.group_state.specs.GroupTables.{Kept, IsGroupsAt}
use Rattle.look_state.specs.Looks.{AreLooksAt, LookView}
use Rattle.user_model.specs.declared.dialog.Dialog.{Dialog}
use Rattle.dialog_state.specs.Dialogs.{AreDialogsAt}
use Rattle.dialog_state.proofs.Steps.{none_at_first}
use Rattle.core_state.proofs.FreshSends.{no_order, no_parts_stand, no_stories, no_tree}

pub fresh_stands : (setup : Setup) (history : List Entry) (tree : Windows) (order : Layers) (display : Shown) (classes : ClassTable) (threads : List ThreadView) (timers : List Setting) (groups : Kept) (inputs : List KeptElement) (progress : Progress) (sends : SendParts) (tally : Tally) (stories : List SendStory) (looks : List LookView) (dialogs : List (ℕ × Dialog))
    → IsSetup setup → history ≡ [] → tree ≡ no_windows → order ≡ empty → IsDisplayAt setup [] display → classes ≡ no_classes → length threads ≡ setup.threads → All (λ s. s ≡ fresh_thread) threads → timers ≡ [] → IsGroupsAt setup [] groups → inputs ≡ [] → progress ≡ no_progress → sends ≡ no_parts setup.threads → tally ≡ tally_at [] → stories ≡ [] → AreLooksAt setup [] looks → dialogs ≡ []
    → Stands setup (reverse history) (parts tree order display classes threads timers groups inputs progress sends tally stories looks dialogs)
fresh_stands setup history tree order display classes threads timers groups inputs progress sends tally stories looks dialogs ready none is_tree is_order shown is_classes count fresh is_timers grouped is_inputs is_progress is_sends is_tally is_stories looked is_dialogs =
    subst (λ (l : List Entry). Stands setup (reverse l) (parts tree order display classes threads timers groups inputs progress sends tally stories looks dialogs)) (sym none) (record {
      ready = ready;
      lawful = tt;
      short = omega arith;
      tree = no_tree tree is_tree;
      order = no_order order is_order;
      display = shown;
      classes = is_classes;
      count = count;
      each = record { at = λ i d less. fresh i d less };
      timers = is_timers;
      groups = grouped;
      untaken = is_inputs;
      posts = ap (λ (p : Progress). p.posts) is_progress;
      injected = ap (λ (p : Progress). p.inputs) is_progress;
      clock = ap (λ (p : Progress). p.time) is_progress;
      cursor = ap (λ (p : Progress). p.cursor) is_progress;
      sends = subst (PartsStand setup []) (sym is_sends) (no_parts_stand setup ready);
      marks = subst (λ (p : SendParts). MarksStand setup [] p.marks) (sym is_sends) (marks-fresh setup);
      tally = is_tally;
      stories = no_stories stories is_stories;
      looks = looked;
      dialogs = subst (AreDialogsAt []) (sym is_dialogs) none_at_first;
    })
