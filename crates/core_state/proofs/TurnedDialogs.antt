-- An entry that turns a dialog adds nothing else.
use Rattle.std.proofs.Common.{◌≡◌, ℕ, Bool, true, false, List, Result, Ok, Err, OnOk, OnErr, refl, sym, subst}
use Rattle.std.proofs.lemmas.Bool.{false≢true}
use Rattle.win_num.specs.declared.message.Thread.{Thread}
use Rattle.win_num.specs.declared.shapes.Point.{Point}
use Rattle.win_class.specs.ClassTable.{ClassTable}
use Rattle.win_order.specs.Layers.{Layers}
use Rattle.win_rows.specs.declared.window.Window.{Window as KeptWindow}
use Rattle.win_rows.specs.Windows.{Windows}
use Rattle.user_model.specs.declared.call.Call.{Call}
use Rattle.user_model.specs.declared.call.Call.TheVariants.{BeginDialog, DialogState, EndDialog}
use Rattle.user_model.specs.declared.entry.Answer.{Answer}
use Rattle.user_model.specs.declared.entry.Answer.TheVariants as answers
use Rattle.dialog_state.specs.Dialogs.{turns}
use Rattle.input_queue.specs.declared.element.Element.{Element as KeptElement}
use Rattle.pending_state.specs.declared.changes.Meant.{Meant}
use Rattle.pending_state.specs.Changes.{added_by}
use Rattle.screen_state.specs.Screens.{draws}
use Rattle.send_state.specs.Parts.{SendParts}
use Rattle.thread_queues.specs.Changes.{Change, changed, none}
use Rattle.thread_queues.specs.Deliveries.{adding_in}
use Rattle.thread_queues.specs.Queues.{EachBy}
use Rattle.thread_state.specs.Threads.{ThreadView}
use Rattle.timer_source.specs.declared.setting.Setting.{Setting}
use Rattle.timer_state.specs.Changes.{added_timers}
use Rattle.window_state.specs.Effects.{IsAddedBy, added_classes}
use Rattle.window_state.specs.Orders.{IsOrderAdded}
use Rattle.core_state.specs.Sendings.{added_sends}

-- the parts that an answer may add to stay as they were
pub record AddsNothing (a : Answer) (call : Call) : Type 0 where
  pub classes : (t : ClassTable) → t ≡ added_classes a call t
  pub tree : (who : ℕ) (t : Windows) → IsAddedBy who a call t t
  pub order : (t : Windows) (z : Layers) → IsOrderAdded a call t t z z
  pub threads : (ws : List KeptWindow) (time : ℕ) (p : Point) (shift : Bool) (who : ℕ) → adding_in ws time p shift who a call ≡ none
  pub sends : (ws : List KeptWindow) (time place : ℕ) (who : Thread) (p : SendParts) → p ≡ added_sends ws time place who a call p
  pub timers : (who : Thread) (time : ℕ) (l : List Setting) → l ≡ added_timers who time a call l
  pub inputs : (meant : Meant) (l : List KeptElement) → l ≡ added_by meant a call l
  pub drawn : draws call a ≡ false

pub adds_nothing : (a : Answer) (call : Call) → turns a call ≡ true → AddsNothing a call
adds_nothing (answers.Window owner) (BeginDialog w) h = record { classes = λ t. refl; tree = λ who t. refl; order = λ t z. refl; threads = λ ws time p shift who. refl; sends = λ ws time place who p. refl; timers = λ who time l. refl; inputs = λ meant l. refl; drawn = refl }
adds_nothing answers.Okay (EndDialog w v) h = record { classes = λ t. refl; tree = λ who t. refl; order = λ t z. refl; threads = λ ws time p shift who. refl; sends = λ ws time place who p. refl; timers = λ who time l. refl; inputs = λ meant l. refl; drawn = refl }
adds_nothing (answers.Finished v) (DialogState w) h = record { classes = λ t. refl; tree = λ who t. refl; order = λ t z. refl; threads = λ ws time p shift who. refl; sends = λ ws time place who p. refl; timers = λ who time l. refl; inputs = λ meant l. refl; drawn = refl }
adds_nothing _ _ h = absurd (false≢true h)

-- what is kept of each thread stays too
pub threads_stay : (a : Answer) (call : Call) (ws : List KeptWindow) (time : ℕ) (p : Point) (shift : Bool) (who : ℕ) (threads : List ThreadView) → turns a call ≡ true → EachBy (λ t. changed t (adding_in ws time p shift who a call)) threads threads
threads_stay a call ws time p shift who threads h = subst (λ (change : Change). EachBy (λ t. changed t change) threads threads) (sym ((adds_nothing a call h).threads ws time p shift who)) (record { same_length = refl; at = λ i d lt. refl })

-- what holds anyhow holds where it is asked for
pub on_any_ok : {E P : Type 0} (r : Result (Unit {0}) E) → P → OnOk r P
on_any_ok (Ok x) holds = holds
on_any_ok (Err e) holds = tt

pub on_any_err : {E P : Type 0} (r : Result (Unit {0}) E) → P → OnErr r P
on_any_err (Ok x) holds = tt
on_any_err (Err e) holds = holds
