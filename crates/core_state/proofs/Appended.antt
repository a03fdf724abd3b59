-- What the parts stand for after an entry, and what the change of an entry needs.
use Rattle.std.proofs.Common.{◌≡◌, ℕ, ◌+◌, ◌<◌, ◌≤◌, Bool, true, false, List, ◌∷◌, length, Option, refl, ap, ◌∙◌, sym, subst, arith}
use Rattle.std.proofs.lemmas.Bool.Decides.{nat_tests}
use Rattle.win_num.specs.declared.message.Thread.{Thread}
use Rattle.win_num.specs.declared.send.Cause.{Cause}
use Rattle.win_num.specs.declared.shapes.Point.{Point}
use Rattle.win_class.specs.ClassTable.{ClassTable, unregister_refusal}
use Rattle.win_rows.specs.declared.window.Window.{Window as KeptWindow}
use Rattle.win_rows.specs.Windows.{Windows}
use Rattle.win_tree.specs.Kin.{doom_refusal, drop_refusal}
use Rattle.user_model.specs.declared.call.Call.{Call}
use Rattle.user_model.specs.declared.call.Call.TheVariants as calls
use Rattle.user_model.specs.declared.entry.Answer.{Answer}
use Rattle.user_model.specs.declared.entry.Answer.TheVariants as answers
use Rattle.user_model.specs.declared.entry.Entry.{Entry}
use Rattle.user_model.specs.declared.entry.Setup.{Setup}
use Rattle.user_model.specs.Past.{Past, is_full, place_after}
use Rattle.user_model.specs.Deeds.{posting_of}
use Rattle.user_model.specs.Keys.{is_shift_down}
use Rattle.user_model.specs.Idle.{reply}
use Rattle.user_model.specs.Legal.{IsLawful}
use Rattle.user_model.specs.Threads.{is_running}
use Rattle.user_model.proofs.DeliveryReplies.{post_told}
use Rattle.user_model.proofs.ReplyLaws.{by_row}
use Rattle.thread_queues.specs.Changes.{Change, changed, marked, noted, count_kept, time_kept}
use Rattle.thread_queues.specs.Deliveries.{adding_in, change_of_post, effect_in, posting_in}
use Rattle.window_state.specs.Effects.{IsAddedBy, IsAffected, added_classes, affected_classes}
use Rattle.window_state.specs.Needs.{FitsLooking, FitsNaming, FitsUnmaking}
use Rattle.win_order.specs.Layers.{Layers}
use Rattle.window_state.specs.Orders.{FitsOrder, FitsOrderEffect, IsOrderAdded, affected_order}
use Rattle.window_state.proofs.OrderNeeds.{fits_order, fits_order_effect}
use Rattle.window_state.proofs.OrderSteps.{order_after}
use Rattle.core_state.specs.Needs.{FitsCarrying, FitsAdding, FitsEffect}
use Rattle.thread_state.specs.Threads.{ThreadView, thread_at}
use Rattle.send_state.specs.Parts.{SendParts}
use Rattle.send_state.specs.Standing.{MarksStand, PartsStand}
use Rattle.send_state.specs.Stories.{EachStory, noted_answer, with_begun}
use Rattle.send_state.specs.Tallies.{FitsTally, first_cause, named_send, tallied}
use Rattle.user_model.specs.declared.story.SendStory.{SendStory}
use Rattle.send_state.specs.declared.tally.Tally.{Tally}
use Rattle.core_state.specs.Sendings.{FitsAddedSends, FitsSendEffect, added_sends, losses_by, noted_losses, affected_sends}
use Rattle.core_state.proofs.SendCounts.{counts_after, grown_losses, losses_few, same_losses, tally_fits}
use Rattle.core_state.proofs.SendLosses.{dropped_stand, ended_stand}
use Rattle.core_state.proofs.SendNeeds.{grown_fits, settled_fits}
use Rattle.core_state.proofs.SendSteps.{sends_after}
use Rattle.core_state.proofs.StoryChanges.{losses_noted, stories_after}
use Rattle.core_state.specs.States.{Parts, Stands, parts}
use Rattle.core_state.specs.Progress.{moment_of}
use Rattle.look_state.specs.declared.moment.Moment.{Moment}
use Rattle.look_state.specs.Looks.{AreLooksAt, LookView, moment_at}
use Rattle.user_model.specs.Places.{clock}
use Rattle.user_model.specs.Posts.{posts}
use Rattle.user_model.specs.Inputs.{inputs}
use Rattle.thread_queues.specs.Queues.{EachBy, IsOne}
use Rattle.window_state.proofs.ClassSteps.{classes_after, fits_naming, fits_unregister}
use Rattle.core_state.proofs.Deliveries.{both_changes, fits_post, fits_posting, running_is_one}
use Rattle.window_state.proofs.NewWindows.{doom_not_refused, drop_not_refused}
use Rattle.thread_queues.proofs.ThreadChanges.{thread-next, count_kept-next, time_kept-next}
use Rattle.window_state.proofs.TreeNeeds.{fits_making, fits_unmaking}
use Rattle.window_state.proofs.LookSteps.{fits_looking}
use Rattle.window_state.proofs.TreeSteps.{tree_after}
use Rattle.display_state.specs.Displays.{Shown, IsDisplayAt}
use Rattle.timer_source.specs.declared.setting.Setting.{Setting}
use Rattle.timer_state.specs.TimerLists.{timers_at}
use Rattle.group_state.specs.GroupTables.{Kept, IsGroupsAt}
use Rattle.input_queue.specs.declared.element.Element.{Element as KeptElement}
use Rattle.pending_state.specs.declared.changes.Meant.{Meant}
use Rattle.pending_state.specs.Changes.{FitsInjecting, added_by, counted_with, cursor_with, left_by}
use Rattle.pending_state.specs.Meanings.{IsMeantBy}
use Rattle.pending_state.specs.Pending.{untaken_at}
use Rattle.pending_state.proofs.Cursors.{counted_with-next, cursor_with-next}
use Rattle.pending_state.proofs.Needs.{fits_injecting}
use Rattle.pending_state.proofs.Steps.{inputs_after}
use Rattle.core_state.specs.declared.progress.Progress.{Progress}
use Rattle.user_model.specs.declared.dialog.Dialog.{Dialog}
use Rattle.dialog_state.specs.Dialogs.{Follows}
use Rattle.dialog_state.proofs.Steps.{followed_stands}

-- ---- what a change needs

adding_by : (setup : Setup) (past : Past) (p : Parts) (shift : Bool) (who : Thread) (a : Answer) (call : Call) → Stands setup past p → (is_running setup past who.0 ≡ true → posting_of shift call ≡ posting_of (is_shift_down past who.0) call) → a ≡ reply setup past who.0 call → FitsAdding p.classes p.tree p.threads p.time p.cursor shift who.0 a call
adding_by setup past p shift who (answers.Posted k) call st down right =
    let row = by_row setup past who.0 call (answers.Posted k) (sym right) refl in
    let post = post_told setup past who.0 call k row.is_row in
    (fits_post setup past p.tree.live shift who.0 k call post st.tree.windows (down row.running), fits_posting setup past p.threads p.tree.live p.time p.cursor shift who.0 k call post st.ready st.lawful st.count st.each row.running st.tree.windows st.clock st.cursor (down row.running))
adding_by setup past p shift who (answers.Value n) call st down right = subst (λ (t : ClassTable). FitsNaming t call) (sym st.classes) (fits_naming setup past who.0 n call (sym right))
adding_by setup past p shift who (answers.Window w) call st down right = fits_making setup past p.tree who w call st.lawful st.tree (sym right)
adding_by setup past p shift who _ call st down right = tt

pub growth_fits : (setup : Setup) (past : Past) (p : Parts) (shift : Bool) (e : Entry) → Stands setup past p → (is_running setup past e.who.0 ≡ true → posting_of shift e.call ≡ posting_of (is_shift_down past e.who.0) e.call) → e.answer ≡ reply setup past e.who.0 e.call → FitsAdding p.classes p.tree p.threads p.time p.cursor shift e.who.0 e.answer e.call
growth_fits setup past p shift e st down right = adding_by setup past p shift e.who e.answer e.call st down right

-- what an entry injects fits
pub injecting_fits : (setup : Setup) (past : Past) (p : Parts) (meant : Meant) (e : Entry) → Stands setup past p → IsMeantBy setup past e.call meant → e.answer ≡ reply setup past e.who.0 e.call → FitsInjecting meant p.inputs e.answer e.call
injecting_fits setup past p meant e st m right = subst (λ l. FitsInjecting meant l e.answer e.call) (sym st.untaken) (fits_injecting setup past e meant st.ready st.lawful m right)

-- a thread that runs, after a change that keeps the count of threads
one_of : (setup : Setup) (past : Past) (p : Parts) (threads : List ThreadView) (t : ℕ) → Stands setup past p → length threads ≡ length p.threads → is_running setup past t ≡ true → IsOne threads t
one_of setup past p threads t st same running = running_is_one setup past threads t (same ∙ st.count) running

carrying_by : (setup : Setup) (past : Past) (p : Parts) (classes : ClassTable) (tree : Windows) (threads : List ThreadView) (who : Thread) (call : Call) → Stands setup past p → answers.Okay ≡ reply setup past who.0 call → classes ≡ p.classes → tree ≡ p.tree → length threads ≡ length p.threads → FitsCarrying classes tree threads who.0 call
carrying_by setup past p classes tree threads who (calls.PostQuit code) st right same_classes same_tree same = one_of setup past p threads who.0 st same (by_row setup past who.0 (calls.PostQuit code) answers.Okay (sym right) refl).running
carrying_by setup past p classes tree threads who (calls.Unregister name) st right same_classes same_tree same =
    ap (λ (t : ClassTable). unregister_refusal t name false) (same_classes ∙ st.classes) ∙ fits_unregister setup past who.0 name (sym right)
carrying_by setup past p classes tree threads who (calls.Doom w) st right same_classes same_tree same = ap (λ (t : Windows). doom_refusal t.live w) same_tree ∙ doom_not_refused setup past p.tree who.0 w st.tree (sym right)
carrying_by setup past p classes tree threads who (calls.Drop w) st right same_classes same_tree same =
    (one_of setup past p threads who.0 st same (by_row setup past who.0 (calls.Drop w) answers.Okay (sym right) refl).running, ap (λ (t : Windows). drop_refusal t.live w) same_tree ∙ drop_not_refused setup past p.tree who.0 w st.tree (sym right))
carrying_by setup past p classes tree threads who _ st right same_classes same_tree same = tt

effect_by : (setup : Setup) (past : Past) (p : Parts) (classes : ClassTable) (tree : Windows) (threads : List ThreadView) (who : Thread) (a : Answer) (call : Call) → Stands setup past p → a ≡ reply setup past who.0 call → classes ≡ added_classes a call p.classes → IsAddedBy who.0 a call p.tree tree → length threads ≡ length p.threads → FitsEffect classes tree threads who.0 a call
effect_by setup past p classes tree threads who answers.Okay call st right grown made same = carrying_by setup past p classes tree threads who call st right grown made same
effect_by setup past p classes tree threads who (answers.Value n) call st right grown made same = subst (λ (t : Windows). FitsLooking t call) (sym made) (fits_looking setup past p.tree who.0 n call st.tree (sym right))
effect_by setup past p classes tree threads who (answers.Tell v) call st right grown made same = subst (λ (t : Windows). FitsUnmaking t call) (sym made) (fits_unmaking setup past p.tree who (answers.Tell v) call st.tree (sym right) refl)
effect_by setup past p classes tree threads who (answers.Last v) call st right grown made same = subst (λ (t : Windows). FitsUnmaking t call) (sym made) (fits_unmaking setup past p.tree who (answers.Last v) call st.tree (sym right) refl)
effect_by setup past p classes tree threads who (answers.Got o n m) call st right grown made same = one_of setup past p threads who.0 st same (by_row setup past who.0 call (answers.Got o n m) (sym right) refl).running
effect_by setup past p classes tree threads who answers.Ended call st right grown made same = one_of setup past p threads who.0 st same (by_row setup past who.0 call answers.Ended (sym right) refl).running
effect_by setup past p classes tree threads who _ call st right grown made same = tt

pub settling_fits : (setup : Setup) (past : Past) (p : Parts) (e : Entry) (classes : ClassTable) (tree : Windows) (threads : List ThreadView) → Stands setup past p → e.answer ≡ reply setup past e.who.0 e.call → classes ≡ added_classes e.answer e.call p.classes → IsAddedBy e.who.0 e.answer e.call p.tree tree → length threads ≡ length p.threads → FitsEffect classes tree threads e.who.0 e.answer e.call
settling_fits setup past p e classes tree threads st right grown made same = effect_by setup past p classes tree threads e.who e.answer e.call st right grown made same

-- what it needs of the order
pub ranking_fits : (setup : Setup) (past : Past) (p : Parts) (e : Entry) → Stands setup past p → e.answer ≡ reply setup past e.who.0 e.call → FitsOrder e.who.0 e.answer e.call p.tree p.order
ranking_fits setup past p e st right = fits_order setup past p.tree p.order e.who e.answer e.call st.lawful st.tree st.order right

leaving_by : (setup : Setup) (past : Past) (p : Parts) (who : Thread) (a : Answer) (call : Call) (tree : Windows) (order : Layers) → FitsOrderEffect who.0 a call p.tree p.order → IsAddedBy who.0 a call p.tree tree → IsOrderAdded a call p.tree tree p.order order → FitsOrderEffect who.0 a call tree order
leaving_by setup past p who answers.Okay call tree order fits made ranked = subst (λ (t : Windows). FitsOrderEffect who.0 answers.Okay call t order) (sym made) (subst (FitsOrderEffect who.0 answers.Okay call p.tree) (sym ranked) fits)
leaving_by setup past p who answers.Ended call tree order fits made ranked = subst (λ (t : Windows). FitsOrderEffect who.0 answers.Ended call t order) (sym made) (subst (FitsOrderEffect who.0 answers.Ended call p.tree) (sym ranked) fits)
leaving_by setup past p who _ call tree order fits made ranked = tt

pub leaving_fits : (setup : Setup) (past : Past) (p : Parts) (e : Entry) (tree : Windows) (order : Layers) → Stands setup past p → e.answer ≡ reply setup past e.who.0 e.call → IsAddedBy e.who.0 e.answer e.call p.tree tree → IsOrderAdded e.answer e.call p.tree tree p.order order → FitsOrderEffect e.who.0 e.answer e.call tree order
leaving_fits setup past p e tree order st right made ranked = leaving_by setup past p e.who e.answer e.call tree order (fits_order_effect setup past p.tree p.order e.who e.answer e.call st.lawful st.tree st.order right) made ranked

-- ---- the parts after an entry

-- an answer that makes a window changes nothing else
same_settling : (who : ℕ) (a : Answer) (call : Call) (old new : Windows) → IsAddedBy who a call old new → effect_in new.live who a call ≡ effect_in old.live who a call
same_settling who (answers.Window w) call old new made = refl
same_settling who a call old new made = ap (λ (t : Windows). effect_in t.live who a call) made

-- the same message is posted where a post is made, and then the caller runs
same_adding : (setup : Setup) (past : Past) (ws : List KeptWindow) (time : ℕ) (point : Point) (shift : Bool) (who : ℕ) (a : Answer) (call : Call) → (is_running setup past who ≡ true → posting_of shift call ≡ posting_of (is_shift_down past who) call) → a ≡ reply setup past who call → adding_in ws time point shift who a call ≡ adding_in ws time point (is_shift_down past who) who a call
same_adding setup past ws time point shift who (answers.Posted k) call down right = ap (λ o. change_of_post k (posting_in ws time point who o)) (down (by_row setup past who call (answers.Posted k) (sym right) refl).running)
same_adding setup past ws time point shift who _ call down right = refl

-- what is kept of a thread follows the past
thread_step : (setup : Setup) (past : Past) (p : Parts) (shift : Bool) (e : Entry) (tree : Windows) (t count : ℕ) → Stands setup past p → (is_running setup past e.who.0 ≡ true → posting_of shift e.call ≡ posting_of (is_shift_down past e.who.0) e.call) → e.answer ≡ reply setup past e.who.0 e.call → IsAddedBy e.who.0 e.answer e.call p.tree tree → count ≡ length (posts (e ∷ past))
    → marked t e count (noted t e (changed t (effect_in tree.live e.who.0 e.answer e.call) (changed t (adding_in p.tree.live p.time p.cursor shift e.who.0 e.answer e.call) (thread_at past t)))) ≡ thread_at (e ∷ past) t
thread_step setup past p shift e tree t count st down right made counted =
    ap (λ n. marked t e n (noted t e (changed t (effect_in tree.live e.who.0 e.answer e.call) (changed t (adding_in p.tree.live p.time p.cursor shift e.who.0 e.answer e.call) (thread_at past t))))) counted
    ∙ ap (marked t e (length (posts (e ∷ past)))) (
    ap (λ (c : Change). noted t e (changed t c (changed t (adding_in p.tree.live p.time p.cursor shift e.who.0 e.answer e.call) (thread_at past t)))) (same_settling e.who.0 e.answer e.call p.tree tree made)
    ∙ ap (noted t e) (both_changes past p.tree.live p.time p.cursor shift t e.who.0 e.answer e.call (thread_at past t) st.tree.windows st.clock st.cursor (same_adding setup past p.tree.live p.time p.cursor shift e.who.0 e.answer e.call down right))
    )
    ∙ thread-next setup past t e st.lawful right

-- the untaken input follows it too
pub inputs_step : (setup : Setup) (past : Past) (p : Parts) (meant : Meant) (e : Entry) (inputs1 inputs2 : List KeptElement) → Stands setup past p → IsMeantBy setup past e.call meant → e.answer ≡ reply setup past e.who.0 e.call → inputs1 ≡ added_by meant e.answer e.call p.inputs → inputs2 ≡ left_by e.who e.answer e.call inputs1 → inputs2 ≡ untaken_at setup (e ∷ past)
inputs_step setup past p meant e inputs1 inputs2 st m right added left =
    left ∙ ap (left_by e.who e.answer e.call) (added ∙ ap (added_by meant e.answer e.call) st.untaken)
    ∙ inputs_after setup past e meant st.ready st.lawful m right

same_sends_by : (old new : Windows) (place who : ℕ) (a : Answer) (call : Call) (q : SendParts) → IsAddedBy who a call old new → affected_sends new.live place who a call q ≡ affected_sends old.live place who a call q
same_sends_by old new place who (answers.Window w) call q made = refl
same_sends_by old new place who a call q made = ap (λ (t : Windows). affected_sends t.live place who a call q) made

same_sends : (old new : Windows) (time place : ℕ) (e : Entry) (q : SendParts) → IsAddedBy e.who.0 e.answer e.call old new → affected_sends new.live place e.who.0 e.answer e.call q ≡ affected_sends old.live place e.who.0 e.answer e.call q
same_sends old new time place e q made = same_sends_by old new place e.who.0 e.answer e.call q made

-- the sends that were brought up to date
sends_now : (setup : Setup) (past : Past) (p : Parts) (e : Entry) (place : ℕ) → IsLawful setup (e ∷ past) → Stands setup past p → place ≡ place_after past
    → PartsStand setup (e ∷ past) (affected_sends p.tree.live place e.who.0 e.answer e.call (added_sends p.tree.live p.time place e.who e.answer e.call p.sends))
sends_now setup past p e place lawful st here =
    subst (λ n. PartsStand setup (e ∷ past) (affected_sends p.tree.live n e.who.0 e.answer e.call (added_sends p.tree.live p.time n e.who e.answer e.call p.sends))) (sym here)
    (subst (λ c. PartsStand setup (e ∷ past) (affected_sends p.tree.live (place_after past) e.who.0 e.answer e.call (added_sends p.tree.live c (place_after past) e.who e.answer e.call p.sends))) (sym st.clock)
    (sends_after setup past e p.sends p.tree.live lawful st.sends st.tree.windows (λ w is_call is. dropped_stand setup past e p.sends p.tree.live w lawful st.sends st.tree.windows is_call is) (λ is. ended_stand setup past e p.sends p.tree.live lawful st.sends st.tree.windows is)))

-- what the sends need
pub sends_grow : (setup : Setup) (past : Past) (p : Parts) (e : Entry) (place : ℕ) → is_full past ≡ false → Stands setup past p → e.answer ≡ reply setup past e.who.0 e.call → place ≡ place_after past → FitsAddedSends p.tree.live p.time place e.who e.answer e.call p.sends
sends_grow setup past p e place room st right here =
    subst (λ n. FitsAddedSends p.tree.live p.time n e.who e.answer e.call p.sends) (sym here)
    (subst (λ c. FitsAddedSends p.tree.live c (place_after past) e.who e.answer e.call p.sends) (sym st.clock) (grown_fits setup past e p.sends p.tree.live st.ready st.lawful room right st.sends st.tree.windows))

same_needs : (old new : Windows) (place who : ℕ) (a : Answer) (call : Call) (q : SendParts) → IsAddedBy who a call old new → FitsSendEffect old.live place who a call q → FitsSendEffect new.live place who a call q
same_needs old new place who (answers.Window w) call q made fits = fits
same_needs old new place who a call q made fits = subst (λ (t : Windows). FitsSendEffect t.live place who a call q) (sym made) fits

pub sends_settle : (setup : Setup) (past : Past) (p : Parts) (e : Entry) (place : ℕ) (tree : Windows) (sends : SendParts) → is_full past ≡ false → Stands setup past p → e.answer ≡ reply setup past e.who.0 e.call → place ≡ place_after past → IsAddedBy e.who.0 e.answer e.call p.tree tree → sends ≡ added_sends p.tree.live p.time place e.who e.answer e.call p.sends → FitsSendEffect tree.live place e.who.0 e.answer e.call sends
sends_settle setup past p e place tree sends room st right here made begun =
    same_needs p.tree tree place e.who.0 e.answer e.call sends made
    (subst (FitsSendEffect p.tree.live place e.who.0 e.answer e.call) (sym begun)
    (subst (λ n. FitsSendEffect p.tree.live n e.who.0 e.answer e.call (added_sends p.tree.live p.time n e.who e.answer e.call p.sends)) (sym here)
    (subst (λ c. FitsSendEffect p.tree.live (place_after past) e.who.0 e.answer e.call (added_sends p.tree.live c (place_after past) e.who e.answer e.call p.sends)) (sym st.clock)
    (settled_fits setup past e p.sends p.tree.live st.lawful room right st.sends st.tree.windows))))

-- what was lost after what grew
losses_now : (p : Parts) (e : Entry) (place : ℕ) (tree : Windows) (sends : SendParts) → IsAddedBy e.who.0 e.answer e.call p.tree tree → sends ≡ added_sends p.tree.live p.time place e.who e.answer e.call p.sends → losses_by tree.live place e.who.0 e.answer e.call sends ≡ losses_by p.tree.live place e.who.0 e.answer e.call p.sends
losses_now p e place tree sends made begun =
    same_losses p.tree tree place e.who.0 e.answer e.call sends made
    ∙ ap (losses_by p.tree.live place e.who.0 e.answer e.call) begun ∙ grown_losses p.tree.live p.time place e.who e.answer e.call p.sends

-- the counts have room for one entry more
pub tally_step : (setup : Setup) (past : Past) (p : Parts) (e : Entry) (place lost : ℕ) (tree : Windows) (sends : SendParts) → Stands setup past p → e.answer ≡ reply setup past e.who.0 e.call → place ≡ place_after past → IsAddedBy e.who.0 e.answer e.call p.tree tree → sends ≡ added_sends p.tree.live p.time place e.who e.answer e.call p.sends → lost ≡ losses_by tree.live place e.who.0 e.answer e.call sends → FitsTally p.tally lost
tally_step setup past p e place lost tree sends st right here made begun counted =
    let same = counted ∙ losses_now p e place tree sends made begun ∙ ap (λ n. losses_by p.tree.live n e.who.0 e.answer e.call p.sends) here in
    tally_fits past p.tally lost st.tally st.short (subst (λ n. n ≤ 1024) (sym same) (losses_few setup past e p.sends p.tree.live (st.lawful, right) st.sends st.tree.windows))

-- what is kept of the sends
pub sends_step : (setup : Setup) (past : Past) (p : Parts) (e : Entry) (tree1 : Windows) (sends1 sends2 : SendParts) (place : ℕ) → Stands setup past p → e.answer ≡ reply setup past e.who.0 e.call → IsAddedBy e.who.0 e.answer e.call p.tree tree1
    → sends1 ≡ added_sends p.tree.live p.time place e.who e.answer e.call p.sends → sends2 ≡ affected_sends tree1.live place e.who.0 e.answer e.call sends1 → place ≡ place_after past → PartsStand setup (e ∷ past) sends2
sends_step setup past p e tree1 sends1 sends2 place st right made begun left here =
    subst (PartsStand setup (e ∷ past)) (sym (left ∙ same_sends p.tree tree1 p.time place e sends1 made ∙ ap (affected_sends p.tree.live place e.who.0 e.answer e.call) begun))
    (sends_now setup past p e place (st.lawful, right) st here)

-- how far the past with the entry comes
pub moment_step : (setup : Setup) (past : Past) (p : Parts) (e : Entry) (progress : Progress) (m : Moment) → Stands setup past p → e.answer ≡ reply setup past e.who.0 e.call
    → progress ≡ record { posts = count_kept e.answer p.post_count; inputs = counted_with e.answer p.input_count; time = time_kept e p.time; cursor = cursor_with e.answer e.call p.cursor }
    → m ≡ moment_of progress → m ≡ moment_at (e ∷ past)
moment_step setup past p e progress m st right went is =
    let injected : progress.inputs ≡ length (inputs (e ∷ past)) = ap (λ (q : Progress). q.inputs) went ∙ ap (counted_with e.answer) st.injected ∙ counted_with-next setup past e right in
    let time : progress.time ≡ clock (e ∷ past) = ap (λ (q : Progress). q.time) went ∙ ap (time_kept e) st.clock ∙ time_kept-next e past in
    is ∙ ap (λ n. made n progress.time) injected ∙ ap (λ n. made (length (inputs (e ∷ past))) n) time
  where
    made : ℕ → ℕ → Moment
    made inputs time = record { inputs = inputs; time = time }

-- the parts that were brought up to date stand for the past with the entry
pub stands_step : (setup : Setup) (past : Past) (p : Parts) (shift : Bool) (e : Entry) (classes1 classes2 : ClassTable) (tree1 tree2 : Windows) (order1 order2 : Layers) (display2 : Shown) (threads1 threads2 threads3 threads4 : List ThreadView) (timers2 : List Setting) (groups2 : Kept) (inputs2 : List KeptElement) (progress : Progress) (sends1 sends2 : SendParts) (first : Option Cause) (lost : ℕ) (tally : Tally) (stories1 stories2 stories3 : List SendStory) (looks2 : List LookView) (dialogs2 : List (ℕ × Dialog)) (place : ℕ)
    → is_full past ≡ false → e.answer ≡ reply setup past e.who.0 e.call → Stands setup past p → (is_running setup past e.who.0 ≡ true → posting_of shift e.call ≡ posting_of (is_shift_down past e.who.0) e.call)
    → classes1 ≡ added_classes e.answer e.call p.classes → classes2 ≡ affected_classes e.answer e.call classes1
    → IsAddedBy e.who.0 e.answer e.call p.tree tree1 → IsAffected e.who.0 e.answer e.call tree1 tree2
    → IsOrderAdded e.answer e.call p.tree tree1 p.order order1 → order2 ≡ affected_order e.answer e.call tree2 order1 → IsDisplayAt setup (e ∷ past) display2
    → EachBy (λ t. changed t (adding_in p.tree.live p.time p.cursor shift e.who.0 e.answer e.call)) p.threads threads1
    → EachBy (λ t. changed t (effect_in tree1.live e.who.0 e.answer e.call)) threads1 threads2
    → EachBy (λ t. noted t e) threads2 threads3 → EachBy (λ t. marked t e progress.posts) threads3 threads4
    → timers2 ≡ timers_at (e ∷ past)
    → IsGroupsAt setup (e ∷ past) groups2
    → inputs2 ≡ untaken_at setup (e ∷ past)
    → progress ≡ record { posts = count_kept e.answer p.post_count; inputs = counted_with e.answer p.input_count; time = time_kept e p.time; cursor = cursor_with e.answer e.call p.cursor }
    → sends1 ≡ added_sends p.tree.live p.time place e.who e.answer e.call p.sends → PartsStand setup (e ∷ past) sends2 → MarksStand setup (e ∷ past) sends2.marks → place ≡ place_after past
    → first ≡ first_cause p.sends e.who.0 e.answer e.call → lost ≡ losses_by tree1.live place e.who.0 e.answer e.call sends1 → tally ≡ tallied e.answer first lost p.tally
    → stories1 ≡ with_begun e.answer p.stories → EachStory (noted_losses tree1.live place e.who.0 e.answer e.call sends1) stories1 stories2 → EachStory (noted_answer e.answer (named_send p.sends e.who.0 e.answer e.call) place) stories2 stories3
    → AreLooksAt setup (e ∷ past) looks2
    → Follows e.answer e.call p.dialogs dialogs2
    → Stands setup (e ∷ past) (parts tree2 order2 display2 classes2 threads4 timers2 groups2 inputs2 progress sends2 tally stories3 looks2 dialogs2)
stands_step setup past p shift e classes1 classes2 tree1 tree2 order1 order2 display2 threads1 threads2 threads3 threads4 timers2 groups2 inputs2 progress sends1 sends2 cause lost tally stories1 stories2 stories3 looks2 dialogs2 place room right st down grown settled made given ranked left_order seen first second note mark timed grouped taken went begun stay stood here named counted noted_tally story_more story_losses story_answers looked turned = record {
  ready = st.ready;
  lawful = (st.lawful, right);
  short = grind (arith, nat_tests, room);
  tree = tree_after setup past e p.tree tree1 tree2 st.lawful st.tree right made given;
  order = order_after setup past e p.tree tree1 tree2 p.order order1 order2 st.lawful st.tree (tree_after setup past e p.tree tree1 tree2 st.lawful st.tree right made given) st.order right made ranked left_order;
  display = seen;
  classes = settled ∙ ap (affected_classes e.answer e.call) (grown ∙ ap (added_classes e.answer e.call) st.classes) ∙ sym (classes_after setup past e right);
  count = mark.same_length ∙ note.same_length ∙ second.same_length ∙ first.same_length ∙ st.count;
  each = record {
    at = λ i d lt.
        let lt3 : i < length threads3 = omega (arith, lt, mark.same_length) in
        let lt2 : i < length threads2 = omega (arith, lt3, note.same_length) in
        let lt1 : i < length threads1 = omega (arith, lt2, second.same_length) in
        let lt0 : i < length p.threads = omega (arith, lt1, first.same_length) in
        mark.at i d lt3
        ∙ ap (marked (i + 1) e progress.posts) (note.at i d lt2 ∙ ap (noted (i + 1) e) (second.at i d lt1 ∙ ap (changed (i + 1) (effect_in tree1.live e.who.0 e.answer e.call)) (first.at i d lt0 ∙ ap (changed (i + 1) (adding_in p.tree.live p.time p.cursor shift e.who.0 e.answer e.call)) (st.each.at i d lt0))))
        ∙ thread_step setup past p shift e tree1 (i + 1) progress.posts st down right made (ap (λ (q : Progress). q.posts) went ∙ ap (count_kept e.answer) st.posts ∙ count_kept-next setup past e right);
  };
  timers = timed;
  groups = grouped;
  untaken = taken;
  posts = ap (λ (q : Progress). q.posts) went ∙ ap (count_kept e.answer) st.posts ∙ count_kept-next setup past e right;
  injected = ap (λ (q : Progress). q.inputs) went ∙ ap (counted_with e.answer) st.injected ∙ counted_with-next setup past e right;
  clock = ap (λ (q : Progress). q.time) went ∙ ap (time_kept e) st.clock ∙ time_kept-next e past;
  cursor = ap (λ (q : Progress). q.cursor) went ∙ ap (cursor_with e.answer e.call) st.cursor ∙ cursor_with-next e past;
  sends = stay;
  marks = stood;
  tally = noted_tally ∙ ap (λ (c : Option Cause). tallied e.answer c lost p.tally) named ∙ ap (λ n. tallied e.answer (first_cause p.sends e.who.0 e.answer e.call) n p.tally) (counted ∙ losses_now p e place tree1 sends1 made begun ∙ ap (λ n. losses_by p.tree.live n e.who.0 e.answer e.call p.sends) here)
      ∙ ap (tallied e.answer (first_cause p.sends e.who.0 e.answer e.call) (losses_by p.tree.live (place_after past) e.who.0 e.answer e.call p.sends)) st.tally
      ∙ sym (counts_after setup past e p.sends p.tree.live (st.lawful, right) st.sends st.tree.windows);
  stories = stories_after setup past e p.sends p.tree.live (st.lawful, right) st.sends st.tree.windows p.stories stories2 stories3 st.stories
      (subst (λ n. EachStory (noted_answer e.answer (named_send p.sends e.who.0 e.answer e.call) n) stories2 stories3) here story_answers)
      (subst (λ n. EachStory (noted_losses p.tree.live n e.who.0 e.answer e.call p.sends) (with_begun e.answer p.stories) stories2) here
      (subst (λ (f : ℕ → SendStory → SendStory). EachStory f (with_begun e.answer p.stories) stories2) (losses_noted e p.time place p.tree tree1 p.sends sends1 made begun)
      (subst (λ (l : List SendStory). EachStory (noted_losses tree1.live place e.who.0 e.answer e.call sends1) l stories2) story_more story_losses)));
  looks = looked;
  dialogs = followed_stands past e p.dialogs dialogs2 st.dialogs turned;
}
