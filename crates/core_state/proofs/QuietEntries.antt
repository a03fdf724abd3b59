-- An entry that adds a post, or that finds a post or none, leaves all parts but threads, looks and the count of posts.
use Rattle.std.proofs.Common.{◌≡◌, ◌∙◌, inr, ℕ, ◌+◌, Bool, true, false, List, [], None, Some, refl}
use Rattle.std.specs.Prelude.{slice_index_or}
use Rattle.std.proofs.lemmas.Bool.{false≢true}
use Rattle.win_num.specs.declared.message.Msg.{Msg}
use Rattle.win_num.specs.declared.message.Thread.{Thread}
use Rattle.win_num.specs.declared.shapes.Point.{Point}
use Rattle.win_class.specs.ClassTable.{ClassTable}
use Rattle.win_order.specs.Layers.{Layers}
use Rattle.win_rows.specs.declared.window.Window.{Window as KeptWindow}
use Rattle.win_rows.specs.Windows.{Windows}
use Rattle.user_model.specs.declared.call.Call.{Call}
use Rattle.user_model.specs.declared.call.Call.TheVariants as calls
use Rattle.user_model.specs.declared.entry.Answer.{Answer}
use Rattle.user_model.specs.declared.entry.Answer.TheVariants as answers
use Rattle.user_model.specs.declared.entry.Entry.{Entry}
use Rattle.user_model.specs.declared.entry.Origin.{Origin}
use Rattle.user_model.specs.declared.entry.Origin.TheVariants as origins
use Rattle.user_model.specs.declared.story.SendStory.{SendStory}
use Rattle.user_model.specs.Inputs.{Injection, injection}
use Rattle.user_model.specs.Past.{is_refusal}
use Rattle.user_model.specs.Retrievals.{input_got}
use Rattle.user_model.specs.Status.{is_look}
use Rattle.dialog_state.specs.Dialogs.{turns}
use Rattle.group_state.proofs.GroupSteps.{IsQuiet, other_quiet}
use Rattle.input_queue.specs.declared.element.Element.{Element as KeptElement}
use Rattle.look_state.specs.declared.moment.Moment.{Moment}
use Rattle.look_state.specs.Looks.{EachLook, LookView, look_after}
use Rattle.pending_state.specs.declared.changes.Meant.{Meant}
use Rattle.pending_state.specs.Changes.{added_by, counted_with, cursor_with, left_by, moved_by}
use Rattle.screen_state.specs.Screens.{draws}
use Rattle.screen_state.specs.Shown.{changes_owners}
use Rattle.send_state.specs.Parts.{SendParts}
use Rattle.send_state.specs.Stories.{noted_answer, with_begun}
use Rattle.send_state.specs.Tallies.{enters_one, named_send}
use Rattle.thread_queues.specs.Changes.{changed, count_kept, marked, time_told_to}
use Rattle.thread_queues.specs.Deliveries.{FitsPost, adding_in, change_of_post, effect_in, posting}
use Rattle.thread_queues.specs.Queues.{EachBy}
use Rattle.thread_state.specs.Threads.{ThreadView, waiting_with}
use Rattle.timer_source.specs.declared.setting.Setting.{Setting}
use Rattle.timer_state.specs.Changes.{added_timers, followed}
use Rattle.window_state.specs.Effects.{IsAddedBy, IsAffected, added_classes, affected_classes}
use Rattle.window_state.specs.Orders.{IsOrderAdded, affected_order}
use Rattle.core_state.specs.Needs.{FitsAdding, FitsEffect, FitsPosting, FitsReading}
use Rattle.core_state.specs.PostEntries.{adds_post, finds_post_or_none, reads_posts}
use Rattle.core_state.specs.Sendings.{added_sends, affected_sends, losses_by, noted_losses}
use Rattle.core_state.specs.States.{parts}
use Rattle.core_state.proofs.StillEntries.{IsStill}

-- ---- which answers and calls

-- an answer that changes threads and the count of posts alone
pub record IsCalm (a : Answer) : Type 0 where
  pub classes : (call : Call) (t : ClassTable) → t ≡ added_classes a call t
  pub classes_later : (call : Call) (t : ClassTable) → t ≡ affected_classes a call t
  pub tree : (who : ℕ) (call : Call) (t : Windows) → IsAddedBy who a call t t
  pub tree_later : (who : ℕ) (call : Call) (t : Windows) → IsAffected who a call t t
  pub order : (call : Call) (t : Windows) (z : Layers) → IsOrderAdded a call t t z z
  pub order_later : (call : Call) (t : Windows) (z : Layers) → z ≡ affected_order a call t z
  pub owners : (call : Call) → changes_owners call a ≡ false
  pub timers : (who : Thread) (time : ℕ) (call : Call) (l : List Setting) → l ≡ added_timers who time a call l
  pub timers_later : (ws : List KeptWindow) (who : Thread) (time : ℕ) (call : Call) (l : List Setting) → l ≡ followed ws who time a call l
  pub inputs : (meant : Meant) (call : Call) (l : List KeptElement) → l ≡ added_by meant a call l
  pub inputs_later : (who : Thread) (call : Call) (l : List KeptElement) → l ≡ left_by who a call l
  pub counted : (n : ℕ) → n ≡ counted_with a n
  pub time : (who n : ℕ) → n ≡ time_told_to who a n
  pub cursor : (call : Call) (p : Point) → moved_by call p ≡ cursor_with a call p
  pub sends : (ws : List KeptWindow) (time place : ℕ) (who : Thread) (call : Call) (q : SendParts) → q ≡ added_sends ws time place who a call q
  pub sends_later : (ws : List KeptWindow) (place who : ℕ) (call : Call) (q : SendParts) → q ≡ affected_sends ws place who a call q
  pub losses : (ws : List KeptWindow) (place who : ℕ) (call : Call) (q : SendParts) → 0 ≡ losses_by ws place who a call q
  pub enters_none : enters_one a ≡ false
  pub stories : (l : List SendStory) → l ≡ with_begun a l
  pub stories_lost : (ws : List KeptWindow) (place who : ℕ) (call : Call) (q : SendParts) (s : ℕ) (x : SendStory) → x ≡ noted_losses ws place who a call q s x
  pub stories_told : (place s : ℕ) (x : SendStory) → x ≡ noted_answer a None place s x
  pub turned : (call : Call) → turns a call ≡ false
  pub fine : is_refusal a ≡ false
  pub no_input : (call : Call) → input_got a call ≡ None

-- a call that puts, names, injects, draws, sets and ends nothing
pub record IsIdle (call : Call) : Type 0 where
  pub cursor : (p : Point) → p ≡ moved_by call p
  pub unnamed : (q : SendParts) (who : ℕ) (a : Answer) → named_send q who a call ≡ None
  pub uninjected : (i : Injection) → injection call ≡ Some i → ⊥
  pub undrawn : (a : Answer) → draws call a ≡ false
  pub groups : IsQuiet call
  pub stays : call ≡ calls.EndThread → ⊥

-- such an answer to such a call
quiet_still : (a : Answer) (call : Call) → IsCalm a → IsIdle call → IsStill a call
quiet_still a call calm idle = record {
  classes = calm.classes call;
  classes_later = calm.classes_later call;
  tree = λ who t. calm.tree who call t;
  tree_later = λ who t. calm.tree_later who call t;
  order = calm.order call;
  order_later = calm.order_later call;
  owners = calm.owners call;
  undrawn = idle.undrawn a;
  timers = λ who time l. calm.timers who time call l;
  timers_later = λ ws who time l. calm.timers_later ws who time call l;
  counted = calm.counted;
  cursor = λ p. idle.cursor p ∙ calm.cursor call p;
  sends = λ ws time place who q. calm.sends ws time place who call q;
  sends_later = λ ws place who q. calm.sends_later ws place who call q;
  losses = λ ws place who q. calm.losses ws place who call q;
  enters_none = calm.enters_none;
  unnamed = λ q who. idle.unnamed q who a;
  stories = calm.stories;
  stories_lost = λ ws place who q s x. calm.stories_lost ws place who call q s x;
  stories_told = calm.stories_told;
  turned = calm.turned call;
  fate = inr (record {
    fine = calm.fine;
    no_input = calm.no_input call;
    inputs = λ meant l. calm.inputs meant call l;
    inputs_later = λ who l. calm.inputs_later who call l;
    uninjected = idle.uninjected;
    groups = idle.groups;
    stays = idle.stays;
  });
}

calm_post : (k : ℕ) → IsCalm (answers.Posted k)
calm_post k = record { classes = λ call t. refl; classes_later = λ call t. refl; tree = λ who call t. refl; tree_later = λ who call t. refl; order = λ call t z. refl; order_later = λ call t z. refl; owners = λ call. refl; timers = λ who time call l. refl; timers_later = λ ws who time call l. refl; inputs = λ meant call l. refl; inputs_later = λ who call l. refl; counted = λ n. refl; time = λ who n. refl; cursor = λ call p. refl; sends = λ ws time place who call q. refl; sends_later = λ ws place who call q. refl; losses = λ ws place who call q. refl; enters_none = refl; stories = λ l. refl; stories_lost = λ ws place who call q s x. refl; stories_told = λ place s x. refl; turned = λ call. refl; fine = refl; no_input = λ call. refl }

finding_calm : (a : Answer) → finds_post_or_none a ≡ true → IsCalm a
finding_calm (answers.Got origins.Posted n m) h = record { classes = λ call t. refl; classes_later = λ call t. refl; tree = λ who call t. refl; tree_later = λ who call t. refl; order = λ call t z. refl; order_later = λ call t z. refl; owners = λ call. refl; timers = λ who time call l. refl; timers_later = λ ws who time call l. refl; inputs = λ meant call l. refl; inputs_later = λ who call l. refl; counted = λ n. refl; time = λ who n. refl; cursor = λ call p. refl; sends = λ ws time place who call q. refl; sends_later = λ ws place who call q. refl; losses = λ ws place who call q. refl; enters_none = refl; stories = λ l. refl; stories_lost = λ ws place who call q s x. refl; stories_told = λ place s x. refl; turned = λ call. refl; fine = refl; no_input = λ call. refl }
finding_calm answers.Wait h = record { classes = λ call t. refl; classes_later = λ call t. refl; tree = λ who call t. refl; tree_later = λ who call t. refl; order = λ call t z. refl; order_later = λ call t z. refl; owners = λ call. refl; timers = λ who time call l. refl; timers_later = λ ws who time call l. refl; inputs = λ meant call l. refl; inputs_later = λ who call l. refl; counted = λ n. refl; time = λ who n. refl; cursor = λ call p. refl; sends = λ ws time place who call q. refl; sends_later = λ ws place who call q. refl; losses = λ ws place who call q. refl; enters_none = refl; stories = λ l. refl; stories_lost = λ ws place who call q s x. refl; stories_told = λ place s x. refl; turned = λ call. refl; fine = refl; no_input = λ call. refl }
finding_calm answers.Nothing h = record { classes = λ call t. refl; classes_later = λ call t. refl; tree = λ who call t. refl; tree_later = λ who call t. refl; order = λ call t z. refl; order_later = λ call t z. refl; owners = λ call. refl; timers = λ who time call l. refl; timers_later = λ ws who time call l. refl; inputs = λ meant call l. refl; inputs_later = λ who call l. refl; counted = λ n. refl; time = λ who n. refl; cursor = λ call p. refl; sends = λ ws time place who call q. refl; sends_later = λ ws place who call q. refl; losses = λ ws place who call q. refl; enters_none = refl; stories = λ l. refl; stories_lost = λ ws place who call q s x. refl; stories_told = λ place s x. refl; turned = λ call. refl; fine = refl; no_input = λ call. refl }
finding_calm _ h = absurd (false≢true h)

-- an entry that adds a post
post_calm : (a : Answer) (call : Call) → adds_post a call ≡ true → IsCalm a
post_calm (answers.Posted k) call h = calm_post k
post_calm _ call h = absurd (false≢true h)

post_idle : (a : Answer) (call : Call) → adds_post a call ≡ true → IsIdle call
post_idle (answers.Posted k) (calls.Post w number wparam lparam) h = record { cursor = λ p. refl; unnamed = λ q who a. refl; uninjected = λ i is. absurd cc; undrawn = λ a. refl; groups = other_quiet (calls.Post w number wparam lparam) (λ w is. absurd cc) (λ w is. absurd cc) (λ w is. absurd cc) (λ is. absurd cc) (λ t u is. absurd cc) (λ t u is. absurd cc); stays = λ is. absurd cc }
post_idle (answers.Posted k) (calls.PostThread to number wparam lparam) h = record { cursor = λ p. refl; unnamed = λ q who a. refl; uninjected = λ i is. absurd cc; undrawn = λ a. refl; groups = other_quiet (calls.PostThread to number wparam lparam) (λ w is. absurd cc) (λ w is. absurd cc) (λ w is. absurd cc) (λ is. absurd cc) (λ t u is. absurd cc) (λ t u is. absurd cc); stays = λ is. absurd cc }
post_idle _ _ h = absurd (false≢true h)

-- and one that finds a post or none
read_calm : (a : Answer) (call : Call) → reads_posts a call ≡ true → IsCalm a
read_calm a (calls.Get w min max) h = finding_calm a h
read_calm a (calls.Peek w min max flags) h = finding_calm a h
read_calm a _ h = absurd (false≢true h)

read_idle : (a : Answer) (call : Call) → reads_posts a call ≡ true → IsIdle call
read_idle a (calls.Get w min max) h = record { cursor = λ p. refl; unnamed = λ q who a. refl; uninjected = λ i is. absurd cc; undrawn = λ a. refl; groups = other_quiet (calls.Get w min max) (λ w is. absurd cc) (λ w is. absurd cc) (λ w is. absurd cc) (λ is. absurd cc) (λ t u is. absurd cc) (λ t u is. absurd cc); stays = λ is. absurd cc }
read_idle a (calls.Peek w min max flags) h = record { cursor = λ p. refl; unnamed = λ q who a. refl; uninjected = λ i is. absurd cc; undrawn = λ a. refl; groups = other_quiet (calls.Peek w min max flags) (λ w is. absurd cc) (λ w is. absurd cc) (λ w is. absurd cc) (λ is. absurd cc) (λ t u is. absurd cc) (λ t u is. absurd cc); stays = λ is. absurd cc }
read_idle a _ h = absurd (false≢true h)

pub post_still : (a : Answer) (call : Call) → adds_post a call ≡ true → IsStill a call
post_still a call h = quiet_still a call (post_calm a call h) (post_idle a call h)

pub read_still : (a : Answer) (call : Call) → reads_posts a call ≡ true → IsStill a call
read_still a call h = quiet_still a call (read_calm a call h) (read_idle a call h)

-- the clock stays
pub post_time : (who n : ℕ) (a : Answer) (call : Call) → adds_post a call ≡ true → n ≡ time_told_to who a n
post_time who n a call h = let calm : IsCalm a = post_calm a call h in calm.time who n

pub read_time : (who n : ℕ) (a : Answer) (call : Call) → reads_posts a call ≡ true → n ≡ time_told_to who a n
read_time who n a call h = let calm : IsCalm a = read_calm a call h in calm.time who n

-- ---- threads

-- Shift doesn't count for such a post
pub post_added : (ws : List KeptWindow) (time : ℕ) (point : Point) (b c : Bool) (who n : ℕ) (a : Answer) (call : Call) → adds_post a call ≡ true → change_of_post (count_kept a n) (posting ws time point b who call) ≡ adding_in ws time point c who a call
post_added ws time point b c who n (answers.Posted k) (calls.Post w number wparam lparam) h = refl
post_added ws time point b c who n (answers.Posted k) (calls.PostThread to number wparam lparam) h = refl
post_added ws time point b c who n _ _ h = absurd (false≢true h)

-- what adding it needs
pub post_fits : (classes : ClassTable) (tree : Windows) (threads : List ThreadView) (time : ℕ) (point : Point) (b c : Bool) (who n : ℕ) (a : Answer) (call : Call) → adds_post a call ≡ true → FitsAdding classes tree threads time point b who a call → FitsPost tree.live c call × FitsPosting threads (count_kept a n) (posting tree.live time point c who call)
post_fits classes tree threads time point b c who n (answers.Posted k) (calls.Post w number wparam lparam) h fits = fits
post_fits classes tree threads time point b c who n (answers.Posted k) (calls.PostThread to number wparam lparam) h fits = fits
post_fits classes tree threads time point b c who n _ _ h fits = absurd (false≢true h)

-- it takes nothing out
pub post_leaves : (ws : List KeptWindow) (who : ℕ) (call : Call) (a : Answer) (threads : List ThreadView) → adds_post a call ≡ true → EachBy (λ t. changed t (effect_in ws who a call)) threads threads
post_leaves ws who call (answers.Posted k) threads h = record { same_length = refl; at = λ i d lt. refl }
post_leaves ws who call _ threads h = absurd (false≢true h)

-- its caller doesn't wait
pub post_goes_on : (who : Thread) (call : Call) (a : Answer) → adds_post a call ≡ true → waiting_with (record { who = who; call = call; answer = a }) ≡ None
post_goes_on who call (answers.Posted k) h = refl
post_goes_on who call _ h = absurd (false≢true h)

-- what finds a post adds none
finding_added : (ws : List KeptWindow) (time : ℕ) (point : Point) (b : Bool) (who : ℕ) (a : Answer) (call : Call) (threads : List ThreadView) → finds_post_or_none a ≡ true → EachBy (λ t. changed t (adding_in ws time point b who a call)) threads threads
finding_added ws time point b who (answers.Got origins.Posted n m) call threads h = record { same_length = refl; at = λ i d lt. refl }
finding_added ws time point b who answers.Wait call threads h = record { same_length = refl; at = λ i d lt. refl }
finding_added ws time point b who answers.Nothing call threads h = record { same_length = refl; at = λ i d lt. refl }
finding_added ws time point b who _ call threads h = absurd (false≢true h)

pub read_added : (ws : List KeptWindow) (time : ℕ) (point : Point) (b : Bool) (who : ℕ) (a : Answer) (call : Call) (threads : List ThreadView) → reads_posts a call ≡ true → EachBy (λ t. changed t (adding_in ws time point b who a call)) threads threads
read_added ws time point b who a (calls.Get w min max) threads h = finding_added ws time point b who a (calls.Get w min max) threads h
read_added ws time point b who a (calls.Peek w min max flags) threads h = finding_added ws time point b who a (calls.Peek w min max flags) threads h
read_added ws time point b who a _ threads h = absurd (false≢true h)

-- nor changes the count of posts
finding_counts : (a : Answer) (n : ℕ) → finds_post_or_none a ≡ true → n ≡ count_kept a n
finding_counts (answers.Got origins.Posted n m) k h = refl
finding_counts answers.Wait k h = refl
finding_counts answers.Nothing k h = refl
finding_counts _ k h = absurd (false≢true h)

pub read_counts : (a : Answer) (call : Call) (n : ℕ) → reads_posts a call ≡ true → n ≡ count_kept a n
read_counts a (calls.Get w min max) n h = finding_counts a n h
read_counts a (calls.Peek w min max flags) n h = finding_counts a n h
read_counts a _ n h = absurd (false≢true h)

-- what taking one out needs
pub read_fits : (classes : ClassTable) (tree : Windows) (threads : List ThreadView) (who : ℕ) (a : Answer) (call : Call) → FitsEffect classes tree threads who a call → FitsReading threads who a
read_fits classes tree threads who (answers.Got o n m) call fits = fits
read_fits classes tree threads who _ call fits = tt

-- where none is handed out, threads stay
pub none_taken : (ws : List KeptWindow) (who : ℕ) (a : Answer) (call : Call) (threads : List ThreadView) → reads_posts a call ≡ true → ((o : Origin) (n : ℕ) (m : Msg) → a ≡ answers.Got o n m → ⊥) → EachBy (λ t. changed t (effect_in ws who a call)) threads threads
none_taken ws who (answers.Got o n m) call threads h none = absurd (none o n m refl)
none_taken ws who answers.Okay (calls.Get w min max) threads h none = absurd (false≢true h)
none_taken ws who answers.Okay (calls.Peek w min max flags) threads h none = absurd (false≢true h)
none_taken ws who answers.Okay _ threads h none = absurd (false≢true h)
none_taken ws who answers.Ended (calls.Get w min max) threads h none = absurd (false≢true h)
none_taken ws who answers.Ended (calls.Peek w min max flags) threads h none = absurd (false≢true h)
none_taken ws who answers.Ended _ threads h none = absurd (false≢true h)
none_taken ws who _ call threads h none = record { same_length = refl; at = λ i d lt. refl }

-- ---- looks

pub post_looks : (e : Entry) (looks : List LookView) (m : Moment) → adds_post e.answer e.call ≡ true → EachLook (λ t. look_after t e m []) looks looks
post_looks e looks m h = record { same_length = refl; at = λ i d lt. same e.who e.answer e.call (i + 1) (slice_index_or looks i d) h }
  where
    same : (who : Thread) (a : Answer) (call : Call) (t : ℕ) (k : LookView) → adds_post a call ≡ true → k ≡ look_after t (record { who = who; call = call; answer = a }) m [] k
    same who (answers.Posted n) (calls.Post w number wparam lparam) t k h = refl
    same who (answers.Posted n) (calls.PostThread to number wparam lparam) t k h = refl
    same who _ _ t k h = absurd (false≢true h)

-- what posts marks no look
pub post_unmarked : (e : Entry) (count : ℕ) (threads : List ThreadView) → adds_post e.answer e.call ≡ true → EachBy (λ t. marked t e count) threads threads
post_unmarked e count threads h = record { same_length = refl; at = λ i d lt. same e.who e.answer e.call (i + 1) (slice_index_or threads i d) h }
  where
    same : (who : Thread) (a : Answer) (call : Call) (t : ℕ) (v : ThreadView) → adds_post a call ≡ true → v ≡ marked t (record { who = who; call = call; answer = a }) count v
    same who (answers.Posted n) (calls.Post w number wparam lparam) t v h = refl
    same who (answers.Posted n) (calls.PostThread to number wparam lparam) t v h = refl
    same who _ _ t v h = absurd (false≢true h)

-- it is no look
pub post_is_no_look : (a : Answer) (call : Call) → adds_post a call ≡ true → is_look call ≡ false
post_is_no_look (answers.Posted n) (calls.Post w number wparam lparam) h = refl
post_is_no_look (answers.Posted n) (calls.PostThread to number wparam lparam) h = refl
post_is_no_look _ _ h = absurd (false≢true h)

pub post_no_look : (a : Answer) (call : Call) → adds_post a call ≡ true → is_look call ≡ true → ⊥
post_no_look (answers.Posted n) (calls.Post w number wparam lparam) h is = false≢true is
post_no_look (answers.Posted n) (calls.PostThread to number wparam lparam) h is = false≢true is
post_no_look _ _ h is = false≢true h
