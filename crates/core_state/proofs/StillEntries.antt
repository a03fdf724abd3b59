-- An entry that changes threads, the count of posts and the clock alone.
use Rattle.std.proofs.Common.{◌≡◌, ◌∙◌, inl, inr, map, ℕ, ◌+◌, true, false, not, eqb, List, ◌∷◌, length, None, Some, refl, sym, ap, subst, arith}
use Rattle.std.specs.Prelude.{◌&&◌, ◌||◌, ◌⊎◌, slice_index_or}
use Rattle.std.specs.List.{list_all}
use Rattle.win_num.specs.declared.message.Thread.{Thread}
use Rattle.win_num.specs.declared.shapes.Point.{Point}
use Rattle.win_class.specs.ClassTable.{ClassTable}
use Rattle.win_order.specs.Layers.{Layers}
use Rattle.win_rows.specs.declared.window.Window.{Window as KeptWindow}
use Rattle.win_rows.specs.Windows.{Windows}
use Rattle.user_model.specs.declared.call.Call.{Call}
use Rattle.user_model.specs.declared.call.Call.TheVariants as calls
use Rattle.user_model.specs.declared.entry.Answer.{Answer}
use Rattle.user_model.specs.declared.entry.Entry.{Entry}
use Rattle.user_model.specs.declared.entry.Setup.{Setup}
use Rattle.user_model.specs.declared.story.SendStory.{SendStory}
use Rattle.user_model.specs.Idle.{reply}
use Rattle.user_model.specs.Inputs.{Injection, injection}
use Rattle.user_model.specs.Keys.{is_shift_down}
use Rattle.user_model.specs.Past.{Past, is_full, is_refusal}
use Rattle.user_model.specs.Retrievals.{input_got}
use Rattle.dialog_state.specs.Dialogs.{turns}
use Rattle.dialog_state.proofs.Steps.{follows_same}
use Rattle.display_state.specs.Displays.{IsDisplayAt}
use Rattle.display_state.proofs.Followed.{display_follows, kept_shown}
use Rattle.group_state.specs.GroupTables.{IsGroupsAt}
use Rattle.group_state.specs.Steps.{IsNextAt}
use Rattle.group_state.proofs.GroupSteps.{IsQuiet, call_step, refused_step}
use Rattle.input_queue.specs.declared.element.Element.{Element as KeptElement}
use Rattle.look_state.specs.declared.moment.Moment.{Moment}
use Rattle.look_state.specs.Looks.{AreLooksAt, LookView, moment_at}
use Rattle.pending_state.specs.declared.changes.Meant.{Meant}
use Rattle.pending_state.specs.Changes.{added_by, counted_with, cursor_with, left_by}
use Rattle.screen_owners.specs.declared.owners.Owned.{Owned}
use Rattle.screen_state.specs.Screens.{draws, is_none_dirty, keeps_screen}
use Rattle.screen_state.specs.Shown.{changes_owners, shows}
use Rattle.screen_state.proofs.Screens.{stays_carried, stays_follow}
use Rattle.send_state.specs.Standing.{MarksStand, PartsStand}
use Rattle.send_state.specs.Parts.{SendParts}
use Rattle.send_state.specs.Stories.{EachStory, noted_answer, with_begun}
use Rattle.send_state.specs.Tallies.{enters_one, first_of, named_send, one_if, tallied}
use Rattle.send_state.specs.declared.tally.Tally.{Tally}
use Rattle.thread_queues.specs.Changes.{changed, count_kept, marked, noted, time_told_to}
use Rattle.thread_queues.specs.Deliveries.{adding_in, effect_in}
use Rattle.thread_queues.specs.Queues.{EachBy}
use Rattle.thread_state.specs.Threads.{ThreadView}
use Rattle.timer_source.specs.declared.setting.Setting.{Setting}
use Rattle.timer_state.specs.Changes.{added_timers, followed}
use Rattle.timer_state.specs.TimerLists.{timers_at}
use Rattle.window_state.specs.Effects.{IsAddedBy, IsAffected, added_classes, affected_classes}
use Rattle.window_state.specs.Orders.{IsOrderAdded, affected_order}
use Rattle.core_state.specs.declared.progress.Progress.{Progress}
use Rattle.core_state.specs.Sendings.{added_sends, affected_sends, losses_by, noted_losses}
use Rattle.core_state.specs.States.{Parts, Stands, parts}
use Rattle.core_state.specs.Progress.{moment_of}
use Rattle.pending_state.specs.Pending.{kept, untaken_at}
use Rattle.user_model.proofs.InputLaws.{untaken-refused}
use Rattle.core_state.proofs.Appended.{inputs_step, moment_step, sends_step, stands_step}
use Rattle.core_state.proofs.Timing.{timers_step}

-- ---- which entries

-- where it isn't refused
pub record IsOther (a : Answer) (call : Call) : Type 0 where
  pub fine : is_refusal a ≡ false
  pub no_input : input_got a call ≡ None
  pub inputs : (meant : Meant) (l : List KeptElement) → l ≡ added_by meant a call l
  pub inputs_later : (who : Thread) (l : List KeptElement) → l ≡ left_by who a call l
  pub uninjected : (i : Injection) → injection call ≡ Some i → ⊥
  pub groups : IsQuiet call
  pub stays : call ≡ calls.EndThread → ⊥

-- an answer to a call that changes threads, the count of posts and the clock alone
pub record IsStill (a : Answer) (call : Call) : Type 0 where
  pub classes : (t : ClassTable) → t ≡ added_classes a call t
  pub classes_later : (t : ClassTable) → t ≡ affected_classes a call t
  pub tree : (who : ℕ) (t : Windows) → IsAddedBy who a call t t
  pub tree_later : (who : ℕ) (t : Windows) → IsAffected who a call t t
  pub order : (t : Windows) (z : Layers) → IsOrderAdded a call t t z z
  pub order_later : (t : Windows) (z : Layers) → z ≡ affected_order a call t z
  pub owners : changes_owners call a ≡ false
  pub undrawn : draws call a ≡ false
  pub timers : (who : Thread) (time : ℕ) (l : List Setting) → l ≡ added_timers who time a call l
  pub timers_later : (ws : List KeptWindow) (who : Thread) (time : ℕ) (l : List Setting) → l ≡ followed ws who time a call l
  pub counted : (n : ℕ) → n ≡ counted_with a n
  pub cursor : (p : Point) → p ≡ cursor_with a call p
  pub sends : (ws : List KeptWindow) (time place : ℕ) (who : Thread) (q : SendParts) → q ≡ added_sends ws time place who a call q
  pub sends_later : (ws : List KeptWindow) (place who : ℕ) (q : SendParts) → q ≡ affected_sends ws place who a call q
  pub losses : (ws : List KeptWindow) (place who : ℕ) (q : SendParts) → 0 ≡ losses_by ws place who a call q
  pub enters_none : enters_one a ≡ false
  pub unnamed : (q : SendParts) (who : ℕ) → named_send q who a call ≡ None
  pub stories : (l : List SendStory) → l ≡ with_begun a l
  pub stories_lost : (ws : List KeptWindow) (place who : ℕ) (q : SendParts) (s : ℕ) (x : SendStory) → x ≡ noted_losses ws place who a call q s x
  pub stories_told : (place s : ℕ) (x : SendStory) → x ≡ noted_answer a None place s x
  pub turned : turns a call ≡ false
  pub fate : (is_refusal a ≡ true) ⊎ IsOther a call

-- ---- all parts after it

no_more : (n : ℕ) → n ≡ n + 0
no_more n = omega arith

abbrev counts : ℕ → ℕ → ℕ → ℕ → ℕ → Tally
counts entered by_proc by_reply by_loss by_timeout = record { entered = entered; by_proc = by_proc; by_reply = by_reply; by_loss = by_loss; by_timeout = by_timeout }

-- no send is entered, answered or lost
nothing_counted : (t : Tally) (a : Answer) → enters_one a ≡ false → t ≡ tallied a None 0 t
nothing_counted t a h =
    ap (λ n. counts n t.by_proc t.by_reply t.by_loss t.by_timeout) (no_more t.entered ∙ ap (λ b. t.entered + one_if b) (sym h))
    ∙ ap (λ n. counts (t.entered + one_if (enters_one a)) n t.by_reply t.by_loss t.by_timeout) (no_more t.by_proc)
    ∙ ap (λ n. counts (t.entered + one_if (enters_one a)) (t.by_proc + 0) n t.by_loss t.by_timeout) (no_more t.by_reply)
    ∙ ap (λ n. counts (t.entered + one_if (enters_one a)) (t.by_proc + 0) (t.by_reply + 0) n t.by_timeout) (no_more t.by_loss)
    ∙ ap (λ n. counts (t.entered + one_if (enters_one a)) (t.by_proc + 0) (t.by_reply + 0) (t.by_loss + 0) n) (no_more t.by_timeout)

-- how far a past has come
abbrev pub come : ℕ → ℕ → ℕ → Point → Progress
come posts inputs time cursor = record { posts = posts; inputs = inputs; time = time; cursor = cursor }

module _ (setup : Setup) (past : Past) (p : Parts) (e : Entry) (still : IsStill e.answer e.call) (room : is_full past ≡ false) (right : e.answer ≡ reply setup past e.who.0 e.call) (st : Stands setup past p) where
  shown : IsDisplayAt setup (e ∷ past) p.display
  shown =
      let keeps : keeps_screen e.call e.answer p.display.screen ≡ true = ap (λ b. not b || (not (shows e.call e.answer) && (list_all (λ (o : Owned). eqb o.window.0 0) p.display.screen.owners && is_none_dirty p.display.screen.dirty))) still.owners in
      display_follows setup p.tree p.order None e p.display (stays_follow setup p.tree p.order e p.display.screen keeps still.undrawn) (stays_carried setup p.tree p.order e p.display.screen keeps) tt still.undrawn past p.display (kept_shown p.display) st.lawful st.tree st.order right st.display

  next : IsNextAt setup past p.groups (length past) e
  next = record { lawful = st.lawful; groups = st.groups; at = refl; right = right }

  grouped : IsGroupsAt setup (e ∷ past) p.groups
  grouped = elim still.fate [
    | inl refused ↦ refused_step setup past p.groups (length past) e next refused
    | inr other ↦ call_step setup past p.groups (length past) e next other.fine other.no_input other.groups other.stays
  ]

  -- whom an injection would be meant for, that isn't made
  meant : Meant
  meant = record { home = e.who; group = 0; cursor = p.cursor; time = p.time }

  untaken_stays : p.inputs ≡ untaken_at setup (e ∷ past)
  untaken_stays = elim still.fate [
    | inl refused ↦ st.untaken ∙ ap (map kept) (sym (untaken-refused setup e past refused))
    | inr other ↦ inputs_step setup past p meant e p.inputs p.inputs st (λ i is home. absurd (other.uninjected i is)) right (other.inputs meant p.inputs) (other.inputs_later e.who p.inputs)
  ]

  timed : p.timers ≡ timers_at (e ∷ past)
  timed = timers_step setup past p e p.tree p.timers p.timers st right (still.tree e.who.0 p.tree) (still.timers e.who p.time p.timers) (still.timers_later p.tree.live e.who p.time p.timers)

  -- the cursor and the count of inputs stay
  gone_on : (progress : Progress) → progress ≡ come (count_kept e.answer p.post_count) p.input_count (time_told_to e.who.0 e.answer p.time) p.cursor → progress ≡ come (count_kept e.answer p.post_count) (counted_with e.answer p.input_count) (time_told_to e.who.0 e.answer p.time) (cursor_with e.answer e.call p.cursor)
  gone_on progress went =
      went
      ∙ ap (λ n. come (count_kept e.answer p.post_count) n (time_told_to e.who.0 e.answer p.time) p.cursor) (still.counted p.input_count)
      ∙ ap (λ q. come (count_kept e.answer p.post_count) (counted_with e.answer p.input_count) (time_told_to e.who.0 e.answer p.time) q) (still.cursor p.cursor)

  -- the sends stay
  pub quiet_sends : PartsStand setup (e ∷ past) p.sends
  quiet_sends = sends_step setup past p e p.tree p.sends p.sends (length past) st right (still.tree e.who.0 p.tree) (still.sends p.tree.live p.time (length past) e.who p.sends) (still.sends_later p.tree.live (length past) e.who.0 p.sends) refl

  -- how far the past with the entry comes
  pub quiet_moment : (m : Moment) (progress : Progress) → progress ≡ come (count_kept e.answer p.post_count) p.input_count (time_told_to e.who.0 e.answer p.time) p.cursor → m ≡ moment_of progress → m ≡ moment_at (e ∷ past)
  quiet_moment m progress went is = moment_step setup past p e progress m st right (gone_on progress went) is

  -- the parts with the threads, marks and looks after the entry
  pub quiet_step : (threads1 threads2 threads3 threads4 : List ThreadView) (progress : Progress) (sends2 : SendParts) (looks2 : List LookView)
      → EachBy (λ t. changed t (adding_in p.tree.live p.time p.cursor (is_shift_down past e.who.0) e.who.0 e.answer e.call)) p.threads threads1
      → EachBy (λ t. changed t (effect_in p.tree.live e.who.0 e.answer e.call)) threads1 threads2
      → EachBy (λ t. noted t e) threads2 threads3 → EachBy (λ t. marked t e progress.posts) threads3 threads4
      → progress ≡ come (count_kept e.answer p.post_count) p.input_count (time_told_to e.who.0 e.answer p.time) p.cursor
      → PartsStand setup (e ∷ past) sends2 → MarksStand setup (e ∷ past) sends2.marks
      → AreLooksAt setup (e ∷ past) looks2
      → Stands setup (e ∷ past) (parts p.tree p.order p.display p.classes threads4 p.timers p.groups p.inputs progress sends2 p.tally p.stories looks2 p.dialogs)
  quiet_step threads1 threads2 threads3 threads4 progress sends2 looks2 first second note mark went stay stood looked =
      let a = e.answer in
      let call = e.call in
      let who = e.who.0 in
      let ws = p.tree.live in
      let place = length past in
      let cause : None ≡ first_of p.sends (named_send p.sends who a call) = ap (first_of p.sends) (sym (still.unnamed p.sends who)) in
      let told : EachStory (noted_answer a (named_send p.sends who a call) place) p.stories p.stories = subst (λ q. EachStory (noted_answer a q place) p.stories p.stories) (sym (still.unnamed p.sends who)) (record { same_length = refl; at = λ i d lt. still.stories_told place (i + 1) (slice_index_or p.stories i d) }) in
      stands_step setup past p (is_shift_down past who) e p.classes p.classes p.tree p.tree p.order p.order p.display threads1 threads2 threads3 threads4 p.timers p.groups p.inputs progress p.sends sends2 None 0 p.tally p.stories p.stories p.stories looks2 p.dialogs place
      room right st (λ runs. refl)
      (still.classes p.classes) (still.classes_later p.classes)
      (still.tree who p.tree) (still.tree_later who p.tree)
      (still.order p.tree p.order) (still.order_later p.tree p.order) shown
      first second note mark timed grouped
      untaken_stays
      (gone_on progress went)
      (still.sends ws p.time place e.who p.sends) stay stood refl
      cause (still.losses ws place who p.sends) (nothing_counted p.tally a still.enters_none)
      (still.stories p.stories) (record { same_length = refl; at = λ i d lt. still.stories_lost ws place who p.sends (i + 1) (slice_index_or p.stories i d) }) told
      looked (follows_same a call p.dialogs still.turned)
