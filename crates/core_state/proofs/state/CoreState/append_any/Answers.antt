use Rattle.std.proofs.Common.{rules, ◌≡◌, ◌<◌, true, false, ◌∷◌, [], ◌++◌, reverse, length, sym, ap, ◌∙◌, subst}
use Rattle.std.proofs.lemmas.List.{length-reverse}
use Rattle.user_model.specs.Past.{Past, is_full, place_after}
use Rattle.user_model.specs.Deeds.{posting_of}
use Rattle.user_model.specs.Keys.{is_shift_down}
use Rattle.user_model.specs.Threads.{is_running}
use Rattle.user_model.specs.Idle.{reply}
use Rattle.user_model.proofs.ClockLaws.{past_more}
use Rattle.core_state.specs.States.{Parts, Seen, Stands, parts}
use Rattle.send_state.specs.Stories.{EachStory, noted_answer, with_begun}
use Rattle.send_state.specs.Tallies.{first_cause, first_of}
use Rattle.display_state.specs.Displays.{IsDisplayAt}
use Rattle.pending_state.specs.Meanings.{IsMeantBy}
use Rattle.pending_state.proofs.Needs.{fits_cursor}
use Rattle.core_state.proofs.Appended.{growth_fits, injecting_fits, inputs_step, leaving_fits, moment_step, ranking_fits, sends_grow, sends_settle, sends_step, settling_fits, stands_step, tally_step}
use Rattle.send_state.specs.Standing.{PartsStand}
use Rattle.look_state.specs.Looks.{AreLooksAt, moment_at, seen_of}
use Rattle.screen_state.specs.Screens.{Kept as Screen}
use Rattle.look_state.proofs.LookSteps.{looks_step}
use Rattle.win_num.specs.Clocks.{clock_limit}
use Rattle.user_model.proofs.TimeBounds.{clock_small}
use Rattle.timer_state.specs.Changes.{FitsAddedTimers}
use Rattle.timer_state.proofs.TimerNeeds.{fits_adding, fits_following}
use Rattle.core_state.proofs.DisplaySteps.{display_step, fits_drawn}
use Rattle.core_state.proofs.Timing.{still_fits, timers_step}
use Rattle.core_state.proofs.SendCounts.{naming_fits}
use Rattle.core_state.proofs.SendMarks.{look_fits, looks_stand, marks_kept}
use Rattle.core_state.proofs.state.CoreState.append_any.Goals as goal

pub after-requires : goal.after-requires
after-requires c =
    let s = c.self.inside in
    let past : Past = reverse s.history.items in
    let e = c.args.entry.now in
    record {
      past = past;
      lawful = c.self.invariant.lawful;
      tree = c.self.invariant.tree;
      order = c.self.invariant.order;
      right = subst (λ (v : Seen). e.answer ≡ reply v.setup v.past e.who.0 e.call) (sym c.self.view_is) c.requires.answer;
    }

pub take_over-requires : goal.take_over-requires
take_over-requires c =
    let s = c.self.inside in
    let grown = c.in_ok-add_change.ensures in
    fits_drawn c.args.entry.now s.display c.add_change.new.display c.in_ok-change.change c.in_ok-change.ensures.drawing grown.display (c.in_ok-change.ensures.near (reverse s.history.items) c.self.invariant.display)

pub add_change-requires-clause-parts : goal.add_change-requires-clause-parts
add_change-requires-clause-parts c =
    let e = c.args.entry.now in
    let s = c.self.inside in
    let past : Past = reverse s.history.items in
    let kept : Parts = parts s.tree s.order s.display s.classes s.threads.items s.timers s.groups s.inputs s.progress s.sends s.tally s.stories.items s.looks s.dialogs in
    let right : e.answer ≡ reply s.setup past e.who.0 e.call = subst (λ (v : Seen). e.answer ≡ reply v.setup v.past e.who.0 e.call) (sym c.self.view_is) c.requires.answer in
    let down : is_running s.setup past e.who.0 ≡ true → posting_of c.shift_for.result e.call ≡ posting_of (is_shift_down past e.who.0) e.call = subst (λ (v : Seen). is_running v.setup v.past e.who.0 ≡ true → posting_of c.shift_for.result e.call ≡ posting_of (is_shift_down v.past e.who.0) e.call) (sym c.self.view_is) c.shift_for.ensures in
    growth_fits s.setup past kept c.shift_for.result e c.self.invariant down right

pub add_change-requires-clause-inputs : goal.add_change-requires-clause-inputs
add_change-requires-clause-inputs c =
    let e = c.args.entry.now in
    let s = c.self.inside in
    let past : Past = reverse s.history.items in
    let kept : Parts = parts s.tree s.order s.display s.classes s.threads.items s.timers s.groups s.inputs s.progress s.sends s.tally s.stories.items s.looks s.dialogs in
    let right : e.answer ≡ reply s.setup past e.who.0 e.call = subst (λ (v : Seen). e.answer ≡ reply v.setup v.past e.who.0 e.call) (sym c.self.view_is) c.requires.answer in
    let meant : IsMeantBy s.setup past e.call c.meant_by-meant.result = subst (λ (v : Seen). IsMeantBy v.setup v.past e.call c.meant_by-meant.result) (sym c.self.view_is) c.meant_by-meant.ensures in
    injecting_fits s.setup past kept c.meant_by-meant.result e c.self.invariant meant right

pub followed_by-self-inside-requires : goal.followed_by-self-inside-requires
followed_by-self-inside-requires c =
    let e = c.args.entry.now in
    let s = c.self.inside in
    let past : Past = reverse s.history.items in
    let right : e.answer ≡ reply s.setup past e.who.0 e.call = subst (λ (v : Seen). e.answer ≡ reply v.setup v.past e.who.0 e.call) (sym c.self.view_is) c.requires.answer in
    fits_cursor s.setup past e.who.0 e.answer e.call c.self.invariant.ready right

pub add_change-requires-clause-drawing : goal.add_change-requires-clause-drawing
add_change-requires-clause-drawing c =
    let s = c.self.inside in
    let past : Past = reverse s.history.items in
    let e = c.args.entry.now in
    record {
      setup = s.setup;
      past = past;
      lawful = c.self.invariant.lawful;
      tree = c.self.invariant.tree;
      classes = c.self.invariant.classes;
      right = subst (λ (v : Seen). e.answer ≡ reply v.setup v.past e.who.0 e.call) (sym c.self.view_is) c.requires.answer;
    }

pub add_change-requires-clause-timers : goal.add_change-requires-clause-timers
add_change-requires-clause-timers c =
    let e = c.args.entry.now in
    let s = c.self.inside in
    let past : Past = reverse s.history.items in
    let right : e.answer ≡ reply s.setup past e.who.0 e.call = subst (λ (v : Seen). e.answer ≡ reply v.setup v.past e.who.0 e.call) (sym c.self.view_is) c.requires.answer in
    subst (λ l. FitsAddedTimers s.tree.live e.who l e.answer e.call) (sym c.self.invariant.timers) (fits_adding s.setup past s.tree e.who e.answer e.call c.self.invariant.tree right)

pub add_change-requires-clause-early : goal.add_change-requires-clause-early
add_change-requires-clause-early c =
    let s = c.self.inside in
    let past : Past = reverse s.history.items in
    subst (λ n. n < clock_limit) (sym c.self.invariant.clock) (clock_small s.setup past c.self.invariant.lawful c.self.invariant.short)

pub follow_timers-requires-clause-fits : goal.follow_timers-requires-clause-fits
follow_timers-requires-clause-fits c =
    let e = c.args.entry.now in
    let s = c.self.inside in
    let past : Past = reverse s.history.items in
    let right : e.answer ≡ reply s.setup past e.who.0 e.call = subst (λ (v : Seen). e.answer ≡ reply v.setup v.past e.who.0 e.call) (sym c.self.view_is) c.requires.answer in
    still_fits s.tree c.add_change.new.tree e.who.0 e.answer e.call c.in_ok-add_change.ensures.tree (fits_following s.setup past s.tree e.who e.answer e.call c.self.invariant.tree right)

pub follow_timers-requires-clause-early : goal.follow_timers-requires-clause-early
follow_timers-requires-clause-early c =
    let s = c.self.inside in
    let past : Past = reverse s.history.items in
    subst (λ n. n < clock_limit) (sym c.self.invariant.clock) (clock_small s.setup past c.self.invariant.lawful c.self.invariant.short)

pub follow-requires : goal.follow-requires
follow-requires c =
    let e = c.args.entry.now in
    let s = c.self.inside in
    let past : Past = reverse s.history.items in
    let right : e.answer ≡ reply s.setup past e.who.0 e.call = subst (λ (v : Seen). e.answer ≡ reply v.setup v.past e.who.0 e.call) (sym c.self.view_is) c.requires.answer in
    let long : c.len.result ≡ length s.history.items = search rules in
    record { setup = s.setup; past = past; next = record { lawful = c.self.invariant.lawful; groups = c.self.invariant.groups; at = long ∙ sym (length-reverse s.history.items); right = right } }

pub add_change-requires-clause-order : goal.add_change-requires-clause-order
add_change-requires-clause-order c =
    let e = c.args.entry.now in
    let s = c.self.inside in
    let past : Past = reverse s.history.items in
    let kept : Parts = parts s.tree s.order s.display s.classes s.threads.items s.timers s.groups s.inputs s.progress s.sends s.tally s.stories.items s.looks s.dialogs in
    let right : e.answer ≡ reply s.setup past e.who.0 e.call = subst (λ (v : Seen). e.answer ≡ reply v.setup v.past e.who.0 e.call) (sym c.self.view_is) c.requires.answer in
    ranking_fits s.setup past kept e c.self.invariant right

pub take_effect-requires-clause-order : goal.take_effect-requires-clause-order
take_effect-requires-clause-order c =
    let e = c.args.entry.now in
    let s = c.self.inside in
    let past : Past = reverse s.history.items in
    let kept : Parts = parts s.tree s.order s.display s.classes s.threads.items s.timers s.groups s.inputs s.progress s.sends s.tally s.stories.items s.looks s.dialogs in
    let right : e.answer ≡ reply s.setup past e.who.0 e.call = subst (λ (v : Seen). e.answer ≡ reply v.setup v.past e.who.0 e.call) (sym c.self.view_is) c.requires.answer in
    leaving_fits s.setup past kept e c.add_change.new.tree c.add_change.new.order c.self.invariant right c.in_ok-add_change.ensures.tree c.in_ok-add_change.ensures.order

pub add_change-requires-clause-sends : goal.add_change-requires-clause-sends
add_change-requires-clause-sends c =
    let e = c.args.entry.now in
    let s = c.self.inside in
    let past : Past = reverse s.history.items in
    let kept : Parts = parts s.tree s.order s.display s.classes s.threads.items s.timers s.groups s.inputs s.progress s.sends s.tally s.stories.items s.looks s.dialogs in
    let room : is_full past ≡ false = subst (λ (v : Seen). is_full v.past ≡ false) (sym c.self.view_is) c.requires.room in
    let right : e.answer ≡ reply s.setup past e.who.0 e.call = subst (λ (v : Seen). e.answer ≡ reply v.setup v.past e.who.0 e.call) (sym c.self.view_is) c.requires.answer in
    let long : c.len.result ≡ length s.history.items = search rules in
    sends_grow s.setup past kept e c.len.result room c.self.invariant right (long ∙ sym (length-reverse s.history.items))

pub settle_sends-lost-requires-clause-sends : goal.settle_sends-lost-requires-clause-sends
settle_sends-lost-requires-clause-sends c =
    let e = c.args.entry.now in
    let s = c.self.inside in
    let past : Past = reverse s.history.items in
    let kept : Parts = parts s.tree s.order s.display s.classes s.threads.items s.timers s.groups s.inputs s.progress s.sends s.tally s.stories.items s.looks s.dialogs in
    let room : is_full past ≡ false = subst (λ (v : Seen). is_full v.past ≡ false) (sym c.self.view_is) c.requires.room in
    let right : e.answer ≡ reply s.setup past e.who.0 e.call = subst (λ (v : Seen). e.answer ≡ reply v.setup v.past e.who.0 e.call) (sym c.self.view_is) c.requires.answer in
    let long : c.len.result ≡ length s.history.items = search rules in
    sends_settle s.setup past kept e c.len.result c.add_change.new.tree c.add_change.new.sends room c.self.invariant right (long ∙ sym (length-reverse s.history.items)) c.in_ok-add_change.ensures.tree c.in_ok-add_change.ensures.sends

pub take_effect-requires-clause-parts : goal.take_effect-requires-clause-parts
take_effect-requires-clause-parts c =
    let e = c.args.entry.now in
    let s = c.self.inside in
    let past : Past = reverse s.history.items in
    let kept : Parts = parts s.tree s.order s.display s.classes s.threads.items s.timers s.groups s.inputs s.progress s.sends s.tally s.stories.items s.looks s.dialogs in
    let right : e.answer ≡ reply s.setup past e.who.0 e.call = subst (λ (v : Seen). e.answer ≡ reply v.setup v.past e.who.0 e.call) (sym c.self.view_is) c.requires.answer in
    settling_fits s.setup past kept e c.add_change.new.classes c.add_change.new.tree c.add_change.new.threads.items c.self.invariant right c.in_ok-add_change.ensures.classes c.in_ok-add_change.ensures.tree c.in_ok-add_change.ensures.threads.same_length

pub note_look-requires : goal.note_look-requires
note_look-requires c =
    let e = c.args.entry.now in
    let s = c.self.inside in
    let past : Past = reverse s.history.items in
    let kept : Parts = parts s.tree s.order s.display s.classes s.threads.items s.timers s.groups s.inputs s.progress s.sends s.tally s.stories.items s.looks s.dialogs in
    let room : is_full past ≡ false = subst (λ (v : Seen). is_full v.past ≡ false) (sym c.self.view_is) c.requires.room in
    let right : e.answer ≡ reply s.setup past e.who.0 e.call = subst (λ (v : Seen). e.answer ≡ reply v.setup v.past e.who.0 e.call) (sym c.self.view_is) c.requires.answer in
    let long : c.len.result ≡ length s.history.items = search rules in
    let here : c.len.result ≡ place_after past = long ∙ sym (length-reverse s.history.items) in
    let grown = c.in_ok-add_change.ensures in
    look_fits s.setup past e c.len.result c.settle_sends-lost.new.sends room right here (sends_step s.setup past kept e c.add_change.new.tree c.add_change.new.sends c.settle_sends-lost.new.sends c.len.result c.self.invariant right grown.tree grown.sends c.settle_sends-lost.ensures.sends here)

pub invariant_of-self-2 : goal.invariant_of-self-2
invariant_of-self-2 c =
    let e = c.args.entry.now in
    let s = c.self.inside in
    let past : Past = reverse s.history.items in
    let kept : Parts = parts s.tree s.order s.display s.classes s.threads.items s.timers s.groups s.inputs s.progress s.sends s.tally s.stories.items s.looks s.dialogs in
    let room : is_full past ≡ false = subst (λ (v : Seen). is_full v.past ≡ false) (sym c.self.view_is) c.requires.room in
    let right : e.answer ≡ reply s.setup past e.who.0 e.call = subst (λ (v : Seen). e.answer ≡ reply v.setup v.past e.who.0 e.call) (sym c.self.view_is) c.requires.answer in
    let pushed : c.push_reserved.new.self.items ≡ s.history.items ++ e ∷ [] = search rules in
    let newest : e ∷ past ≡ reverse c.push_reserved.new.self.items = sym (ap reverse pushed ∙ past_more s.history.items e) in
    let long : c.len.result ≡ length s.history.items = search rules in
    let here : c.len.result ≡ place_after past = long ∙ sym (length-reverse s.history.items) in
    let grown = c.in_ok-add_change.ensures in
    let settled = c.take_effect.ensures in
    let first : c.first_cause-first.result ≡ first_cause s.sends e.who.0 e.answer e.call = c.first_cause-first.ensures ∙ ap (first_of s.sends) c.named_send-named.ensures in
    let told = c.settle_sends-lost.ensures.stories in
    let begun = ap (with_begun e.answer) c.make_room.ensures.stories in
    let noted = subst (λ q. EachStory (noted_answer e.answer q c.len.result) told.between c.settle_sends-lost.new.stories.items) c.named_send-named.ensures told.after in
    let down : is_running s.setup past e.who.0 ≡ true → posting_of c.shift_for.result e.call ≡ posting_of (is_shift_down past e.who.0) e.call = subst (λ (v : Seen). is_running v.setup v.past e.who.0 ≡ true → posting_of c.shift_for.result e.call ≡ posting_of (is_shift_down v.past e.who.0) e.call) (sym c.self.view_is) c.shift_for.ensures in
    let meant : IsMeantBy s.setup past e.call c.meant_by-meant.result = subst (λ (v : Seen). IsMeantBy v.setup v.past e.call c.meant_by-meant.result) (sym c.self.view_is) c.meant_by-meant.ensures in
    let seen : IsDisplayAt s.setup (e ∷ past) c.take_over.new.self = display_step s.setup past s.tree s.order s.classes e s.display c.add_change.new.display c.take_over.new.self c.in_ok-change.change c.self.invariant.lawful c.self.invariant.tree c.self.invariant.order c.self.invariant.classes right c.self.invariant.display c.in_ok-change.ensures.windows c.in_ok-change.ensures.drawing grown.drawn grown.display c.take_over.ensures in
    let timed = timers_step s.setup past kept e c.add_change.new.tree c.add_change.new.timers c.follow_timers.new.timers c.self.invariant right grown.tree grown.timers c.follow_timers.ensures in
    let grouped = c.follow.ensures s.setup past (record { lawful = c.self.invariant.lawful; groups = c.self.invariant.groups; at = here; right = right }) in
    let stay : PartsStand s.setup (e ∷ past) c.settle_sends-lost.new.sends = sends_step s.setup past kept e c.add_change.new.tree c.add_change.new.sends c.settle_sends-lost.new.sends c.len.result c.self.invariant right grown.tree grown.sends c.settle_sends-lost.ensures.sends here in
    let kept_marks = marks_kept s.tree.live c.add_change.new.tree.live s.progress.time c.len.result e s.sends c.add_change.new.sends c.settle_sends-lost.new.sends grown.sends c.settle_sends-lost.ensures.sends in
    let marked = looks_stand s.setup past e c.len.result s.sends c.settle_sends-lost.new.sends c.note_look.new.sends right here c.self.invariant.marks kept_marks stay c.note_look.ensures in
    let after : c.moment-after.result ≡ moment_at (e ∷ past) = moment_step s.setup past kept e c.followed_by-self-inside.result c.moment-after.result c.self.invariant right c.followed_by-self-inside.ensures c.moment-after.ensures in
    let looked : AreLooksAt s.setup (e ∷ past) c.follow-2.new.self = looks_step s.setup past e s.tree s.order s.display.screen c.moment-after.result c.in_ok-seen.seen.items s.looks c.follow-2.new.self (c.self.invariant.lawful, right) c.self.invariant.tree c.self.invariant.order c.self.invariant.display.screen c.self.invariant.looks after (λ is. c.in_ok-seen.ensures is ∙ ap (seen_of s.tree.live e.who.0) (c.dirty.ensures.value ∙ ap (λ (k : Screen). k.dirty) c.screen.ensures)) c.follow-2.ensures in
    let untaken = inputs_step s.setup past kept c.meant_by-meant.result e c.add_change.new.inputs c.follow_inputs.new.inputs c.self.invariant meant right grown.inputs c.follow_inputs.ensures in
    let now = stands_step s.setup past kept c.shift_for.result e c.add_change.new.classes c.take_effect.new.classes c.add_change.new.tree c.take_effect.new.tree c.add_change.new.order c.take_effect.new.order c.take_over.new.self c.add_change.new.threads.items c.take_effect.new.threads.items c.note_entry.new.threads.items c.mark_look.new.threads.items c.follow_timers.new.timers c.follow.new.self c.follow_inputs.new.inputs c.followed_by-self-inside.result c.add_change.new.sends c.note_look.new.sends c.first_cause-first.result c.settle_sends-lost.result c.with-self-inside.result (with_begun e.answer c.make_room.new.stories.items) told.between c.settle_sends-lost.new.stories.items c.follow-2.new.self c.add_change.new.dialogs c.len.result room right c.self.invariant down grown.classes settled.classes grown.tree settled.tree grown.order settled.order seen grown.threads settled.threads c.note_entry.ensures c.mark_look.ensures timed grouped untaken c.followed_by-self-inside.ensures grown.sends marked.0 marked.1 here first c.settle_sends-lost.ensures.lost c.with-self-inside.ensures begun told.before noted looked grown.dialogs in
    subst (λ (h : Past). Stands s.setup h (parts c.take_effect.new.tree c.take_effect.new.order c.take_over.new.self c.take_effect.new.classes c.mark_look.new.threads.items c.follow_timers.new.timers c.follow.new.self c.follow_inputs.new.inputs c.followed_by-self-inside.result c.note_look.new.sends c.with-self-inside.result c.settle_sends-lost.new.stories.items c.follow-2.new.self c.add_change.new.dialogs)) newest (search (rules, now))

pub with-self-inside-requires : goal.with-self-inside-requires
with-self-inside-requires c =
    let e = c.args.entry.now in
    let s = c.self.inside in
    let past : Past = reverse s.history.items in
    let kept : Parts = parts s.tree s.order s.display s.classes s.threads.items s.timers s.groups s.inputs s.progress s.sends s.tally s.stories.items s.looks s.dialogs in
    let right : e.answer ≡ reply s.setup past e.who.0 e.call = subst (λ (v : Seen). e.answer ≡ reply v.setup v.past e.who.0 e.call) (sym c.self.view_is) c.requires.answer in
    let long : c.len.result ≡ length s.history.items = search rules in
    let here : c.len.result ≡ place_after past = long ∙ sym (length-reverse s.history.items) in
    let grown = c.in_ok-add_change.ensures in
    tally_step s.setup past kept e c.len.result c.settle_sends-lost.result c.add_change.new.tree c.add_change.new.sends c.self.invariant right here grown.tree grown.sends c.settle_sends-lost.ensures.lost

pub named_send-named-requires : goal.named_send-named-requires
named_send-named-requires c =
    let e = c.args.entry.now in
    let s = c.self.inside in
    let past : Past = reverse s.history.items in
    let room : is_full past ≡ false = subst (λ (v : Seen). is_full v.past ≡ false) (sym c.self.view_is) c.requires.room in
    let right : e.answer ≡ reply s.setup past e.who.0 e.call = subst (λ (v : Seen). e.answer ≡ reply v.setup v.past e.who.0 e.call) (sym c.self.view_is) c.requires.answer in
    naming_fits s.setup past e s.sends s.tree.live c.self.invariant.lawful room c.self.invariant.sends c.self.invariant.tree.windows right
