use Rattle.std.proofs.Common.{rules, ◌≡◌, false, ◌∷◌, [], ◌++◌, reverse, length, refl, sym, ap, ◌∙◌, subst}
use Rattle.std.proofs.lemmas.List.{length-reverse}
use Rattle.user_model.specs.Past.{Past, is_full, place_after}
use Rattle.user_model.specs.Keys.{is_shift_down}
use Rattle.user_model.specs.Idle.{reply}
use Rattle.user_model.proofs.ClockLaws.{past_more}
use Rattle.look_state.specs.Looks.{AreLooksAt, seen_of}
use Rattle.look_state.proofs.LookSteps.{looks_step}
use Rattle.screen_state.specs.Screens.{Kept as Screen}
use Rattle.core_state.specs.States.{Parts, Seen, Stands, parts}
use Rattle.core_state.proofs.Appended.{settling_fits}
use Rattle.core_state.proofs.SendMarks.{look_fits, looks_stand}
use Rattle.thread_queues.specs.Changes.{count_kept}
use Rattle.core_state.proofs.QuietEntries.{read_added, read_counts, read_fits, read_still, read_time}
use Rattle.core_state.proofs.StillEntries.{come, quiet_moment, quiet_sends, quiet_step}
use Rattle.core_state.proofs.state.CoreState.append_read.Goals as goal

pub take_post-requires-clause-fits : goal.take_post-requires-clause-fits
take_post-requires-clause-fits c =
    let e = c.args.entry.now in
    let s = c.self.inside in
    let past : Past = reverse s.history.items in
    let kept : Parts = parts s.tree s.order s.display s.classes s.threads.items s.timers s.groups s.inputs s.progress s.sends s.tally s.stories.items s.looks s.dialogs in
    let right : e.answer ≡ reply s.setup past e.who.0 e.call = subst (λ (v : Seen). e.answer ≡ reply v.setup v.past e.who.0 e.call) (sym c.self.view_is) c.requires.answer in
    let still = read_still e.answer e.call c.requires.reads in
    read_fits s.classes s.tree s.threads.items e.who.0 e.answer e.call (settling_fits s.setup past kept e s.classes s.tree s.threads.items c.self.invariant right (still.classes s.classes) (still.tree e.who.0 s.tree) refl)

pub note_ready-requires-clause-look : goal.note_ready-requires-clause-look
note_ready-requires-clause-look c =
    let e = c.args.entry.now in
    let s = c.self.inside in
    let past : Past = reverse s.history.items in
    let kept : Parts = parts s.tree s.order s.display s.classes s.threads.items s.timers s.groups s.inputs s.progress s.sends s.tally s.stories.items s.looks s.dialogs in
    let room : is_full past ≡ false = subst (λ (v : Seen). is_full v.past ≡ false) (sym c.self.view_is) c.requires.room in
    let right : e.answer ≡ reply s.setup past e.who.0 e.call = subst (λ (v : Seen). e.answer ≡ reply v.setup v.past e.who.0 e.call) (sym c.self.view_is) c.requires.answer in
    let long : c.len-place.result ≡ length s.history.items = search rules in
    look_fits s.setup past e c.len-place.result s.sends room right (long ∙ sym (length-reverse s.history.items)) (quiet_sends s.setup past kept e (read_still e.answer e.call c.requires.reads) room right c.self.invariant)

pub invariant_of-self-2 : goal.invariant_of-self-2
invariant_of-self-2 c =
    let e = c.args.entry.now in
    let s = c.self.inside in
    let past : Past = reverse s.history.items in
    let kept : Parts = parts s.tree s.order s.display s.classes s.threads.items s.timers s.groups s.inputs s.progress s.sends s.tally s.stories.items s.looks s.dialogs in
    let st = c.self.invariant in
    let reads = c.requires.reads in
    let still = read_still e.answer e.call reads in
    let went = ap (λ n. come n s.progress.inputs s.progress.time s.progress.cursor) (read_counts e.answer e.call s.progress.posts reads) ∙ ap (λ n. come (count_kept e.answer s.progress.posts) s.progress.inputs n s.progress.cursor) (read_time e.who.0 s.progress.time e.answer e.call reads) in
    let room : is_full past ≡ false = subst (λ (v : Seen). is_full v.past ≡ false) (sym c.self.view_is) c.requires.room in
    let right : e.answer ≡ reply s.setup past e.who.0 e.call = subst (λ (v : Seen). e.answer ≡ reply v.setup v.past e.who.0 e.call) (sym c.self.view_is) c.requires.answer in
    let pushed : c.push_reserved.new.self.items ≡ s.history.items ++ e ∷ [] = search rules in
    let newest : e ∷ past ≡ reverse c.push_reserved.new.self.items = sym (ap reverse pushed ∙ past_more s.history.items e) in
    let long : c.len-place.result ≡ length s.history.items = search rules in
    let here : c.len-place.result ≡ place_after past = long ∙ sym (length-reverse s.history.items) in
    let first = read_added s.tree.live s.progress.time s.progress.cursor (is_shift_down past e.who.0) e.who.0 e.answer e.call s.threads.items reads in
    let after = quiet_moment s.setup past kept e still room right st c.moment-after.result s.progress went c.moment-after.ensures in
    let looked : AreLooksAt s.setup (e ∷ past) c.note_seen.new.looks = looks_step s.setup past e s.tree s.order s.display.screen c.moment-after.result c.in_ok-seen.seen.items s.looks c.note_seen.new.looks (st.lawful, right) st.tree st.order st.display.screen st.looks after (λ is. c.in_ok-seen.ensures is ∙ ap (seen_of s.tree.live e.who.0) (c.dirty.ensures.value ∙ ap (λ (k : Screen). k.dirty) c.screen.ensures)) c.note_seen.ensures in
    let marked = looks_stand s.setup past e c.len-place.result s.sends s.sends c.note_ready.new.sends right here st.marks refl (quiet_sends s.setup past kept e still room right st) c.note_ready.ensures in
    let now = quiet_step s.setup past kept e still room right st s.threads.items c.take_post.new.threads.items c.note_wait.new.threads.items c.mark_read.new.threads.items s.progress c.note_ready.new.sends c.note_seen.new.looks first (c.take_post.ensures s.tree.live) c.note_wait.ensures c.mark_read.ensures went marked.0 marked.1 looked in
    subst (λ (h : Past). Stands s.setup h (parts s.tree s.order s.display s.classes c.mark_read.new.threads.items s.timers s.groups s.inputs s.progress c.note_ready.new.sends s.tally s.stories.items c.note_seen.new.looks s.dialogs)) newest now
