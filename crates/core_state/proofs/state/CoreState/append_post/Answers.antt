use Rattle.std.proofs.Common.{rules, ◌≡◌, false, ◌∷◌, [], ◌++◌, reverse, refl, sym, ap, ◌∙◌, subst}
use Rattle.user_model.specs.Past.{Past, is_full}
use Rattle.user_model.specs.Keys.{is_shift_down}
use Rattle.user_model.specs.Idle.{reply}
use Rattle.user_model.proofs.ClockLaws.{past_more}
use Rattle.look_state.specs.Looks.{AreLooksAt, moment_at}
use Rattle.look_state.proofs.LookSteps.{looks_step}
use Rattle.send_state.proofs.Marks.{marks-other}
use Rattle.thread_queues.specs.Changes.{Change, changed, count_kept}
use Rattle.thread_queues.specs.Deliveries.{adding_in, change_of_post, posting}
use Rattle.thread_queues.specs.Queues.{EachBy}
use Rattle.core_state.specs.Needs.{FitsPosting}
use Rattle.core_state.specs.States.{Parts, Seen, Stands, parts}
use Rattle.core_state.proofs.Appended.{growth_fits}
use Rattle.core_state.proofs.QuietEntries.{post_added, post_fits, post_goes_on, post_leaves, post_looks, post_is_no_look, post_no_look, post_still, post_time, post_unmarked}
use Rattle.core_state.proofs.StillEntries.{come, quiet_sends, quiet_step}
use Rattle.core_state.proofs.state.CoreState.append_post.Goals as goal

pub add_post-requires-clause-call : goal.add_post-requires-clause-call
add_post-requires-clause-call c =
    let e = c.args.entry.now in
    let s = c.self.inside in
    let past : Past = reverse s.history.items in
    let kept : Parts = parts s.tree s.order s.display s.classes s.threads.items s.timers s.groups s.inputs s.progress s.sends s.tally s.stories.items s.looks s.dialogs in
    let right : e.answer ≡ reply s.setup past e.who.0 e.call = subst (λ (v : Seen). e.answer ≡ reply v.setup v.past e.who.0 e.call) (sym c.self.view_is) c.requires.answer in
    (post_fits s.classes s.tree s.threads.items s.progress.time s.progress.cursor (is_shift_down past e.who.0) false e.who.0 s.progress.posts e.answer e.call c.requires.posts (growth_fits s.setup past kept (is_shift_down past e.who.0) e c.self.invariant (λ runs. refl) right)).0

pub add_post-requires-clause-room : goal.add_post-requires-clause-room
add_post-requires-clause-room c =
    let e = c.args.entry.now in
    let s = c.self.inside in
    let past : Past = reverse s.history.items in
    let kept : Parts = parts s.tree s.order s.display s.classes s.threads.items s.timers s.groups s.inputs s.progress s.sends s.tally s.stories.items s.looks s.dialogs in
    let right : e.answer ≡ reply s.setup past e.who.0 e.call = subst (λ (v : Seen). e.answer ≡ reply v.setup v.past e.who.0 e.call) (sym c.self.view_is) c.requires.answer in
    let fits = (post_fits s.classes s.tree s.threads.items s.progress.time s.progress.cursor (is_shift_down past e.who.0) false e.who.0 s.progress.posts e.answer e.call c.requires.posts (growth_fits s.setup past kept (is_shift_down past e.who.0) e c.self.invariant (λ runs. refl) right)).1 in
    subst (λ n. FitsPosting s.threads.items n (posting s.tree.live s.progress.time s.progress.cursor false e.who.0 e.call)) (sym c.count_after-number.ensures) fits

pub note_running-requires : goal.note_running-requires
note_running-requires c = post_goes_on c.args.entry.now.who c.args.entry.now.call c.args.entry.now.answer c.requires.posts

pub invariant_of-self-2 : goal.invariant_of-self-2
invariant_of-self-2 c =
    let e = c.args.entry.now in
    let s = c.self.inside in
    let past : Past = reverse s.history.items in
    let kept : Parts = parts s.tree s.order s.display s.classes s.threads.items s.timers s.groups s.inputs s.progress s.sends s.tally s.stories.items s.looks s.dialogs in
    let shift = is_shift_down past e.who.0 in
    let st = c.self.invariant in
    let posts = c.requires.posts in
    let room : is_full past ≡ false = subst (λ (v : Seen). is_full v.past ≡ false) (sym c.self.view_is) c.requires.room in
    let right : e.answer ≡ reply s.setup past e.who.0 e.call = subst (λ (v : Seen). e.answer ≡ reply v.setup v.past e.who.0 e.call) (sym c.self.view_is) c.requires.answer in
    let pushed : c.push_reserved.new.self.items ≡ s.history.items ++ e ∷ [] = search rules in
    let newest : e ∷ past ≡ reverse c.push_reserved.new.self.items = sym (ap reverse pushed ∙ past_more s.history.items e) in
    let number = c.count_after-number.result in
    let change : change_of_post number (posting s.tree.live s.progress.time s.progress.cursor false e.who.0 e.call) ≡ adding_in s.tree.live s.progress.time s.progress.cursor shift e.who.0 e.answer e.call =
    ap (λ n. change_of_post n (posting s.tree.live s.progress.time s.progress.cursor false e.who.0 e.call)) c.count_after-number.ensures
    ∙ post_added s.tree.live s.progress.time s.progress.cursor false shift e.who.0 s.progress.posts e.answer e.call posts in
    let first = subst (λ (h : Change). EachBy (λ t. changed t h) s.threads.items c.add_post.new.threads.items) change c.in_ok-add_post.ensures.ok in
    let second = post_leaves s.tree.live e.who.0 e.call e.answer c.add_post.new.threads.items posts in
    let stay = quiet_sends s.setup past kept e (post_still e.answer e.call posts) room right st in
    let looked : AreLooksAt s.setup (e ∷ past) s.looks = looks_step s.setup past e s.tree s.order s.display.screen (moment_at (e ∷ past)) [] s.looks s.looks (st.lawful, right) st.tree st.order st.display.screen st.looks refl (λ is. absurd (post_no_look e.answer e.call posts is)) (post_looks e s.looks (moment_at (e ∷ past)) posts) in
    let now = quiet_step s.setup past kept e (post_still e.answer e.call posts) room right st c.add_post.new.threads.items c.add_post.new.threads.items c.note_running.new.threads.items c.note_running.new.threads.items (come number s.progress.inputs s.progress.time s.progress.cursor) s.sends s.looks first second c.note_running.ensures (post_unmarked e number c.note_running.new.threads.items posts) (ap (λ n. come n s.progress.inputs s.progress.time s.progress.cursor) c.count_after-number.ensures ∙ ap (λ n. come (count_kept e.answer s.progress.posts) s.progress.inputs n s.progress.cursor) (post_time e.who.0 s.progress.time e.answer e.call posts)) stay (marks-other s.setup past e s.sends.marks (post_is_no_look e.answer e.call posts) st.marks) looked in
    subst (λ (h : Past). Stands s.setup h (parts s.tree s.order s.display s.classes c.note_running.new.threads.items s.timers s.groups s.inputs (come number s.progress.inputs s.progress.time s.progress.cursor) s.sends s.tally s.stories.items s.looks s.dialogs)) newest now
