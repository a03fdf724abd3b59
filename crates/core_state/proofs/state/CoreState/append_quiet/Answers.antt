use Rattle.std.proofs.Common.{rules, ◌≡◌, false, ◌∷◌, [], ◌++◌, reverse, refl, sym, ap, ◌∙◌, subst}
use Rattle.user_model.specs.Past.{Past, is_full}
use Rattle.user_model.specs.Keys.{is_shift_down}
use Rattle.user_model.specs.Idle.{reply}
use Rattle.user_model.proofs.ClockLaws.{past_more}
use Rattle.thread_queues.specs.Changes.{count_kept}
use Rattle.core_state.specs.States.{Parts, Seen, Stands, parts}
use Rattle.core_state.proofs.Appended.{settling_fits}
use Rattle.core_state.proofs.PlainEntries.{looks_stay, marks_stay, none_added, none_marked, quiet_plain, quit_alone}
use Rattle.core_state.proofs.StillEntries.{come, quiet_sends, quiet_step}
use Rattle.core_state.proofs.state.CoreState.append_quiet.Goals as goal

pub note_quit-requires : goal.note_quit-requires
note_quit-requires c =
    let e = c.args.entry.now in
    let s = c.self.inside in
    let past : Past = reverse s.history.items in
    let kept : Parts = parts s.tree s.order s.display s.classes s.threads.items s.timers s.groups s.inputs s.progress s.sends s.tally s.stories.items s.looks s.dialogs in
    let right : e.answer ≡ reply s.setup past e.who.0 e.call = subst (λ (v : Seen). e.answer ≡ reply v.setup v.past e.who.0 e.call) (sym c.self.view_is) c.requires.answer in
    let plain = quiet_plain s.setup past e.who.0 e.answer e.call right c.requires.quiet in
    plain.fits s.classes s.tree s.threads.items e.who.0 (settling_fits s.setup past kept e s.classes s.tree s.threads.items c.self.invariant right (plain.still.classes s.classes) (plain.still.tree e.who.0 s.tree) refl)

pub invariant_of-self-2 : goal.invariant_of-self-2
invariant_of-self-2 c =
    let e = c.args.entry.now in
    let s = c.self.inside in
    let past : Past = reverse s.history.items in
    let kept : Parts = parts s.tree s.order s.display s.classes s.threads.items s.timers s.groups s.inputs s.progress s.sends s.tally s.stories.items s.looks s.dialogs in
    let st = c.self.invariant in
    let room : is_full past ≡ false = subst (λ (v : Seen). is_full v.past ≡ false) (sym c.self.view_is) c.requires.room in
    let right : e.answer ≡ reply s.setup past e.who.0 e.call = subst (λ (v : Seen). e.answer ≡ reply v.setup v.past e.who.0 e.call) (sym c.self.view_is) c.requires.answer in
    let plain = quiet_plain s.setup past e.who.0 e.answer e.call right c.requires.quiet in
    let pushed : c.push_reserved.new.self.items ≡ s.history.items ++ e ∷ [] = search rules in
    let newest : e ∷ past ≡ reverse c.push_reserved.new.self.items = sym (ap reverse pushed ∙ past_more s.history.items e) in
    let progress = come s.progress.posts s.progress.inputs c.time_after-self-inside.result s.progress.cursor in
    let went = ap (λ n. come n s.progress.inputs c.time_after-self-inside.result s.progress.cursor) (plain.count s.progress.posts) ∙ ap (λ n. come (count_kept e.answer s.progress.posts) s.progress.inputs n s.progress.cursor) c.time_after-self-inside.ensures in
    let first = none_added s.tree.live s.progress.time s.progress.cursor (is_shift_down past e.who.0) e.who.0 e.answer e.call s.threads.items plain in
    let second = quit_alone s.tree.live e.who.0 e.answer e.call s.threads.items c.note_quit.new.threads.items plain c.note_quit.ensures in
    let stay = quiet_sends s.setup past kept e plain.still room right st in
    let now = quiet_step s.setup past kept e plain.still room right st s.threads.items c.note_quit.new.threads.items c.note_entry.new.threads.items c.note_entry.new.threads.items progress s.sends s.looks first second c.note_entry.ensures (none_marked e s.progress.posts c.note_entry.new.threads.items plain) went stay (marks_stay s.setup past e s.sends.marks plain st.marks) (looks_stay s.setup past e s.looks plain st.looks) in
    subst (λ (h : Past). Stands s.setup h (parts s.tree s.order s.display s.classes c.note_entry.new.threads.items s.timers s.groups s.inputs progress s.sends s.tally s.stories.items s.looks s.dialogs)) newest now
