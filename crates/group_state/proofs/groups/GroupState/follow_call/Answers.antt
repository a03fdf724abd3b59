use Rattle.std.proofs.Common.{◌∷◌, sym, subst}
use Rattle.group_state.specs.GroupTables.{IsGroupsAt}
use Rattle.group_state.proofs.GroupSteps.{active_step, active_thread, active_window, attach_apart, attach_one, attach_other, attach_step, capture_step, capture_thread, capture_window, detach_linked, detach_one, detach_other, detach_step, end_step, end_thread, focus_step, focus_thread, focus_window, other_quiet, call_step, release_step, release_thread}
use Rattle.group_state.proofs.groups.GroupState.follow_call.Goals as goal

pub window_of-requires : goal.window_of-requires
window_of-requires c =
    let h = c.requires.next in
    focus_window h.setup h.past c.args.self.now c.args.place c.args.entry h.next c.requires.fine c.requires.no_input c.in-SetFocus.w c.in-SetFocus.is

pub set-requires-clause-thread : goal.set-requires-clause-thread
set-requires-clause-thread c =
    let h = c.requires.next in
    focus_thread h.setup h.past c.args.self.now c.args.place c.args.entry h.next c.requires.fine c.requires.no_input c.in-SetFocus.w c.in-SetFocus.is

pub window_of-requires-in-SetActive : goal.window_of-requires-in-SetActive
window_of-requires-in-SetActive c =
    let h = c.requires.next in
    active_window h.setup h.past c.args.self.now c.args.place c.args.entry h.next c.requires.fine c.requires.no_input c.in-SetActive.w c.in-SetActive.is

pub activate-requires-clause-thread : goal.activate-requires-clause-thread
activate-requires-clause-thread c =
    let h = c.requires.next in
    active_thread h.setup h.past c.args.self.now c.args.place c.args.entry h.next c.requires.fine c.requires.no_input c.in-SetActive.w c.in-SetActive.is

pub window_of-requires-in-SetCapture : goal.window_of-requires-in-SetCapture
window_of-requires-in-SetCapture c =
    let h = c.requires.next in
    capture_window h.setup h.past c.args.self.now c.args.place c.args.entry h.next c.requires.fine c.requires.no_input c.in-SetCapture.w c.in-SetCapture.is

pub set-requires-in-SetCapture-clause-thread : goal.set-requires-in-SetCapture-clause-thread
set-requires-in-SetCapture-clause-thread c =
    let h = c.requires.next in
    capture_thread h.setup h.past c.args.self.now c.args.place c.args.entry h.next c.requires.fine c.requires.no_input c.in-SetCapture.w c.in-SetCapture.is

pub set-requires-in-ReleaseCapture-clause-thread : goal.set-requires-in-ReleaseCapture-clause-thread
set-requires-in-ReleaseCapture-clause-thread c =
    let h = c.requires.next in
    release_thread h.setup h.past c.args.self.now c.args.place c.args.entry h.next c.requires.fine c.requires.no_input c.in-ReleaseCapture.is

pub attach-requires-clause-one : goal.attach-requires-clause-one
attach-requires-clause-one c =
    let h = c.requires.next in
    attach_one h.setup h.past c.args.self.now c.args.place c.args.entry h.next c.requires.fine c.requires.no_input c.in-Attach.t c.in-Attach.u c.in-Attach.is

pub attach-requires-clause-other : goal.attach-requires-clause-other
attach-requires-clause-other c =
    let h = c.requires.next in
    attach_other h.setup h.past c.args.self.now c.args.place c.args.entry h.next c.requires.fine c.requires.no_input c.in-Attach.t c.in-Attach.u c.in-Attach.is

pub attach-requires-clause-apart : goal.attach-requires-clause-apart
attach-requires-clause-apart c =
    let h = c.requires.next in
    attach_apart h.setup h.past c.args.self.now c.args.place c.args.entry h.next c.requires.fine c.requires.no_input c.in-Attach.t c.in-Attach.u c.in-Attach.is

pub detach-requires-clause-one : goal.detach-requires-clause-one
detach-requires-clause-one c =
    let h = c.requires.next in
    detach_one h.setup h.past c.args.self.now c.args.place c.args.entry h.next c.requires.fine c.requires.no_input c.in-Detach.t c.in-Detach.u c.in-Detach.is

pub detach-requires-clause-other : goal.detach-requires-clause-other
detach-requires-clause-other c =
    let h = c.requires.next in
    detach_other h.setup h.past c.args.self.now c.args.place c.args.entry h.next c.requires.fine c.requires.no_input c.in-Detach.t c.in-Detach.u c.in-Detach.is

pub detach-requires-clause-linked : goal.detach-requires-clause-linked
detach-requires-clause-linked c =
    let h = c.requires.next in
    detach_linked h.setup h.past c.args.self.now c.args.place c.args.entry h.next c.requires.fine c.requires.no_input c.in-Detach.t c.in-Detach.u c.in-Detach.is

pub end-requires : goal.end-requires
end-requires c =
    let h = c.requires.next in
    end_thread h.setup h.past c.args.self.now c.args.place c.args.entry h.next c.requires.fine c.requires.no_input c.in-EndThread.is

pub returns-in-SetFocus : goal.returns-in-SetFocus
returns-in-SetFocus c = λ setup past n fine none.
    subst (IsGroupsAt setup (c.args.entry ∷ past)) (sym c.set.ensures) (focus_step setup past c.args.self.now c.args.place c.args.entry n fine none c.in-SetFocus.w c.in-SetFocus.is c.window_of.result c.window_of.ensures)

pub returns-in-SetActive : goal.returns-in-SetActive
returns-in-SetActive c = λ setup past n fine none.
    subst (IsGroupsAt setup (c.args.entry ∷ past)) (sym c.activate.ensures) (active_step setup past c.args.self.now c.args.place c.args.entry n fine none c.in-SetActive.w c.in-SetActive.is c.window_of-in-SetActive.result c.window_of-in-SetActive.ensures)

pub returns-in-SetCapture : goal.returns-in-SetCapture
returns-in-SetCapture c = λ setup past n fine none.
    subst (IsGroupsAt setup (c.args.entry ∷ past)) (sym c.set-in-SetCapture.ensures) (capture_step setup past c.args.self.now c.args.place c.args.entry n fine none c.in-SetCapture.w c.in-SetCapture.is c.window_of-in-SetCapture.result c.window_of-in-SetCapture.ensures)

pub returns-in-ReleaseCapture : goal.returns-in-ReleaseCapture
returns-in-ReleaseCapture c = λ setup past n fine none.
    subst (IsGroupsAt setup (c.args.entry ∷ past)) (sym c.set-in-ReleaseCapture.ensures) (release_step setup past c.args.self.now c.args.place c.args.entry n fine none c.in-ReleaseCapture.is)

pub returns-in-Attach : goal.returns-in-Attach
returns-in-Attach c = λ setup past n fine none.
    subst (IsGroupsAt setup (c.args.entry ∷ past)) (sym c.attach.ensures.rest) (attach_step setup past c.args.self.now c.args.place c.args.entry n fine none c.in-Attach.t c.in-Attach.u c.in-Attach.is c.attach.new.self.inputs.links c.attach.new.self.inputs.groups c.attach.ensures.links)

pub returns-in-Detach : goal.returns-in-Detach
returns-in-Detach c = λ setup past n fine none.
    subst (IsGroupsAt setup (c.args.entry ∷ past)) (sym c.detach.ensures.rest) (detach_step setup past c.args.self.now c.args.place c.args.entry n fine none c.in-Detach.t c.in-Detach.u c.in-Detach.is c.detach.new.self.inputs.links c.detach.new.self.inputs.groups c.detach.ensures.links)

pub returns-in-EndThread : goal.returns-in-EndThread
returns-in-EndThread c = λ setup past n fine none.
    subst (IsGroupsAt setup (c.args.entry ∷ past)) (sym c.end.ensures.rest) (end_step setup past c.args.self.now c.args.place c.args.entry n fine none c.in-EndThread.is c.end.new.self.inputs.links c.end.new.self.inputs.groups c.end.ensures.links)

pub returns-in_default : goal.returns-in_default
returns-in_default c = λ setup past n fine none.
    let d = c.in_default in
    call_step setup past c.args.self.now c.args.place c.args.entry n fine none (other_quiet c.args.entry.call d.not-SetFocus d.not-SetActive d.not-SetCapture d.not-ReleaseCapture d.not-Attach d.not-Detach) d.not-EndThread
