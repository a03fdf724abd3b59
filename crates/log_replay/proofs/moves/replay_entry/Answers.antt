use Rattle.std.proofs.Common.{◌≡◌, subst}
use Rattle.user_model.specs.declared.entry.Entry.{Entry}
use Rattle.log_replay.specs.Replays.{WasWrong, WasRight, MoveTold}
use Rattle.log_replay.proofs.Steps.{bad_move, right_lawful, entry_done}
use Rattle.log_replay.proofs.moves.replay_entry.Goals as goal

pub returns-in-Some-clause-told : goal.returns-in-Some-clause-told
returns-in-Some-clause-told g c =
    let s = c.args.script.now in
    let past = g.M.Machine.past c.args.machine.now in
    let now = g.M.Machine.past c.replay_move.new.machine in
    bad_move s past now c.args.entry.now c.in-Some.why c.requires.run
    (subst (λ (x : Entry). WasWrong s past now x c.in-Some.why) c.entry.ensures (subst (MoveTold s past now c.entry.result) c.in-Some.is c.in_ok-why.ensures.told))

pub frame_fault-requires-clause-lawful : goal.frame_fault-requires-clause-lawful
frame_fault-requires-clause-lawful g c =
    let s = c.args.script.now in
    let past = g.M.Machine.past c.args.machine.now in
    let now = g.M.Machine.past c.replay_move.new.machine in
    right_lawful s past now c.entry.result c.requires.run (subst (MoveTold s past now c.entry.result) c.in_default.is c.in_ok-why.ensures.told)

pub returns-clause-told : goal.returns-clause-told
returns-clause-told g c =
    let s = c.args.script.now in
    let past = g.M.Machine.past c.args.machine.now in
    let now = g.M.Machine.past c.replay_move.new.machine in
    let right : WasRight s past now c.args.entry.now.entry = subst (λ (x : Entry). WasRight s past now x) c.entry.ensures (subst (MoveTold s past now c.entry.result) c.in_default.is c.in_ok-why.ensures.told) in
    entry_done s past now c.args.entry.now c.frame_fault.result c.requires.run right (c.frame_fault.ensures past right.made)
