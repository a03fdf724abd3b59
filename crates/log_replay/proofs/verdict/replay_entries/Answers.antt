use Rattle.std.proofs.Common.{subst}
use Rattle.log_read.specs.Logs.{LogEntryTree}
use Rattle.user_pool.proofs.NeverFull.{has_room}
use Rattle.log_replay.specs.Replays.{WasBad, EntryTold}
use Rattle.log_replay.proofs.Loops.{stopped_here}
use Rattle.log_replay.proofs.verdict.replay_entries.Goals as goal

pub replay_entry-requires-clause-room : goal.replay_entry-requires-clause-room
replay_entry-requires-clause-room g c = has_room c.args.script.now (g.M.Machine.past c.loop-entry.machine) c.requires.few c.requires.small c.loop-entry.invariant.run

pub returns-in-Some-clause-stopped : goal.returns-in-Some-clause-stopped
returns-in-Some-clause-stopped g c =
    let s = c.args.script.now in
    let past = g.M.Machine.past c.loop-entry.machine in
    let now = g.M.Machine.past c.replay_entry.new.machine in
    stopped_here s past now c.args.entries.now c.loop-entry.entry-index c.loop-entry.place c.entry-item.result c.in-Some.why c.loop-entry.invariant.run c.loop-entry.invariant.place c.loop-entry-test.true c.loop-entry.invariant.made
    (subst (λ (x : LogEntryTree). WasBad s past now x c.in-Some.why) c.entry-item.is (subst (EntryTold s past now c.entry-item.result) c.in-Some.is c.in_ok-why.ensures.told))
