use Rattle.std.proofs.Common.{◌≡◌}
use Rattle.log_text.specs.Passing.{Passes}
use Rattle.log_json.specs.Logs.{entries_json}
use Rattle.log_json.proofs.EntryLines.{past_at}
use Rattle.log_json.proofs.writer.write_entries.Given as goal

abbrev pub invariant-loop-entry : goal.invariant-loop-entry
invariant-loop-entry g l = record {
  passed : Passes (g.K.Sink.holds l.fn.sink) (g.K.Sink.holds l.sink) l.fn.text.items l.text.items (entries_json l.words.script.now (past_at l.history l.entry-index));
  faults : g.K.Sink.faults l.sink ≡ g.K.Sink.faults l.fn.sink;
}
