use Rattle.std.proofs.Common.{◌≡◌}
use Rattle.std.specs.Io.KnownBytes.{Keeps}
use Rattle.user_io.proofs.standard.StdSinkSink.write.Given as goal

abbrev pub invariant-loop : goal.invariant-loop
invariant-loop g l = record {
  faults : l.self-inside.faults ≡ l.fn.self.faults;
  kept : Keeps l.fn.self.known (g.W.Write.contents l.self-inside.writer);
}
