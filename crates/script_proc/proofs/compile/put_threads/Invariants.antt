use Rattle.std.proofs.Common.{take}
use Rattle.script_proc.specs.Programs.{EachStarts, Grows, itself}
use Rattle.script_proc.proofs.compile.put_threads.Given as goal

abbrev pub invariant-loop-body : goal.invariant-loop-body
invariant-loop-body l = record {
  each : EachStarts itself l.lines.items l.places.items (take l.body-index l.threads);
  grows : Grows l.initial.lines.items l.lines.items;
}
