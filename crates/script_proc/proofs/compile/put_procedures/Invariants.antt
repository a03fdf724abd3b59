use Rattle.std.proofs.Common.{take}
use Rattle.script_proc.specs.Programs.{EachStarts, Grows, procedure_body}
use Rattle.script_proc.proofs.compile.put_procedures.Given as goal

abbrev pub invariant-loop-procedure : goal.invariant-loop-procedure
invariant-loop-procedure l = record {
  each : EachStarts procedure_body l.lines.items l.places.items (take l.procedure-index l.procedures);
  grows : Grows l.initial.lines.items l.lines.items;
}
