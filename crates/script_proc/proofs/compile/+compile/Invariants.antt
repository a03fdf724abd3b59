use Rattle.std.proofs.Common.{◌≤◌, take, vec_len}
use Rattle.script_proc.specs.Programs.{IsPut}
use Rattle.script_proc.proofs.compile.+compile.Given as goal

abbrev pub invariant-put_body-loop-statement : goal.invariant-put_body-loop-statement
invariant-put_body-loop-statement l = record {
  put : IsPut (take l.statement-index l.statements) l.initial.lines.items l.lines.items;
  grows : vec_len l.initial.lines ≤ vec_len l.lines;
}
