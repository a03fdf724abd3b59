use Rattle.std.proofs.Common.{◌≡◌, drop}
use Rattle.std.specs.Prelude.{find}
use Rattle.std.specs.Str.{bytes_eq}
use Rattle.call_table.specs.Calls.{call_row}
use Rattle.call_table.proofs.calls.call_in.Given as goal

abbrev pub invariant-loop-name : goal.invariant-loop-name
invariant-loop-name l = find (λ n. bytes_eq (call_row n).word l.word) (drop l.name-index l.calls) ≡ find (λ n. bytes_eq (call_row n).word l.word) l.calls
