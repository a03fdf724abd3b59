use Rattle.std.proofs.Common.{◌≡◌, drop}
use Rattle.std.specs.Prelude.{find}
use Rattle.std.specs.Str.{bytes_eq}
use Rattle.script_lines.specs.Rows.{command_word}
use Rattle.script_lines.proofs.rows.command_in.Given as goal

abbrev pub invariant-loop-v : goal.invariant-loop-v
invariant-loop-v l = find (λ v. bytes_eq (command_word v) l.word) (drop l.v-index l.all) ≡ find (λ v. bytes_eq (command_word v) l.word) l.all
