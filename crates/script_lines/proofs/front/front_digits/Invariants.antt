use Rattle.std.proofs.Common.{◌≡◌, ◌≤◌, true, take}
use Rattle.std.specs.Str.{all_ascii_digits}
use Rattle.script_lines.proofs.FrequentLines.{value_from}
use Rattle.script_lines.proofs.front.front_digits.Given as goal

abbrev pub invariant-loop-digits : goal.invariant-loop-digits
invariant-loop-digits l = record {
  value : l.value ≡ value_from 0 (take l.digits l.text);
  all : all_ascii_digits (take l.digits l.text) ≡ true;
  few : l.digits ≤ 19;
}
