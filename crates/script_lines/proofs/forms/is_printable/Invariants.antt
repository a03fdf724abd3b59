use Rattle.std.proofs.Common.{◌≡◌, drop}
use Rattle.std.specs.List.{list_all}
use Rattle.script_lines.specs.Forms.{is_printable_byte}
use Rattle.script_lines.proofs.forms.is_printable.Given as goal

abbrev pub invariant-loop-byte : goal.invariant-loop-byte
invariant-loop-byte l = list_all is_printable_byte (drop l.byte-index l.text) ≡ list_all is_printable_byte l.text
