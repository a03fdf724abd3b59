use Rattle.std.proofs.Common.{◌≡◌, drop}
use Rattle.std.specs.List.{list_all}
use Rattle.script_lines.specs.Forms.{is_upper_byte}
use Rattle.log_read.proofs.forms.all_upper_bytes.Given as goal

abbrev pub invariant-loop-byte : goal.invariant-loop-byte
invariant-loop-byte l = list_all is_upper_byte (drop l.byte-index l.bytes) ≡ list_all is_upper_byte l.bytes
