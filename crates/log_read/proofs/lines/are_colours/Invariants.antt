use Rattle.std.proofs.Common.{◌≡◌, drop}
use Rattle.std.specs.List.{list_all}
use Rattle.log_read.specs.Reading.{is_colour_digit}
use Rattle.log_read.proofs.lines.are_colours.Given as goal

abbrev pub invariant-loop-byte : goal.invariant-loop-byte
invariant-loop-byte l = list_all is_colour_digit (drop l.byte-index l.text) ≡ list_all is_colour_digit l.text
