use Rattle.std.proofs.Common.{◌≡◌, true, take}
use Rattle.name_table.specs.Rows.{is_one_to_one}
use Rattle.name_table.specs.Tables.{all_named}
use Rattle.name_table.proofs.table.NameTable.new.Given as goal

abbrev pub invariant-loop-second : goal.invariant-loop-second
invariant-loop-second l = is_one_to_one (take l.second (all_named l.rows)) ≡ true
