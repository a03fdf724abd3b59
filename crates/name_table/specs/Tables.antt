-- What a table of names shows.
use Rattle.std.specs.Prelude.{List, map}
use Rattle.name_table.specs.declared.table.Row.{Row}
use Rattle.name_table.specs.Rows.{Named, row}

-- a row, read
abbrev pub named : Row → Named
named r = row r.name.now r.number

-- all rows, read
abbrev pub all_named : List Row → List Named
all_named rows = map named rows
