-- The text that tells of the runs that were made.
use Rattle.std.specs.Prelude.{ℕ, Bool, true, false, List, [], ◌++◌, codes}
use Rattle.std.specs.List.{flat_map}
use Rattle.user_io.specs.Text.{operand}
use Rattle.log_text.specs.Summaries.{count_line}
use Rattle.run_explorer.specs.declared.report.Report.{Report}
use Rattle.run_explorer.specs.declared.report.Found.{Found}
use Rattle.run_explorer.specs.declared.report.Order.{Order}
use Rattle.run_explorer.specs.declared.report.Order.TheVariants.{Nowhere, Movers, Long}

-- the line of an order list, as a script has it; none where there is no such run
abbrev pub order_line : Order → List ℕ
order_line Nowhere = []
order_line (Movers numbers) = codes "order" ++ (flat_map operand numbers.items ++ codes "\n")
order_line Long = codes "order long\n"

-- how many there are, and who moved in the first one
abbrev pub found_lines : List ℕ → Found → List ℕ
found_lines word found = count_line word found.count ++ order_line found.order

-- the lines of the mark, where there is one
abbrev pub marked_lines : Bool → Found → List ℕ
marked_lines true found = found_lines (codes "marked") found
marked_lines false found = []

-- whether these are all
abbrev pub last_line : Bool → List ℕ
last_line true = codes "all\n"
last_line false = codes "more\n"

-- the lines of a report
unfoldable pub report_text : Report → List ℕ
report_text r = count_line (codes "explored") r.runs ++ (count_line (codes "entries") r.entries ++ (count_line (codes "done") r.done ++ (found_lines (codes "stuck") r.stuck ++ (found_lines (codes "spent") r.spent ++ (marked_lines r.asks_marked r.marked ++ last_line r.is_all)))))
