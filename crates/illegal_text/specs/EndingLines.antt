-- The lines after the entries, one by one.
use Rattle.std.specs.Prelude.{ℕ, List, [], ◌∷◌, ◌++◌, map}
use Rattle.user_model.specs.declared.entry.SendCount.{SendCount}
use Rattle.script_tree.specs.Tree.{Tree}
use Rattle.log_text.specs.declared.end.End.{End}
use Rattle.log_text.specs.Endings.{end_line, counts_line}
use Rattle.log_read.specs.declared.log.Extra.{Extra}
use Rattle.log_read.specs.Logs.{LogTree, extra_line}
use Rattle.illegal_text.specs.declared.lines.EndingLine.{EndingLine}
use Rattle.illegal_text.specs.declared.lines.EndingLine.TheVariants.{Ends, Tells, Counts}

-- how the run ended, what is told of threads, and the counts of sends
abbrev pub lines_of : End → List Extra → SendCount → List EndingLine
lines_of end extras sends = Ends end ∷ (map (λ (x : Extra). Tells x) extras ++ Counts sends ∷ [])

-- those of a log
abbrev pub ending_lines : LogTree → List EndingLine
ending_lines l = lines_of l.end l.extras l.sends

-- the text of one
abbrev pub line_text : Tree → EndingLine → List ℕ
line_text s (Ends end) = end_line end
line_text s (Tells extra) = extra_line s extra
line_text s (Counts sends) = counts_line sends
