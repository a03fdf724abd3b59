use Rattle.std.proofs.Common.{◌≡◌, ℕ, ◌-◌, true, List, ◌∷◌, ◌++◌, length}
use Rattle.std.specs.Prelude.{map}
use Rattle.std.specs.List.{AllByRecursion}
use Rattle.script_lines.specs.LineTexts.{joined}
use Rattle.log_read.specs.Limits.{IsLogEntry}
use Rattle.log_read.specs.Logs.{LogEntryTree}
use Rattle.log_read.specs.Reading.{is_end_line}
use Rattle.log_read.specs.Words.{entries_words}
use Rattle.log_read.proofs.EntryLoops.{Left}
use Rattle.log_read.proofs.entries.entries_at.Given as goal

abbrev pub invariant-loop-place : goal.invariant-loop-place
invariant-loop-place l = record {
  fits : AllByRecursion (IsLogEntry l.words.script.now) l.entries.items;
  again : (es : List LogEntryTree) (end : List ℕ) (rest : List (List ℕ)) → AllByRecursion (IsLogEntry l.words.script.now) es → is_end_line end ≡ true
      → map (λ w. w.now) l.lines ≡ map joined (entries_words l.words.script.now es) ++ end ∷ rest → Left (λ w. w.now) l.words.script.now l.lines l.place l.entries.items es end rest;
}

abbrev pub decreases-loop-place : goal.decreases-loop-place
decreases-loop-place l = length l.lines - l.place
