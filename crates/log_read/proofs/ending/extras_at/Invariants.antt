use Rattle.std.proofs.Common.{◌≡◌, List, drop}
use Rattle.std.specs.Prelude.{map}
use Rattle.std.specs.List.{AllByRecursion}
use Rattle.script_lines.specs.LineTexts.{joined}
use Rattle.log_read.specs.declared.log.Extra.{Extra}
use Rattle.log_read.specs.Limits.{IsExtra}
use Rattle.log_read.specs.Words.{extra_words}
use Rattle.log_read.proofs.LineLoops.{Rest}
use Rattle.log_read.proofs.ending.extras_at.Given as goal

abbrev pub invariant-loop-text : goal.invariant-loop-text
invariant-loop-text l = record {
  fits : AllByRecursion (IsExtra l.words.script.now l.end) l.extras.items;
  again : (xs : List Extra) → AllByRecursion (IsExtra l.words.script.now l.end) xs → map (λ w. w.now) l.lines ≡ map joined (map (extra_words l.words.script.now) xs)
      → Rest (λ w. w.now) (extra_words l.words.script.now) (IsExtra l.words.script.now l.end) (drop l.text-index l.lines) l.extras.items xs;
}
