use Rattle.std.proofs.Common.{◌≡◌, length}
use Rattle.std.specs.Prelude.{map}
use Rattle.std.specs.List.{AllByRecursion}
use Rattle.log_read.specs.Limits.{IsValue}
use Rattle.log_read.specs.Reading.{values_from}
use Rattle.log_read.proofs.ValueLoops.{with_front, from_place}
use Rattle.log_read.proofs.values.values_at.Given as goal

abbrev pub invariant-loop-index : goal.invariant-loop-index
invariant-loop-index l = record {
  so_far : with_front l.values.items (from_place l.words.script.now l.fields (map (λ w. w.now) l.line) l.at l.index) ≡ values_from l.words.script.now l.fields (map (λ w. w.now) l.line) l.at;
  fits : AllByRecursion (IsValue l.words.script.now) l.values.items;
  many : length l.values.items ≡ l.index;
}
