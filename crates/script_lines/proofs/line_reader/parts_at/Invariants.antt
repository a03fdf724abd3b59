use Rattle.std.proofs.Common.{◌≡◌, length}
use Rattle.std.specs.Prelude.{map}
use Rattle.std.specs.List.{AllByRecursion}
use Rattle.script_lines.specs.LineLimits.{IsPart}
use Rattle.script_lines.specs.LineReading.{parts_from}
use Rattle.script_lines.specs.NameLimits.{AreKnown}
use Rattle.script_lines.proofs.PartLoops.{after_front, from_place}
use Rattle.script_lines.proofs.line_reader.parts_at.Given as goal

abbrev pub invariant-loop-index : goal.invariant-loop-index
invariant-loop-index l = record {
  so_far : after_front l.parts.items (from_place l.known l.places (map (λ w. w.now) l.words) l.index) ≡ parts_from l.initial.known l.places (map (λ w. w.now) l.words) 1;
  kept : AreKnown l.known;
  fits : AllByRecursion IsPart l.parts.items;
  many : length l.parts.items ≡ l.index;
}
