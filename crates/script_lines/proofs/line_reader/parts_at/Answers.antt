use Rattle.std.proofs.Common.{ap, sym, ◌∙◌, [], ◌∷◌, length, arith}
use Rattle.std.proofs.lemmas.List.{length-append}
use Rattle.script_lines.specs.LineLimits.{IsPart}
use Rattle.script_lines.specs.LineReading.{part_at}
use Rattle.script_lines.proofs.LineLoops.{all_push}
use Rattle.script_lines.proofs.PartLoops.{parts_more, parts_none, parts_over}
use Rattle.script_lines.proofs.line_reader.parts_at.Goals as goal

pub returns-in_default-clause-found : goal.returns-in_default-clause-found
returns-in_default-clause-found c =
    let found = rw c.in_default.is at c.in_ok-part.ensures.found in
    let same = found ∙ ap (part_at c.loop-index.known _) c.word_at-word.ensures in
    sym (parts_none c.loop-index.parts.items c.loop-index.known c.args.places.now _ c.loop-index.index _ _ c.loop-index-test.true same c.loop-index.invariant.so_far)

pub loop-index-preserved : goal.loop-index-preserved
loop-index-preserved c =
    let found = rw c.in-Some.is at c.in_ok-part.ensures.found in
    let fits = rw c.in-Some.is at c.in_ok-part.ensures.fits in
    let same = found ∙ ap (part_at c.loop-index.known _) c.word_at-word.ensures in
    record {
      so_far = parts_more c.loop-index.parts.items c.push.new.self.items c.loop-index.known c.part_at.new.known c.in-Some.part c.args.places.now _ c.loop-index.index _ _ c.loop-index-test.true same c.loop-index.invariant.so_far c.push.ensures.items;
      kept = c.part_at.ensures.kept;
      fits = rw c.push.ensures.items (all_push IsPart _ _ c.loop-index.invariant.fits fits);
      many = omega (arith, ap length c.push.ensures.items, length-append c.loop-index.parts.items (c.in-Some.part ∷ []), c.loop-index.invariant.many);
    }

pub returns-clause-found : goal.returns-clause-found
returns-clause-found c = sym (parts_over c.loop-index.parts.items c.loop-index.known c.args.places.now _ c.loop-index.index _ c.loop-index-test.false c.loop-index.invariant.so_far)
