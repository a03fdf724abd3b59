use Rattle.std.proofs.Common.{ap, ◌∙◌, [], ◌∷◌, length, arith}
use Rattle.std.proofs.lemmas.List.{length-append}
use Rattle.log_read.specs.Limits.{IsValue}
use Rattle.log_read.specs.Reading.{value_at}
use Rattle.log_read.proofs.ListLaws.{all_push}
use Rattle.log_read.proofs.ValueLoops.{values_none, values_more, values_over}
use Rattle.log_read.proofs.values.values_at.Goals as goal

pub returns-in_err-value-clause-found : goal.returns-in_err-value-clause-found
returns-in_err-value-clause-found c =
    let s = c.args.words.now.script.now in
    let found = c.in_err-value.ensures.found ∙ ap (value_at s _) c.word_at.ensures in
    rw c.from_residual.ensures (values_none s c.loop-index.values.items c.args.fields.now _ c.args.at c.loop-index.index _ _ c.loop-index-test.true found c.loop-index.invariant.so_far)

pub loop-index-preserved : goal.loop-index-preserved
loop-index-preserved c =
    let s = c.args.words.now.script.now in
    let found = c.in_ok-value.ensures.found ∙ ap (value_at s _) c.word_at.ensures in
    record {
      so_far = values_more s c.loop-index.values.items c.push.new.self.items c.in_ok-value.value c.args.fields.now _ c.args.at c.loop-index.index _ _ c.loop-index-test.true found c.loop-index.invariant.so_far c.push.ensures.items;
      fits = rw c.push.ensures.items (all_push (IsValue s) _ _ c.loop-index.invariant.fits c.in_ok-value.ensures.fits);
      many = omega (arith, ap length c.push.ensures.items, length-append c.loop-index.values.items (c.in_ok-value.value ∷ []), c.loop-index.invariant.many);
    }

pub returns-clause-found : goal.returns-clause-found
returns-clause-found c = values_over c.args.words.now.script.now c.loop-index.values.items c.args.fields.now _ c.args.at c.loop-index.index _ c.loop-index-test.false c.loop-index.invariant.so_far
