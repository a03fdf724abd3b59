use Rattle.std.proofs.Common.{◌∙◌, length, sym, ap, arith}
use Rattle.post_queue.specs.Places.{kept_in}
use Rattle.post_queue.proofs.PlaceLemmas.{one_less, none_less}
use Rattle.post_queue.proofs.index.Index.take.Goals as goal

pub invariant_of-self : goal.invariant_of-self
invariant_of-self c = record {
  rises = c.taken.ensures.rises;
  counted = c.self.invariant.counted ∙ ap length (sym (c.taken.ensures.kept ∙ none_less c.args.number (kept_in c.self.inside.places.items) (sym c.in_err-key.ensures.value)));
}

pub invariant_of-self-2 : goal.invariant_of-self-2
invariant_of-self-2 c = record {
  rises = c.taken.ensures.rises;
  counted = omega (arith, c.self.invariant.counted, one_less c.args.number c.in_ok-key.key (kept_in c.self.inside.places.items) (sym c.in_ok-key.ensures.value), ap length c.taken.ensures.kept);
}
