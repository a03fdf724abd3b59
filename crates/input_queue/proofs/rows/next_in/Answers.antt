use Rattle.std.proofs.Common.{◌∙◌, ◌<◌, IfSome, length, get_or, ap, sym, subst, arith}
use Rattle.std.specs.Prelude.{option_map, slice_get}
use Rattle.input_queue.specs.declared.glance.Spot.{Spot}
use Rattle.input_queue.specs.Rows.{earlier_of, has_home, row, spot_in, spot_of}
use Rattle.input_queue.proofs.Reading.{head_within, lower_none, next_all, next_more, within_nearer}
use Rattle.input_queue.proofs.rows.next_in.Goals as goal

pub loop-home-init : goal.loop-home-init
loop-home-init c = record {
  within = tt;
  next = λ left k. sym (ap (λ m. option_map spot_of (slice_get m 0)) (lower_none (has_home c.args.group) left));
}

pub loop-home-preserved : goal.loop-home-preserved
loop-home-preserved c =
    let i = c.loop-home.home in
    let P : Spot → Type 0 = λ s. (s.home < 16) × (get_or c.args.seen.now s.home 0 < length (row c.args.rows.now s.home)) in
    record {
      within = subst (λ o. IfSome o P) (sym c.nearer-next.ensures) (within_nearer P c.loop-home.next i c.head_in.result c.loop-home.invariant.within (λ n e. (omega arith, head_within c.head_in.result n _ e c.head_in.ensures.within)));
      next = λ left k.
          c.nearer-next.ensures
          ∙ ap (λ o. earlier_of o (option_map (spot_in i) c.head_in.result)) (c.loop-home.invariant.next left k)
          ∙ sym (next_more c.args.group c.args.rows.now c.args.seen.now left k i (omega arith) c.head_in.result c.head_in.ensures.head);
    }

pub returns-clause-next : goal.returns-clause-next
returns-clause-next c = λ left k. c.loop-home.invariant.next left k ∙ ap (λ m. option_map spot_of (slice_get m 0)) (next_all c.args.group c.args.rows.now c.args.seen.now left k c.loop-home.home (omega arith))
