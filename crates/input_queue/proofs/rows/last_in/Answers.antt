use Rattle.std.proofs.Common.{◌∙◌, ap, sym, arith}
use Rattle.std.specs.Prelude.{option_map}
use Rattle.input_queue.specs.Elements.{last_of}
use Rattle.input_queue.specs.Rows.{glance_of, has_home, later_of, merged}
use Rattle.input_queue.proofs.Reading.{last_more, lower, lower_all, lower_none, lower_same}
use Rattle.input_queue.proofs.rows.last_in.Goals as goal
use Rattle.input_queue.proofs.rows.last_in.Goals.{then-has, else-has}

pub loop-home-init : goal.loop-home-init
loop-home-init c = sym (ap (λ m. option_map glance_of (last_of m)) (lower_none (has_home c.args.group) (merged c.args.rows.now)))

pub loop-home-preserved : goal.loop-home-preserved
loop-home-preserved c =
    let g = has_home c.args.group in
    let w = merged c.args.rows.now in
    let i = c.loop-home.home in
    elim c.if-has.branch [
      | then-has b ↦
          b.last-is
          ∙ b.later-last.ensures
          ∙ ap (λ o. later_of o b.glance.result) c.loop-home.invariant
          ∙ ap (later_of (option_map glance_of (last_of (lower g i w)))) (b.glance.ensures ∙ ap (λ m. option_map glance_of (last_of m)) (b.row_at.ensures ∙ c.requires.row_is i (omega arith)))
          ∙ sym (last_more g i w c.requires.rising (sym c.has.ensures ∙ b.if-has.true))
      | else-has b ↦ b.last-is ∙ c.loop-home.invariant ∙ sym (ap (λ m. option_map glance_of (last_of m)) (lower_same g i w (sym c.has.ensures ∙ b.if-has.false)))
    ]

pub returns : goal.returns
returns c = c.loop-home.invariant ∙ ap (λ m. option_map glance_of (last_of m)) (lower_all (has_home c.args.group) c.loop-home.home (merged c.args.rows.now) (omega arith) c.requires.homes)
