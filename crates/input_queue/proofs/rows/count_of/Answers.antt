use Rattle.std.proofs.Common.{◌∙◌, length, min, ap, sym, arith}
use Rattle.input_queue.specs.Rows.{has_home, merged}
use Rattle.input_queue.proofs.Reading.{counted, lower_all, lower_none, lower_same}
use Rattle.input_queue.proofs.rows.count_of.Goals as goal
use Rattle.input_queue.proofs.rows.count_of.Goals.{then-has, else-has}

pub loop-home-init : goal.loop-home-init
loop-home-init c = sym (ap (λ m. min 512 (length m)) (lower_none (has_home c.args.group) (merged c.args.rows.now)))

pub loop-home-preserved : goal.loop-home-preserved
loop-home-preserved c =
    let g = has_home c.args.group in
    let w = merged c.args.rows.now in
    elim c.if-has.branch [
      | then-has b ↦ counted g c.loop-home.home w c.loop-home.count b.len.result _ (sym c.has.ensures ∙ b.if-has.true) c.loop-home.invariant (b.len.ensures ∙ ap length (b.row_at.ensures ∙ c.requires.row_is c.loop-home.home (omega arith))) (b.count-is ∙ b.added-count.ensures)
      | else-has b ↦ b.count-is ∙ c.loop-home.invariant ∙ sym (ap (λ m. min 512 (length m)) (lower_same g c.loop-home.home w (sym c.has.ensures ∙ b.if-has.false)))
    ]

pub returns : goal.returns
returns c = c.loop-home.invariant ∙ ap (λ m. min 512 (length m)) (lower_all (has_home c.args.group) c.loop-home.home (merged c.args.rows.now) (omega arith) c.requires.homes)
