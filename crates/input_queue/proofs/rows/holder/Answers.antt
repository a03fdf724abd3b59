use Rattle.std.proofs.Common.{◌∙◌, ◌==◌, true, find, ap, sym, subst, arith}
use Rattle.input_queue.specs.Rows.{merged}
use Rattle.input_queue.specs.Elements.{AreRising}
use Rattle.input_queue.proofs.Changing.{row_rises}
use Rattle.input_queue.proofs.Reading.{find_all, find_more, lower_none, none_there}
use Rattle.input_queue.proofs.rows.holder.Goals as goal

pub loop-home-init : goal.loop-home-init
loop-home-init c = ap (find (λ x. x.number == c.args.number)) (lower_none (λ _. true) (merged c.args.rows.now))

pub has-requires : goal.has-requires
has-requires c = subst AreRising (sym c.row_at.ensures) (row_rises c.args.rows.now c.loop-home.home c.requires (omega arith))

pub loop-home-preserved : goal.loop-home-preserved
loop-home-preserved c =
    let i = c.loop-home.home in
    find_more c.args.number i (merged c.args.rows.now) c.loop-home.invariant
    (sym (ap (find (λ x. x.number == c.args.number)) (c.row_at.ensures ∙ c.requires.row_is i (omega arith))) ∙ none_there _ (sym c.has.ensures ∙ c.if-has.false))

pub returns-clause-none : goal.returns-clause-none
returns-clause-none c = find_all c.args.number c.loop-home.home (merged c.args.rows.now) (omega arith) c.requires.homes c.loop-home.invariant
