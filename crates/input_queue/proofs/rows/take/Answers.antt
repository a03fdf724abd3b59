use Rattle.std.proofs.Common.{[], get_or, subst, sym, arith}
use Rattle.std.proofs.lemmas.List.{get_or_default}
use Rattle.input_queue.specs.Elements.{AreRising}
use Rattle.input_queue.specs.Rows.{merged}
use Rattle.input_queue.proofs.Changing.{row_rises, take_done, without_none}
use Rattle.input_queue.proofs.rows.take.Goals as goal

pub returns-in_err-home-clause-left : goal.returns-in_err-home-clause-left
returns-in_err-home-clause-left c = sym (without_none c.args.number (merged c.args.rows.now) c.in_err-home.ensures.none)

pub take-requires : goal.take-requires
take-requires c = subst AreRising (sym (get_or_default c.args.rows.now c.in_ok-home.home c.index-rows-home.result [] (omega (arith, c.in_ok-home.ensures.within, c.requires.sixteen)))) (row_rises c.args.rows.now c.in_ok-home.home c.requires c.in_ok-home.ensures.within)

pub returns-clause-kept : goal.returns-clause-kept
returns-clause-kept c = (take_done c.args.rows.now c.args.number c.in_ok-home.home (get_or c.args.rows.now c.in_ok-home.home c.index-rows-home.result) c.take.new.self c.take.result c.requires c.in_ok-home.ensures.within c.in_ok-home.ensures.found (get_or_default c.args.rows.now c.in_ok-home.home c.index-rows-home.result [] (omega (arith, c.in_ok-home.ensures.within, c.requires.sixteen))) c.take.ensures.value c.take.ensures.left).kept

pub returns-clause-value : goal.returns-clause-value
returns-clause-value c = (take_done c.args.rows.now c.args.number c.in_ok-home.home (get_or c.args.rows.now c.in_ok-home.home c.index-rows-home.result) c.take.new.self c.take.result c.requires c.in_ok-home.ensures.within c.in_ok-home.ensures.found (get_or_default c.args.rows.now c.in_ok-home.home c.index-rows-home.result [] (omega (arith, c.in_ok-home.ensures.within, c.requires.sixteen))) c.take.ensures.value c.take.ensures.left).value

pub returns-clause-left : goal.returns-clause-left
returns-clause-left c = (take_done c.args.rows.now c.args.number c.in_ok-home.home (get_or c.args.rows.now c.in_ok-home.home c.index-rows-home.result) c.take.new.self c.take.result c.requires c.in_ok-home.ensures.within c.in_ok-home.ensures.found (get_or_default c.args.rows.now c.in_ok-home.home c.index-rows-home.result [] (omega (arith, c.in_ok-home.ensures.within, c.requires.sixteen))) c.take.ensures.value c.take.ensures.left).left
