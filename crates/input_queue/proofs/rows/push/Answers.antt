use Rattle.std.proofs.Common.{[], get_or, arith}
use Rattle.std.proofs.lemmas.List.{get_or_default}
use Rattle.input_queue.proofs.Changing.{push_done}
use Rattle.input_queue.proofs.rows.push.Goals as goal

pub returns-clause-kept : goal.returns-clause-kept
returns-clause-kept c = (push_done c.args.rows.now c.from-home.result c.args.e (get_or c.args.rows.now c.from-home.result c.index-rows-home.result) c.push.new.self c.push.result c.requires.kept c.requires.rising c.from-home.ensures c.requires.thread (get_or_default c.args.rows.now c.from-home.result c.index-rows-home.result [] (omega (arith, c.from-home.ensures, c.requires.thread, c.requires.kept.sixteen))) c.push.ensures.ok c.push.ensures.err).kept

pub returns-clause-ok : goal.returns-clause-ok
returns-clause-ok c = (push_done c.args.rows.now c.from-home.result c.args.e (get_or c.args.rows.now c.from-home.result c.index-rows-home.result) c.push.new.self c.push.result c.requires.kept c.requires.rising c.from-home.ensures c.requires.thread (get_or_default c.args.rows.now c.from-home.result c.index-rows-home.result [] (omega (arith, c.from-home.ensures, c.requires.thread, c.requires.kept.sixteen))) c.push.ensures.ok c.push.ensures.err).ok
