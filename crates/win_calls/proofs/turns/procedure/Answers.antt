use Rattle.win_calls.proofs.turns.procedure.Goals as goal

pub returns-in-Inside-clause-run : goal.returns-in-Inside-clause-run
returns-in-Inside-clause-run c = c.inside.ensures.run

pub returns-in-Called-clause-run : goal.returns-in-Called-clause-run
returns-in-Called-clause-run c = c.inside-in-Called.ensures.run
