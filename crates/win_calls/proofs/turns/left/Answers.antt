use Rattle.std.proofs.Common.{sym, ◌∙◌}
use Rattle.win_calls.proofs.TurnLaws.{carry, leave_waits, leave_runs, leave_hands, at_answer}
use Rattle.win_calls.proofs.turns.left.Goals as goal

pub returns-in-Wait-clause-follows : goal.returns-in-Wait-clause-follows
returns-in-Wait-clause-follows c s n qs v h b =
    at_answer s n _ qs c.args.answer _ v _ _ c.in-Wait.is (carry s n _ _ _ _ c.leaves.result c.leaves.ensures.step (leave_waits s n c.args.turn c.args.then c.args.first c.args.value qs v h b))

pub returns-in-Some : goal.returns-in-Some
returns-in-Some c = record {
  follows = λ s n qs v h b. carry s n _ _ _ _ c.runs.result c.runs.ensures.step (leave_runs s n c.args.turn c.args.then c.args.first c.args.value c.args.answer c.in-Some.next qs v h c.requires b (sym c.in-Some.is ∙ c.procedure.ensures.first));
  accepts = c.runs.ensures.accepts;
}

pub returns-in-None : goal.returns-in-None
returns-in-None c = record {
  follows = λ s n qs v h b. leave_hands s n c.args.turn c.args.then c.args.first c.args.value c.args.answer _ _ qs v c.in_default.not-Wait b (sym c.in-None.is ∙ c.procedure.ensures.first) (λ w. c.resumed.ensures.follows s n w h);
  accepts = c.resumed.ensures.accepts;
}
