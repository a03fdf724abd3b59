use Rattle.std.proofs.Common.{rules, ◌∙◌}
use Rattle.user_desk.proofs.Waits.{remembers_first, at_first, remembers_more, at_last, barred_makes_nothing}
use Rattle.user_desk.proofs.desk.Desk.until_answered.Goals as goal

pub returns-in_err-answer-clause-remembers : goal.returns-in_err-answer-clause-remembers
returns-in_err-answer-clause-remembers g c =
    remembers_more (g.M.Machine.setup c.args.self.now.opening.machine) (g.M.Machine.past c.args.self.now.opening.machine) c.args.seat.now c.loop.seat c.turn.new.seat c.loop.invariant.remembers c.turn.ensures.looked

pub returns-in-Answered-clause-remembers : goal.returns-in-Answered-clause-remembers
returns-in-Answered-clause-remembers g c =
    remembers_more (g.M.Machine.setup c.args.self.now.opening.machine) (g.M.Machine.past c.args.self.now.opening.machine) c.args.seat.now c.loop.seat c.turn.new.seat c.loop.invariant.remembers c.turn.ensures.looked

pub returns-in-Answered-clause-came_to : goal.returns-in-Answered-clause-came_to
returns-in-Answered-clause-came_to g c =
    at_last (g.M.Machine.setup c.args.self.now.opening.machine) (g.M.Machine.past c.args.self.now.opening.machine) c.args.seat.now c.loop.seat c.turn.new.seat c.args.call c.in_ok-answer.field-0 c.in-Answered.answer
    c.loop.invariant.remembers c.loop.invariant.same.2 c.loop.invariant.waited c.turn.ensures.same.2 c.turn.ensures.looked c.in-Answered.is c.in_ok-answer.ensures.came_to

pub loop-preserved : goal.loop-preserved
loop-preserved g c = record {
  same = (c.turn.ensures.same.0 ∙ c.loop.invariant.same.0, c.turn.ensures.same.1 ∙ c.loop.invariant.same.1, c.turn.ensures.same.2 ∙ c.loop.invariant.same.2);
  remembers =
      remembers_more (g.M.Machine.setup c.args.self.now.opening.machine) (g.M.Machine.past c.args.self.now.opening.machine) c.args.seat.now c.loop.seat c.turn.new.seat c.loop.invariant.remembers c.turn.ensures.looked;
  waited =
      barred_makes_nothing (g.M.Machine.setup c.args.self.now.opening.machine) (g.M.Machine.past c.args.self.now.opening.machine) c.loop.seat c.turn.new.seat c.args.call c.in_ok-answer.field-0 c.in_default-2.not-Answered c.in_ok-answer.ensures.came_to ∙ c.loop.invariant.waited;
}

pub returns-then-not-matches-clause-remembers : goal.returns-then-not-matches-clause-remembers
returns-then-not-matches-clause-remembers g c = remembers_first (g.M.Machine.setup c.args.self.now.opening.machine) (g.M.Machine.past c.args.self.now.opening.machine) c.args.seat.now c.call.new.seat c.call.ensures.looked

pub returns-then-not-matches-clause-came_to : goal.returns-then-not-matches-clause-came_to
returns-then-not-matches-clause-came_to g c = at_first _ _ _ _ _ _ c.in_ok-first.ensures.came_to (search rules)
