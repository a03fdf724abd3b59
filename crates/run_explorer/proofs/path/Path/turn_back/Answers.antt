use Rattle.std.proofs.Common.{rules, refl}
use Rattle.run_explorer.proofs.Backing.{back_start, back_turn, back_step, back_none, front_start, front_step, front_turn}
use Rattle.run_explorer.proofs.path.Path.turn_back.Goals as goal

pub loop-step-init : goal.loop-step-init
loop-step-init c = record { back = back_start c.args.self.now.steps.items; front = front_start c.args.self.now.steps.items }

pub returns-in-Some-next-clause-turned : goal.returns-in-Some-next-clause-turned
returns-in-Some-next-clause-turned c = λ is. back_turn c.args.self.now.steps.items c.loop-step.self.steps.items c.pop.new.self.items c.in-Some.step c.in-Some-next.thread _ c.in-Some.ensures.items c.in-Some-next.is refl refl refl c.loop-step.invariant.back

pub returns-in-Some-next-clause-further : goal.returns-in-Some-next-clause-further
returns-in-Some-next-clause-further c = λ is. front_turn c.args.self.now.steps.items c.loop-step.self.steps.items c.pop.new.self.items c.in-Some.step c.in-Some-next.thread _ c.args.self.now c.in-Some.ensures.items c.in-Some-next.is refl refl refl c.loop-step.invariant.front

pub loop-step-preserved : goal.loop-step-preserved
loop-step-preserved c = record {
  back = back_step c.args.self.now.steps.items c.loop-step.self.steps.items c.pop.new.self.items c.in-Some.step c.in-Some.ensures.items c.in_default-next.is c.loop-step.invariant.back;
  front = front_step c.args.self.now.steps.items c.loop-step.self.steps.items c.pop.new.self.items c.in-Some.step c.in-Some.ensures.items c.loop-step.invariant.front;
}

pub returns-clause-none : goal.returns-clause-none
returns-clause-none c = λ is. back_none c.args.self.now.steps.items c.loop-step.self.steps.items (search rules) c.loop-step.invariant.back
