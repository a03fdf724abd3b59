use Rattle.std.proofs.Common.{refl, subst}
use Rattle.user_model.specs.declared.teller.Told.TheVariants.{Answered, Barred}
use Rattle.user_model.specs.Tellers.{CameTo}
use Rattle.script_proc.specs.Workers.{thread_of, call_of}
use Rattle.script_proc.proofs.TurnLaws.{came_to, looked_of}
use Rattle.script_proc.proofs.turn.ask.Goals as goal

pub returns-in-Answered-clause-asked : goal.returns-in-Answered-clause-asked
returns-in-Answered-clause-asked g c =
    let before = g.T.Teller.view c.args.teller.now in
    let after = g.T.Teller.view c.turn.new.self in
    let n = thread_of c.args.worker.now in
    let told = subst (λ x. CameTo before after c.thread.result x c.in_ok-answer.field-0) c.call.ensures c.in_ok-answer.ensures.told in
    record {
      answer = c.in-Answered.answer;
      told = came_to before after c.thread.result n (call_of c.args.worker.now) c.in_ok-answer.field-0 (Answered c.in-Answered.answer) c.thread.ensures c.in-Answered.is told;
      looked = looked_of before after c.thread.result.0 n c.thread.ensures c.in_ok-answer.ensures.looked;
      worker = c.take_answer.ensures.worker;
      used = c.take_answer.ensures.used;
    }

pub returns-in-Barred-clause-asked : goal.returns-in-Barred-clause-asked
returns-in-Barred-clause-asked g c =
    let before = g.T.Teller.view c.args.teller.now in
    let after = g.T.Teller.view c.turn.new.self in
    let n = thread_of c.args.worker.now in
    let told = subst (λ x. CameTo before after c.thread.result x c.in_ok-answer.field-0) c.call.ensures c.in_ok-answer.ensures.told in (
      record {
        told = came_to before after c.thread.result n (call_of c.args.worker.now) c.in_ok-answer.field-0 Barred c.thread.ensures c.in-Barred.is told;
        looked = looked_of before after c.thread.result.0 n c.thread.ensures c.in_ok-answer.ensures.looked;
      },
      refl,
    )
