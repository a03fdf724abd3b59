use Rattle.std.proofs.Common.{sym, ap, ◌∙◌, refl, subst, get_or, length-set, arith}
use Rattle.script_proc.specs.Workers.{thread_of}
use Rattle.user_pool.specs.Teams.{IsAtWork}
use Rattle.user_pool.proofs.Handing.{pairs_set, map_set, seated_set}
use Rattle.user_pool.proofs.group.Group.pass.Goals as goal

pub loop-place-init : goal.loop-place-init
loop-place-init g c = record { seated = c.requires; count = refl; chairs = c.requires.count; threads = refl; works = λ s program same at. at; fed = refl }

pub loop-place-preserved : goal.loop-place-preserved
loop-place-preserved g c =
    let l = c.loop-place in
    let ws = l.self.workers.items in
    let seats = l.self.seats.items in
    let w = c.take_turn.new.worker in
    let seat = c.take_turn.new.seat in
    let desk = c.args.desk.now in
    let wo = c.index_mut-worker.result.now in
    let so = c.index_mut-seat.result.now in
    record {
      seated = seated_set desk ws seats l.place w seat l.invariant.seated c.take_turn.ensures.seated;
      count = length-set ws l.place w ∙ l.invariant.count;
      chairs = length-set seats l.place seat ∙ l.invariant.chairs ∙ sym (length-set ws l.place w);
      threads = map_set thread_of ws l.place w wo (c.take_turn.ensures.thread ∙ ap thread_of c.index_mut-worker.ensures.value) ∙ l.invariant.threads;
      works = λ s program same at.
          let opening = g.M.Machine.past desk.opening.machine in
          let here = l.invariant.works s program same at l.place wo so (omega arith) in
          let right = subst (λ y. IsAtWork s c.args.program.now opening (get_or ws l.place wo) y) (sym c.index_mut-seat.ensures.value) here in
          let before = subst (λ x. IsAtWork s c.args.program.now opening x so) (sym c.index_mut-worker.ensures.value) right in
          pairs_set (IsAtWork s c.args.program.now opening) ws seats l.place w seat l.invariant.chairs
          (c.in_ok-turn.ensures.works s program same before) (l.invariant.works s program same at);
      fed = l.invariant.fed;
    }

pub returns-in_err-turn-clause-seated : goal.returns-in_err-turn-clause-seated
returns-in_err-turn-clause-seated g c =
    let l = c.loop-place in
    seated_set c.args.desk.now l.self.workers.items l.self.seats.items l.place c.take_turn.new.worker c.take_turn.new.seat l.invariant.seated c.take_turn.ensures.seated

pub returns-in_err-turn-clause-threads : goal.returns-in_err-turn-clause-threads
returns-in_err-turn-clause-threads g c =
    let l = c.loop-place in
    let ws = l.self.workers.items in
    map_set thread_of ws l.place c.take_turn.new.worker c.index_mut-worker.result.now (c.take_turn.ensures.thread ∙ ap thread_of c.index_mut-worker.ensures.value) ∙ l.invariant.threads
