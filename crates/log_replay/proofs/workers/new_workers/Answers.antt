use Rattle.std.proofs.Common.{◌+◌, ◌<◌, [], ◌∷◌, length, get_or, sym, ap, ◌∙◌, subst, length-append}
use Rattle.script_proc.specs.Workers.{IsWorkerOf}
use Rattle.log_replay.proofs.Telling.{each_pushed}
use Rattle.log_replay.proofs.workers.new_workers.Goals as goal

pub loop-thread-preserved : goal.loop-thread-preserved
loop-thread-preserved c =
    let l = c.loop-thread in
    let s = c.args.script.now in
    let p = c.args.program.now in
    let worker = c.in_ok-new.field-0 in
    let items = c.in_ok-push.ensures.items in
    let here = subst (λ k. IsWorkerOf s p (k + 1) [] worker) (sym l.invariant.count) (c.in_ok-new.ensures s c.requires.program) in
    record {
      count = ap length items ∙ length-append l.workers.items (worker ∷ []) ∙ ap (λ k. k + 1) l.invariant.count;
      at = λ i d lt.
          subst (λ xs. IsWorkerOf s p (i + 1) [] (get_or xs i d)) (sym items)
          (each_pushed (λ k x. IsWorkerOf s p (k + 1) [] x) l.workers.items worker l.invariant.at here i d (subst (λ xs. i < length xs) items lt));
    }
