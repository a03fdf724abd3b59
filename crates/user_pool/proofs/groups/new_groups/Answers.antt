use Rattle.std.proofs.Common.{◌≡◌, ◌+◌, ◌<◌, ◌%◌, ◌∷◌, [], ◌++◌, length, length-set, add-one, sym, ap, ◌∙◌, subst, arith}
use Rattle.std.proofs.lemmas.Nat.{mod_below}
use Rattle.script_proc.specs.Workers.{IsWorkerOf}
use Rattle.user_pool.proofs.Filling.{each_set, worker_next, workers_added}
use Rattle.user_pool.proofs.groups.new_groups.Goals as goal

pub loop-thread-preserved : goal.loop-thread-preserved
loop-thread-preserved g c =
    let l = c.loop-thread in
    let s = c.args.script.now in
    let p = c.args.program.now in
    let groups = l.made.items in
    let place = l.thread % c.args.groups in
    let some : 0 < length groups = omega (arith, c.requires.some, l.invariant.count) in
    let place_is : place ≡ l.thread % length groups = ap (λ k. l.thread % k) (sym l.invariant.count) in
    let inside : place < length groups = omega (arith, mod_below l.thread c.args.groups c.requires.some, l.invariant.count) in
    let d = c.index_mut.result.now in
    let w = c.in_ok-worker.worker in
    let y = record d { workers = c.push.new.self } in
    let stands : IsWorkerOf s p (l.thread + 1) [] w = c.in_ok-worker.ensures s c.requires.program in
    let pushed : c.push.new.self.items ≡ d.workers.items ++ w ∷ [] = c.in_ok-push.ensures.items in
    let added = pushed ∙ ap (λ x. x.workers.items ++ w ∷ []) c.index_mut.ensures.value in
    let thread = stands.thread ∙ add-one l.thread in
    record {
      count = length-set groups place y ∙ l.invariant.count;
      threads = worker_next groups (λ x. x.workers.items) l.thread place y d w place_is inside added thread l.invariant.threads;
      workers = workers_added groups (λ x. x.workers.items) l.thread place y d w place_is inside added thread s p (subst (λ k. IsWorkerOf s p k [] w) (add-one l.thread) stands) l.invariant.workers;
      none = each_set (λ k x. x.seats.items ≡ []) groups place y (ap (λ x. x.seats.items) c.index_mut.ensures.value ∙ l.invariant.none place d inside) l.invariant.none;
    }
