use Rattle.script_proc.specs.Items.{mode_at, with_next}
use Rattle.script_proc.proofs.Workings.{next_ends}
use Rattle.script_proc.proofs.worker.Worker.go_on.Goals as goal

pub returns-clause-worker : goal.returns-clause-worker
returns-clause-worker c s t tr h =
    let w = c.args.self.now in
    let k = c.settle.ensures.kept s h.program h.left h.stands in
    record {
      program = h.program;
      left = k.0;
      stands = k.1;
      by = λ more e m. h.by more e (k.2.by more e m);
      counts = h.counts;
      thread = h.thread;
    }

pub returns-clause-next : goal.returns-clause-next
returns-clause-next c = next_ends c.args.program.now c.args.self.now (with_next c.settle.new.items.items c.settle.new.call c.settle.new.next) c.settle.new.variables (mode_at c.settle.new.mode c.settle.new.next) c.settle.new.call c.settle.result c.settle.ensures.kept c.settle.ensures.ready
