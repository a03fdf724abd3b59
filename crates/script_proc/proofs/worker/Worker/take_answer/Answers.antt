use Rattle.std.proofs.Common.{suc, [], ◌∷◌, ◌++◌, sym, subst, add-one, arith, length-append}
use Rattle.script_tree.specs.Pieces.{Going}
use Rattle.script_proc.specs.Items.{state_at, mode_at, with_next, AllCover, Asking}
use Rattle.script_proc.proofs.WorkerLaws.{Completes, stated}
use Rattle.script_proc.proofs.worker.Worker.take_answer.Goals as goal

pub returns-then-is_frequent-clause-worker : goal.returns-then-is_frequent-clause-worker
returns-then-is_frequent-clause-worker c s p t past h =
    let w = c.args.self.now in
    let call = w.call in
    let a = c.args.answer.now in
    let at = c.in-Stating.at in
    let next = c.in-Stating.is in
    let asking = subst (λ x. Asking (with_next w.items.items w.call x) (mode_at w.mode x) call) next c.requires.at.ready in
    let covers = subst (λ x. AllCover p (with_next w.items.items w.call x) h.left) next h.stands in
    let completes = subst (λ x. Completes p s t past h.left (state_at w.variables w.mode x) w.used) next h.by in
    let e = stated p s t past w.items.items h.left w.variables w.used w.call call a at asking (c.is_frequent.ensures call c.if-is_frequent.true) covers completes in
    record {
      program = h.program;
      left = e.0;
      stands = e.1;
      by = subst (λ n. Completes p s t (past ++ (call, a) ∷ []) e.0 (Going c.end_statement.new.variables) n) (sym (add-one w.used))
          (subst (λ v. Completes p s t (past ++ (call, a) ∷ []) e.0 (Going v) (suc w.used)) (sym c.end_statement.ensures) e.2);
      counts = omega (arith, h.counts, length-append past ((call, a) ∷ []));
      thread = h.thread;
    }
