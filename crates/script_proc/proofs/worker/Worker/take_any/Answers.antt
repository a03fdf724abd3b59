use Rattle.std.proofs.Common.{◌+◌, suc, [], ◌∷◌, ◌++◌, sym, ◌∙◌, subst, add-one, arith, length-append}
use Rattle.script_tree.specs.Pieces.{Going}
use Rattle.script_proc.specs.Items.{state_of, state_at, mode_at, with_next, AllCover, Asking}
use Rattle.script_proc.proofs.WorkerLaws.{Completes, entered, stated}
use Rattle.script_proc.proofs.worker.Worker.take_any.Goals as goal

pub returns-then-hands_on-clause-worker : goal.returns-then-hands_on-clause-worker
returns-then-hands_on-clause-worker c s p t past h =
    let w = c.args.self.now in
    let call = w.call in
    let a = c.args.answer.now in
    let at = c.in-Stating.at in
    let next = c.in-Stating.is in
    let asking = subst (λ x. Asking (with_next w.items.items w.call x) (mode_at w.mode x) call) next c.requires.at.ready in
    let covers = subst (λ x. AllCover p (with_next w.items.items w.call x) h.left) next h.stands in
    let completes = subst (λ x. Completes p s t past h.left (state_at w.variables w.mode x) w.used) next h.by in
    let e = stated p s t past w.items.items h.left w.variables w.used w.call call a at asking (sym c.hands_on.ensures ∙ c.if-hands_on.true) covers completes in
    record {
      program = h.program;
      left = e.0;
      stands = e.1;
      by = subst (λ n. Completes p s t (past ++ (call, a) ∷ []) e.0 (Going c.end_statement.new.variables) n) (sym (add-one w.used))
          (subst (λ v. Completes p s t (past ++ (call, a) ∷ []) e.0 (Going v) (suc w.used)) (sym c.end_statement.ensures) e.2);
      counts = omega (arith, h.counts, length-append past ((call, a) ∷ []));
      thread = h.thread;
    }

pub returns-clause-worker : goal.returns-clause-worker
returns-clause-worker c s p t past h =
    let w = c.args.self.now in
    let call = w.call in
    let a = c.args.answer.now in
    let v = c.follow.new.variables in
    let mode = c.follow.new.mode in
    let r = c.requires.at.ready in
    let split = c.separate.new.items.items in
    let asking = subst (λ xs. Asking xs (mode_at w.mode w.next) call) (sym c.separate.ensures.items) r in
    let covers = subst (λ xs. AllCover p xs h.left) (sym c.separate.ensures.items) h.stands in
    let new = c.follow.new.items.items in
    let f = c.follow.ensures.items asking.0 asking.1 asking.2 in
    let e = entered p s t past split new f.0 h.left w.variables v (mode_at w.mode w.next) mode w.used call a asking f.1 f.2 f.3 c.follow.ensures.state covers h.by in
    record {
      program = h.program;
      left = e.0;
      stands = subst (λ x. AllCover p (with_next new w.call x) e.0) (sym c.separate.ensures.next) e.1;
      by = subst (λ x. Completes p s t (past ++ (call, a) ∷ []) e.0 (state_at v mode x) (w.used + 1)) (sym c.separate.ensures.next)
          (subst (λ n. Completes p s t (past ++ (call, a) ∷ []) e.0 (state_of v mode) n) (sym (add-one w.used)) e.2);
      counts = omega (arith, h.counts, length-append past ((call, a) ∷ []));
      thread = h.thread;
    }
