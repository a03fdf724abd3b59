use Rattle.std.proofs.Common.{refl, ap, sym, subst, ◌∙◌}
use Rattle.script_tree.specs.Pieces.{Going}
use Rattle.script_proc.specs.declared.item.Next.TheVariants.{Line}
use Rattle.script_proc.specs.Items.{mode_at, state_at, with_next, Asking}
use Rattle.script_proc.proofs.WorkerLaws.{keeps_same, slow_keeps, top_keeps, keeps_all_on, step_keeps, step_fewer, line_steps, slow_steps, top_steps, stating_ready}
use Rattle.script_proc.proofs.worker.settle.Goals as goal

pub returns-in_err-take_room-in-None-quick_pass-clause-kept : goal.returns-in_err-take_room-in-None-quick_pass-clause-kept
returns-in_err-take_room-in-None-quick_pass-clause-kept c s of =
    let same = ap (λ xs. with_next xs c.steps.call c.steps.ahead) (c.take_room-in-None-quick_pass.ensures.items ∙ c.in-None-quick_pass.ensures.slow) in
    keeps_same c.args.program.now c.args.used s (with_next c.args.items.now.items c.args.call.now c.args.next.now) (with_next c.steps.items.items c.steps.call c.steps.ahead) (with_next c.take_room-in-None-quick_pass.new.items.items c.steps.call c.steps.ahead) (state_at c.args.variables.now c.args.mode.now c.args.next.now) (state_at c.steps.variables c.steps.mode c.steps.ahead) same (c.steps.invariant s of)

pub returns-in_default-clause-kept : goal.returns-in_default-clause-kept
returns-in_default-clause-kept c s of =
    let same = ap (λ xs. with_next xs c.steps.call c.steps.ahead) (c.take_room-in-None-quick_pass.ensures.items ∙ c.in-None-quick_pass.ensures.slow) in
    keeps_same c.args.program.now c.args.used s (with_next c.args.items.now.items c.args.call.now c.args.next.now) (with_next c.steps.items.items c.steps.call c.steps.ahead) (with_next c.take_room-in-None-quick_pass.new.items.items c.steps.call c.steps.ahead) (state_at c.args.variables.now c.args.mode.now c.args.next.now) (state_at c.steps.variables c.steps.mode c.steps.ahead) same (c.steps.invariant s of)

pub returns-then-is_asking-clause-kept : goal.returns-then-is_asking-clause-kept
returns-then-is_asking-clause-kept c s of =
    let p = c.args.program.now in
    let n = c.args.used in
    let first = with_next c.args.items.now.items c.args.call.now c.args.next.now in
    let st = state_at c.args.variables.now c.args.mode.now c.args.next.now in
    top_keeps p n s first c.steps.items.items c.take_room-in-None-quick_pass.new.items.items c.steps.call c.put_asked.new.call c.steps.ahead c.steps.variables c.steps.mode st c.in-Top.is (c.take_room-in-None-quick_pass.ensures.items ∙ c.in-None-quick_pass.ensures.slow) (c.steps.invariant s of)

pub returns-in_err-take_room-in-Stating-clause-kept : goal.returns-in_err-take_room-in-Stating-clause-kept
returns-in_err-take_room-in-Stating-clause-kept c s of =
    let same = ap (λ xs. with_next xs c.steps.call c.steps.ahead) c.take_room-in-Stating.ensures.items in
    keeps_same c.args.program.now c.args.used s (with_next c.args.items.now.items c.args.call.now c.args.next.now) (with_next c.steps.items.items c.steps.call c.steps.ahead) (with_next c.take_room-in-Stating.new.items.items c.steps.call c.steps.ahead) (state_at c.args.variables.now c.args.mode.now c.args.next.now) (state_at c.steps.variables c.steps.mode c.steps.ahead) same (c.steps.invariant s of)

pub returns-in-Stating-clause-kept : goal.returns-in-Stating-clause-kept
returns-in-Stating-clause-kept c s of =
    let same = ap (λ xs. with_next xs c.steps.call c.steps.ahead) c.take_room-in-Stating.ensures.items in
    keeps_same c.args.program.now c.args.used s (with_next c.args.items.now.items c.args.call.now c.args.next.now) (with_next c.steps.items.items c.steps.call c.steps.ahead) (with_next c.take_room-in-Stating.new.items.items c.steps.call c.steps.ahead) (state_at c.args.variables.now c.args.mode.now c.args.next.now) (state_at c.steps.variables c.steps.mode c.steps.ahead) same (c.steps.invariant s of)

pub returns-in_err-take_room-in-None-clause-kept : goal.returns-in_err-take_room-in-None-clause-kept
returns-in_err-take_room-in-None-clause-kept c s of =
    let first = with_next c.args.items.now.items c.args.call.now c.args.next.now in
    let st = state_at c.args.variables.now c.args.mode.now c.args.next.now in
    slow_keeps c.args.program.now c.args.used s first c.steps.items.items c.take_room.new.items.items c.steps.call c.steps.ahead c.in-Line.at c.steps.variables c.quick_line.new.variables c.steps.mode st c.in-Line.is c.take_room.ensures.items c.in-None.ensures.slow.1 (c.steps.invariant s of)

pub steps-smaller-in-Some : goal.steps-smaller-in-Some
steps-smaller-in-Some c =
    let p = c.args.program.now in
    let n = c.args.used in
    let old = with_next c.steps.items.items c.steps.call c.steps.ahead in
    let new = with_next c.steps.items.items c.quick_line.new.call c.in-Some.following in
    let st = state_at c.steps.variables c.steps.mode c.steps.ahead in
    let st' = state_at c.quick_line.new.variables c.quick_line.new.mode c.in-Some.following in
    step_fewer p n old new st st' (line_steps p n c.steps.items.items c.steps.items.items new c.steps.call c.steps.ahead c.in-Line.at c.steps.variables c.steps.mode st' c.in-Line.is refl (c.in-Some.ensures.quick c.steps.items.items n))

pub steps-preserved-in-Some : goal.steps-preserved-in-Some
steps-preserved-in-Some c s of =
    let p = c.args.program.now in
    let n = c.args.used in
    let first = with_next c.args.items.now.items c.args.call.now c.args.next.now in
    let old = with_next c.steps.items.items c.steps.call c.steps.ahead in
    let new = with_next c.steps.items.items c.quick_line.new.call c.in-Some.following in
    let st = state_at c.steps.variables c.steps.mode c.steps.ahead in
    let st' = state_at c.quick_line.new.variables c.quick_line.new.mode c.in-Some.following in
    let steps = line_steps p n c.steps.items.items c.steps.items.items new c.steps.call c.steps.ahead c.in-Line.at c.steps.variables c.steps.mode st' c.in-Line.is refl (c.in-Some.ensures.quick c.steps.items.items n) in
    keeps_all_on p n s first old new (state_at c.args.variables.now c.args.mode.now c.args.next.now) st st' (c.steps.invariant s of) (step_keeps p n s old new st st' steps of)

pub steps-smaller-in-None : goal.steps-smaller-in-None
steps-smaller-in-None c =
    let p = c.args.program.now in
    let n = c.args.used in
    let old = with_next c.steps.items.items c.steps.call c.steps.ahead in
    let new = with_next c.slow_line-ahead.new.items.items c.quick_line.new.call c.slow_line-ahead.result in
    let st = state_at c.steps.variables c.steps.mode c.steps.ahead in
    let st' = state_at c.quick_line.new.variables c.slow_line-ahead.new.mode c.slow_line-ahead.result in
    step_fewer p n old new st st' (slow_steps p n c.steps.items.items c.take_room.new.items.items new c.steps.call c.steps.ahead c.in-Line.at c.steps.variables c.quick_line.new.variables c.steps.mode st' c.in-Line.is c.take_room.ensures.items c.in-None.ensures.slow.1 (c.slow_line-ahead.ensures c.quick_line.new.call))

pub steps-preserved-in-None : goal.steps-preserved-in-None
steps-preserved-in-None c s of =
    let p = c.args.program.now in
    let n = c.args.used in
    let first = with_next c.args.items.now.items c.args.call.now c.args.next.now in
    let old = with_next c.steps.items.items c.steps.call c.steps.ahead in
    let new = with_next c.slow_line-ahead.new.items.items c.quick_line.new.call c.slow_line-ahead.result in
    let st = state_at c.steps.variables c.steps.mode c.steps.ahead in
    let st' = state_at c.quick_line.new.variables c.slow_line-ahead.new.mode c.slow_line-ahead.result in
    let steps = slow_steps p n c.steps.items.items c.take_room.new.items.items new c.steps.call c.steps.ahead c.in-Line.at c.steps.variables c.quick_line.new.variables c.steps.mode st' c.in-Line.is c.take_room.ensures.items c.in-None.ensures.slow.1 (c.slow_line-ahead.ensures c.quick_line.new.call) in
    keeps_all_on p n s first old new (state_at c.args.variables.now c.args.mode.now c.args.next.now) st st' (c.steps.invariant s of) (step_keeps p n s old new st st' steps of)

pub steps-smaller-in-Some-quick_pass : goal.steps-smaller-in-Some-quick_pass
steps-smaller-in-Some-quick_pass c =
    let p = c.args.program.now in
    let n = c.args.used in
    let old = with_next c.steps.items.items c.steps.call c.steps.ahead in
    let new = with_next c.quick_pass.new.items.items c.steps.call (Line c.in-Some-quick_pass.at) in
    let st = state_at c.steps.variables c.steps.mode c.steps.ahead in
    let st' = Going c.steps.variables in
    step_fewer p n old new st st' (top_steps p n c.steps.items.items c.steps.items.items new c.steps.call c.steps.ahead c.steps.variables c.steps.mode st' c.in-Top.is refl (c.in-Some-quick_pass.ensures.quick c.steps.call))

pub steps-preserved-in-Some-quick_pass : goal.steps-preserved-in-Some-quick_pass
steps-preserved-in-Some-quick_pass c s of =
    let p = c.args.program.now in
    let n = c.args.used in
    let first = with_next c.args.items.now.items c.args.call.now c.args.next.now in
    let old = with_next c.steps.items.items c.steps.call c.steps.ahead in
    let new = with_next c.quick_pass.new.items.items c.steps.call (Line c.in-Some-quick_pass.at) in
    let st = state_at c.steps.variables c.steps.mode c.steps.ahead in
    let st' = Going c.steps.variables in
    let steps = top_steps p n c.steps.items.items c.steps.items.items new c.steps.call c.steps.ahead c.steps.variables c.steps.mode st' c.in-Top.is refl (c.in-Some-quick_pass.ensures.quick c.steps.call) in
    keeps_all_on p n s first old new (state_at c.args.variables.now c.args.mode.now c.args.next.now) st st' (c.steps.invariant s of) (step_keeps p n s old new st st' steps of)

pub steps-smaller : goal.steps-smaller
steps-smaller c =
    let p = c.args.program.now in
    let n = c.args.used in
    let old = with_next c.steps.items.items c.steps.call c.steps.ahead in
    let new = with_next c.step-ahead.new.items.items c.step-ahead.new.call c.step-ahead.result in
    let st = state_at c.steps.variables c.steps.mode c.steps.ahead in
    let st' = state_at c.step-ahead.new.variables c.step-ahead.new.mode c.step-ahead.result in
    step_fewer p n old new st st' (top_steps p n c.steps.items.items c.take_room-in-None-quick_pass.new.items.items new c.steps.call c.steps.ahead c.steps.variables c.steps.mode st' c.in-Top.is (c.take_room-in-None-quick_pass.ensures.items ∙ c.in-None-quick_pass.ensures.slow) c.step-ahead.ensures)

pub steps-preserved : goal.steps-preserved
steps-preserved c s of =
    let p = c.args.program.now in
    let n = c.args.used in
    let first = with_next c.args.items.now.items c.args.call.now c.args.next.now in
    let old = with_next c.steps.items.items c.steps.call c.steps.ahead in
    let new = with_next c.step-ahead.new.items.items c.step-ahead.new.call c.step-ahead.result in
    let st = state_at c.steps.variables c.steps.mode c.steps.ahead in
    let st' = state_at c.step-ahead.new.variables c.step-ahead.new.mode c.step-ahead.result in
    let steps = top_steps p n c.steps.items.items c.take_room-in-None-quick_pass.new.items.items new c.steps.call c.steps.ahead c.steps.variables c.steps.mode st' c.in-Top.is (c.take_room-in-None-quick_pass.ensures.items ∙ c.in-None-quick_pass.ensures.slow) c.step-ahead.ensures in
    keeps_all_on p n s first old new (state_at c.args.variables.now c.args.mode.now c.args.next.now) st st' (c.steps.invariant s of) (step_keeps p n s old new st st' steps of)

pub returns-in-Stating-clause-ready : goal.returns-in-Stating-clause-ready
returns-in-Stating-clause-ready c =
    let items = c.take_room-in-Stating.new.items.items in
    subst (λ x. Asking (with_next items c.steps.call x) (mode_at c.steps.mode x) c.steps.call) (sym c.in-Stating.is) (stating_ready c.args.program.now items c.in-Stating.field-0 c.steps.call)
