use Rattle.std.proofs.Common.{sym, subst}
use Rattle.script_tree.specs.Pieces.{Cut}
use Rattle.script_tree.specs.Traces.{IsTrace, trace_of}
use Rattle.script_proc.specs.Workers.{next_of, end_of}
use Rattle.user_pool.specs.Runs.{ComesNext}
use Rattle.user_pool.proofs.Turns.{not_ended, can_free, can_left}
use Rattle.user_pool.proofs.Programs.{comes_next, not_whole}
use Rattle.user_pool.proofs.Seating.{on_ok, has_gone_on}
use Rattle.user_pool.proofs.seat.Seat.turn.Goals as goal

pub unreachable-requires : goal.unreachable-requires
unreachable-requires g c =
    let s = c.args.script.now in
    let past = g.M.Machine.past c.args.machine.now in
    let t = c.args.actor in
    not_whole s past t c.requires.run c.requires.thread (not_ended s past t c.requires.can)
    (subst (λ b. IsTrace s t (trace_of past t) (end_of (next_of c.go_on.new.self b))) c.if-not-branch.true (c.in_ok-go_on.ensures.next s t (trace_of past t) c.requires.seat.worker))

pub returns-in-Ok-clause-moved : goal.returns-in-Ok-clause-moved
returns-in-Ok-clause-moved g c =
    let s = c.args.script.now in
    let past = g.M.Machine.past c.args.machine.now in
    let t = c.args.actor in
    let call = c.call.result.now in
    let cut = subst (λ b. IsTrace s t (trace_of past t) (end_of (next_of c.go_on.new.self b))) c.if-not-branch.false (c.in_ok-go_on.ensures.next s t (trace_of past t) c.requires.seat.worker) in
    let next : ComesNext s past t call = comes_next s past t call c.requires.thread (subst (λ x. IsTrace s t (trace_of past t) (Cut x)) (sym c.call.ensures) cut) in
    has_gone_on s past (g.M.Machine.past c.step.new.self) t call (g.M.Machine.setup c.args.machine.now) c.requires.setup (can_free s past t c.requires.thread c.requires.can) (can_left s past t c.requires.thread c.requires.can) next c.requires.room (on_ok _ c.step.result c.in-Ok.answer c.in-Ok.is c.step.ensures.entry)
