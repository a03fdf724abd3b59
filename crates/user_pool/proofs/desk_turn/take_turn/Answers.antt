use Rattle.std.proofs.Common.{sym, ap, ◌∙◌, subst}
use Rattle.std.specs.Prelude.{IfOk, OnOk}
use Rattle.script_tree.specs.Tree.{Tree}
use Rattle.script_proc.specs.Programs.{IsProgramOf}
use Rattle.script_proc.specs.Workers.{thread_of}
use Rattle.script_proc.specs.Turns.{Did}
use Rattle.user_desk.specs.Desks.{IsDeskSeat}
use Rattle.user_desk.specs.Tellers.{desk_view}
use Rattle.user_pool.specs.Teams.{KeepsWorking}
use Rattle.user_pool.proofs.AtWork.{turn_works_if}
use Rattle.user_pool.proofs.desk_turn.take_turn.Goals as goal

-- the seat at the end is what the teller holds, since the teller kept the name of its reference (`still`)
pub returns-clause-seated : goal.returns-clause-seated
returns-clause-seated g c =
    let turn = c.turn-turn in
    let serves = (turn.ensures.serves (thread_of c.args.worker.now)).0 c.requires.seated in
    let tie = c.seat-1.given.1 (sym turn.ensures.still.1) in
    (subst (λ seat. IsDeskSeat c.args.desk.now seat) (sym tie) (subst (λ desk. IsDeskSeat desk.now turn.new.teller.seat.now) turn.ensures.still.0 serves.0), turn.ensures.thread ∙ serves.1 ∙ ap (λ seat. seat.number) (sym tie))

pub returns-clause-works : goal.returns-clause-works
returns-clause-works g c =
    let turn = c.turn-turn in
    let desk = c.args.desk.now in
    let n = thread_of c.args.worker.now in
    let serves = (turn.ensures.serves n).0 c.requires.seated in
    let tie = c.seat-1.given.1 (sym turn.ensures.still.1) in
    let old = c.args.seat.now in
    let new = turn.new.teller.seat.now in
    let before = desk_view (g.M.Machine.setup desk.opening.machine) (g.M.Machine.past desk.opening.machine) old in
    subst (λ seat. OnOk turn.result (KeepsWorking c.args.program.now (g.M.Machine.setup desk.opening.machine) (g.M.Machine.past desk.opening.machine) c.args.worker.now turn.new.self old seat)) (sym tie)
    (turn_works_if c.args.program.now (g.M.Machine.setup desk.opening.machine) (g.M.Machine.past desk.opening.machine) old new c.args.worker.now turn.new.self turn.result
    _ turn.ensures.untouched (λ same. ap (λ t. t.seat.now) same)
    c.requires.seated.1 (sym serves.1 ∙ c.requires.seated.1) ((turn.ensures.goes_on.remembers n c.requires.seated).seen)
    (subst (λ d. IfOk turn.result (λ k. (s : Tree) → IsProgramOf s c.args.program.now → Did s c.args.program.now c.args.worker.now turn.new.self before (desk_view (g.M.Machine.setup d.now.opening.machine) (g.M.Machine.past d.now.opening.machine) new) k)) turn.ensures.still.0 turn.ensures.did))
