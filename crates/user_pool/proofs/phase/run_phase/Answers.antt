use Rattle.std.proofs.Common.{◌≡◌, ◌+◌, ◌≤◌, ◌<◌, false, length, sym, ap, ◌∙◌, subst, refl, arith}
use Rattle.user_model.specs.Past.{Past}
use Rattle.user_model.specs.Idle.{ends_stuck}
use Rattle.user_model.specs.Legal.{IsLawful}
use Rattle.user_pool.specs.Runs.{IsRun}
use Rattle.user_pool.specs.Teams.{AreTeams, HaveNewSeats}
use Rattle.user_pool.proofs.NeverFull.{run_short}
use Rattle.user_pool.proofs.OneRun.{run_lawful}
use Rattle.user_pool.proofs.Starts.{teams_kept, seated_new, working_new}
use Rattle.std.specs.Prelude.{All}
use Rattle.turn_lock.specs.Seats.{new_seat, HasAllSeats}
use Rattle.user_desk.specs.Desks.{IsDeskSeat}
use Rattle.user_pool.proofs.Phases.{desk_seats, all_seats, phase_ends}
use Rattle.user_pool.proofs.phase.run_phase.Goals as goal

pub new-requires : goal.new-requires
new-requires g c =
    let s = c.args.script.now in
    let past = g.M.Machine.past c.args.machine in
    let short : length past ≤ 2097152 = omega (arith, run_short s past c.requires.few c.requires.small c.requires.run) in
    record { legal = (short, subst (λ x. IsLawful x past) (sym c.requires.setup) (run_lawful s past c.requires.run)) }

pub run_all-requires-clause-seated : goal.run_all-requires-clause-seated
run_all-requires-clause-seated g c =
    let s = c.args.script.now in
    let past = g.M.Machine.past c.args.machine in
    let groups = c.hand_out.new.groups in
    let teams = teams_kept c.args.groups.now groups (λ x. x.workers.items) c.hand_out.ensures.workers s c.args.program.now past c.requires.teams in
    λ _ _. seated_new c.in-Ok.desk groups (λ x. x.workers.items) (λ x. x.seats.items) s c.args.program.now past teams (subst (λ k. HaveNewSeats c.in-Ok.desk k groups (λ x. x.seats.items)) c.thread_count-threads.ensures c.in_ok-clock.ensures.seats) (c.in-Ok.ensures.desk.1 ∙ ap (λ k. k + 1) c.thread_count-threads.ensures)

pub run_all-requires-clause-works : goal.run_all-requires-clause-works
run_all-requires-clause-works g c =
    let s = c.args.script.now in
    let opening = g.M.Machine.past c.in-Ok.desk.opening.machine in
    let same : g.M.Machine.past c.args.machine ≡ opening = ap g.M.Machine.past (sym c.in-Ok.ensures.desk.0) in
    let groups = c.hand_out.new.groups in
    let before = subst (λ (l : Past). AreTeams s c.args.program.now l c.args.groups.now (λ x. x.workers.items)) same c.requires.teams in
    let teams = teams_kept c.args.groups.now groups (λ x. x.workers.items) c.hand_out.ensures.workers s c.args.program.now opening before in
    λ _ _. working_new c.in-Ok.desk groups (λ x. x.workers.items) (λ x. x.seats.items) s c.args.program.now opening teams (subst (λ k. HaveNewSeats c.in-Ok.desk k groups (λ x. x.seats.items)) c.thread_count-threads.ensures c.in_ok-clock.ensures.seats) (subst (IsRun s) same c.requires.run)

pub close-requires : goal.close-requires
close-requires g c =
    let desk = c.in-Ok.desk in
    let groups = c.run_all.new.groups in
    let some : 0 < length groups = omega (arith, c.run_all.ensures.count, c.hand_out.ensures.workers.count, c.requires.teams.some) in
    let here : IsDeskSeat desk (new_seat desk 0) = ((refl, refl), omega (arith, c.in-Ok.ensures.desk.1)) in
    subst (All (IsDeskSeat desk)) (sym c.in_ok-seats.ensures.seats)
    (desk_seats (λ x. x.seats.items) desk groups (λ x. x.workers.items) (length c.args.script.now.threads) some c.run_all.ensures.threads c.run_all.ensures.seated c.in_ok-clock.clock (subst (IsDeskSeat desk) (sym c.in_ok-clock.ensures.clock) here))

pub unreachable-requires : goal.unreachable-requires
unreachable-requires g c =
    let desk = c.in-Ok.desk in
    let groups = c.run_all.new.groups in
    let some : 0 < length groups = omega (arith, c.run_all.ensures.count, c.hand_out.ensures.workers.count, c.requires.teams.some) in
    let zeroth : c.in_ok-clock.clock.number ≡ 0 = ap (λ x. x.number) c.in_ok-clock.ensures.clock in
    c.in-Err.ensures.missing (subst (HasAllSeats desk) (sym c.in_ok-seats.ensures.seats)
    (all_seats (λ x. x.seats.items) desk groups (λ x. x.workers.items) (length c.args.script.now.threads) some c.run_all.ensures.threads c.run_all.ensures.seated c.in_ok-clock.clock zeroth (c.in-Ok.ensures.desk.1 ∙ ap (λ k. k + 1) c.thread_count-threads.ensures)))

pub returns-clause-run : goal.returns-clause-run
returns-clause-run g c =
    let s = c.args.script.now in
    let p = c.args.program.now in
    let desk = c.in-Ok.desk in
    let opening = g.M.Machine.past desk.opening.machine in
    let groups = c.run_all.new.groups in
    let machine = c.in-Ok-close.machine in
    let same = ap g.M.Machine.past (sym c.in-Ok.ensures.desk.0) in
    let some : 0 < length groups = omega (arith, c.run_all.ensures.count, c.hand_out.ensures.workers.count, c.requires.teams.some) in
    let done = phase_ends (λ x. x.seats.items) desk groups (λ x. x.workers.items) s p opening c.in_ok-clock.clock some c.run_all.ensures.threads c.run_all.ensures.seated
    (λ k d lt. c.run_all.ensures.works k d lt (c.is_starved.ensures c.if-is_starved.false k d lt)) c.requires.few c.requires.small (subst (IsRun s) same c.requires.run)
    (g.M.Machine.setup desk.opening.machine) (g.M.Machine.setup machine) (g.M.Machine.past machine) c.in_ok-seats.seats.items c.thread_count-threads.result c.in_ok-seats.ensures.seats
    (ap g.M.Machine.setup c.in-Ok.ensures.desk.0 ∙ c.requires.setup) c.thread_count-threads.ensures c.in-Ok.ensures.desk.1 c.in_ok-clock.ensures.clock c.in-Ok-close.ensures.machine in
    done.run

pub returns-clause-stuck : goal.returns-clause-stuck
returns-clause-stuck g c =
    let s = c.args.script.now in
    let p = c.args.program.now in
    let desk = c.in-Ok.desk in
    let opening = g.M.Machine.past desk.opening.machine in
    let groups = c.run_all.new.groups in
    let machine = c.in-Ok-close.machine in
    let same = ap g.M.Machine.past (sym c.in-Ok.ensures.desk.0) in
    let some : 0 < length groups = omega (arith, c.run_all.ensures.count, c.hand_out.ensures.workers.count, c.requires.teams.some) in
    let done = phase_ends (λ x. x.seats.items) desk groups (λ x. x.workers.items) s p opening c.in_ok-clock.clock some c.run_all.ensures.threads c.run_all.ensures.seated
    (λ k d lt. c.run_all.ensures.works k d lt (c.is_starved.ensures c.if-is_starved.false k d lt)) c.requires.few c.requires.small (subst (IsRun s) same c.requires.run)
    (g.M.Machine.setup desk.opening.machine) (g.M.Machine.setup machine) (g.M.Machine.past machine) c.in_ok-seats.seats.items c.thread_count-threads.result c.in_ok-seats.ensures.seats
    (ap g.M.Machine.setup c.in-Ok.ensures.desk.0 ∙ c.requires.setup) c.thread_count-threads.ensures c.in-Ok.ensures.desk.1 c.in_ok-clock.ensures.clock c.in-Ok-close.ensures.machine in
    λ goes. done.goes (subst (λ (l : Past). ends_stuck l ≡ false) same goes)

pub returns-clause-teams : goal.returns-clause-teams
returns-clause-teams g c =
    let s = c.args.script.now in
    let p = c.args.program.now in
    let desk = c.in-Ok.desk in
    let opening = g.M.Machine.past desk.opening.machine in
    let groups = c.run_all.new.groups in
    let machine = c.in-Ok-close.machine in
    let same = ap g.M.Machine.past (sym c.in-Ok.ensures.desk.0) in
    let some : 0 < length groups = omega (arith, c.run_all.ensures.count, c.hand_out.ensures.workers.count, c.requires.teams.some) in
    let done = phase_ends (λ x. x.seats.items) desk groups (λ x. x.workers.items) s p opening c.in_ok-clock.clock some c.run_all.ensures.threads c.run_all.ensures.seated
    (λ k d lt. c.run_all.ensures.works k d lt (c.is_starved.ensures c.if-is_starved.false k d lt)) c.requires.few c.requires.small (subst (IsRun s) same c.requires.run)
    (g.M.Machine.setup desk.opening.machine) (g.M.Machine.setup machine) (g.M.Machine.past machine) c.in_ok-seats.seats.items c.thread_count-threads.result c.in_ok-seats.ensures.seats
    (ap g.M.Machine.setup c.in-Ok.ensures.desk.0 ∙ c.requires.setup) c.thread_count-threads.ensures c.in-Ok.ensures.desk.1 c.in_ok-clock.ensures.clock c.in-Ok-close.ensures.machine in
    teams_kept groups c.take_back.new.groups (λ x. x.workers.items) c.take_back.ensures.workers s p (g.M.Machine.past machine) (record { some = some; threads = c.run_all.ensures.threads; workers = done.workers })
