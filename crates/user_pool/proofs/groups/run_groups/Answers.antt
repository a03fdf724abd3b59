use Rattle.std.proofs.lemmas.Grind.{common_steps}
use Rattle.std.proofs.Common.{◌≡◌, drop, take_at, length, sym, subst, arith, rules}
use Rattle.std.specs.Prelude.{IsNone}
use Rattle.user_pool.specs.Teams.{AreTeams, HaveNoSeats}
use Rattle.user_pool.proofs.OneRun.{run_lawful}
use Rattle.user_pool.proofs.groups.run_groups.Goals as goal

pub returns-in-Some-2-clause-lawful : goal.returns-in-Some-2-clause-lawful
returns-in-Some-2-clause-lawful g c = run_lawful c.args.script.now (g.M.Machine.past c.go_on.new.machine) c.in_ok-end.ensures.run

pub loop-preserved : goal.loop-preserved
loop-preserved g c =
    let past = g.M.Machine.past c.go_on.new.machine in
    let groups = c.run_phase.new.groups in
    let count : length groups ≡ c.loop.groups.len = omega (arith, c.run_phase.auto.groups, c.deref_mut.ensures.len) in
    let whole = take_at groups (drop (length groups) c.loop.groups.items) c.loop.groups.len count in
    record {
      setup = c.go_on.ensures.setup;
      run = c.in_ok-end.ensures.run;
      goes = c.in_ok-end.ensures.goes (subst (λ o. IsNone o) (sym c.in_default.is) (search rules));
      teams = subst (λ xs. AreTeams c.args.script.now c.in_ok-program.program past xs (λ x. x.workers.items)) c.deref.ensures.value c.in_ok-end.ensures.teams;
      none = subst (λ xs. HaveNoSeats xs (λ x. x.seats.items)) (sym whole) c.in_ok-machine.ensures.none;
    }

pub new_groups-requires-clause-program : goal.new_groups-requires-clause-program
new_groups-requires-clause-program g c = grind (arith, common_steps)

pub loop-init : goal.loop-init
loop-init g c = grind (arith, common_steps)

pub run_phase-requires : goal.run_phase-requires
run_phase-requires g c = grind (arith, common_steps)

pub go_on-requires-clause-program : goal.go_on-requires-clause-program
go_on-requires-clause-program g c = grind (arith, common_steps)

pub go_on-requires-clause-teams : goal.go_on-requires-clause-teams
go_on-requires-clause-teams g c = grind (arith, common_steps)

pub returns-in_err-end-clause-run : goal.returns-in_err-end-clause-run
returns-in_err-end-clause-run g c = grind (arith, common_steps)

pub returns-in_err-end-clause-lawful : goal.returns-in_err-end-clause-lawful
returns-in_err-end-clause-lawful g c = grind (arith, common_steps)

pub returns-in_err-end-clause-end : goal.returns-in_err-end-clause-end
returns-in_err-end-clause-end g c = grind (arith, common_steps)

pub returns-in_err-end-clause-over : goal.returns-in_err-end-clause-over
returns-in_err-end-clause-over g c = grind (arith, common_steps)

pub returns-in_err-end-clause-setup : goal.returns-in_err-end-clause-setup
returns-in_err-end-clause-setup g c = grind (arith, common_steps)

pub returns-in-Some-2-clause-run : goal.returns-in-Some-2-clause-run
returns-in-Some-2-clause-run g c = grind (arith, common_steps)

pub returns-in-Some-2-clause-end : goal.returns-in-Some-2-clause-end
returns-in-Some-2-clause-end g c = search rules

pub returns-in-Some-2-clause-over : goal.returns-in-Some-2-clause-over
returns-in-Some-2-clause-over g c = grind (arith, common_steps)

pub loop-smaller : goal.loop-smaller
loop-smaller g c = grind (arith, common_steps)
