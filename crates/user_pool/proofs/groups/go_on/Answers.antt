use Rattle.std.proofs.Common.{◌≡◌, false, true, reverse, refl, sym, ap, ◌∙◌, subst}
use Rattle.std.proofs.lemmas.List.{reverse-reverse}
use Rattle.user_model.specs.declared.call.Call.TheVariants.{Advance}
use Rattle.user_model.specs.Past.{Past}
use Rattle.user_model.specs.Idle.{is_barred, ends_stuck}
use Rattle.log_text.specs.Ends.{setup_of, end_of}
use Rattle.log_text.specs.declared.end.End.TheVariants as ends
use Rattle.user_pool.specs.Runs.{IsRun}
use Rattle.user_pool.specs.Teams.{AreTeams}
use Rattle.user_pool.proofs.NeverFull.{has_room}
use Rattle.user_pool.proofs.Seating.{with_entry}
use Rattle.user_pool.proofs.ClockMoves.{clock_entry, clock_run, stuck_is, teams_clock}
use Rattle.user_pool.proofs.groups.go_on.Goals as goal

pub returns-clause-run : goal.returns-clause-run
returns-clause-run g c =
    let s = c.args.script.now in
    let past = g.M.Machine.past c.args.machine.now in
    let free : is_barred (setup_of s) past 0 ≡ false = ap (λ x. is_barred x past 0) (sym c.requires.setup) ∙ sym c.barred.ensures ∙ c.if-barred.false in
    let room = has_room s past c.requires.few c.requires.small c.requires.run in
    let now = with_entry s past (g.M.Machine.past c.step.new.self) 0 Advance (g.M.Machine.setup c.args.machine.now) c.requires.setup room c.in_ok-_answer.ensures.entry in
    subst (IsRun s) (sym now) (clock_run s past free room c.requires.run)

pub returns-clause-teams : goal.returns-clause-teams
returns-clause-teams g c =
    let s = c.args.script.now in
    let p = c.args.program.now in
    let past = g.M.Machine.past c.args.machine.now in
    let groups = c.args.groups.now in
    let room = has_room s past c.requires.few c.requires.small c.requires.run in
    let now = with_entry s past (g.M.Machine.past c.step.new.self) 0 Advance (g.M.Machine.setup c.args.machine.now) c.requires.setup room c.in_ok-_answer.ensures.entry in
    subst (λ (l : Past). AreTeams s p l groups (λ x. x.workers.items)) (sym now) (teams_clock s p past (clock_entry s past) groups (λ x. x.workers.items) refl c.requires.teams)

pub returns-then-ends_stuck-clause-teams : goal.returns-then-ends_stuck-clause-teams
returns-then-ends_stuck-clause-teams g c =
    let s = c.args.script.now in
    let p = c.args.program.now in
    let past = g.M.Machine.past c.args.machine.now in
    let groups = c.args.groups.now in
    let room = has_room s past c.requires.few c.requires.small c.requires.run in
    let now = with_entry s past (g.M.Machine.past c.step.new.self) 0 Advance (g.M.Machine.setup c.args.machine.now) c.requires.setup room c.in_ok-_answer.ensures.entry in
    subst (λ (l : Past). AreTeams s p l groups (λ x. x.workers.items)) (sym now) (teams_clock s p past (clock_entry s past) groups (λ x. x.workers.items) refl c.requires.teams)

pub returns-then-ends_stuck-clause-end : goal.returns-then-ends_stuck-clause-end
returns-then-ends_stuck-clause-end g c =
    let s = c.args.script.now in
    let past = g.M.Machine.past c.args.machine.now in
    let after = g.M.Machine.past c.step.new.self in
    let free : is_barred (setup_of s) past 0 ≡ false = ap (λ x. is_barred x past 0) (sym c.requires.setup) ∙ sym c.barred.ensures ∙ c.if-barred.false in
    let room = has_room s past c.requires.few c.requires.small c.requires.run in
    let now = with_entry s past after 0 Advance (g.M.Machine.setup c.args.machine.now) c.requires.setup room c.in_ok-_answer.ensures.entry in
    let stuck : ends_stuck after ≡ true = ap ends_stuck (sym (reverse-reverse after)) ∙ ap (λ (h : Past). ends_stuck (reverse h)) (sym c.history.ensures) ∙ sym c.ends_stuck.ensures ∙ c.if-ends_stuck.true in
    (subst (λ (l : Past). ends.Stuck ≡ end_of s l) (sym now) (stuck_is s past free (subst (λ (l : Past). ends_stuck l ≡ true) now stuck)), λ e. absurd cc)
