use Rattle.std.proofs.Common.{rules, ◌++◌, ◌∷◌, [], List, ℕ, sym, ap, ◌∙◌, append-nil, append_assoc}
use Rattle.run_explorer.specs.Orders.{IsWithin}
use Rattle.run_explorer.proofs.Moves.{least_may, least_over}
use Rattle.run_explorer.proofs.Parts.{of_part, passed_over}
use Rattle.run_explorer.proofs.Searching.{open_moved}
use Rattle.run_explorer.proofs.play.go_on.Goals as goal

pub loop-mover-init : goal.loop-mover-init
loop-mover-init g c = record {
  made = c.requires.made;
  along = ([], sym (append-nil _));
  at = c.requires.position;
  share = c.requires.share;
  kept = λ runs were. were;
  seats = c.requires.seats;
  setup = c.requires.setup;
}

pub take_step-requires-clause-may : goal.take_step-requires-clause-may
take_step-requires-clause-may g c = least_may c.args.script.now c.args.bound (g.M.Machine.past c.loop-mover.machine) c.in-Some.mover (sym c.least.ensures ∙ c.in-Some.is)

pub loop-mover-preserved : goal.loop-mover-preserved
loop-mover-preserved g c =
    let along = c.loop-mover.invariant.along in
    record {
      made = c.in_ok-place.ensures.made;
      along = (along.0 ++ c.in-Some.mover ∷ [], c.in_ok-place.ensures.along ∙ ap (λ (xs : List ℕ). xs ++ c.in-Some.mover ∷ []) along.1 ∙ append_assoc _ along.0 (c.in-Some.mover ∷ []));
      at = c.in_ok-place.ensures.position;
      share = c.in_ok-place.ensures.share;
      kept = λ runs were. open_moved c.args.script.now c.args.bound c.args.part runs (g.M.Machine.past c.loop-mover.machine) (g.M.Machine.past c.take_step.new.machine) c.in-Some.mover (sym c.least.ensures ∙ c.in-Some.is) c.in_ok-place.ensures.moved (c.loop-mover.invariant.kept runs were);
      seats = c.in_ok-place.ensures.seats;
      setup = c.take_step.ensures.setup;
    }

pub returns-then-is_passed-clause-passed : goal.returns-then-is_passed-clause-passed
returns-then-is_passed-clause-passed g c = λ is. c.is_passed.ensures (search (rules, c.if-is_passed.true)) c.args.script.now (g.M.Machine.past c.loop-mover.machine) c.loop-mover.invariant.share

pub returns-clause-within : goal.returns-clause-within
returns-clause-within g c = λ is.
    let s = c.args.script.now in
    let past = g.M.Machine.past c.loop-mover.machine in
    let within : IsWithin s c.args.bound past = record {
      run = c.loop-mover.invariant.made.run;
      over = least_over s c.args.bound past (sym c.least.ensures ∙ c.in_default.is);
      few = c.loop-mover.invariant.made.few;
    } in
    record { within = within; of = of_part s c.args.bound c.args.part past c.loop-mover.place.share c.loop-mover.invariant.share (sym c.is_of.ensures ∙ is) }

pub returns-clause-passed : goal.returns-clause-passed
returns-clause-passed g c = λ other.
    let s = c.args.script.now in
    let past = g.M.Machine.past c.loop-mover.machine in
    passed_over s c.args.bound c.args.part past c.loop-mover.place.share c.loop-mover.invariant.share (least_over s c.args.bound past (sym c.least.ensures ∙ c.in_default.is)) (sym c.is_of.ensures ∙ other)
