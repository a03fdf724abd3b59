use Rattle.std.proofs.Common.{rules, ◌++◌, List, ℕ, ap, ◌∙◌}
use Rattle.run_explorer.proofs.run.make_run.Goals as goal

pub end_of-requires-clause-run : goal.end_of-requires-clause-run
end_of-requires-clause-run g c = (c.in_ok-go_on.ensures.within (search (rules, c.if-branch.true))).within.run

pub end_of-requires-clause-over : goal.end_of-requires-clause-over
end_of-requires-clause-over g c = (c.in_ok-go_on.ensures.within (search (rules, c.if-branch.true))).within.over

pub returns-then-branch-clause-come : goal.returns-then-branch-clause-come
returns-then-branch-clause-come g c = (c.in_ok-go_on.ensures.within (search (rules, c.if-branch.true)), c.end_of.ensures)

pub returns-clause-come : goal.returns-clause-come
returns-clause-come g c = c.in_ok-go_on.ensures.passed (search (rules, c.if-branch.false))

pub returns-then-branch-clause-kept : goal.returns-then-branch-clause-kept
returns-then-branch-clause-kept g c = λ runs way. c.in_ok-go_on.ensures.kept runs (c.in_ok-place.ensures.kept runs way)

pub returns-clause-kept : goal.returns-clause-kept
returns-clause-kept g c = λ runs way. c.in_ok-go_on.ensures.kept runs (c.in_ok-place.ensures.kept runs way)

pub returns-then-branch-clause-along : goal.returns-then-branch-clause-along
returns-then-branch-clause-along g c =
    let along = c.in_ok-go_on.ensures.along in
    record { rest = along.0; is = along.1 ∙ ap (λ (xs : List ℕ). xs ++ along.0) c.in_ok-place.ensures.along }

pub returns-clause-along : goal.returns-clause-along
returns-clause-along g c =
    let along = c.in_ok-go_on.ensures.along in
    record { rest = along.0; is = along.1 ∙ ap (λ (xs : List ℕ). xs ++ along.0) c.in_ok-place.ensures.along }
