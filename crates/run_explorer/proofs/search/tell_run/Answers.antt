use Rattle.std.proofs.Common.{◌≡◌, ◌≤◌, List, length, reverse, sym, ap, ◌∙◌, subst, arith}
use Rattle.std.specs.Prelude.{option_copied}
use Rattle.std.proofs.lemmas.List.{reverse-reverse}
use Rattle.user_model.specs.Past.{Past}
use Rattle.run_explorer.specs.declared.step.Step.{Step}
use Rattle.run_explorer.specs.Marks.{is_marked}
use Rattle.run_explorer.specs.Steps.{AreStepsOf}
use Rattle.run_explorer.specs.Searches.{HasComeOut}
use Rattle.run_explorer.proofs.Exploring.{made_short, one_more, none_more}
use Rattle.run_explorer.proofs.Searching.{on_more}
use Rattle.run_explorer.proofs.search.tell_run.Goals as goal

pub make_run-requires-clause-way : goal.make_run-requires-clause-way
make_run-requires-clause-way g c = (c.requires.made.runs, c.requires.made.way)

pub add-requires-clause-short : goal.add-requires-clause-short
add-requires-clause-short g c =
    subst (λ (xs : List Step). length xs ≤ 2097152) (sym c.deref.ensures.value) (made_short c.args.script.now c.args.bound c.make_run.new.path.steps.items (g.M.Machine.past c.make_run.new.machine) c.requires.few c.requires.small c.in_ok-end.ensures.made)

pub returns-in-Some-clause-further : goal.returns-in-Some-clause-further
returns-in-Some-clause-further g c =
    let s = c.args.script.now in
    let name = option_copied c.args.name in
    let last = g.M.Machine.past c.make_run.new.machine in
    let come = subst (HasComeOut s c.args.bound c.args.part last) c.in-Some.is c.in_ok-end.ensures.come in
    let marked : c.is_marked-marks.result ≡ is_marked s name last = c.is_marked-marks.ensures ∙ ap (λ (h : Past). is_marked s name (reverse h)) c.history.ensures ∙ ap (is_marked s name) (reverse-reverse last) in
    on_more c.add.result (λ tells. one_more s c.args.bound c.args.part name c.args.path.now c.make_run.new.path c.args.report.now c.add.new.self last c.in-Some.end c.is_marked-marks.result c.requires.made c.in_ok-end.ensures.made come.0 c.in_ok-end.ensures.kept come.1 marked
    (λ t b n past rs are ended marks were. tells t b n past rs (subst (λ (xs : List Step). AreStepsOf t b past xs) (sym c.deref.ensures.value) are) ended marks were)) c.add.ensures.told

pub returns-in-Some-clause-along : goal.returns-in-Some-clause-along
returns-in-Some-clause-along g c = on_more c.add.result (λ count. c.in_ok-end.ensures.along) c.add.ensures.count

pub returns-in-Some-clause-count : goal.returns-in-Some-clause-count
returns-in-Some-clause-count g c = on_more c.add.result (λ count. omega (arith, count)) c.add.ensures.count

pub returns-clause-further : goal.returns-clause-further
returns-clause-further g c =
    let s = c.args.script.now in
    let last = g.M.Machine.past c.make_run.new.machine in
    none_more s c.args.bound c.args.part (option_copied c.args.name) c.args.path.now c.make_run.new.path c.args.report.now last c.requires.made c.in_ok-end.ensures.made (subst (HasComeOut s c.args.bound c.args.part last) c.in-None.is c.in_ok-end.ensures.come) c.in_ok-end.ensures.kept
