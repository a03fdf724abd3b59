use Rattle.std.proofs.Common.{◌≡◌, ◌≤◌, ℕ, List, ◌++◌, length, sym, ap, ◌∙◌, subst, append-nil}
use Rattle.std.specs.Prelude.{Option}
use Rattle.user_model.specs.Past.{Past}
use Rattle.run_explorer.specs.declared.step.Step.{Step}
use Rattle.run_explorer.specs.Parts.{IsShare}
use Rattle.run_explorer.specs.Steps.{IsMadeBy, AreStepsOf}
use Rattle.run_explorer.specs.Searches.{TurnsAt, GoesOn, actors, turn_of}
use Rattle.run_explorer.proofs.Exploring.{made_short}
use Rattle.run_explorer.proofs.Searching.{open_turned, open_begun, on_more}
use Rattle.run_explorer.proofs.run.begin_run.Goals as goal

pub share_of-requires-clause-short : goal.share_of-requires-clause-short
share_of-requires-clause-short g c =
    let way = c.requires.way.1 in
    subst (λ (xs : List Step). length xs ≤ 2097152) (sym c.deref.ensures.value) (made_short c.args.script.now c.args.bound c.args.path.now.steps.items way.past c.requires.few c.requires.small way.made)

pub take_step-requires-clause-share : goal.take_step-requires-clause-share
take_step-requires-clause-share g c =
    let s = c.args.script.now in
    let way = c.requires.way.1 in
    let same = c.in_ok-replay.ensures.made c.args.bound way.past (subst (λ (xs : List Step). IsMadeBy s c.args.bound xs way.past) (sym c.deref-2.ensures.value) way.made) in
    subst (λ (p : Past). IsShare s c.args.bound c.args.part.count p c.share_of.result) (sym same) (c.share_of.ensures s c.args.bound way.past (subst (λ (xs : List Step). AreStepsOf s c.args.bound way.past xs) (sym c.deref.ensures.value) way.made.each))

pub returns-in-None-clause-share : goal.returns-in-None-clause-share
returns-in-None-clause-share g c =
    let s = c.args.script.now in
    let way = c.requires.way.1 in
    let same = c.in_ok-replay.ensures.made c.args.bound way.past (subst (λ (xs : List Step). IsMadeBy s c.args.bound xs way.past) (sym c.deref-2.ensures.value) way.made) in
    subst (λ (p : Past). IsShare s c.args.bound c.args.part.count p c.share_of.result) (sym same) (c.share_of.ensures s c.args.bound way.past (subst (λ (xs : List Step). AreStepsOf s c.args.bound way.past xs) (sym c.deref.ensures.value) way.made.each))

pub returns-in-Some-clause-along : goal.returns-in-Some-clause-along
returns-in-Some-clause-along g c = on_more c.take_step.result (λ along. along ∙ ap (λ (o : Option ℕ). actors c.args.path.now.steps.items ++ turn_of o) (sym c.in-Some.is)) c.take_step.ensures.along

pub returns-in-None-clause-along : goal.returns-in-None-clause-along
returns-in-None-clause-along g c = sym (append-nil (actors c.args.path.now.steps.items)) ∙ ap (λ (o : Option ℕ). actors c.args.path.now.steps.items ++ turn_of o) (sym c.in-None.is)

pub returns-in-Some-clause-kept : goal.returns-in-Some-clause-kept
returns-in-Some-clause-kept g c =
    let s = c.args.script.now in
    let part = c.args.part in
    let now = g.M.Machine.past c.replay.new.machine in
    on_more c.take_step.result (λ moved runs way.
    let same : now ≡ way.past = c.in_ok-replay.ensures.made c.args.bound way.past (subst (λ (xs : List Step). IsMadeBy s c.args.bound xs way.past) (sym c.deref-2.ensures.value) way.made) in
    let turn : TurnsAt s c.args.bound part runs way.past c.in-Some.thread = subst (λ (o : Option ℕ). GoesOn s c.args.bound part runs way.past o) c.in-Some.is way.next in
    open_turned s c.args.bound part runs now (g.M.Machine.past c.take_step.new.machine) c.in-Some.thread moved (subst (λ (p : Past). TurnsAt s c.args.bound part runs p c.in-Some.thread) (sym same) turn)) c.take_step.ensures.moved

pub returns-in-None-clause-kept : goal.returns-in-None-clause-kept
returns-in-None-clause-kept g c = λ runs way.
    let s = c.args.script.now in
    let part = c.args.part in
    let now = g.M.Machine.past c.replay.new.machine in
    let same : now ≡ way.past = c.in_ok-replay.ensures.made c.args.bound way.past (subst (λ (xs : List Step). IsMadeBy s c.args.bound xs way.past) (sym c.deref-2.ensures.value) way.made) in
    let begins = subst (λ (o : Option ℕ). GoesOn s c.args.bound part runs way.past o) c.in-None.is way.next in
    open_begun s c.args.bound part runs way.past now same begins.0 begins.1
