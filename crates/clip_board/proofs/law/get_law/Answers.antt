use Rattle.std.proofs.Common.{refl, sym, subst}
use Rattle.std.specs.Prelude.{IsSome, IfSome}
use Rattle.std.proofs.lemmas.Bool.{false≢true}
use Rattle.clip_board.specs.Laws.{WasSet}
use Rattle.clip_board.proofs.GetLaws.{one_get, none_found, place_found, second_fits}
use Rattle.clip_board.proofs.law.get_law.Goals as goal

pub slice_bounds-last_set-end : goal.slice_bounds-last_set-end
slice_bounds-last_set-end c =
    second_fits c.args.clip.now c.history-history.result.now c.history-history.ensures.entries c.args.first c.args.second c.in-Some.format c.format_got.result c.format_got.ensures c.in-Some.is

pub returns-in-Some-clause-exact : goal.returns-in-Some-clause-exact
returns-in-Some-clause-exact c =
    let x = place_found c.args.clip.now c.history-history.result.now c.history-history.ensures.entries c.args.first c.args.second c.history-history.ensures.lawful c.in-Some.format c.format_got.result c.last_set.result c.format_got.ensures c.in-Some.is c.last_set.ensures in
    (λ h. x.3, λ h. subst IsSome (sym x.1) refl)

pub returns-in-Some-clause-law : goal.returns-in-Some-clause-law
returns-in-Some-clause-law c =
    let x = place_found c.args.clip.now c.history-history.result.now c.history-history.ensures.entries c.args.first c.args.second c.history-history.ensures.lawful c.in-Some.format c.format_got.result c.last_set.result c.format_got.ensures c.in-Some.is c.last_set.ensures in
    subst (λ o. IfSome o (λ place. WasSet c.args.clip.now c.args.first c.args.second place)) (sym x.1) x.2

pub returns-in-Some-clause-one_get : goal.returns-in-Some-clause-one_get
returns-in-Some-clause-one_get c place f v who h = one_get c.args.clip.now c.history-history.ensures.lawful place f v who h

pub returns-in-None-clause-exact : goal.returns-in-None-clause-exact
returns-in-None-clause-exact c =
    (λ h. absurd (false≢true h), λ g. absurd (none_found c.args.clip.now c.history-history.result.now c.history-history.ensures.entries c.args.first c.args.second c.format_got.result c.format_got.ensures c.in-None.is g))

pub returns-in-None-clause-one_get : goal.returns-in-None-clause-one_get
returns-in-None-clause-one_get c place f v who h = one_get c.args.clip.now c.history-history.ensures.lawful place f v who h
