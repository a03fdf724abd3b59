use Rattle.std.proofs.Common.{◌<◌, get_or, subst, sym}
use Rattle.std.proofs.lemmas.List.{get_or_default}
use Rattle.screen_owners.specs.declared.covers.Cover.{Cover}
use Rattle.screen_owners.specs.declared.lefts.Left.{Left}
use Rattle.screen_owners.specs.Shares.{IsTaken}
use Rattle.screen_owners.proofs.Cuts.{taken_none}
use Rattle.screen_owners.proofs.lefts.taken_of.Goals as goal

pub returns-in-Some : goal.returns-in-Some
returns-in-Some c =
    let whole = c.args.whole.now in
    let cs = c.args.covers.now in
    let ls = c.args.lefts.now in
    let i = c.args.i in
    let j = c.in-Some.j in
    let d : Cover = get_or cs i c.index-covers-i.result in
    let l : Left = get_or ls j c.index-lefts-j.result in
    let over : i < l.from = c.in-Some.ensures.over l (get_or_default ls j c.index-lefts-j.result l c.in-Some.ensures.within) in
    subst (IsTaken whole cs i) (sym c.empty.ensures) (taken_none whole cs i d l c.requires.within (get_or_default cs i c.index-covers-i.result d c.requires.within) over (c.requires.lefts j c.index-lefts-j.result c.in-Some.ensures.within) (c.meets.ensures c.if-not-meets.true))
