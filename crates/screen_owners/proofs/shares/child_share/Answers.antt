use Rattle.std.proofs.Common.{◌<◌, length, ap, refl, sym, subst, ◌∙◌, arith}
use Rattle.std.specs.List.{All}
use Rattle.std.proofs.lemmas.Bool.Decides.{Decides-eqb}
use Rattle.screen_owners.specs.Shares.{IsLeft, IsTaken}
use Rattle.screen_owners.proofs.ShareLaws.{child_share, near_more, none_taken}
use Rattle.screen_owners.proofs.shares.child_share.Goals as goal

pub corner_of-corner-requires : goal.corner_of-corner-requires
corner_of-corner-requires c =
    let small : c.args.parent.now.window.0 < 4294967296 = omega arith in
    near_more c.args.parent.now.window.0 4294967295 c.args.parent.now.corner (omega (arith, small)) c.requires.parent.near

pub covers_of-requires : goal.covers_of-requires
covers_of-requires c =
    let small : c.args.parent.now.window.0 < 4294967296 = omega arith in
    c.corner_of-corner.ensures.near 4294967295 (near_more c.args.parent.now.window.0 4294967295 c.args.parent.now.corner (omega (arith, small)) c.requires.parent.near)

pub returns-then-is_empty : goal.returns-then-is_empty
returns-then-is_empty c =
    let takes = subst (λ cs. IsTaken c.args.parent.now.taken cs c.args.i c.in_ok-taken.taken) c.deref.ensures.value c.in_ok-taken.ensures in
    none_taken c.args.tree.now.live c.args.order.now c.args.tree.now.last c.args.part.now c.requires.ordered c.requires.children c.args.parent.now c.in_ok-taken.taken c.args.w c.args.i c.requires.parent c.requires.below c.requires.last takes (ap length (sym c.rects.ensures.value) ∙ (Decides-eqb (length c.rects.result.now) 0).0 (sym c.is_empty.ensures ∙ c.if-is_empty.true))

pub returns : goal.returns
returns c =
    let takes = subst (λ cs. IsTaken c.args.parent.now.taken cs c.args.i c.in_ok-taken.taken) c.deref.ensures.value c.in_ok-taken.ensures in
    (refl, child_share c.args.tree.now.live c.args.order.now c.args.tree.now.last c.args.part.now c.requires.ordered c.requires.children c.args.parent.now _ c.args.i c.requires.parent c.requires.below c.requires.last takes c.corner_of-corner.ensures c.in_ok-covers.ensures (subst (λ cs. All (IsLeft c.in_ok-taken.taken cs) c.in_ok-lefts.lefts.items) c.deref-3.ensures.value c.in_ok-lefts.ensures))
