use Rattle.std.proofs.Common.{◌≡◌, ◌∙◌, List, ap, sym, subst}
use Rattle.win_order.specs.Kept.{IsKept}
use Rattle.win_order.specs.Layers.{Layers, kept}
use Rattle.win_order.specs.Lone.{GoesAlone}
use Rattle.win_order.specs.Siblings.{Siblings}
use Rattle.win_order.specs.Standing.{Standing}
use Rattle.win_order.proofs.KeptLaws.{kept_kept}
use Rattle.win_order.proofs.LoneLaws.{kept_is_removed, none_under}
use Rattle.win_order.proofs.order.Order.keep.Goals as goal

pub invariant_of-self : goal.invariant_of-self
invariant_of-self c =
    let now = c.args.self.now in
    let staying = c.args.staying.now in
    let z : Layers = record { standings = c.self.inside.standings; families = c.self.inside.families } in
    let whole : record { standings = c.keep.new.self; families = c.keep-2.new.self } ≡ kept staying z =
    ap (λ (l : List Standing). let y : Layers = record { standings = l; families = c.keep-2.new.self } in y) c.keep.ensures ∙ ap (λ (l : List Siblings). let y : Layers = record { standings = (kept staying z).standings; families = l } in y) c.keep-2.ensures in
    subst IsKept (sym (whole ∙ ap (kept staying) c.self.view_is)) (kept_kept staying now (subst IsKept c.self.view_is c.self.invariant) c.requires.along)

pub remove-requires-clause-stands : goal.remove-requires-clause-stands
remove-requires-clause-stands c = (subst (λ (z : Layers). GoesAlone c.args.staying.now c.in-Some.window.0 z.standings) c.self.view_is c.in-Some.ensures).stands

pub remove-requires-clause-last : goal.remove-requires-clause-last
remove-requires-clause-last c =
    let staying = c.args.staying.now in
    let now = c.args.self.now in
    none_under staying c.in-Some.window.0 now.standings (subst IsKept c.self.view_is c.self.invariant).older c.requires.along (subst (λ (z : Layers). GoesAlone staying c.in-Some.window.0 z.standings) c.self.view_is c.in-Some.ensures)

pub returns-in-Some : goal.returns-in-Some
returns-in-Some c =
    let staying = c.args.staying.now in
    let now = c.args.self.now in
    c.remove.ensures ∙ sym (kept_is_removed staying c.in-Some.window.0 now (subst IsKept c.self.view_is c.self.invariant) (subst (λ (z : Layers). GoesAlone staying c.in-Some.window.0 z.standings) c.self.view_is c.in-Some.ensures))
