use Rattle.std.proofs.Common.{◌≡◌, ◌∙◌, List, eqb, filter, map, not, ap, sym, subst}
use Rattle.win_num.specs.declared.message.Hwnd.{Hwnd}
use Rattle.win_order.specs.Kept.{IsKept}
use Rattle.win_order.specs.Layers.{Layers, removed}
use Rattle.win_order.specs.Listed.{without_child}
use Rattle.win_order.specs.Siblings.{Siblings}
use Rattle.win_order.specs.Standing.{Standing}
use Rattle.win_order.proofs.KeptLaws.{removed_kept}
use Rattle.win_order.proofs.ListedLaws.{removed_lists}
use Rattle.win_order.proofs.order.Order.remove.Goals as goal

pub invariant_of-self : goal.invariant_of-self
invariant_of-self c =
    let now = c.args.self.now in
    let w = c.args.w.0 in
    let z : Layers = record { standings = c.self.inside.standings; families = c.self.inside.families } in
    let lists : c.take_out.new.self ≡ (removed w z).families = c.take_out.ensures ∙ (ap (λ (p : Hwnd). map (without_child p.0 w) (filter (λ (f : Siblings). not (eqb f.parent.0 w)) z.families)) c.parent_of-parent.ensures ∙ removed_lists w z c.self.invariant) in
    let whole : record { standings = c.remove.new.self; families = c.take_out.new.self } ≡ removed w z =
    ap (λ (l : List Standing). let y : Layers = record { standings = l; families = c.take_out.new.self } in y) c.remove.ensures ∙ ap (λ (l : List Siblings). let y : Layers = record { standings = (removed w z).standings; families = l } in y) lists in
    subst IsKept (sym (whole ∙ ap (removed w) c.self.view_is)) (removed_kept w now (subst IsKept c.self.view_is c.self.invariant) c.requires.stands c.requires.last)

pub returns : goal.returns
returns c =
    let w = c.args.w.0 in
    let z : Layers = record { standings = c.self.inside.standings; families = c.self.inside.families } in
    let lists : c.take_out.new.self ≡ (removed w z).families = c.take_out.ensures ∙ (ap (λ (p : Hwnd). map (without_child p.0 w) (filter (λ (f : Siblings). not (eqb f.parent.0 w)) z.families)) c.parent_of-parent.ensures ∙ removed_lists w z c.self.invariant) in
    ap (λ (l : List Standing). let y : Layers = record { standings = l; families = c.take_out.new.self } in y) c.remove.ensures ∙ (ap (λ (l : List Siblings). let y : Layers = record { standings = (removed w z).standings; families = l } in y) lists ∙ ap (removed w) c.self.view_is)
