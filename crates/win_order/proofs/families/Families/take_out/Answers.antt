use Rattle.std.proofs.Common.{◌≡◌, ◌∙◌, List, eqb, filter, map, nat_eq, not, is_some, ap, sym, subst}
use Rattle.std.specs.List.{IsDistinct}
use Rattle.std.specs.Map.{lookup}
use Rattle.indexmap.specs.IndexMap.{set_value_at}
use Rattle.indexmap.proofs.CallerLemmas.{keys-with_value_at}
use Rattle.win_num.specs.declared.message.Hwnd.{Hwnd}
use Rattle.win_order.specs.Listed.{siblings, without_child}
use Rattle.win_order.specs.Siblings.{Siblings}
use Rattle.win_order.proofs.ListedLaws.{change_at, found_at, not_found, others_listed, remove_listed}
use Rattle.win_order.proofs.families.Families.take_out.Goals as goal

pub invariant_of-self : goal.invariant_of-self
invariant_of-self c = subst (IsDistinct nat_eq) (sym (keys-with_value_at c.shift_remove.new.self c.in-Some.at c.take_out.new.self)) c.shift_remove.ensures.unique

pub returns-in-Some : goal.returns-in-Some
returns-in-Some c =
    let w = c.args.window.0 in
    let p = c.args.parent.0 in
    let at = c.in-Some.at in
    let es = c.shift_remove.new.self.entries in
    let left : map siblings es ≡ filter (λ (f : Siblings). not (eqb f.parent.0 w)) c.args.self.now =
    ap (map siblings) c.shift_remove.ensures.entries ∙ (remove_listed c.self.inside.lists.entries w c.self.invariant ∙ ap (filter (λ (f : Siblings). not (eqb f.parent.0 w))) c.self.view_is) in
    ap (λ (ws : List Hwnd). map siblings (set_value_at es at ws)) c.take_out.ensures
    ∙ (change_at es p w at _ c.shift_remove.ensures.unique (sym c.in-Some.ensures.index) (found_at es p at _ _ c.in-Some.ensures.value c.pair_mut-family.ensures.value) ∙ ap (map (without_child p w)) left)

pub returns-in_default : goal.returns-in_default
returns-in_default c =
    let w = c.args.window.0 in
    let p = c.args.parent.0 in
    let es = c.shift_remove.new.self.entries in
    let left : map siblings es ≡ filter (λ (f : Siblings). not (eqb f.parent.0 w)) c.args.self.now =
    ap (map siblings) c.shift_remove.ensures.entries ∙ (remove_listed c.self.inside.lists.entries w c.self.invariant ∙ ap (filter (λ (f : Siblings). not (eqb f.parent.0 w))) c.self.view_is) in
    sym (others_listed es p w (not_found (lookup (nat_eq p) es) (sym c.get_index_of.ensures.found ∙ ap is_some c.in_default.is))) ∙ ap (map (without_child p w)) left
