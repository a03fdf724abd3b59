use Rattle.std.proofs.Common.{◌≡◌, ◌∙◌, ℕ, List, subst, filter, not, ap, refl, sym}
use Rattle.std.specs.List.{AllByRecursion}
use Rattle.win_num.specs.declared.message.Hwnd.{Hwnd}
use Rattle.win_rows.specs.declared.window.Window.{Window}
use Rattle.win_rows.specs.Windows.{IsOrdered}
use Rattle.win_tree.specs.Kin.{is_kin}
use Rattle.win_rows.specs.Index.{has}
use Rattle.win_tree.specs.Plans.{EachPlan, HasOlderOwner}
use Rattle.win_rows.proofs.Alls.{all_filter}
use Rattle.win_tree.proofs.Ordered.{ordered_filter}
use Rattle.win_tree.proofs.Drops.{kept_numbers, kept_windows, map-filter, some_rise}
use Rattle.win_tree.proofs.Planned.{no_plans}
use Rattle.win_tree.proofs.tree.Tree.drop_each.Goals as goal

pub keep-requires : goal.keep-requires
keep-requires c =
    let ws = c.self.inside.rows in
    let p = λ (v : ℕ). not (is_kin ws c.args.w.0 v) in
    some_rise (λ x. p x.number.0) c.self.inside.last ws c.deref.result.now c.self.invariant.1
    (c.deref.ensures.value ∙ c.take_kin.ensures ∙ ap (filter (λ (v : Hwnd). p v.0)) c.self.invariant.0 ∙ map-filter p ws)

pub invariant_of-self : goal.invariant_of-self
invariant_of-self c =
    let ws = c.self.inside.rows in
    let ks = c.take_kin.new.numbers.items in
    let windows : c.keep.new.self ≡ filter (has ks) ws = c.keep.ensures ∙ ap (λ (vs : List Hwnd). filter (has vs) ws) c.deref.ensures.value in
    let p = λ (v : ℕ). not (is_kin ws c.args.w.0 v) in
    let left = kept_windows p ws c.self.inside.numbers.items ks c.keep.new.self c.self.invariant.0 c.take_kin.ensures windows in (
      kept_numbers p ws c.self.inside.numbers.items ks c.keep.new.self c.self.invariant.0 c.take_kin.ensures windows,
      subst (λ (us : List Window). IsOrdered 15 c.self.inside.last us) (sym left) (ordered_filter (λ x. p x.number.0) 15 c.self.inside.last ws c.self.invariant.1),
      subst (λ ps. EachPlan c.keep.new.self ps) (sym c.clear.ensures.items) (no_plans c.keep.new.self (subst (AllByRecursion HasOlderOwner) (sym left) (all_filter HasOlderOwner (λ x. p x.number.0) ws c.self.invariant.2.owners))),
    )

pub returns : goal.returns
returns c =
    let ws = c.self.inside.rows in
    let ks = c.take_kin.new.numbers.items in
    let windows : c.keep.new.self ≡ filter (has ks) ws = c.keep.ensures ∙ ap (λ (vs : List Hwnd). filter (has vs) ws) c.deref.ensures.value in
    rw (kept_windows (λ v. not (is_kin ws c.args.w.0 v)) ws c.self.inside.numbers.items ks c.keep.new.self c.self.invariant.0 c.take_kin.ensures windows, ← c.self.view_is) refl
