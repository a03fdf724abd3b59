use Rattle.std.proofs.Common.{◌≡◌, ◌∙◌, List, subst, filter, map, not, eqb, ap, refl, sym, rules, tests}
use Rattle.std.proofs.lemmas.Fn.{filter_same}
use Rattle.win_num.specs.declared.message.Hwnd.{Hwnd}
use Rattle.win_rows.specs.declared.window.Window.{Window}
use Rattle.win_rows.specs.Windows.{IsOrdered, number_of}
use Rattle.win_tree.specs.Kin.{is_of_other, without_thread}
use Rattle.win_rows.specs.Index.{has}
use Rattle.win_tree.proofs.Ordered.{ordered_filter}
use Rattle.win_tree.proofs.Drops.{kept_windows, some_rise}
use Rattle.win_tree.proofs.ThreadDrops.{numbers_left, windows_left}
use Rattle.std.specs.List.{AllByRecursion}
use Rattle.win_tree.specs.Plans.{EachPlan, HasOlderOwner}
use Rattle.win_rows.proofs.Alls.{all_filter}
use Rattle.win_tree.proofs.Planned.{no_plans}
use Rattle.win_tree.proofs.tree.Tree.drop_thread.Goals as goal

pub keep-requires : goal.keep-requires
keep-requires c =
    let ws = c.self.inside.rows in
    let t = c.args.thread.0 in
    let numbers = filter_same _ (λ v. is_of_other ws t v.0) _ (λ x b q k. search (rules, tests)) _ _ c.retain.ensures.filtered in
    some_rise (λ x. not (eqb x.row.thread.0 t)) c.self.inside.last ws c.deref.result.now c.self.invariant.1
    (c.deref.ensures.value ∙ numbers ∙ ap (filter (λ (v : Hwnd). is_of_other ws t v.0)) c.self.invariant.0 ∙ numbers_left c.self.inside.last t ws c.self.invariant.1)

pub invariant_of-self : goal.invariant_of-self
invariant_of-self c =
    let ws = c.self.inside.rows in
    let t = c.args.thread.0 in
    let ks = c.retain.new.self.items in
    let numbers = filter_same _ (λ v. is_of_other ws t v.0) _ (λ x b q k. search (rules, tests)) _ _ c.retain.ensures.filtered in
    let windows : c.keep.new.self ≡ filter (has ks) ws = c.keep.ensures ∙ ap (λ (vs : List Hwnd). filter (has vs) ws) c.deref.ensures.value in
    let left : c.keep.new.self ≡ without_thread ws t = kept_windows (is_of_other ws t) ws c.self.inside.numbers.items ks c.keep.new.self c.self.invariant.0 numbers windows ∙ windows_left c.self.inside.last t ws c.self.invariant.1 in (
      numbers ∙ (ap (λ (vs : List Hwnd). filter (λ v. is_of_other ws t v.0) vs) c.self.invariant.0 ∙ (numbers_left c.self.inside.last t ws c.self.invariant.1 ∙ ap (map number_of) (sym left))),
      subst (λ (us : List Window). IsOrdered 15 c.self.inside.last us) (sym left) (ordered_filter (λ x. not (eqb x.row.thread.0 t)) 15 c.self.inside.last ws c.self.invariant.1),
      subst (λ ps. EachPlan c.keep.new.self ps) (sym c.clear.ensures.items) (no_plans c.keep.new.self (subst (AllByRecursion HasOlderOwner) (sym left) (all_filter HasOlderOwner (λ x. not (eqb x.row.thread.0 t)) ws c.self.invariant.2.owners))),
    )

pub returns : goal.returns
returns c =
    let ws = c.self.inside.rows in
    let t = c.args.thread.0 in
    let ks = c.retain.new.self.items in
    let numbers = filter_same _ (λ v. is_of_other ws t v.0) _ (λ x b q k. search (rules, tests)) _ _ c.retain.ensures.filtered in
    let windows : c.keep.new.self ≡ filter (has ks) ws = c.keep.ensures ∙ ap (λ (vs : List Hwnd). filter (has vs) ws) c.deref.ensures.value in
    let left : c.keep.new.self ≡ without_thread ws t = kept_windows (is_of_other ws t) ws c.self.inside.numbers.items ks c.keep.new.self c.self.invariant.0 numbers windows ∙ windows_left c.self.inside.last t ws c.self.invariant.1 in
    rw (left, ← c.self.view_is) refl
