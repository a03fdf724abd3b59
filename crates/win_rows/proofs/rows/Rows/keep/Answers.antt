use Rattle.std.proofs.Common.{filter, is_some, length, List, ◌∙◌, ap, subst, rules, tests}
use Rattle.std.proofs.lemmas.Fn.{filter_same}
use Rattle.win_rows.specs.declared.window.Window.{Window}
use Rattle.win_rows.specs.declared.rows.Place.{Place}
use Rattle.win_rows.specs.Index.{row_at, has, IsFreed}
use Rattle.win_rows.proofs.Indexed.{kept_index, kept_rows}
use Rattle.win_rows.proofs.rows.Rows.keep.Goals as goal

pub invariant_of-self : goal.invariant_of-self
invariant_of-self c =
    let s = c.self.inside.slab in
    let s' = c.free_others.new.slab in
    let ps = c.self.inside.places.items in
    let put = filter_same _ (λ p. is_some (row_at s' p)) _ (λ x b q k. search (rules, tests)) _ _ c.retain.ensures.filtered in
    let freed : IsFreed c.args.numbers.now ps (length ps) s s' = subst (λ (qs : List Place). IsFreed c.args.numbers.now qs (length qs) s s') c.deref.ensures.value c.free_others.ensures in
    kept_index c.args.numbers.now s s' ps c.retain.new.self.items c.self.invariant freed put

pub returns : goal.returns
returns c =
    let s = c.self.inside.slab in
    let s' = c.free_others.new.slab in
    let ps = c.self.inside.places.items in
    let put = filter_same _ (λ p. is_some (row_at s' p)) _ (λ x b q k. search (rules, tests)) _ _ c.retain.ensures.filtered in
    let freed : IsFreed c.args.numbers.now ps (length ps) s s' = subst (λ (qs : List Place). IsFreed c.args.numbers.now qs (length qs) s s') c.deref.ensures.value c.free_others.ensures in
    kept_rows c.args.numbers.now s s' ps c.retain.new.self.items c.self.invariant freed put
    ∙ ap (λ (ws : List Window). filter (has c.args.numbers.now) ws) c.self.view_is
