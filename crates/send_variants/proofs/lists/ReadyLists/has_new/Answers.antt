use Rattle.std.proofs.Common.{◌∙◌, ◌<◌, ◌-◌, ℕ, List, [], length, get_or, sym, ap, subst, arith}
use Rattle.std.specs.List.{list_any}
use Rattle.std.proofs.lemmas.List.{get_or_default}
use Rattle.queue_status.specs.Counts.{is_fresh}
use Rattle.send_variants.specs.Lists.{Entry, IsThread, ReadyView, is_new, list_of, mark_of}
use Rattle.send_variants.specs.Counts.{marks_in, no_mark}
use Rattle.send_variants.specs.declared.mark.Mark.{Mark}
use Rattle.send_variants.proofs.Counts.{mark_within, told_fresh}
use Rattle.send_variants.proofs.lists.ReadyLists.has_new.Goals as goal

within : (c : goal.After-from) → c.from.result - 1 < length c.self.inside.marks.items
within c = mark_within c.self.inside.marks.items c.self.inside.lists c.args.t.0 c.from.result c.self.invariant.0 (subst (λ (v : ReadyView). IsThread v.lists c.args.t.0) (sym c.self.view_is) c.requires) c.from.ensures

pub index-requires : goal.index-requires
index-requires c = omega (arith, within c, c.self.inside.marks.ok)

pub returns : goal.returns
returns c =
    let i : ℕ = c.from.result - 1 in
    let marks : List Mark = c.self.inside.marks.items in
    let lists : List (List Entry) = c.self.inside.lists in
    let here : i < length marks = mark_within marks lists c.args.t.0 c.from.result c.self.invariant.0 (subst (λ (v : ReadyView). IsThread v.lists c.args.t.0) (sym c.self.view_is) c.requires) c.from.ensures in
    c.is_fresh.ensures
    ∙ ap (λ (m : Mark). is_fresh m.count) (c.index.ensures ∙ get_or_default marks i c.index.result.now no_mark here)
    ∙ told_fresh marks lists i c.self.invariant.0
    ∙ ap (λ n. list_any (is_new (get_or (marks_in marks) (n - 1) 0)) (get_or lists (n - 1) [])) c.from.ensures
    ∙ ap (λ (v : ReadyView). list_any (is_new (mark_of v.marks c.args.t.0)) (list_of v.lists c.args.t.0)) c.self.view_is
