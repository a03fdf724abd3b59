use Rattle.std.proofs.Common.{◌∙◌, ◌<◌, ◌-◌, ℕ, List, [], length, get_or, set, sym, ap, subst, arith}
use Rattle.queue_status.specs.Counts.{none_fresh}
use Rattle.send_variants.specs.Lists.{AreBelow, Entry, IsThread, ReadyView, list_of}
use Rattle.send_variants.specs.Counts.{AreCounted, marks_in, no_mark}
use Rattle.send_variants.specs.declared.mark.Mark.{Mark}
use Rattle.send_variants.proofs.Counts.{count_look, mark_within, marks_set}
use Rattle.send_variants.proofs.lists.ReadyLists.look.Goals as goal

pub look_from-requires : goal.look_from-requires
look_from-requires c =
    let here : c.from.result - 1 < length c.self.inside.marks.items = mark_within c.self.inside.marks.items c.self.inside.lists c.args.t.0 c.from.result c.self.invariant.0 (subst (λ (v : ReadyView). IsThread v.lists c.args.t.0) (sym c.self.view_is) c.requires.thread) c.from.ensures in
    omega (arith, here, c.self.inside.marks.ok)

pub invariant_of-self : goal.invariant_of-self
invariant_of-self c =
    let i : ℕ = c.from.result - 1 in
    let marks : List Mark = c.self.inside.marks.items in
    let lists : List (List Entry) = c.self.inside.lists in
    let below : AreBelow c.args.place (get_or lists i []) = subst (λ n. AreBelow c.args.place (get_or lists (n - 1) [])) (sym c.from.ensures) (subst (λ (v : ReadyView). AreBelow c.args.place (list_of v.lists c.args.t.0)) (sym c.self.view_is) c.requires.above) in
    (subst (λ (ms : List Mark). AreCounted ms lists) (sym c.look_from.ensures) (count_look marks lists i c.args.place c.self.invariant.0 below), c.self.invariant.1)

pub returns : goal.returns
returns c =
    let i : ℕ = c.from.result - 1 in
    let marks : List Mark = c.self.inside.marks.items in
    let lists : List (List Entry) = c.self.inside.lists in
    ap (λ (l : List ℕ). let v : ReadyView = record { lists = lists; marks = l } in v) (ap marks_in c.look_from.ensures ∙ marks_set marks i c.args.place (none_fresh (get_or marks i no_mark).count) ∙ ap (λ n. set (marks_in marks) (n - 1) c.args.place) c.from.ensures)
    ∙ ap (λ (v : ReadyView). let w : ReadyView = record v { marks = set v.marks (c.args.t.0 - 1) c.args.place } in w) c.self.view_is
