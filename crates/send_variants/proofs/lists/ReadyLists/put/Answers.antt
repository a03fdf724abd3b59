use Rattle.std.proofs.Common.{◌≡◌, ◌∙◌, ◌<◌, ◌-◌, ◌++◌, ◌∷◌, [], ℕ, List, length, get_or, set, sym, ap, subst, arith}
use Rattle.std.specs.Prelude.{nat_le}
use Rattle.queue_status.specs.Counts.{one_more}
use Rattle.send_variants.specs.Lists.{Entry, IsThread, ReadyView, list_of, with_list}
use Rattle.send_variants.specs.Counts.{AreCounted, marks_in, no_mark}
use Rattle.send_variants.specs.declared.mark.Mark.{Mark}
use Rattle.send_variants.proofs.Counts.{count_put, few_there, fresh_there, mark_within, marks_kept}
use Rattle.send_variants.proofs.lists.ReadyLists.put.Goals as goal

pub count_in-requires-clause-at : goal.count_in-requires-clause-at
count_in-requires-clause-at c =
    let here : c.from.result - 1 < length c.self.inside.marks.items = mark_within c.self.inside.marks.items c.self.inside.lists c.args.t.0 c.from.result c.self.invariant.0 (subst (λ (v : ReadyView). IsThread v.lists c.args.t.0) (sym c.self.view_is) c.requires.thread) c.from.ensures in
    omega (arith, here, c.self.inside.marks.ok)

pub count_in-requires-clause-sound : goal.count_in-requires-clause-sound
count_in-requires-clause-sound c = fresh_there c.self.inside.marks.items c.self.inside.lists (c.from.result - 1) c.self.invariant.0

pub count_in-requires-clause-few : goal.count_in-requires-clause-few
count_in-requires-clause-few c = few_there c.self.inside.marks.items c.self.inside.lists (c.from.result - 1) c.self.invariant.0 c.self.invariant.1

pub invariant_of-self : goal.invariant_of-self
invariant_of-self c =
    let i : ℕ = c.from.result - 1 in
    let marks : List Mark = c.self.inside.marks.items in
    let lists : List (List Entry) = c.self.inside.lists in
    let same : set lists i (get_or lists i [] ++ (c.args.place, c.args.r) ∷ []) ≡ c.put.new.self = ap (λ n. set lists (n - 1) (get_or lists (n - 1) [] ++ (c.args.place, c.args.r) ∷ [])) c.from.ensures ∙ sym c.put.ensures.put in
    (subst (λ (ms : List Mark). AreCounted ms c.put.new.self) (sym c.count_in.ensures) (subst (AreCounted (set marks i (let was : Mark = get_or marks i no_mark in record was { count = one_more (nat_le was.from c.args.place) was.count }))) same (count_put marks lists i c.args.place c.args.r c.self.invariant.0)), c.put.ensures.sound)

pub returns-clause-put : goal.returns-clause-put
returns-clause-put c =
    let i : ℕ = c.from.result - 1 in
    let marks : List Mark = c.self.inside.marks.items in
    let was : Mark = get_or marks i no_mark in
    ap (λ (l : List (List Entry)). let v : ReadyView = record { lists = l; marks = marks_in c.count_in.new.marks.items } in v) c.put.ensures.put
    ∙ ap (λ (l : List ℕ). let v : ReadyView = record { lists = with_list c.self.inside.lists c.args.t.0 (list_of c.self.inside.lists c.args.t.0 ++ (c.args.place, c.args.r) ∷ []); marks = l } in v) (ap marks_in c.count_in.ensures ∙ marks_kept marks i (one_more (nat_le was.from c.args.place) was.count))
    ∙ ap (λ (v : ReadyView). let w : ReadyView = record v { lists = with_list v.lists c.args.t.0 (list_of v.lists c.args.t.0 ++ (c.args.place, c.args.r) ∷ []) } in w) c.self.view_is
