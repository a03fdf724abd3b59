use Rattle.std.proofs.Common.{◌≡◌, ◌∙◌, ◌<◌, ◌-◌, ◌∷◌, [], ℕ, List, Some, drop, length, get_or, set, slice_get, sym, ap, subst, arith}
use Rattle.std.specs.Prelude.{nat_le}
use Rattle.queue_status.specs.Counts.{one_less}
use Rattle.send_variants.specs.Lists.{Entry, IsThread, ReadyView, list_of, with_list}
use Rattle.send_variants.specs.Counts.{AreCounted, marks_in, no_mark}
use Rattle.send_variants.specs.declared.mark.Mark.{Mark}
use Rattle.send_variants.proofs.Counts.{count_less, first_of, fresh_there, mark_within, marks_kept, may_leave}
use Rattle.send_variants.proofs.lists.ReadyLists.take.Goals as goal

pub count_out-requires-clause-at : goal.count_out-requires-clause-at
count_out-requires-clause-at c =
    let here : c.from.result - 1 < length c.self.inside.marks.items = mark_within c.self.inside.marks.items c.self.inside.lists c.args.t.0 c.from.result c.self.invariant.0 (subst (λ (v : ReadyView). IsThread v.lists c.args.t.0) (sym c.self.view_is) c.requires) c.from.ensures in
    omega (arith, here, c.self.inside.marks.ok)

pub count_out-requires-clause-sound : goal.count_out-requires-clause-sound
count_out-requires-clause-sound c = fresh_there c.self.inside.marks.items c.self.inside.lists (c.from.result - 1) c.self.invariant.0

-- what was taken was the first of its list
taken : (lists : List (List Entry)) (t n : ℕ) (e : Entry) → n ≡ t → Some e ≡ slice_get (list_of lists t) 0 → get_or lists (n - 1) [] ≡ e ∷ drop 1 (get_or lists (n - 1) [])
taken lists t n e same is = first_of (get_or lists (n - 1) []) e (ap (λ m. slice_get (get_or lists (m - 1) []) 0) same ∙ sym is)

pub count_out-requires-clause-some : goal.count_out-requires-clause-some
count_out-requires-clause-some c =
    let lists : List (List Entry) = c.self.inside.lists in
    let i : ℕ = c.from.result - 1 in
    may_leave c.self.inside.marks.items lists i [] (drop 1 (get_or lists i [])) (c.in_ok-place.place, c.in_ok-place.ready) c.self.invariant.0 (taken lists c.args.t.0 c.from.result (c.in_ok-place.place, c.in_ok-place.ready) c.from.ensures c.in_ok-place.ensures.taken)

pub invariant_of-self-2 : goal.invariant_of-self-2
invariant_of-self-2 c =
    let lists : List (List Entry) = c.self.inside.lists in
    let marks : List Mark = c.self.inside.marks.items in
    let i : ℕ = c.from.result - 1 in
    let same : set lists i (drop 1 (get_or lists i [])) ≡ c.take.new.self = ap (λ n. set lists (n - 1) (drop 1 (get_or lists (n - 1) []))) c.from.ensures ∙ sym c.in_ok-place.ensures.rest in
    let left : AreCounted (set marks i (let was : Mark = get_or marks i no_mark in record was { count = one_less (nat_le was.from c.in_ok-place.place) was.count })) (set lists i (drop 1 (get_or lists i []))) =
    count_less marks lists i [] (drop 1 (get_or lists i [])) (c.in_ok-place.place, c.in_ok-place.ready) c.self.invariant.0 (taken lists c.args.t.0 c.from.result (c.in_ok-place.place, c.in_ok-place.ready) c.from.ensures c.in_ok-place.ensures.taken) in
    (subst (λ (ms : List Mark). AreCounted ms c.take.new.self) (sym c.count_out.ensures) (subst (AreCounted (set marks i (let was : Mark = get_or marks i no_mark in record was { count = one_less (nat_le was.from c.in_ok-place.place) was.count }))) same left), c.in_ok-place.ensures.sound)

pub returns-clause-rest : goal.returns-clause-rest
returns-clause-rest c =
    let i : ℕ = c.from.result - 1 in
    let marks : List Mark = c.self.inside.marks.items in
    let was : Mark = get_or marks i no_mark in
    ap (λ (l : List (List Entry)). let v : ReadyView = record { lists = l; marks = marks_in c.count_out.new.marks.items } in v) c.in_ok-place.ensures.rest
    ∙ ap (λ (l : List ℕ). let v : ReadyView = record { lists = with_list c.self.inside.lists c.args.t.0 (drop 1 (list_of c.self.inside.lists c.args.t.0)); marks = l } in v) (ap marks_in c.count_out.ensures ∙ marks_kept marks i (one_less (nat_le was.from c.in_ok-place.place) was.count))
    ∙ ap (λ (v : ReadyView). let w : ReadyView = record v { lists = with_list v.lists c.args.t.0 (drop 1 (list_of v.lists c.args.t.0)) } in w) c.self.view_is
