use Rattle.std.proofs.Common.{◌∙◌, ℕ, List, length, get_or, set, sym, ap, subst, arith}
use Rattle.std.specs.Prelude.{nat_le}
use Rattle.queue_status.specs.Counts.{one_less}
use Rattle.send_variants.specs.Lists.{Entry, ReadyView, all_without}
use Rattle.send_variants.specs.Counts.{AreCounted, marks_in, no_mark}
use Rattle.send_variants.specs.declared.mark.Mark.{Mark}
use Rattle.send_variants.proofs.Counts.{count_less, fresh_there, marks_kept, may_leave, same_length}
use Rattle.send_variants.proofs.Entries.{length-all}
use Rattle.send_variants.proofs.lists.ReadyLists.withdraw.Goals as goal

pub count_out-requires-clause-at : goal.count_out-requires-clause-at
count_out-requires-clause-at c = omega (arith, c.in_ok-at.ensures.from.within, same_length c.self.inside.marks.items c.self.inside.lists c.self.invariant.0, c.self.inside.marks.ok)

pub count_out-requires-clause-sound : goal.count_out-requires-clause-sound
count_out-requires-clause-sound c = fresh_there c.self.inside.marks.items c.self.inside.lists c.in_ok-at.at c.self.invariant.0

pub count_out-requires-clause-some : goal.count_out-requires-clause-some
count_out-requires-clause-some c =
    let w = c.in_ok-at.ensures.from in
    may_leave c.self.inside.marks.items c.self.inside.lists c.in_ok-at.at w.before w.after (c.in_ok-at.place, w.ready) c.self.invariant.0 w.was

pub invariant_of-self : goal.invariant_of-self
invariant_of-self c = (subst (AreCounted c.self.inside.marks.items) (sym c.in_err-at.ensures.same) c.self.invariant.0, c.in_err-at.ensures.sound)

pub returns-in_err-at-clause-threads : goal.returns-in_err-at-clause-threads
returns-in_err-at-clause-threads c = ap length c.in_err-at.ensures.same ∙ ap (λ (v : ReadyView). length v.lists) c.self.view_is

pub invariant_of-self-2 : goal.invariant_of-self-2
invariant_of-self-2 c =
    let w = c.in_ok-at.ensures.from in
    let marks : List Mark = c.self.inside.marks.items in
    let i : ℕ = c.in_ok-at.at in
    (subst (λ (ms : List Mark). AreCounted ms c.withdraw.new.self) (sym c.count_out.ensures) (subst (AreCounted (set marks i (let was : Mark = get_or marks i no_mark in record was { count = one_less (nat_le was.from c.in_ok-at.place) was.count }))) (sym w.is) (count_less marks c.self.inside.lists i w.before w.after (c.in_ok-at.place, w.ready) c.self.invariant.0 w.was)), c.in_ok-at.ensures.sound)

pub returns-clause-threads : goal.returns-clause-threads
returns-clause-threads c = ap length c.in_ok-at.ensures.rest ∙ length-all c.args.s.0 c.self.inside.lists ∙ ap (λ (v : ReadyView). length v.lists) c.self.view_is

pub returns-clause-rest : goal.returns-clause-rest
returns-clause-rest c =
    let i : ℕ = c.in_ok-at.at in
    let marks : List Mark = c.self.inside.marks.items in
    let was : Mark = get_or marks i no_mark in
    ap (λ (l : List (List Entry)). let v : ReadyView = record { lists = l; marks = marks_in c.count_out.new.marks.items } in v) c.in_ok-at.ensures.rest
    ∙ ap (λ (l : List ℕ). let v : ReadyView = record { lists = all_without c.args.s.0 c.self.inside.lists; marks = l } in v) (ap marks_in c.count_out.ensures ∙ marks_kept marks i (one_less (nat_le was.from c.in_ok-at.place) was.count))
    ∙ ap (λ (v : ReadyView). let w : ReadyView = record v { lists = all_without c.args.s.0 v.lists } in w) c.self.view_is
