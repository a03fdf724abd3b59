use Rattle.std.proofs.Common.{◌≡◌, ◌≤◌, ap, sym, subst, ◌∙◌, length}
use Rattle.std.specs.FinMap as map
use Rattle.send_frames.specs.Book.{AreNamedOnce, Book, begun_by, refusal_at_begin, with_top}
use Rattle.send_frames.specs.Items.{Agrees}
use Rattle.send_frames.proofs.Ledger.{after-begin, book_of, sound, unrefused-parts}
use Rattle.send_frames.proofs.Once.{once-begin}
use Rattle.send_frames.proofs.sends.Sends.begin.Goals as goal

after : (c : goal.After-put_on_top) → Agrees c.in-Some-checked_add.number c.put_on_top.new.stacks.items c.add.new.self
    × (book_of c.in-Some-checked_add.number c.put_on_top.new.stacks.items c.add.new.self ≡ begun_by (book_of c.self.inside.begun c.self.inside.stacks.items c.self.inside.table) c.args.row)
after c =
    let high : c.args.row.from.0 ≤ length c.self.inside.stacks.items = subst (λ (b : Book). c.args.row.from.0 ≤ length b.stacks) (sym c.self.view_is) c.requires.from.1 in
    let free = unrefused-parts c.self.inside.begun c.self.inside.stacks.items c.self.inside.table c.args.row
    (ap (λ b. refusal_at_begin b c.args.row) c.self.view_is ∙ sym c.refusal.ensures.cause ∙ c.in_default.is) in
    after-begin c.self.inside.begun c.self.inside.stacks.items c.self.inside.table c.args.row c.self.invariant c.requires.from.0 high free
    c.in-Some-checked_add.number c.in-Some-checked_add.ensures.1
    c.put_on_top.new.stacks.items (c.put_on_top.ensures ∙ ap (with_top c.self.inside.stacks.items c.args.row.from.0) c.frame.ensures)
    c.add.new.self (c.in_ok-add.ensures.ok ∙ ap (map.insert c.self.inside.table c.in-Some-checked_add.number) c.new.ensures)

pub invariant_of-self-2 : goal.invariant_of-self-2
invariant_of-self-2 c = (after c).0

pub returns-clause-begun : goal.returns-clause-begun
returns-clause-begun c = (after c).1 ∙ ap (λ b. begun_by b c.args.row) c.self.view_is

pub returns-clause-sound : goal.returns-clause-sound
returns-clause-sound c = sound c.in-Some-checked_add.number c.put_on_top.new.stacks.items c.add.new.self (after c).0

pub returns-clause-once : goal.returns-clause-once
returns-clause-once c once =
    let high : c.args.row.from.0 ≤ length c.self.inside.stacks.items = subst (λ (b : Book). c.args.row.from.0 ≤ length b.stacks) (sym c.self.view_is) c.requires.from.1 in
    subst AreNamedOnce (sym (ap (λ (b : Book). b.stacks) (after c).1)) (once-begin c.self.inside.begun c.self.inside.stacks.items c.self.inside.table c.args.row c.self.invariant c.requires.from.0 high
    (subst (λ (b : Book). AreNamedOnce b.stacks) (sym c.self.view_is) once))
