use Rattle.std.proofs.Common.{◌≡◌, ◌-◌, ◌≤◌, ap, sym, subst, ◌∙◌, length, arith}
use Rattle.std.specs.Option.{option_and_then}
use Rattle.send_frames.specs.Book.{AreNamedOnce, Book, named_by, popped}
use Rattle.send_frames.specs.Items.{Agrees, counted_down}
use Rattle.send_frames.proofs.Ledger.{after-pop, book_of, room-pop, sound}
use Rattle.send_frames.proofs.Once.{once-pop}
use Rattle.send_frames.proofs.sends.Sends.pop.Goals as goal

pub count_down-requires : goal.count_down-requires
count_down-requires c =
    let high : c.args.t.0 ≤ length c.self.inside.stacks.items = subst (λ (b : Book). c.args.t.0 ≤ length b.stacks) (sym c.self.view_is) c.requires.1 in
    room-pop c.self.inside.begun c.self.inside.stacks.items c.self.inside.table c.args.t.0 c.self.invariant c.requires.0 high c.named.result (c.named.ensures ∙ ap (option_and_then named_by) c.take_top-frame.ensures.frame)

after : (c : goal.After-count_down) → Agrees c.self.inside.begun c.take_top-frame.new.stacks.items c.count_down.new.self
    × (book_of c.self.inside.begun c.take_top-frame.new.stacks.items c.count_down.new.self ≡ popped (book_of c.self.inside.begun c.self.inside.stacks.items c.self.inside.table) c.args.t.0)
after c =
    let high : c.args.t.0 ≤ length c.self.inside.stacks.items = subst (λ (b : Book). c.args.t.0 ≤ length b.stacks) (sym c.self.view_is) c.requires.1 in
    after-pop c.self.inside.begun c.self.inside.stacks.items c.self.inside.table c.args.t.0 c.self.invariant c.requires.0 high c.take_top-frame.new.stacks.items c.count_down.new.self
    c.take_top-frame.ensures.rest (c.count_down.ensures ∙ ap (counted_down c.self.inside.table) (c.named.ensures ∙ ap (option_and_then named_by) c.take_top-frame.ensures.frame))

pub invariant_of-self : goal.invariant_of-self
invariant_of-self c = (after c).0

pub returns-clause-rest : goal.returns-clause-rest
returns-clause-rest c = (after c).1 ∙ ap (λ b. popped b c.args.t.0) c.self.view_is

pub returns-clause-sound : goal.returns-clause-sound
returns-clause-sound c = sound c.self.inside.begun c.take_top-frame.new.stacks.items c.count_down.new.self (after c).0

pub returns-clause-once : goal.returns-clause-once
returns-clause-once c once =
    let high : c.args.t.0 ≤ length c.self.inside.stacks.items = subst (λ (b : Book). c.args.t.0 ≤ length b.stacks) (sym c.self.view_is) c.requires.1 in
    subst AreNamedOnce (sym c.take_top-frame.ensures.rest) (once-pop c.self.inside.stacks.items (c.args.t.0 - 1) (omega (arith, high, c.requires.0))
    (subst (λ (b : Book). AreNamedOnce b.stacks) (sym c.self.view_is) once))
