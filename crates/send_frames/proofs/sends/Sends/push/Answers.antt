use Rattle.std.proofs.Common.{◌≡◌, ℕ, ◌-◌, ◌<◌, ◌≤◌, true, [], get_or, ap, sym, subst, ◌∙◌, length, arith}
use Rattle.std.specs.Prelude.{IfSome, IsSome, nat_lt}
use Rattle.std.proofs.lemmas.Bool.Decides.{nat_tests}
use Rattle.std.specs.FinMap as map
use Rattle.send_frames.specs.Book.{AreNamedOnce, Book, IsNewFrame, named_by, pushed, stack_of}
use Rattle.send_frames.specs.Items.{Agrees, counted_up}
use Rattle.send_frames.proofs.Ledger.{after-push, book_of, named-known, room-up, sound}
use Rattle.send_frames.proofs.Once.{once-push}
use Rattle.send_frames.proofs.sends.Sends.push.Goals as goal

pub count_up-requires : goal.count_up-requires
count_up-requires c = room-up c.self.inside.begun c.self.inside.stacks.items c.self.inside.table c.self.invariant c.named.result

below : (n : ℕ) → nat_lt n 64 ≡ true → n < 64
below n e = grind (arith, nat_tests)

after : (c : goal.After-count_up) → Agrees c.self.inside.begun c.put_on_top.new.stacks.items c.count_up.new.self
    × (book_of c.self.inside.begun c.put_on_top.new.stacks.items c.count_up.new.self ≡ pushed (book_of c.self.inside.begun c.self.inside.stacks.items c.self.inside.table) c.args.t.0 c.args.f)
after c =
    let high : c.args.t.0 ≤ length c.self.inside.stacks.items = subst (λ (b : Book). c.args.t.0 ≤ length b.stacks) (sym c.self.view_is) c.requires.thread.1 in
    let tested : c.has_room.result ≡ nat_lt (length (get_or c.self.inside.stacks.items (c.args.t.0 - 1) [])) 64 = c.has_room.ensures.room ∙ ap (λ (b : Book). nat_lt (length (stack_of b c.args.t.0)) 64) (sym c.self.view_is) in
    let room : length (get_or c.self.inside.stacks.items (c.args.t.0 - 1) []) < 64 = below _ (sym tested ∙ c.if-not-has_room.false) in
    let known = named-known c.self.inside.table c.args.f (subst (λ (b : Book). IfSome (named_by c.args.f) (λ s. IsSome (map.get b.known s))) (sym c.self.view_is) c.requires.named) in
    after-push c.self.inside.begun c.self.inside.stacks.items c.self.inside.table (c.args.t.0 - 1) c.args.f c.self.invariant (omega (arith, high, c.requires.thread.0)) room known
    c.put_on_top.new.stacks.items c.count_up.new.self c.put_on_top.ensures (c.count_up.ensures ∙ ap (counted_up c.self.inside.table) c.named.ensures)

pub invariant_of-self : goal.invariant_of-self
invariant_of-self c = (after c).0

pub returns-clause-pushed : goal.returns-clause-pushed
returns-clause-pushed c = (after c).1 ∙ ap (λ b. pushed b c.args.t.0 c.args.f) c.self.view_is

pub returns-clause-sound : goal.returns-clause-sound
returns-clause-sound c = sound c.self.inside.begun c.put_on_top.new.stacks.items c.count_up.new.self (after c).0

pub returns-clause-once : goal.returns-clause-once
returns-clause-once c new once =
    let high : c.args.t.0 ≤ length c.self.inside.stacks.items = subst (λ (b : Book). c.args.t.0 ≤ length b.stacks) (sym c.self.view_is) c.requires.thread.1 in
    subst AreNamedOnce (sym c.put_on_top.ensures) (once-push c.self.inside.stacks.items (c.args.t.0 - 1) c.args.f (omega (arith, high, c.requires.thread.0))
    (subst (λ (b : Book). IsNewFrame b.stacks c.args.f) (sym c.self.view_is) new) (subst (λ (b : Book). AreNamedOnce b.stacks) (sym c.self.view_is) once))
