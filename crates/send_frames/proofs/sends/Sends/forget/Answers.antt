use Rattle.std.proofs.Common.{ap, sym, subst, ◌∙◌}
use Rattle.send_frames.specs.Book.{forgotten}
use Rattle.send_frames.specs.Items.{Agrees}
use Rattle.send_frames.proofs.Ledger.{agrees-debt, book_of, view-debt, sound}
use Rattle.send_frames.proofs.sends.Sends.forget.Goals as goal

pub invariant_of-self : goal.invariant_of-self
invariant_of-self c =
    subst (Agrees c.self.inside.begun c.self.inside.stacks.items) (sym c.forget.ensures)
    (agrees-debt c.self.inside.begun c.self.inside.stacks.items c.self.inside.table c.args.s.0 c.self.invariant)

pub returns-clause-forgotten : goal.returns-clause-forgotten
returns-clause-forgotten c =
    ap (book_of c.self.inside.begun c.self.inside.stacks.items) c.forget.ensures
    ∙ view-debt c.self.inside.begun c.self.inside.stacks.items c.self.inside.table c.args.s.0 c.self.invariant
    ∙ ap (λ b. forgotten b c.args.s.0) c.self.view_is

pub returns-clause-sound : goal.returns-clause-sound
returns-clause-sound c = sound c.self.inside.begun c.self.inside.stacks.items c.forget.new.self (invariant_of-self c)
