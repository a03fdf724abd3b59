use Rattle.std.proofs.Common.{ap, sym, subst, ◌∙◌}
use Rattle.std.specs.FinMap as map
use Rattle.send_frames.specs.Book.{answered_by, is_open}
use Rattle.send_frames.specs.Items.{Agrees}
use Rattle.send_frames.proofs.Ledger.{agrees-answer, book_of, view-answer, open-shown, sound}
use Rattle.send_frames.proofs.sends.Sends.answer.Goals as goal

pub invariant_of-self : goal.invariant_of-self
invariant_of-self c =
    subst (Agrees c.self.inside.begun c.self.inside.stacks.items) (sym c.answer.ensures.kept)
    (agrees-answer c.self.inside.begun c.self.inside.stacks.items c.self.inside.table c.args.s.0 (c.args.value, c.args.cause) c.self.invariant)

pub returns-clause-told : goal.returns-clause-told
returns-clause-told c = c.answer.ensures.told ∙ open-shown c.self.inside.table c.args.s.0 ∙ ap (λ b. is_open (map.get b.known c.args.s.0)) c.self.view_is

pub returns-clause-kept : goal.returns-clause-kept
returns-clause-kept c =
    ap (book_of c.self.inside.begun c.self.inside.stacks.items) c.answer.ensures.kept
    ∙ view-answer c.self.inside.begun c.self.inside.stacks.items c.self.inside.table c.args.s.0 (c.args.value, c.args.cause) c.self.invariant
    ∙ ap (λ b. answered_by b c.args.s.0 (c.args.value, c.args.cause)) c.self.view_is

pub returns-clause-sound : goal.returns-clause-sound
returns-clause-sound c = sound c.self.inside.begun c.self.inside.stacks.items c.answer.new.self (invariant_of-self c)
