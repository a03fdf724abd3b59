use Rattle.std.proofs.Common.{ap, sym, subst, ◌∙◌}
use Rattle.std.specs.Prelude.{nat_le}
use Rattle.std.specs.FinMap as map
use Rattle.send_frames.specs.Book.{IsSound}
use Rattle.send_frames.proofs.Shown.{len-known_in}
use Rattle.send_frames.proofs.Ledger.{sound}
use Rattle.send_frames.proofs.sends.Sends.is_full.Goals as goal

pub returns-clause-full : goal.returns-clause-full
returns-clause-full c = ap (nat_le 1024) (c.len.ensures ∙ sym (len-known_in c.self.inside.table) ∙ ap (λ b. map.len b.known) c.self.view_is)

pub returns-clause-sound : goal.returns-clause-sound
returns-clause-sound c = subst IsSound c.self.view_is (sound c.self.inside.begun c.self.inside.stacks.items c.self.inside.table c.self.invariant)
