use Rattle.std.proofs.Common.{subst}
use Rattle.send_frames.specs.Book.{IsSound}
use Rattle.send_frames.proofs.Ledger.{sound}
use Rattle.send_frames.proofs.sends.Sends.has_room.Goals as goal

pub returns-clause-sound : goal.returns-clause-sound
returns-clause-sound c = subst IsSound c.self.view_is (sound c.self.inside.begun c.self.inside.stacks.items c.self.inside.table c.self.invariant)
