use Rattle.std.proofs.Common.{ap, sym, subst, ◌∙◌, nat_lt}
use Rattle.std.specs.Prelude.{find}
use Rattle.std.specs.FinMap as map
use Rattle.send_frames.specs.Book.{IsNextAbove, IsSound}
use Rattle.send_frames.proofs.Above.{next-above}
use Rattle.send_frames.proofs.Ledger.{sound}
use Rattle.send_frames.proofs.Shown.{keys-known_in}
use Rattle.send_frames.proofs.sends.Sends.next_known.Goals as goal

pub returns-clause-next : goal.returns-clause-next
returns-clause-next c =
    let is = c.next.ensures ∙ ap (find (λ n. nat_lt c.args.after.0 n)) (sym (keys-known_in c.self.inside.table)) ∙ ap (λ b. find (λ n. nat_lt c.args.after.0 n) (map.keys b.known)) c.self.view_is in
    subst (IsNextAbove c.args.self.now.known c.args.after.0) (sym is) (next-above c.args.self.now.known c.args.after.0)

pub returns-clause-sound : goal.returns-clause-sound
returns-clause-sound c = subst IsSound c.self.view_is (sound c.self.inside.begun c.self.inside.stacks.items c.self.inside.table c.self.invariant)
