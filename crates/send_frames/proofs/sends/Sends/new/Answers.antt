use Rattle.std.proofs.Common.{sym, subst}
use Rattle.send_frames.specs.Book.{AreNamedOnce}
use Rattle.send_frames.proofs.Ledger.{after-new}
use Rattle.send_frames.proofs.Once.{once-empty}
use Rattle.send_frames.proofs.sends.Sends.new.Goals as goal

pub invariant_of-result : goal.invariant_of-result
invariant_of-result c = (after-new c.args.threads c.requires.0 c.requires.1 c.in_ok-stacks.stacks.items c.in_ok-stacks.ensures c.new-table.result c.new-table.ensures).0

pub returns-clause-empty : goal.returns-clause-empty
returns-clause-empty c = (after-new c.args.threads c.requires.0 c.requires.1 c.in_ok-stacks.stacks.items c.in_ok-stacks.ensures c.new-table.result c.new-table.ensures).1

pub returns-clause-once : goal.returns-clause-once
returns-clause-once c = subst AreNamedOnce (sym c.in_ok-stacks.ensures) (once-empty c.args.threads)
