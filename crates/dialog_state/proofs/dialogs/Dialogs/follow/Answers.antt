use Rattle.std.proofs.Common.{sym, subst}
use Rattle.std.specs.Prelude.{OnOk}
use Rattle.dialog_state.specs.Dialogs.{Follows}
use Rattle.dialog_state.proofs.dialogs.Dialogs.follow.Goals as goal

pub returns-in-Window-clause-ok : goal.returns-in-Window-clause-ok
returns-in-Window-clause-ok c = subst (λ a. OnOk c.begin.result (Follows a c.args.entry.call c.args.self.now c.begin.new.self)) (sym c.in-Window.is) (c.begin.ensures.ok c.in-Window.field-0)

pub returns-in-Finished-clause-ok : goal.returns-in-Finished-clause-ok
returns-in-Finished-clause-ok c = subst (λ a. Follows a c.args.entry.call c.args.self.now c.close.new.self) (sym c.in-Finished.is) (c.close.ensures c.in-Finished.field-0)
