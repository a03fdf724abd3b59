use Rattle.std.proofs.Common.{ℕ, List, ap, ◌∙◌}
use Rattle.win_class.specs.declared.classes.Class.{Class}
use Rattle.win_class.specs.ClassTable.{ClassTable, without_class}
use Rattle.win_class.proofs.TableLemmas.{without_class-gone}
use Rattle.win_class.proofs.classes.Classes.unregister.Goals as goal

pub returns-clause-ok : goal.returns-clause-ok
returns-clause-ok c =
    ap (λ (es : List (ℕ × Class)). let t : ClassTable = record { classes = es; registered = c.self.inside.registered; messages = c.self.inside.messages.keys } in t) c.shift_remove.ensures.entries
    ∙ without_class-gone c.self.inside.classes.entries c.self.inside.registered c.self.inside.messages.keys c.args.name c.self.invariant.2
    ∙ ap (λ (t : ClassTable). without_class t c.args.name) c.self.view_is
