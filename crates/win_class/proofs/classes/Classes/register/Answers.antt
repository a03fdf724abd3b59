use Rattle.std.proofs.Common.{ℕ, ◌+◌, List, ap, sym, ◌∙◌}
use Rattle.win_class.specs.declared.classes.Class.{Class}
use Rattle.win_class.specs.ClassTable.{ClassTable, with_class}
use Rattle.win_class.proofs.TableLemmas.{with_class-new}
use Rattle.win_class.proofs.classes.Classes.register.Goals as goal

pub returns-in-Ok-clause-ok : goal.returns-in-Ok-clause-ok
returns-in-Ok-clause-ok c =
    ap (λ (es : List (ℕ × Class)). let t : ClassTable = record { classes = es; registered = c.self.inside.registered + 1; messages = c.self.inside.messages.keys } in t) c.in-Ok.ensures.entries
    ∙ with_class-new c.self.inside.classes.entries c.self.inside.registered c.self.inside.messages.keys c.args.name c.args.proc_no c.args.colour (sym c.contains_key.ensures ∙ c.if-contains_key.false)
    ∙ ap (λ (t : ClassTable). with_class t c.args.name c.args.proc_no c.args.colour) c.self.view_is
