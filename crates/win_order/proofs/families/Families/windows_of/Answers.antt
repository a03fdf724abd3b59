use Rattle.std.proofs.Common.{◌∙◌, ap, sym}
use Rattle.win_order.specs.Families.{windows_of}
use Rattle.win_order.proofs.ListedLaws.{windows_found, windows_missing}
use Rattle.win_order.proofs.families.Families.windows_of.Goals as goal

pub returns-in-Some : goal.returns-in-Some
returns-in-Some c =
    let p = c.args.parent.0 in
    c.windows.ensures ∙ (sym (windows_found c.self.inside.lists.entries p c.in-Some.family.now (sym c.in-Some.ensures.value)) ∙ ap (λ l. windows_of l p) c.self.view_is)

pub returns-in-None : goal.returns-in-None
returns-in-None c =
    let p = c.args.parent.0 in
    sym (windows_missing c.self.inside.lists.entries p (sym c.in-None.ensures.value)) ∙ ap (λ l. windows_of l p) c.self.view_is
