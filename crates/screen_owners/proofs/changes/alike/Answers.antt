use Rattle.std.proofs.Common.{◌∙◌, Some, ap, sym}
use Rattle.screen_owners.proofs.Alike.{rect_alike}
use Rattle.screen_owners.proofs.changes.alike.Goals as goal

pub returns-in-Some-Some : goal.returns-in-Some-Some
returns-in-Some-Some c h = let x = c.in-Some-Some in x.is-0 ∙ (ap Some (rect_alike x.one x.other (sym c.eq.ensures ∙ h)) ∙ sym x.is-1)

pub returns-in-None-None : goal.returns-in-None-None
returns-in-None-None c h = c.in-None-None.is-0 ∙ sym c.in-None-None.is-1
