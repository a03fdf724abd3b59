use Rattle.std.proofs.Common.{◌∙◌, sym}
use Rattle.screen_owners.proofs.Alike.{windows_alike}
use Rattle.screen_owners.proofs.changes.list_same.Goals as goal

pub returns : goal.returns
returns c h = windows_alike c.args.a.now c.args.b.now (sym c.eq.ensures ∙ h)
