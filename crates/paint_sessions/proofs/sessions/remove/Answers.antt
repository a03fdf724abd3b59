use Rattle.std.proofs.Common.{List, subst, refl}
use Rattle.paint_sessions.specs.declared.sessions.Session.{Session}
use Rattle.paint_sessions.specs.Places.{IsAt, IsMissingAt}
use Rattle.paint_sessions.proofs.Putting.{none_taken, taken_at}
use Rattle.paint_sessions.proofs.sessions.remove.Goals as goal

pub returns-in-Ok : goal.returns-in-Ok
returns-in-Ok c = taken_at c.args.sessions.now.items _ c.args.w.0 c.in-Ok.i c.remove.result c.remove.ensures.items c.remove.ensures.value c.requires (subst (λ (ss : List Session). IsAt ss c.args.w.0 c.in-Ok.i) c.deref.ensures.value c.in-Ok.ensures.found)

pub returns-in_default : goal.returns-in_default
returns-in_default c = none_taken c.args.sessions.now.items c.args.sessions.now.items c.args.w.0 c.in_default.field-0 refl c.requires (subst (λ (ss : List Session). IsMissingAt ss c.args.w.0 c.in_default.field-0) c.deref.ensures.value c.in_default.ensures.missing)
