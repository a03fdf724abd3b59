use Rattle.std.proofs.Common.{List, None, subst}
use Rattle.paint_sessions.specs.declared.sessions.Session.{Session}
use Rattle.paint_sessions.specs.Places.{IsPut}
use Rattle.paint_sessions.proofs.Begun.{begun_taken}
use Rattle.paint_sessions.proofs.painting.PaintSessions.end.Goals as goal

pub returns-clause-begun : goal.returns-clause-begun
returns-clause-begun c = begun_taken c.args.w.0 c.args.self.now _ (subst (λ (ss : List Session). IsPut c.args.w.0 None ss c.remove.new.sessions.items) c.self.view_is c.remove.ensures)
