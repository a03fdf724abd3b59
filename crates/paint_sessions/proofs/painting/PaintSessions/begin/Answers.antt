use Rattle.std.proofs.Common.{List, subst}
use Rattle.std.proofs.lemmas.Result.{on_ok_weaker}
use Rattle.paint_sessions.specs.declared.sessions.Session.{Session}
use Rattle.paint_sessions.specs.Places.{IsPut}
use Rattle.std.specs.Prelude.{OnOk, Some}
use Rattle.paint_sessions.proofs.Begun.{begun_put}
use Rattle.paint_sessions.proofs.painting.PaintSessions.begin.Goals as goal

pub returns-clause-begun : goal.returns-clause-begun
returns-clause-begun c = on_ok_weaker c.put.result (begun_put c.args.w.0 c.args.clip c.args.self.now _) (subst (λ (ss : List Session). OnOk c.put.result (IsPut c.args.w.0 (Some c.args.clip) ss c.put.new.sessions.items)) c.self.view_is c.put.ensures.ok)
