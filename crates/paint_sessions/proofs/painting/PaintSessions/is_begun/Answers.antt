use Rattle.std.proofs.Common.{List, ap, sym, ◌∙◌}
use Rattle.paint_sessions.specs.declared.sessions.Session.{Session}
use Rattle.paint_sessions.specs.LookUps.{is_begun, RisesFrom}
use Rattle.std.proofs.Common.{subst}
use Rattle.paint_sessions.proofs.Begun.{begun_told}
use Rattle.paint_sessions.proofs.painting.PaintSessions.is_begun.Goals as goal

pub returns : goal.returns
returns c = c.is_ok.ensures.value ∙ begun_told c.deref.result.now c.args.w.0 c.place_of.result (subst (RisesFrom 0) (sym c.deref.ensures.value) c.self.invariant) c.place_of.ensures.found c.place_of.ensures.missing ∙ ap (λ (ss : List Session). is_begun ss c.args.w.0) (c.deref.ensures.value ∙ c.self.view_is)
