use Rattle.std.proofs.Common.{List, filter, ap, sym, subst, ◌∙◌}
use Rattle.paint_sessions.specs.declared.sessions.Session.{Session}
use Rattle.paint_sessions.specs.LookUps.{is_among, RisesFrom}
use Rattle.paint_sessions.proofs.Begun.{begun_filtered, clip_filtered, rises-filter}
use Rattle.paint_sessions.proofs.Lists.{number}
use Rattle.paint_sessions.proofs.painting.PaintSessions.keep.Goals as goal

pub returns-clause-begun : goal.returns-clause-begun
returns-clause-begun c = begun_filtered c.args.live.now c.args.self.now _ (c.keep_listed.ensures ∙ ap (λ (ss : List Session). filter (λ (s : Session). is_among (number s) c.args.live.now) ss) c.self.view_is)

pub returns-clause-clips : goal.returns-clause-clips
returns-clause-clips c = clip_filtered c.args.live.now c.args.self.now _ (c.keep_listed.ensures ∙ ap (λ (ss : List Session). filter (λ (s : Session). is_among (number s) c.args.live.now) ss) c.self.view_is)

pub invariant_of-self : goal.invariant_of-self
invariant_of-self c = subst (RisesFrom 0) (sym c.keep_listed.ensures) (rises-filter 0 (λ (s : Session). is_among (number s) c.args.live.now) c.self.inside.sessions.items c.self.invariant)
