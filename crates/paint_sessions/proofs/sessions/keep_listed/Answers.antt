use Rattle.std.proofs.Common.{rules, tests}
use Rattle.std.proofs.lemmas.Fn.{filter_same}
use Rattle.std.proofs.iter.Serving.{serving}
use Rattle.paint_sessions.specs.declared.sessions.Session.{Session}
use Rattle.paint_sessions.specs.LookUps.{is_among, AreSorted}
use Rattle.paint_sessions.proofs.sessions.keep_listed.Goals as goal

pub retain-requires : goal.retain-requires
retain-requires c = let sorted : AreSorted c.args.live.now = c.requires in grind (serving, sorted)

pub returns : goal.returns
returns c = filter_same _ (λ (s : Session). is_among s.window.0 c.args.live.now) _ (λ x b q k. search (rules, tests)) _ _ c.retain.ensures.filtered
