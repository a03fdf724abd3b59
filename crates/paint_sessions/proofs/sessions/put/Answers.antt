use Rattle.std.proofs.Common.{List, subst, refl, rules, tests}
use Rattle.paint_sessions.specs.declared.sessions.Session.{Session}
use Rattle.paint_sessions.specs.Places.{IsAt, IsMissingAt}
use Rattle.paint_sessions.proofs.Putting.{put_at, put_new}
use Rattle.paint_sessions.proofs.sessions.put.Goals as goal

pub returns-in-Ok-clause-ok : goal.returns-in-Ok-clause-ok
returns-in-Ok-clause-ok c = put_at c.args.sessions.now.items _ c.args.w.0 c.in-Ok.i (record { window = c.args.w; clip = c.args.clip }) (search (rules, tests)) refl c.requires (subst (λ (ss : List Session). IsAt ss c.args.w.0 c.in-Ok.i) c.deref.ensures.value c.in-Ok.ensures.found)

pub returns-in_ok-insert-in-Err-clause-ok : goal.returns-in_ok-insert-in-Err-clause-ok
returns-in_ok-insert-in-Err-clause-ok c = put_new c.args.sessions.now.items _ c.args.w.0 c.in-Err.i (record { window = c.args.w; clip = c.args.clip }) c.in_ok-insert-in-Err.ensures.items refl c.requires (subst (λ (ss : List Session). IsMissingAt ss c.args.w.0 c.in-Err.i) c.deref.ensures.value c.in-Err.ensures.missing)
