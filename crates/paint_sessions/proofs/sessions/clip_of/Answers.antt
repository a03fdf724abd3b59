use Rattle.std.proofs.Common.{Some, sym, ap, ◌∙◌}
use Rattle.std.specs.Prelude.{option_map}
use Rattle.paint_sessions.specs.declared.sessions.Session.{Session}
use Rattle.paint_sessions.specs.LookUps.{session_clip}
use Rattle.paint_sessions.proofs.Putting.{no_session, session_at}
use Rattle.paint_sessions.proofs.sessions.clip_of.Goals as goal

pub returns-in-Ok : goal.returns-in-Ok
returns-in-Ok c = ap (λ (s : Session). Some s.clip) (sym c.index-sessions-i.is) ∙ sym (ap (option_map session_clip) (session_at c.args.sessions.now c.args.w.0 c.in-Ok.i c.index-sessions-i.result c.requires c.in-Ok.ensures.found c.index-sessions-i.is))

pub returns-in-Err : goal.returns-in-Err
returns-in-Err c = sym (ap (option_map session_clip) (no_session c.args.sessions.now c.args.w.0 _ c.requires c.in-Err.ensures.missing))
