use Rattle.std.proofs.Common.{List, Some, sym, subst, refl, ◌∙◌}
use Rattle.std.specs.Prelude.{slice_set}
use Rattle.std.proofs.lemmas.Bool.{false≢true}
use Rattle.paint_sessions.specs.declared.sessions.Session.{Session}
use Rattle.paint_sessions.specs.LookUps.{RisesFrom}
use Rattle.paint_sessions.specs.Places.{IsAt, IsMissingAt, IsPut}
use Rattle.paint_sessions.proofs.Begun.{begun_missing, begun_still}
use Rattle.paint_sessions.proofs.Putting.{put_at}
use Rattle.paint_sessions.proofs.painting.PaintSessions.set_clip.Goals as goal

pub invariant_of-self : goal.invariant_of-self
invariant_of-self c = (put_at c.self.inside.sessions.items _ c.args.w.0 c.in-Ok.i (record { window = c.args.w; clip = c.args.clip }) refl refl c.self.invariant (subst (λ (ss : List Session). IsAt ss c.args.w.0 c.in-Ok.i) c.deref.ensures.value c.in-Ok.ensures.found)).rising

pub returns-in-Ok-clause-begun : goal.returns-in-Ok-clause-begun
returns-in-Ok-clause-begun c = begun_still c.args.w.0 c.args.clip c.args.self.now _ c.requires (subst (λ (ss : List Session). IsPut c.args.w.0 (Some c.args.clip) ss (slice_set c.self.inside.sessions.items c.in-Ok.i (record { window = c.args.w; clip = c.args.clip }))) c.self.view_is (put_at c.self.inside.sessions.items _ c.args.w.0 c.in-Ok.i (record { window = c.args.w; clip = c.args.clip }) refl refl c.self.invariant (subst (λ (ss : List Session). IsAt ss c.args.w.0 c.in-Ok.i) c.deref.ensures.value c.in-Ok.ensures.found)))

pub returns-in-Ok-clause-clip : goal.returns-in-Ok-clause-clip
returns-in-Ok-clause-clip c = (put_at c.self.inside.sessions.items _ c.args.w.0 c.in-Ok.i (record { window = c.args.w; clip = c.args.clip }) refl refl c.self.invariant (subst (λ (ss : List Session). IsAt ss c.args.w.0 c.in-Ok.i) c.deref.ensures.value c.in-Ok.ensures.found)).same

pub returns-in-Ok-clause-others : goal.returns-in-Ok-clause-others
returns-in-Ok-clause-others c = (subst (λ (ss : List Session). IsPut c.args.w.0 (Some c.args.clip) ss (slice_set c.self.inside.sessions.items c.in-Ok.i (record { window = c.args.w; clip = c.args.clip }))) c.self.view_is (put_at c.self.inside.sessions.items _ c.args.w.0 c.in-Ok.i (record { window = c.args.w; clip = c.args.clip }) refl refl c.self.invariant (subst (λ (ss : List Session). IsAt ss c.args.w.0 c.in-Ok.i) c.deref.ensures.value c.in-Ok.ensures.found))).others

pub returns-in_default-clause-clip : goal.returns-in_default-clause-clip
returns-in_default-clause-clip c = absurd (false≢true (sym (begun_missing c.args.self.now c.args.w.0 c.in_default.field-0 (subst (RisesFrom 0) c.self.view_is c.self.invariant) (subst (λ (ss : List Session). IsMissingAt ss c.args.w.0 c.in_default.field-0) (c.deref.ensures.value ∙ c.self.view_is) c.in_default.ensures.missing)) ∙ c.requires))
