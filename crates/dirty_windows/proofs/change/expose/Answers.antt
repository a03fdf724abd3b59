use Rattle.std.proofs.Common.{refl, sym, ◌∙◌}
use Rattle.std.proofs.lemmas.Bool.{eqb-true}
use Rattle.std.proofs.lemmas.Result.{on_ok_weaker}
use Rattle.dirty_windows.proofs.Exposing.{exposed_none, exposed_some, none_for_screen}
use Rattle.dirty_windows.proofs.change.expose.Goals as goal

pub returns-then-eq : goal.returns-then-eq
returns-then-eq c = exposed_none c.args.old.now c.args.new.now c.args.moved.now c.args.carried.now c.args.w.0 c.args.entries.now.items c.args.entries.now.items c.requires.rising (λ p. none_for_screen c.args.old.now c.args.new.now c.args.moved.now c.args.carried.now c.args.w.0 p (eqb-true c.args.w.0 0 (sym c.eq.ensures ∙ c.if-eq.true))) refl

pub returns : goal.returns
returns c = on_ok_weaker c.add.result (exposed_some c.args.old.now c.args.new.now c.args.moved.now c.args.carried.now c.args.w.0 c.in_ok-part.part c.args.entries.now.items _ c.in_ok-part.ensures (λ e. c.if-kind-eq1.false (c.kind.ensures.empty.1 e))) c.add.ensures.ok
