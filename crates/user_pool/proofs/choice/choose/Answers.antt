use Rattle.std.proofs.Common.{true, false, Option, IsNone, refl, sym, ap, subst, ◌∙◌}
use Rattle.user_pool.specs.declared.choice.Choice.{Choice}
use Rattle.user_model.specs.declared.entry.Setup.{Setup}
use Rattle.user_model.specs.Idle.{is_barred}
use Rattle.user_pool.proofs.Choices.{by_clock}
use Rattle.user_pool.proofs.choice.choose.Goals as goal

pub returns-then-barred-clause-none : goal.returns-then-barred-clause-none
returns-then-barred-clause-none g c =
    let past = g.M.Machine.past c.args.machine.now in
    λ _. by_clock c.args.script.now past true (c.choose_in_order.ensures.none (subst (λ (o : Option Choice). IsNone o) (sym c.in_default.is) refl)) (ap (λ (x : Setup). is_barred x past 0) (sym c.requires.setup) ∙ sym c.barred.ensures ∙ c.if-barred.true)

pub returns-clause-chosen : goal.returns-clause-chosen
returns-clause-chosen g c =
    let past = g.M.Machine.past c.args.machine.now in
    by_clock c.args.script.now past false (c.choose_in_order.ensures.none (subst (λ (o : Option Choice). IsNone o) (sym c.in_default.is) refl)) (ap (λ (x : Setup). is_barred x past 0) (sym c.requires.setup) ∙ sym c.barred.ensures ∙ c.if-barred.false)
