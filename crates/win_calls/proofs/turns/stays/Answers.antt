use Rattle.std.proofs.Common.{ℕ, sym, ap, ◌∙◌, subst}
use Rattle.user_model.specs.declared.call.Call.TheVariants.{Await}
use Rattle.script_tree.specs.Pieces.{Given}
use Rattle.win_calls.specs.declared.compound.Next.TheVariants.{Make}
use Rattle.win_calls.specs.declared.stage.Stage.TheVariants.{Asked}
use Rattle.win_calls.specs.declared.stage.Step.{Step}
use Rattle.win_calls.specs.States.{Leads, behind}
use Rattle.win_calls.proofs.TurnLaws.{carry, wait_leads, await_leads, begun_leads, given_leads, is_plain, at_answer}
use Rattle.win_calls.proofs.turns.stays.Goals as goal

pub returns-in-Wait-clause-follows : goal.returns-in-Wait-clause-follows
returns-in-Wait-clause-follows c s n v h e =
    at_answer s n c.args.turn.call _ c.args.answer _ v _ _ c.in-Wait.is (carry s n _ _ _ _ c.asks.result c.asks.ensures.step (wait_leads s n c.args.turn v h))

pub returns-then-waits-clause-follows : goal.returns-then-waits-clause-follows
returns-then-waits-clause-follows c s n v h e =
    let turn = c.args.turn in
    let step : ℕ → Step = λ x. record { stage = Asked (record turn { call = Await x }); next = Make (Await x) } in
    at_answer s n turn.call _ c.args.answer _ v _ _ c.in-Begun.is (carry s n _ _ _ _ c.asks-then-waits.result (c.asks-then-waits.ensures.step ∙ ap step c.from.ensures) (await_leads s n turn c.in-Begun.send v h (sym (sym c.waits.ensures ∙ c.if-waits.true))))

pub returns-else-waits-clause-follows : goal.returns-else-waits-clause-follows
returns-else-waits-clause-follows c s n v h e =
    at_answer s n c.args.turn.call _ c.args.answer _ v _ _ c.in-Begun.is (begun_leads s n c.args.turn c.in-Begun.send v _ _ h (sym (sym c.waits.ensures ∙ c.if-waits.false)) (λ w. c.gives.ensures.follows s n w h))

pub returns-in_default-clause-follows : goal.returns-in_default-clause-follows
returns-in_default-clause-follows c s n v h e =
    let turn = c.args.turn in
    let r = c.gives-in_default.result in
    given_leads s n turn c.args.answer v _ _ h (is_plain turn.call c.args.answer c.in_default.not-Wait c.in_default.not-Begun e) (λ w. subst (λ x. Leads s n (behind turn) (Given w c.args.answer x) r.stage r.next) c.result_of.ensures (c.gives-in_default.ensures.follows s n w h))
