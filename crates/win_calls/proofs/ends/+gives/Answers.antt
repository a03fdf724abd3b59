use Rattle.std.proofs.Common.{sym, refl, ◌∙◌}
use Rattle.win_calls.proofs.TurnLaws.{carry, single_leads, feed_calls, feed_runs, feed_ends, hands_out, outer_leads, alone_around}
use Rattle.win_calls.proofs.ends.+gives.Goals as goal

pub returns-in-Calls-clause-follows : goal.returns-in-Calls-clause-follows
returns-in-Calls-clause-follows t c s n v h =
    carry s n _ _ _ _ c.asks.result c.asks.ensures.step (feed_calls s n c.args.turn c.in-Some.at c.args.answer c.args.value v c.in-Calls.call c.in-Calls.place h c.in-Some.is (sym c.in-Calls.is ∙ c.after.ensures))

pub returns-in-Runs-clause-follows : goal.returns-in-Runs-clause-follows
returns-in-Runs-clause-follows t c s n v h =
    carry s n _ _ _ _ c.asks-in-Runs.result c.asks-in-Runs.ensures.step (feed_runs s n c.args.turn c.in-Some.at c.args.answer c.args.value v c.in-Runs.begin c.in-Runs.place c.within.result h c.in-Some.is c.within.ensures (sym c.in-Runs.is ∙ c.after.ensures))

pub returns-in-None-clause-follows : goal.returns-in-None-clause-follows
returns-in-None-clause-follows t c s n v h =
    feed_ends s n c.args.turn c.in-Some.at c.args.answer c.in-Ends.last c.args.value v _ _ c.in-Some.is (sym c.in-Ends.is ∙ c.after.ensures)
    (alone_around s n c.args.turn c.args.turn.around _ _ _ (sym c.outer.ensures ∙ c.in-None.is) (c.ended-in-None.ensures.follows s n v))

pub returns-in-Some-outer-clause-follows : goal.returns-in-Some-outer-clause-follows
returns-in-Some-outer-clause-follows t c s n v h =
    let out = sym c.outer.ensures ∙ c.in-Some-outer.is in
    feed_ends s n c.args.turn c.in-Some.at c.args.answer c.in-Ends.last c.args.value v _ _ c.in-Some.is (sym c.in-Ends.is ∙ c.after.ensures)
    (outer_leads s n c.args.turn c.in-Some-outer.outer c.args.turn.around _ _ _ out (c.gives.ensures.follows s n v (hands_out c.args.turn c.in-Some-outer.outer c.in-Some.at c.args.turn.around c.in-Some.is refl out h)))

pub returns-in_default-clause-follows : goal.returns-in_default-clause-follows
returns-in_default-clause-follows t c s n v h =
    single_leads s n c.args.turn c.args.answer c.args.value v _ _ h c.in_default.is (c.ended.ensures.follows s n v)
