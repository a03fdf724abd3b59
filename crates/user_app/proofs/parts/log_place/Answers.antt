use Rattle.std.proofs.Common.{ℕ, List, ap, sym, ◌∙◌}
use Rattle.std.specs.Prelude.{◌&&◌}
use Rattle.std.proofs.lemmas.List.{take_rest}
use Rattle.user_app.specs.Parts.{begins_log}
use Rattle.user_app.proofs.InputParts.{passed_start, passed_more, front_here, back_here, front_end, back_end}
use Rattle.user_app.proofs.parts.log_place.Goals as goal

pub loop-place-init : goal.loop-place-init
loop-place-init c = passed_start c.args.text.now

pub loop-place-preserved : goal.loop-place-preserved
loop-place-preserved c =
    passed_more c.args.text.now c.loop-place.place c.loop-place.starts c.loop-place-test.true c.loop-place.invariant
    (ap (λ (l : List ℕ). c.loop-place.starts && begins_log l) (sym (take_rest c.args.text.now c.loop-place.place)) ∙ sym c.starts_log.ensures ∙ c.if-starts_log.false)

pub returns-then-starts_log-clause-front : goal.returns-then-starts_log-clause-front
returns-then-starts_log-clause-front c =
    front_here c.args.text.now c.loop-place.place c.loop-place.starts c.loop-place.invariant
    (ap (λ (l : List ℕ). c.loop-place.starts && begins_log l) (sym (take_rest c.args.text.now c.loop-place.place)) ∙ sym c.starts_log.ensures ∙ c.if-starts_log.true)

pub returns-then-starts_log-clause-back : goal.returns-then-starts_log-clause-back
returns-then-starts_log-clause-back c =
    back_here c.args.text.now c.loop-place.place c.loop-place.starts c.loop-place.invariant
    (ap (λ (l : List ℕ). c.loop-place.starts && begins_log l) (sym (take_rest c.args.text.now c.loop-place.place)) ∙ sym c.starts_log.ensures ∙ c.if-starts_log.true)

pub returns-clause-front : goal.returns-clause-front
returns-clause-front c = front_end c.args.text.now c.loop-place.place c.loop-place.starts c.loop-place-test.false c.loop-place.invariant

pub returns-clause-back : goal.returns-clause-back
returns-clause-back c = back_end c.args.text.now c.loop-place.place c.loop-place.starts c.loop-place-test.false c.loop-place.invariant
