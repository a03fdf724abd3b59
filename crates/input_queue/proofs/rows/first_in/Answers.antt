use Rattle.std.proofs.Common.{◌∙◌, ◌+◌, get_or, sym, refl, arith}
use Rattle.std.proofs.lemmas.List.{length-set}
use Rattle.input_queue.specs.Elements.{of_group}
use Rattle.input_queue.specs.Rows.{merged}
use Rattle.input_queue.proofs.ElementLemmas.{other_target, own_target}
use Rattle.input_queue.proofs.Reading.{IsNext, begun, end_blocked, end_none, end_passed, fewer_unread, goes_on, next_is, none_left, read_first}
use Rattle.input_queue.proofs.rows.first_in.Goals as goal

pub elements-init : goal.elements-init
elements-init g c = record {
  sixteen = refl;
  left = of_group c.args.group (merged c.args.rows.now);
  rest = begun c.args.group c.args.rows.now c.requires.kept;
  so_far = λ target_of test targets tests. record { same = refl; reads = refl };
}

pub returns-then-ne-clause-value : goal.returns-then-ne-clause-value
returns-then-ne-clause-value g c = λ target_of test targets tests.
    let inv = c.elements.invariant in
    let next : IsNext c.args.group c.args.rows.now c.elements.seen inv.left c.in-Some.spot = next_is c.args.group c.args.rows.now c.elements.seen inv.left c.in-Some.spot inv.sixteen inv.rest (c.in-Some.ensures.next inv.left inv.rest) in
    let parts = read_first c.args.group c.args.rows.now c.elements.seen inv.left c.in-Some.spot next c.row_at.result.now c.read-element.result c.row_at.ensures c.read-element.ensures.element in
    (end_blocked c.args.t target_of test _ inv.left _ _ _ c.read-element.result next.others (inv.so_far target_of test targets tests) parts c.read-element.ensures.step (other_target _ _ _ _ (targets _ _ c.target.ensures) c.ne.ensures c.if-ne.true)).value

pub returns-then-ne-clause-reads : goal.returns-then-ne-clause-reads
returns-then-ne-clause-reads g c = λ target_of test targets tests.
    let inv = c.elements.invariant in
    let next : IsNext c.args.group c.args.rows.now c.elements.seen inv.left c.in-Some.spot = next_is c.args.group c.args.rows.now c.elements.seen inv.left c.in-Some.spot inv.sixteen inv.rest (c.in-Some.ensures.next inv.left inv.rest) in
    let parts = read_first c.args.group c.args.rows.now c.elements.seen inv.left c.in-Some.spot next c.row_at.result.now c.read-element.result c.row_at.ensures c.read-element.ensures.element in
    (end_blocked c.args.t target_of test _ inv.left _ _ _ c.read-element.result next.others (inv.so_far target_of test targets tests) parts c.read-element.ensures.step (other_target _ _ _ _ (targets _ _ c.target.ensures) c.ne.ensures c.if-ne.true)).reads

pub returns-then-pass-clause-value : goal.returns-then-pass-clause-value
returns-then-pass-clause-value g c = λ target_of test targets tests.
    let inv = c.elements.invariant in
    let next : IsNext c.args.group c.args.rows.now c.elements.seen inv.left c.in-Some.spot = next_is c.args.group c.args.rows.now c.elements.seen inv.left c.in-Some.spot inv.sixteen inv.rest (c.in-Some.ensures.next inv.left inv.rest) in
    let parts = read_first c.args.group c.args.rows.now c.elements.seen inv.left c.in-Some.spot next c.row_at.result.now c.read-element.result c.row_at.ensures c.read-element.ensures.element in
    (end_passed c.args.t target_of test _ inv.left _ _ _ c.read-element.result next.others (inv.so_far target_of test targets tests) parts c.read-element.ensures.step (own_target _ _ _ _ (targets _ _ c.target.ensures) c.ne.ensures c.if-ne.false) (sym (tests _ _ c.pass.ensures) ∙ c.if-pass.true)).value

pub returns-then-pass-clause-reads : goal.returns-then-pass-clause-reads
returns-then-pass-clause-reads g c = λ target_of test targets tests.
    let inv = c.elements.invariant in
    let next : IsNext c.args.group c.args.rows.now c.elements.seen inv.left c.in-Some.spot = next_is c.args.group c.args.rows.now c.elements.seen inv.left c.in-Some.spot inv.sixteen inv.rest (c.in-Some.ensures.next inv.left inv.rest) in
    let parts = read_first c.args.group c.args.rows.now c.elements.seen inv.left c.in-Some.spot next c.row_at.result.now c.read-element.result c.row_at.ensures c.read-element.ensures.element in
    (end_passed c.args.t target_of test _ inv.left _ _ _ c.read-element.result next.others (inv.so_far target_of test targets tests) parts c.read-element.ensures.step (own_target _ _ _ _ (targets _ _ c.target.ensures) c.ne.ensures c.if-ne.false) (sym (tests _ _ c.pass.ensures) ∙ c.if-pass.true)).reads

pub elements-preserved : goal.elements-preserved
elements-preserved g c =
    let inv = c.elements.invariant in
    let next : IsNext c.args.group c.args.rows.now c.elements.seen inv.left c.in-Some.spot = next_is c.args.group c.args.rows.now c.elements.seen inv.left c.in-Some.spot inv.sixteen inv.rest (c.in-Some.ensures.next inv.left inv.rest) in
    let parts = read_first c.args.group c.args.rows.now c.elements.seen inv.left c.in-Some.spot next c.row_at.result.now c.read-element.result c.row_at.ensures c.read-element.ensures.element in
    record {
      sixteen = length-set c.elements.seen c.in-Some.spot.home (get_or c.elements.seen c.in-Some.spot.home 0 + 1) ∙ inv.sixteen;
      left = next.others;
      rest = next.after;
      so_far = λ target_of test targets tests. goes_on c.args.t target_of test _ inv.left _ _ _ c.read-element.result next.others (inv.so_far target_of test targets tests) parts c.read-element.ensures.step (own_target _ _ _ _ (targets _ _ c.target.ensures) c.ne.ensures c.if-ne.false) (sym (tests _ _ c.pass.ensures) ∙ c.if-pass.false);
    }

pub elements-smaller : goal.elements-smaller
elements-smaller g c = fewer_unread c.args.rows.now c.elements.seen c.in-Some.spot.home (omega (arith, c.requires.kept.sixteen, c.in-Some.ensures.within.0)) (omega (arith, c.elements.invariant.sixteen, c.in-Some.ensures.within.0)) c.in-Some.ensures.within.1

pub returns-clause-value : goal.returns-clause-value
returns-clause-value g c = λ target_of test targets tests.
    let inv = c.elements.invariant in
    (end_none c.args.t target_of test _ inv.left _ _ (inv.so_far target_of test targets tests) (none_left inv.left (c.in_default.ensures.next inv.left inv.rest))).value

pub returns-clause-reads : goal.returns-clause-reads
returns-clause-reads g c = λ target_of test targets tests.
    let inv = c.elements.invariant in
    (end_none c.args.t target_of test _ inv.left _ _ (inv.so_far target_of test targets tests) (none_left inv.left (c.in_default.ensures.next inv.left inv.rest))).reads
