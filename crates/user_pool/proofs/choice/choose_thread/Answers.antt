use Rattle.std.proofs.Common.{◌≡◌, ◌<◌, ◌≤◌, ℕ, List, Option, Some, length, sym, ap, ◌∙◌, arith}
use Rattle.std.specs.Prelude.{slice_get, unwrap_or}
use Rattle.std.proofs.lemmas.Bool.Decides.{nat_tests}
use Rattle.std.proofs.lemmas.List.{get_or_read}
use Rattle.std.proofs.lemmas.Option.{slice_get_past, slice_get-get_or}
use Rattle.user_pool.specs.Runs.{first_above}
use Rattle.user_pool.specs.Moves.{left_after}
use Rattle.user_pool.proofs.Choices.{by_list_left, by_turn, by_turn_left}
use Rattle.user_pool.proofs.choice.choose_thread.Goals as goal

pub returns-in-Some-clause-left : goal.returns-in-Some-clause-left
returns-in-Some-clause-left g c =
    let place = c.next_place-place.result in
    let within : place < length c.order.result.now = grind (arith, nat_tests, c.in-Some.ensures.lookup.0) in
    let here : slice_get c.args.script.now.order place ≡ Some c.in-Some.actor.now =
    ap (λ (l : List ℕ). slice_get l place) (sym c.order.ensures) ∙ slice_get-get_or c.order.result.now place 0 within ∙ ap (λ (t : ℕ). let o : Option ℕ = Some t in o) (sym (get_or_read c.order.result.now place c.in-Some.actor.now within c.in-Some.ensures.lookup.1 0)) in
    by_list_left c.args.script.now (g.M.Machine.past c.args.machine.now) c.args.from c.next_place-place.result c.in-Some.actor.now c.requires.left c.next_place-place.ensures here

pub returns-clause-chosen : goal.returns-clause-chosen
returns-clause-chosen g c =
    let s = c.args.script.now in
    let past = g.M.Machine.past c.args.machine.now in
    let end : length c.order.result.now ≡ length s.order = ap (λ (l : List ℕ). length l) c.order.ensures in
    let behind : length s.order ≤ c.next_place-place.result = grind (arith, nat_tests, end, c.in_default.ensures.lookup.0) in
    by_turn s past c.args.from c.next_place-place.result c.args.lowest c.requires.left c.next_place-place.ensures (slice_get_past s.order c.next_place-place.result behind) c.requires.lowest
    ∙ ap (λ (o : Option ℕ). Some (unwrap_or o c.args.lowest)) (sym (c.first_above.ensures ∙ ap (first_above s past) c.requires.last))
    ∙ ap (λ (t : ℕ). let o : Option ℕ = Some t in o) (sym c.unwrap_or-actor.ensures)

pub returns-clause-left : goal.returns-clause-left
returns-clause-left g c =
    let s = c.args.script.now in
    let past = g.M.Machine.past c.args.machine.now in
    let end : length c.order.result.now ≡ length s.order = ap (λ (l : List ℕ). length l) c.order.ensures in
    let behind : length s.order ≤ c.next_place-place.result = grind (arith, nat_tests, end, c.in_default.ensures.lookup.0) in
    ap (left_after s past) (c.unwrap_or-actor.ensures ∙ ap (λ (o : Option ℕ). unwrap_or o c.args.lowest) (c.first_above.ensures ∙ ap (first_above s past) c.requires.last))
    ∙ by_turn_left s past c.args.from c.next_place-place.result c.args.lowest c.requires.left c.next_place-place.ensures behind c.requires.lowest
