use Rattle.std.proofs.Common.{rules, eqb, ap, ◌∙◌}
use Rattle.std.specs.Prelude.{◌&&◌, nat_lt}
use Rattle.std.specs.List.{list_any}
use Rattle.input_queue.specs.declared.element.Element.{Element as KeptElement}
use Rattle.core_state.specs.Inputs.{taker_in}
use Rattle.core_state.specs.Status.{is_of_kind}
use Rattle.core_state.proofs.StatusReads.{input_told}
use Rattle.core_state.proofs.state.CoreState.has_input.Goals as goal

pub returns : goal.returns
returns c =
    let v = c.args.self.now in
    c.has_above.ensures (λ (x : KeptElement). is_of_kind c.args.kind x.message && eqb (taker_in v.setup v.past x).0 c.args.thread) (λ x b k. search rules)
    ∙ ap (list_any (λ (x : KeptElement). nat_lt c.args.number x.number && (is_of_kind c.args.kind x.message && eqb (taker_in v.setup v.past x).0 c.args.thread))) c.untaken.ensures.all
    ∙ input_told (is_of_kind c.args.kind) v.setup v.past c.args.thread c.args.number c.untaken.ensures.homes
