use Rattle.std.proofs.Common.{ap, sym, ◌∙◌}
use Rattle.std.specs.Prelude.{option_map}
use Rattle.win_num.specs.declared.send.SendId.{SendId}
use Rattle.std.specs.FinMap as map
use Rattle.send_frames.proofs.Maps.{first_key, found_above}
use Rattle.send_frames.proofs.table.Table.next.Goals as goal

pub returns-in_err-number : goal.returns-in_err-number
returns-in_err-number c =
    ap (option_map (λ (s : SendId). s.0)) c.from_residual.ensures ∙ sym (ap first_key c.in_err-number.ensures.steps.0)
    ∙ found_above c.args.after.0 c.self.inside.items.entries c.range.result c.args.self.now c.range.ensures.ordered c.self.view_is (c.range.ensures.between tt)

pub returns : goal.returns
returns c =
    sym (ap first_key c.in_ok-number.ensures.steps)
    ∙ found_above c.args.after.0 c.self.inside.items.entries c.range.result c.args.self.now c.range.ensures.ordered c.self.view_is (c.range.ensures.between tt)
