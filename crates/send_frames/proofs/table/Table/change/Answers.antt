use Rattle.std.proofs.Common.{ap, sym, ◌∙◌}
use Rattle.std.specs.FinMap as map
use Rattle.send_frames.proofs.Maps.{taken_out}
use Rattle.send_frames.proofs.table.Table.change.Goals as goal

pub returns-else-is_kept : goal.returns-else-is_kept
returns-else-is_kept c =
    let gone = taken_out c.self.inside.items.entries c.remove.new.self.entries c.args.send.0 c.remove.ensures.updates.0
    ∙ ap (λ m. map.remove m c.args.send.0) c.self.view_is in
    rw (sym c.is_kept.ensures ∙ c.if-is_kept.false) gone
