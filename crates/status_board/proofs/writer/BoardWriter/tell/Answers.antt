use Rattle.std.proofs.Common.{ap, sym, ◌∙◌, arith}
use Rattle.status_board.proofs.Keeping.{tells}
use Rattle.status_board.proofs.writer.BoardWriter.tell.Goals as goal

pub split_seat-place-requires : goal.split_seat-place-requires
split_seat-place-requires c =
    let here = c.self.invariant.3 ∙ sym (ap (λ b. b.shared.table_id) c.deref.ensures) in
    (here, omega (arith, c.self.invariant.4, ap (λ t. t.words) here), tells c.self.inside.place.id c.self.inside.place.me.0)
