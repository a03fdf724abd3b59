use Rattle.std.proofs.Common.{◌≡◌, false, ap, sym, ◌∙◌, arith}
use mathlib.Core.Option.{none}
use Rattle.atomic_table.specs.Table.{step}
use Rattle.status_board.proofs.Keeping.{hears, settles}
use Rattle.status_board.proofs.reader.BoardReader.learn.Goals as goal

pub join_seat-requires : goal.join_seat-requires
join_seat-requires c =
    let here = c.self.invariant.2 ∙ sym (ap (λ b. b.shared.table_id) c.deref.ensures) in
    let idle : c.self.inside.place.me.0.writes ≡ false = ap (λ m. m.0.writes) c.self.invariant.0 in (
      here,
      ap (λ k. k.board) c.note.view_is ∙ c.requires ∙ sym (ap (λ k. k.board) c.self.view_is) ∙ here,
      ap (λ m. m.1) c.note.invariant.0,
      omega (arith, c.self.invariant.3, ap (λ t. t.words) here),
      hears c.self.inside.place.id c.self.inside.place.me.0 c.note.inside.place.id c.note.inside.place.me.0 idle,
    )

pub load-requires : goal.load-requires
load-requires c =
    let here = c.join_seat.ensures.0 ∙ c.self.invariant.2 ∙ sym (ap (λ b. b.shared.table_id) c.deref.ensures) in
    let idle : c.join_seat.new.seat.me.0.writes ≡ false = ap (λ m. m.0.writes) c.join_seat.ensures.2 ∙ ap (λ m. m.0.writes) c.self.invariant.0 in (
      here,
      omega (arith, c.self.invariant.3, ap (λ t. t.words) (sym here ∙ c.join_seat.ensures.0)),
      settles (step c.deref.result.now.shared.table_id.slots 0 0 0 none) _ c.join_seat.new.seat.id c.join_seat.new.seat.me.0 c.join_seat.new.seat.me.1 idle,
    )
