use Rattle.std.proofs.Common.{◌≡◌, false, ap, sym, ◌∙◌, arith}
use Rattle.status_board.proofs.Beginnings.{last_back}
use mathlib.Core.Option.{none}
use Rattle.atomic_table.specs.Table.{step}
use Rattle.status_board.proofs.Keeping.{reads}
use Rattle.status_board.proofs.reader.BoardReader.read.Goals as goal

pub load-requires : goal.load-requires
load-requires c =
    let here = c.self.invariant.2 ∙ sym (ap (λ b. b.shared.table_id) c.deref.ensures) in
    let idle : c.self.inside.place.me.0.writes ≡ false = ap (λ m. m.0.writes) c.self.invariant.0 in (
      here,
      omega (arith, c.self.invariant.3, ap (λ t. t.words) here),
      reads (step c.deref.result.now.shared.table_id.slots 0 0 0 none) _ c.self.inside.place.id c.self.inside.place.me.0 c.self.inside.place.me.1 idle,
    )

pub returns-clause-last : goal.returns-clause-last
returns-clause-last c = c.said.ensures ∙ last_back c.load.new.seat.me.0.list c.load.result c.load.ensures.2.2 c.load.ensures.2.3
