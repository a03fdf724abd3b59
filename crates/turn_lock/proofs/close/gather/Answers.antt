use Rattle.std.proofs.Common.{ap, ◌∙◌}
use Rattle.turn_lock.specs.Seats.{Lock}
use Rattle.turn_lock.proofs.RuleKept.{joins}
use Rattle.turn_lock.proofs.Gathering.{popped, first_in, next_in}
use Rattle.turn_lock.proofs.close.gather.Goals as goal

pub loop-other-init : goal.loop-other-init
loop-other-init g c = let top = c.args.top.now in let lock : Lock g.row.S.Denot = record { table = top.table_id; opening = top.key.state.value; seats = top.key.seats } in
    let cut = popped lock c.args.seats.items c.pop.new.self.items c.pop.result c.unwrap.result c.pop.ensures.items c.unwrap.ensures c.requires.seats.1 in let p = c.into_place-place.result in let is = c.into_place-place.ensures in (
      ap (λ s. s.table) is.1 ∙ cut.1.0,
      ap (λ s. s.me.0.stage) is.0,
      ap (λ s. s.me.1) is.0,
      ap (λ s. s.opening) is.1 ∙ cut.1.1,
      first_in c.args.seats.items c.pop.new.self.items c.unwrap.result p cut.0 is.1 is.0,
      cut.2,
    )

pub join_seat-requires : goal.join_seat-requires
join_seat-requires g c = let j = g.S.Journaled in let top = c.args.top.now in let lock : Lock g.row.S.Denot = record { table = top.table_id; opening = top.key.state.value; seats = top.key.seats } in
    let held = c.loop-other.invariant in let cut = popped lock c.loop-other.seats.items c.pop-in-loop-other.new.self.items c.pop-in-loop-other.result c.in-Some.other c.pop-in-loop-other.ensures.items c.in-Some.is held.5 in
    let is = c.into_place.ensures in (
      held.0,
      ap (λ s. s.table) is.1 ∙ cut.1.0,
      ap (λ s. s.me.1) is.0,
      c.requires.table,
      joins j.history j.setting j.lawful j.number top.key.state.value top.key.seats c.loop-other.place.id c.loop-other.place.me.0 c.into_place.result.id c.into_place.result.me.0 held.1 (ap (λ s. s.me.0.stage) is.0),
    )

pub loop-other-preserved : goal.loop-other-preserved
loop-other-preserved g c = let top = c.args.top.now in let lock : Lock g.row.S.Denot = record { table = top.table_id; opening = top.key.state.value; seats = top.key.seats } in
    let held = c.loop-other.invariant in let cut = popped lock c.loop-other.seats.items c.pop-in-loop-other.new.self.items c.pop-in-loop-other.result c.in-Some.other c.pop-in-loop-other.ensures.items c.in-Some.is held.5 in
    let is = c.into_place.ensures in let now = c.join_seat.ensures in (
      now.0 ∙ held.0,
      ap (λ m. m.0.stage) now.2 ∙ held.1,
      ap (λ m. m.1) now.2 ∙ held.2,
      ap (λ m. m.0.opening) now.2 ∙ held.3,
      next_in c.args.seats.items c.loop-other.seats.items c.pop-in-loop-other.new.self.items c.in-Some.other c.loop-other.place c.into_place.result c.join_seat.new.seat held.4 cut.0 is.1 now.2,
      cut.2,
    )
