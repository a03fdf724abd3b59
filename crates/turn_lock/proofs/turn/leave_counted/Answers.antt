use Rattle.std.proofs.Common.{rules, sym, ap, ◌∙◌, None}
use Rattle.turn_lock.proofs.RuleKept.{slot_first}
use Rattle.turn_lock.proofs.Turns.{holds_slot, put, may_count, passes_counted, counted_so, left_counted_so}
use Rattle.turn_lock.proofs.turn.leave_counted.Goals as goal

pub exchange-home-requires : goal.exchange-home-requires
exchange-home-requires g c = (c.requires.table.0, (None, holds_slot c.args.place.now.me _ _ c.requires.held.0.holds))

pub unreachable-requires : goal.unreachable-requires
unreachable-requires g c = c.in_default.not-None (ap slot_first (sym c.exchange-home.ensures.2 ∙ c.requires.held.0.holds))

pub fetch_add-requires : goal.fetch_add-requires
fetch_add-requires g c = let j = g.S.Journaled in let hand = c.requires.held.0 in let e = c.requires.entry in
    let em = put j.history j.setting j.lawful j.number c.args.top.now.key.state.value c.args.place.now c.exchange-home.new.seat c.args.state hand c.exchange-home.ensures.3 in (
      c.exchange-home.ensures.0 ∙ c.requires.table.0,
      search rules,
      may_count j.history j.setting j.lawful j.number _ _ _ c.args.place.now c.exchange-home.new.seat c.args.state e.0 hand c.requires.held.1 c.requires.held.2 e.1 e.2 em,
    )

pub fetch_add-requires-2 : goal.fetch_add-requires-2
fetch_add-requires-2 g c = let j = g.S.Journaled in let hand = c.requires.held.0 in let e = c.requires.entry in let o = c.args.top.now.key.state.value in
    let em = put j.history j.setting j.lawful j.number o c.args.place.now c.exchange-home.new.seat c.args.state hand c.exchange-home.ensures.3 in
    let km = counted_so j.history j.setting j.lawful j.number o c.args.place.now c.exchange-home.new.seat c.fetch_add.new.seat c.args.state e.0 c.fetch_add.result hand em e.1 c.fetch_add.ensures.2 in (
      c.fetch_add.ensures.0 ∙ (c.exchange-home.ensures.0 ∙ c.requires.table.0),
      search rules,
      passes_counted j.history j.setting j.lawful j.number o _ _ c.args.place.now c.fetch_add.new.seat c.args.state e.0 hand c.requires.held.1 e.1 km,
    )

pub returns : goal.returns
returns g c a longer = let j = g.S.Journaled in let hand = c.requires.held.0 in let o = c.args.top.now.key.state.value in let ex = c.exchange-home.ensures in
    let em = put j.history j.setting j.lawful j.number o c.args.place.now c.exchange-home.new.seat c.args.state hand ex.3 in
    let km = counted_so j.history j.setting j.lawful j.number o c.args.place.now c.exchange-home.new.seat c.fetch_add.new.seat c.args.state a c.fetch_add.result hand em longer c.fetch_add.ensures.2 in
    let did = c.fetch_add-2.ensures in
    left_counted_so j.history j.setting j.lawful j.number o c.args.place.now c.fetch_add.new.seat c.fetch_add-2.new.seat c.args.state a c.fetch_add-2.result (c.fetch_add.ensures.0 ∙ ex.0) (c.fetch_add.ensures.1 ∙ ex.1) km did.0 did.1 did.2
