use Rattle.std.proofs.Common.{rules, sym, ap, ◌∙◌, None}
use Rattle.turn_lock.proofs.RuleKept.{slot_first}
use Rattle.turn_lock.proofs.Turns.{holds_slot, put, may_pass, left_so}
use Rattle.turn_lock.proofs.turn.leave.Goals as goal

pub exchange-home-requires : goal.exchange-home-requires
exchange-home-requires g c = (c.requires.table.0, (None, holds_slot c.args.place.now.me _ _ c.requires.held.0.holds))

pub unreachable-requires : goal.unreachable-requires
unreachable-requires g c = c.in_default.not-None (ap slot_first (sym c.exchange-home.ensures.2 ∙ c.requires.held.0.holds))

pub fetch_add-requires : goal.fetch_add-requires
fetch_add-requires g c = let j = g.S.Journaled in let hand = c.requires.held.0 in let em = put j.history j.setting j.lawful j.number c.args.top.now.key.state.value c.args.place.now c.exchange-home.new.seat c.args.state hand c.exchange-home.ensures.3 in (
  c.exchange-home.ensures.0 ∙ c.requires.table.0,
  search rules,
  may_pass j.history j.setting j.lawful j.number _ _ _ c.args.place.now c.exchange-home.new.seat c.args.state hand.served hand.opened c.requires.held.1 c.requires.held.2 em,
)

pub returns : goal.returns
returns g c = let j = g.S.Journaled in let ex = c.exchange-home.ensures in let em = put j.history j.setting j.lawful j.number c.args.top.now.key.state.value c.args.place.now c.exchange-home.new.seat c.args.state c.requires.held.0 ex.3 in
    let did = c.fetch_add.ensures in left_so j.history j.setting j.lawful j.number c.args.top.now.key.state.value c.args.place.now c.exchange-home.new.seat c.fetch_add.new.seat c.args.state c.fetch_add.result ex.0 ex.1 em did.0 did.1 did.2
