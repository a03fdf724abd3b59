use Rattle.std.proofs.Common.{rules, ◌≡◌, ◌%◌, ◌^◌, sym, ap, ◌∙◌}
use Rattle.turn_lock.proofs.RuleKept.{draws, looks, learns}
use Rattle.turn_lock.proofs.Turns.{drawn, holds_slot, took, same_seat}
use Rattle.turn_lock.proofs.turn.take.Goals as goal

pub fetch_add-ticket-requires : goal.fetch_add-ticket-requires
fetch_add-ticket-requires g c = let j = g.S.Journaled in
    (c.requires.table.0, search rules, draws j.history j.setting j.lawful j.number _ _ _ _ _ (ap (λ s. s.me.0.stage) c.requires.rest.0))

pub loop-init : goal.loop-init
loop-init g c = let d = c.fetch_add-ticket.ensures in drawn c.args.place.now c.fetch_add-ticket.new.seat c.fetch_add-ticket.result c.requires.rest.0 d.0 d.1 d.2

pub load-served-requires : goal.load-served-requires
load-served-requires g c = let j = g.S.Journaled in let held = c.loop.invariant in
    (ap (λ s. s.table_id) held.2 ∙ c.requires.table.0, search rules, looks j.history j.setting j.lawful j.number _ _ _ _ _ held.0 (ap (λ s. s.me.0.stage) held.2))

pub exchange-requires : goal.exchange-requires
exchange-requires g c = let held = c.loop.invariant in let hit : c.load-served.result ≡ held.0 % 2 ^ 64 = c.if-served-ticket.true ∙ held.1 in
    let sv = (c.load-served.ensures.2 held.0 (ap (λ s. s.me.0.stage) held.2)).0 hit in
    (c.load-served.ensures.0 ∙ (ap (λ s. s.table_id) held.2 ∙ c.requires.table.0), (_, holds_slot c.load-served.new.seat.me _ _ (ap (λ m. m.1) sv.1)))

pub load-requires : goal.load-requires
load-requires g c = let j = g.S.Journaled in let held = c.loop.invariant in let hit : c.load-served.result ≡ held.0 % 2 ^ 64 = c.if-served-ticket.true ∙ held.1 in
    let sv = (c.load-served.ensures.2 held.0 (ap (λ s. s.me.0.stage) held.2)).0 hit in (
      c.exchange.ensures.0 ∙ (c.load-served.ensures.0 ∙ (ap (λ s. s.table_id) held.2 ∙ c.requires.table.0)),
      search rules,
      learns j.history j.setting j.lawful j.number _ _ _ _ _ _ (ap (λ m. m.0.stage) c.exchange.ensures.3 ∙ ap (λ m. m.0.stage) sv.1),
    )

pub returns-then-served-ticket : goal.returns-then-served-ticket
returns-then-served-ticket g c = let j = g.S.Journaled in let held = c.loop.invariant in let hit : c.load-served.result ≡ held.0 % 2 ^ 64 = c.if-served-ticket.true ∙ held.1 in
    let sv = (c.load-served.ensures.2 held.0 (ap (λ s. s.me.0.stage) held.2)).0 hit in let ex = c.exchange.ensures in let le = c.load.ensures in
    took j.history j.setting j.lawful j.number c.args.top.now.key.state.value c.args.place.now c.loop.place c.load-served.new.seat c.exchange.new.seat c.load.new.seat held.0 c.load.result c.exchange.result c.unwrap-state.result
    c.requires.rest.1 held.2 c.load-served.ensures.0 c.load-served.ensures.1 sv ex.0 ex.1 ex.2 ex.3 le.0 le.1 le.2 (search rules)

pub loop-preserved : goal.loop-preserved
loop-preserved g c = let held = c.loop.invariant in let lo = c.load-served.ensures in let same = (lo.2 held.0 (ap (λ s. s.me.0.stage) held.2)).1 (λ e. c.if-served-ticket.false (e ∙ sym held.1)) in
    (held.0, held.1, same_seat c.args.place.now c.load-served.new.seat (lo.0 ∙ ap (λ s. s.table_id) held.2) (lo.1 ∙ ap (λ s. s.id) held.2) _ (same ∙ ap (λ s. s.me) held.2))
