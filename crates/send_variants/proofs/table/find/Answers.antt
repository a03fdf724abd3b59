use Rattle.std.proofs.Common.{◌≡◌, ◌∙◌, ◌+◌, ◌-◌, suc, false, cond, slice_get, refl, sym, ap, arith}
use Rattle.std.proofs.lemmas.Bool.{ne_eqb}
use Rattle.send_variants.specs.Lists.{count_in, names}
use Rattle.send_variants.specs.Tables.{entry_of, jump, walk}
use Rattle.send_variants.proofs.Tables.{walk_end, walk_on, jump_on, if_none}
use Rattle.send_variants.proofs.table.find.Goals as goal

pub loop-init : goal.loop-init
loop-init c = (1024, omega arith, refl, λ none. none)

pub returns-in_err-slot-clause-none : goal.returns-in_err-slot-clause-none
returns-in_err-slot-clause-none c =
    let inv = c.loop.invariant in
    if_none c.from_residual.result _ (inv.3 (ap (count_in c.args.send.0) (walk_end c.args.slots.now.items inv.0 c.loop.at (sym c.in_err-slot.ensures))))

pub loop-preserved : goal.loop-preserved
loop-preserved c =
    let s = c.args.slots.now.items in
    let inv = c.loop.invariant in
    let x = c.in_ok-slot.slot in
    let here = sym c.in_ok-slot.ensures in
    let left : inv.0 ≡ suc (inv.0 - 1) = omega (arith, inv.1, c.loop-test.true) in
    let other : names c.args.send.0 (entry_of x) ≡ false = ne_eqb _ c.args.send.0 (λ same. omega (arith, same, c.send.ensures, c.if-send.false)) in
    let next : jump (slice_get s) (c.loop.counter + 1) c.args.first ≡ x.after =
    ap (λ n. jump (slice_get s) n c.args.first) (let more : c.loop.counter + 1 ≡ suc c.loop.counter = omega arith in more) ∙ jump_on s c.loop.counter c.args.first c.loop.at x inv.2 here in (
      inv.0 - 1,
      omega (arith, inv.1, left),
      next,
      λ none. inv.3 (ap (λ n. count_in c.args.send.0 (walk (slice_get s) n c.loop.at)) left ∙ ap (count_in c.args.send.0) (walk_on s (inv.0 - 1) c.loop.at x here) ∙ ap (λ b. cond b 1 0 + count_in c.args.send.0 (walk (slice_get s) (inv.0 - 1) x.after)) other ∙ (let rest : cond false 1 0 + count_in c.args.send.0 (walk (slice_get s) (inv.0 - 1) x.after) ≡ 0 = omega (arith, none) in rest)),
    )

pub returns-clause-none : goal.returns-clause-none
returns-clause-none c =
    let inv = c.loop.invariant in
    let over : inv.0 ≡ 0 = omega (arith, inv.1, c.loop-test.false, c.loop.auto) in
    inv.3 (ap (λ n. count_in c.args.send.0 (walk (slice_get c.args.slots.now.items) n c.loop.at)) over)
