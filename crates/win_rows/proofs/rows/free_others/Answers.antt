use Rattle.std.proofs.Common.{◌≡◌, ℕ, length, get_or, subst, arith}
use Rattle.std.proofs.lemmas.List.{get_or_default}
use Rattle.win_rows.specs.declared.rows.Place.{Place}
use Rattle.win_rows.specs.Index.{IsFreed}
use Rattle.win_rows.proofs.Indexed.{freed_none, freed_more}
use Rattle.win_rows.proofs.rows.free_others.Goals as goal

pub loop-p-init : goal.loop-p-init
loop-p-init c = freed_none c.args.numbers.now c.args.places.now c.args.slab.now

pub loop-p-preserved : goal.loop-p-preserved
loop-p-preserved c =
    let d : Place = record { number = record { 0 = 0 }; key = 0 } in
    let ps = c.args.places.now in
    let i = c.loop-p.p-index in
    let p = get_or ps i d in
    freed_more c.args.numbers.now ps i c.args.slab.now c.loop-p.slab c.free_other.new.slab p c.loop-p.invariant c.free_other.ensures c.loop-p-test.true (get_or_default ps i d p c.loop-p-test.true)

pub returns : goal.returns
returns c =
    let all : c.loop-p.p-index ≡ length c.args.places.now = omega arith in
    subst (λ (i : ℕ). IsFreed c.args.numbers.now c.args.places.now i c.args.slab.now c.loop-p.slab) all c.loop-p.invariant
