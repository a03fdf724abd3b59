use Rattle.std.proofs.Common.{◌≡◌, ◌∙◌, ℕ, List, is_some, nat_lt, refl, sym, ap, arith}
use Rattle.std.specs.Prelude.{count_by}
use Rattle.slab.specs.Slab.{get}
use Rattle.post_queue.specs.Chains.{posted_of, posted_at}
use Rattle.post_queue.proofs.Walks.{begun, step, there_is, ended, stepped, fewer_left, posted_more, posted_parts, count_more, count_fits}
use Rattle.post_queue.proofs.chain.count_above.Goals as goal

pub slots-init : goal.slots-init
slots-init c = (begun (get c.args.chain.now.slots) c.args.chain.now.index.entries c.args.chain.now.first c.requires.chain.first, refl)

pub index-slot-requires : goal.index-slot-requires
index-slot-requires c =
    let there = there_is (get c.args.chain.now.slots) c.args.chain.now.index.entries c.requires.chain.linked c.slots.at c.in-Some.key c.slots.invariant.0 c.in-Some.is in
    ap is_some there.1

pub overflow_add-count : goal.overflow_add-count
overflow_add-count c =
    let slot = get c.args.chain.now.slots in
    let es = c.args.chain.now.index.entries in
    let walk = c.slots.invariant.0 in
    let z = c.index-slot.result.now in
    let s = step slot es c.requires.chain.linked c.slots.at c.in-Some.key walk c.in-Some.is z c.index-slot.ensures in
    let low = count_fits (λ p. nat_lt c.args.number p.number) (posted_at slot walk.done) (posted_at slot s.later) (posted_at slot es) (posted_of z) c.slots.count c.one_above-count.result (posted_parts slot es c.requires.chain.linked c.slots.at walk c.in-Some.key z c.index-slot.ensures s) c.slots.invariant.1 c.one_above-count.ensures in
    omega (arith, low, c.requires.few)

pub slots-smaller : goal.slots-smaller
slots-smaller c =
    let slot = get c.args.chain.now.slots in
    let es = c.args.chain.now.index.entries in
    let z = c.index-slot.result.now in
    let walk = c.slots.invariant.0 in
    fewer_left slot es c.slots.at c.in-Some.key z c.requires.chain.linked walk (step slot es c.requires.chain.linked c.slots.at c.in-Some.key walk c.in-Some.is z c.index-slot.ensures)

pub slots-preserved : goal.slots-preserved
slots-preserved c =
    let slot = get c.args.chain.now.slots in
    let es = c.args.chain.now.index.entries in
    let z = c.index-slot.result.now in
    let walk = c.slots.invariant.0 in
    let s = step slot es c.requires.chain.linked c.slots.at c.in-Some.key walk c.in-Some.is z c.index-slot.ensures in (
      stepped slot es c.in-Some.key z walk.done walk.todo s,
      count_more (λ p. nat_lt c.args.number p.number) (posted_at slot walk.done) _ (posted_of z) c.slots.count c.one_above-count.result (posted_more slot walk.done c.in-Some.key z c.index-slot.ensures) c.slots.invariant.1 c.one_above-count.ensures,
    )

pub returns : goal.returns
returns c =
    let slot = get c.args.chain.now.slots in
    let es = c.args.chain.now.index.entries in
    let walk = c.slots.invariant.0 in
    let all : es ≡ walk.done = ended slot es c.requires.chain.linked c.slots.at walk c.in_default.is in
    c.slots.invariant.1 ∙ ap (λ (ds : List (ℕ × ℕ)). count_by (λ p. nat_lt c.args.number p.number) (posted_at slot ds)) (sym all)
