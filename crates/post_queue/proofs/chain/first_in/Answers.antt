use Rattle.std.proofs.Common.{◌≡◌, ◌∙◌, ◌++◌, ◌∷◌, [], ℕ, List, true, false, length, is_some, length-append, sym, ap, subst, arith, rules, tests}
use Rattle.std.specs.List.{AllByRecursion}
use Rattle.std.specs.Fn.{FnReturnsAt}
use Rattle.std.proofs.lemmas.List.Elements.{All-from_recursion}
use Rattle.slab.specs.Slab.{get}
use Rattle.win_num.specs.declared.message.Msg.{Msg}
use Rattle.post_queue.specs.Queue.{Posted, post_of}
use Rattle.post_queue.specs.Chains.{posted_of, posted_at}
use Rattle.post_queue.proofs.Walks.{begun, step, there_is, ended, stepped, fewer_left, posted_more, done_length, posted_parts, all_push, is_first}
use Rattle.post_queue.proofs.chain.first_in.Goals as goal

pub slots-init : goal.slots-init
slots-init g c = (begun (get c.args.chain.now.slots) c.args.chain.now.index.entries c.args.chain.now.first c.requires.chain.first, tt, omega arith)

pub index-slot-requires : goal.index-slot-requires
index-slot-requires g c =
    let there = there_is (get c.args.chain.now.slots) c.args.chain.now.index.entries c.requires.chain.linked c.slots.at c.in-Some.key c.slots.invariant.0 c.in-Some.is in
    ap is_some there.1

pub returns-then-pass : goal.returns-then-pass
returns-then-pass g c =
    let slot = get c.args.chain.now.slots in
    let es = c.args.chain.now.index.entries in
    let walk = c.slots.invariant.0 in
    let z = c.index-slot.result.now in
    let s = step slot es c.requires.chain.linked c.slots.at c.in-Some.key walk c.in-Some.is z c.index-slot.ensures in
    let same : post_of z.number c.read-msg.result ≡ posted_of z = ap (post_of z.number) c.read-msg.ensures.message in
    let passes : FnReturnsAt g.F.Fn c.args.pass c.read-msg.result true = search (rules, tests) in
    let size = done_length slot es c.requires.chain.linked c.slots.at walk in (
      length (posted_at slot walk.done),
      is_first (FnReturnsAt g.F.Fn c.args.pass) (posted_at slot walk.done) (posted_at slot s.later) (posted_at slot es) (post_of z.number c.read-msg.result)
          (posted_parts slot es c.requires.chain.linked c.slots.at walk c.in-Some.key z c.index-slot.ensures s ∙ ap (λ (p : Posted). posted_at slot walk.done ++ p ∷ posted_at slot s.later) (sym same))
          passes c.slots.invariant.1,
      omega (arith, c.read-msg.ensures.step, c.slots.invariant.2, size),
    )

pub slots-smaller : goal.slots-smaller
slots-smaller g c =
    let slot = get c.args.chain.now.slots in
    let es = c.args.chain.now.index.entries in
    let z = c.index-slot.result.now in
    let walk = c.slots.invariant.0 in
    fewer_left slot es c.slots.at c.in-Some.key z c.requires.chain.linked walk (step slot es c.requires.chain.linked c.slots.at c.in-Some.key walk c.in-Some.is z c.index-slot.ensures)

pub slots-preserved : goal.slots-preserved
slots-preserved g c =
    let slot = get c.args.chain.now.slots in
    let es = c.args.chain.now.index.entries in
    let z = c.index-slot.result.now in
    let walk = c.slots.invariant.0 in
    let s = step slot es c.requires.chain.linked c.slots.at c.in-Some.key walk c.in-Some.is z c.index-slot.ensures in
    let read : FnReturnsAt g.F.Fn c.args.pass c.read-msg.result false = search (rules, tests) in
    let fails : FnReturnsAt g.F.Fn c.args.pass z.sealed false = subst (λ (m : Msg). FnReturnsAt g.F.Fn c.args.pass m false) c.read-msg.ensures.message read in
    let P = λ (q : Posted). FnReturnsAt g.F.Fn c.args.pass q.msg false in (
      stepped slot es c.in-Some.key z walk.done walk.todo s,
      subst (AllByRecursion P) (sym (posted_more slot walk.done c.in-Some.key z c.index-slot.ensures)) (all_push P (posted_at slot walk.done) (posted_of z) c.slots.invariant.1 fails),
      omega (arith, c.read-msg.ensures.step, c.slots.invariant.2, length-append walk.done ((z.number, c.in-Some.key) ∷ [])),
    )

pub returns : goal.returns
returns g c =
    let slot = get c.args.chain.now.slots in
    let es = c.args.chain.now.index.entries in
    let walk = c.slots.invariant.0 in
    let all : es ≡ walk.done = ended slot es c.requires.chain.linked c.slots.at walk c.in_default.is in
    let P = λ (q : Posted). FnReturnsAt g.F.Fn c.args.pass q.msg false in (
      All-from_recursion P (posted_at slot es) (subst (λ (ds : List (ℕ × ℕ)). AllByRecursion P (posted_at slot ds)) (sym all) c.slots.invariant.1),
      omega (arith, c.slots.invariant.2, done_length slot es c.requires.chain.linked c.slots.at walk, ap (λ (ds : List (ℕ × ℕ)). length (posted_at slot ds)) all),
    )
