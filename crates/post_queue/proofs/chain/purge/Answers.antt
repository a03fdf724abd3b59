use Rattle.std.proofs.Common.{Bool, true, false, is_some, refl, ap, subst}
use Rattle.slab.specs.Slab.{get}
use Rattle.win_num.specs.declared.message.Hwnd.{Hwnd}
use Rattle.post_queue.proofs.Walks.{step, there_is}
use Rattle.post_queue.proofs.Purges.{stays, goes, fewer_goes, fewer_stays, purged, purged_fewer, purge_begun}
use Rattle.post_queue.proofs.chain.purge.Goals as goal

pub slots-init : goal.slots-init
slots-init g c = purge_begun (λ (w : Hwnd) (b : Bool). g.F.Fn.post c.args.goes (w, tt) b) c.args.chain.now c.args.chain.now.first c.requires.chain refl

pub index-slot-requires : goal.index-slot-requires
index-slot-requires g c =
    let p = c.slots.invariant in
    let there = there_is (get c.slots.chain.slots) c.slots.chain.index.entries p.chain.linked c.slots.at c.in-Some.key p.walk c.in-Some.is in
    ap is_some there.1

pub take-requires : goal.take-requires
take-requires g c = c.slots.invariant.chain

pub slots-preserved-then-goes : goal.slots-preserved-then-goes
slots-preserved-then-goes g c =
    let R = λ (w : Hwnd) (b : Bool). g.F.Fn.post c.args.goes (w, tt) b in
    let z = c.index-slot.result.now in
    let p = c.slots.invariant in
    let s = step (get c.slots.chain.slots) c.slots.chain.index.entries p.chain.linked c.slots.at c.in-Some.key p.walk c.in-Some.is z c.index-slot.ensures in
    let told : R z.hwnd true = subst (R z.hwnd) c.if-goes.true c.goes.ensures in
    goes R c.args.chain.now c.slots.chain c.slots.at c.in-Some.key z p c.index-slot.ensures s c.take.new.chain c.take.ensures.chain c.take.ensures.parts told

pub slots-smaller-then-goes : goal.slots-smaller-then-goes
slots-smaller-then-goes g c =
    let R = λ (w : Hwnd) (b : Bool). g.F.Fn.post c.args.goes (w, tt) b in
    let z = c.index-slot.result.now in
    let p = c.slots.invariant in
    let s = step (get c.slots.chain.slots) c.slots.chain.index.entries p.chain.linked c.slots.at c.in-Some.key p.walk c.in-Some.is z c.index-slot.ensures in
    fewer_goes R c.args.chain.now c.slots.chain c.slots.at c.in-Some.key z p c.index-slot.ensures s c.take.new.chain c.take.ensures.chain c.take.ensures.parts

pub slots-preserved : goal.slots-preserved
slots-preserved g c =
    let R = λ (w : Hwnd) (b : Bool). g.F.Fn.post c.args.goes (w, tt) b in
    let z = c.index-slot.result.now in
    let p = c.slots.invariant in
    let s = step (get c.slots.chain.slots) c.slots.chain.index.entries p.chain.linked c.slots.at c.in-Some.key p.walk c.in-Some.is z c.index-slot.ensures in
    let told : R z.hwnd false = subst (R z.hwnd) c.if-goes.false c.goes.ensures in
    stays R c.args.chain.now c.slots.chain c.slots.at c.in-Some.key z p c.index-slot.ensures s told

pub slots-smaller : goal.slots-smaller
slots-smaller g c =
    let R = λ (w : Hwnd) (b : Bool). g.F.Fn.post c.args.goes (w, tt) b in
    let z = c.index-slot.result.now in
    let p = c.slots.invariant in
    let s = step (get c.slots.chain.slots) c.slots.chain.index.entries p.chain.linked c.slots.at c.in-Some.key p.walk c.in-Some.is z c.index-slot.ensures in
    fewer_stays R c.args.chain.now c.slots.chain c.slots.at c.in-Some.key z p c.index-slot.ensures s

pub returns-clause-chain : goal.returns-clause-chain
returns-clause-chain g c = c.slots.invariant.chain

pub returns-clause-fewer : goal.returns-clause-fewer
returns-clause-fewer g c = purged_fewer (λ (w : Hwnd) (b : Bool). g.F.Fn.post c.args.goes (w, tt) b) c.args.chain.now c.slots.chain c.slots.at c.slots.invariant c.in_default.is

pub returns-clause-rest : goal.returns-clause-rest
returns-clause-rest g c = λ test told. purged (λ (w : Hwnd) (b : Bool). g.F.Fn.post c.args.goes (w, tt) b) c.args.chain.now c.slots.chain c.slots.at c.slots.invariant c.in_default.is test told
