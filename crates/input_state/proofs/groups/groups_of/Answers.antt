use Rattle.std.proofs.Common.{◌+◌, ℕ, List, subst, sym, arith}
use Rattle.input_state.specs.Groups.{IsClosure}
use Rattle.input_state.proofs.GroupLemmas.{JoinsBefore, closure_link, closure_no_link, closure_start, closure_end, has_true, has_false}
use Rattle.input_state.proofs.groups.groups_of.Goals as goal
use Rattle.input_state.proofs.groups.groups_of.Goals.{then-has, else-has}

pub loop-k-preserved : goal.loop-k-preserved
loop-k-preserved c =
    let Q : List ℕ → Type 0 = λ g. IsClosure (JoinsBefore c.args.links.now (c.loop-k.k + 1)) g in
    elim c.if-has.branch [
      | then-has w ↦ subst Q (sym w.groups-is) (closure_link c.args.links.now c.loop-k.k _ _ _ _ (omega arith) (omega arith) (omega arith) (has_true _ _ _ c.has.ensures w.if-has.true) c.loop-k.invariant w.joined-groups.ensures)
      | else-has w ↦ subst Q (sym w.groups-is) (closure_no_link c.args.links.now c.loop-k.k _ _ _ (omega arith) (omega arith) (has_false _ _ _ c.has.ensures w.if-has.false) c.loop-k.invariant)
    ]

pub loop-k-init : goal.loop-k-init
loop-k-init c = closure_start c.args.links.now _ c.singles-groups.ensures

pub returns : goal.returns
returns c =
    let Q : ℕ → Type 0 = λ k. IsClosure (JoinsBefore c.args.links.now k) c.loop-k.groups in
    closure_end c.args.links.now _ (subst Q (omega arith) c.loop-k.invariant)
