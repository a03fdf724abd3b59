use Rattle.std.proofs.Common.{ℕ, List, ◌∷◌, Option, subst}
use Rattle.script_tree.specs.Pieces.{Piece}
use Rattle.win_calls.specs.States.{Below, behind, then_piece}
use Rattle.win_calls.proofs.TurnLaws.{carry, returned_first, returned_later}
use Rattle.win_calls.proofs.turns.returned.Goals as goal

pub returns-in-None-clause-follows : goal.returns-in-None-clause-follows
returns-in-None-clause-follows c s n run p qs v h b =
    let rest : List Piece = then_piece c.args.turn.call c.args.then ∷ behind c.args.turn in
    let P : Option ℕ → Type 0 = λ o. Below rest o qs in
    carry s n _ _ _ _ c.leaves.result c.leaves.ensures.step (returned_first s n c.args.turn c.args.then c.args.value run p qs v h (subst P c.in-None.is b))

pub returns-in-Some-clause-follows : goal.returns-in-Some-clause-follows
returns-in-Some-clause-follows c s n run p qs v h b =
    let rest : List Piece = then_piece c.args.turn.call c.args.then ∷ behind c.args.turn in
    let P : Option ℕ → Type 0 = λ o. Below rest o qs in
    carry s n _ _ _ _ c.leaves-in-Some.result c.leaves-in-Some.ensures.step (returned_later s n c.args.turn c.args.then c.in-Some.earlier c.args.value run p qs v h (subst P c.in-Some.is b))
