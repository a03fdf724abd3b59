use Rattle.std.proofs.Common.{sym, ap, ◌∙◌}
use Rattle.script_tree.specs.Pieces.{Going}
use Rattle.script_tree.specs.Values.{start}
use Rattle.win_calls.specs.Table.{made, started}
use Rattle.clip_board.specs.declared.errand.Stage.TheVariants.{Over}
use Rattle.clip_board.specs.declared.errand.Move.{Move}
use Rattle.clip_board.specs.declared.moves.ClipNext.{ClipNext}
use Rattle.clip_board.specs.Traces.{called, end_of}
use Rattle.clip_board.proofs.TraceLaws.{carry, called_sends, called_ends}
use Rattle.clip_board.proofs.errand.first.Goals as goal

pub returns-in-Some-clause-follows : goal.returns-in-Some-clause-follows
returns-in-Some-clause-follows c s n =
    called_sends s n c.args.errand c.args.answer c.in-Some.call start _ _ (sym c.send_after.ensures ∙ c.in-Some.is)
    (c.sends.ensures.follows s n (made c.in-Some.call) (Going start) (c.next-next.ensures.follows s n (made c.in-Some.call) (made c.in-Some.call) (Going start) (Going start) (c.of-send.ensures.stands start) started))

pub returns-in-None-clause-follows : goal.returns-in-None-clause-follows
returns-in-None-clause-follows c s n =
    let ended : ClipNext → Move = λ x. record { stage = Over; next = x } in
    carry s n (called c.args.errand c.args.answer) (ended (end_of c.args.errand c.args.answer)) c.over.result (c.over.ensures ∙ ap ended c.end.ensures) (called_ends s n c.args.errand c.args.answer (sym c.send_after.ensures ∙ c.in-None.is))
