use Rattle.clip_board.proofs.TraceLaws.{carry, sends_done, sends_on, sending_accepts}
use Rattle.clip_board.specs.Traces.{sending, behind_of}
use Rattle.clip_board.proofs.errand.sends.Goals as goal

pub returns-in-Done-clause-follows : goal.returns-in-Done-clause-follows
returns-in-Done-clause-follows c s n ps st l =
    carry s n (sending c.args.errand ps st) (behind_of c.args.errand) c.behind_send.result c.behind_send.ensures (sends_done s n c.args.errand c.args.send.stage c.args.next ps st c.in-Done.r c.in-Done.err c.in-Done.is l)

pub returns-in_default : goal.returns-in_default
returns-in_default c = record {
  follows = λ s n ps st l. sends_on s n c.args.errand c.args.send c.args.next ps st c.in_default.not-Done l;
  accepts = λ g h. sending_accepts c.args.errand c.args.send c.args.next g c.requires h;
}
