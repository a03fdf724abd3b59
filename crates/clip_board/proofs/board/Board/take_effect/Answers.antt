use Rattle.std.proofs.Common.{sym, subst}
use Rattle.clip_board.specs.Boards.{Follows}
use Rattle.clip_board.proofs.board.Board.take_effect.Goals as goal

pub returns-in-Open-clause-ok : goal.returns-in-Open-clause-ok
returns-in-Open-clause-ok c = subst (λ x. Follows c.args.who x c.args.answer c.args.self.now c.open.new.self) (sym c.in-Open.is) (c.open.ensures c.args.answer)

pub returns-in-Empty-clause-ok : goal.returns-in-Empty-clause-ok
returns-in-Empty-clause-ok c = subst (λ x. Follows c.args.who x c.args.answer c.args.self.now c.empty.new.self) (sym c.in-Empty.is) (c.empty.ensures c.args.answer)

pub returns-in-Close-clause-ok : goal.returns-in-Close-clause-ok
returns-in-Close-clause-ok c = subst (λ x. Follows c.args.who x c.args.answer c.args.self.now c.close.new.self) (sym c.in-Close.is) (c.close.ensures c.args.who c.args.answer)
