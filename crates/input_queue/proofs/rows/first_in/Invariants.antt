use Rattle.std.proofs.Common.{Bool}
use Rattle.win_num.specs.declared.message.Thread.{Thread}
use Rattle.input_queue.specs.declared.element.Element.{Element}
use Rattle.input_queue.specs.Elements.{Answers, of_group}
use Rattle.input_queue.specs.Rows.{merged}
use Rattle.input_queue.proofs.Reading.{IsSearch, IsSoFar, unread}
use Rattle.input_queue.proofs.rows.first_in.Given as goal

abbrev pub invariant-elements : goal.invariant-elements
invariant-elements g l =
    IsSearch l.group l.rows l.seen
    (λ left. (target_of : Element → Thread) (test : Element → Bool) → Answers g.T.Fn target_of l.target → Answers g.F.Fn test l.pass →
    IsSoFar l.t target_of test (of_group l.group (merged l.rows)) left l.initial.steps l.steps)

abbrev pub decreases-elements : goal.decreases-elements
decreases-elements g l = unread l.rows l.seen
