use Rattle.std.proofs.Common.{◌≡◌, Bool, drop}
use Rattle.std.specs.Prelude.{◌&&◌, nat_lt}
use Rattle.std.specs.List.{list_any}
use Rattle.input_queue.specs.declared.element.Element.{Element}
use Rattle.input_queue.specs.Elements.{Answers}
use Rattle.input_queue.proofs.row.Row.has_above.Given as goal

abbrev pub invariant-loop-at : goal.invariant-loop-at
invariant-loop-at g l =
    (test : Element → Bool) → Answers g.F.Fn test l.pass → list_any (λ x. nat_lt l.number x.number && test x) (drop l.at l.self) ≡ list_any (λ x. nat_lt l.number x.number && test x) l.self
