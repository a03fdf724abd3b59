use Rattle.std.proofs.Common.{◌≡◌, Bool, true, false}
use Rattle.std.specs.Prelude.{◌&&◌, nat_lt}
use Rattle.std.specs.List.{list_any}
use Rattle.input_queue.specs.declared.element.Element.{Element}
use Rattle.input_queue.specs.Elements.{Answers}
use Rattle.input_queue.specs.Rows.{merged}
use Rattle.input_queue.proofs.Reading.{lower}
use Rattle.input_queue.proofs.rows.has_above.Given as goal

abbrev pub invariant-loop-home : goal.invariant-loop-home
invariant-loop-home g l =
    (test : Element → Bool) → Answers g.F.Fn test l.pass → list_any (λ x. nat_lt l.number x.number && test x) (lower (λ _. true) l.home (merged l.rows)) ≡ false
