-- What one move needs of an empty list, as a test adds it.
use Rattle.std.proofs.Common.{◌≡◌, List, [], refl, sym, subst, arith}
use Rattle.std.specs.Prelude.{pos}
use Rattle.std.proofs.lemmas.Int.{ints}
use Rattle.std.proofs.lemmas.List.Elements.{All-nil}
use Rattle.input_queue.specs.declared.element.Element.{Element as KeptElement}
use Rattle.user_model.specs.declared.call.Call.TheVariants as calls
use Rattle.user_model.specs.declared.entry.Answer.TheVariants as answers
use Rattle.pending_state.specs.declared.changes.Meant.{Meant}
use Rattle.pending_state.specs.Changes.{FitsInjecting}

abbrev pub meant_for_two : Meant
meant_for_two = record { home = record { 0 = 2 }; group = 6; cursor = record { x = pos 0; y = pos 0 }; time = 7 }

pub fits_first : (l : List KeptElement) → l ≡ [] → FitsInjecting meant_for_two l (answers.Input 1) (calls.Mouse 512 (pos 1) (pos 2))
fits_first l e = subst (λ k. FitsInjecting meant_for_two k (answers.Input 1) (calls.Mouse 512 (pos 1) (pos 2))) (sym e) (
  (omega arith, (omega (arith, ints), omega (arith, ints)), (omega (arith, ints), omega (arith, ints))),
  record { later = All-nil _; some_thread = omega arith; few_threads = omega arith; member = refl; room = λ none. omega arith },
)
