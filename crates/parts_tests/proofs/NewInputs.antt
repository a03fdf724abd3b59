-- Elements of input below a number.
use Rattle.std.proofs.Common.{◌≡◌, ℕ, ◌+◌, ◌<◌, ◌==◌, Bool, not, List, All, Option, Some, None, Result, Ok, Err, OnOk, OnErr, arith}
use Rattle.std.specs.Prelude.{filter}
use Rattle.std.proofs.lemmas.List.Elements.{All-filter, All-push, All-weaker}
use Rattle.input_queue.specs.declared.element.Element.{Element}
use Rattle.input_queue.specs.Elements.{without_replaced, with_element, replaced}

-- what stays beside a new element is below it
below_kept : (number : Option ℕ) (e : Element) (elements : List Element) → All (λ x. x.number < e.number) elements → All (λ x. x.number < e.number) (without_replaced number elements)
below_kept None e elements below = below
below_kept (Some number) e elements below = All-filter (λ x. not (x.number == number)) (λ x. x.number < e.number) elements below

-- with a new element all are below the next number
below_with : (e : Element) (group : ℕ) (elements : List Element) → All (λ x. x.number < e.number) elements → All (λ x. x.number < e.number + 1) (with_element e group elements)
below_with e group elements below =
    All-push (λ x. x.number < e.number + 1) (without_replaced (replaced e group elements) elements) e
    (All-weaker (λ x. x.number < e.number) (λ x. x.number < e.number + 1) (λ x h. omega arith) _ (below_kept (replaced e group elements) e elements below)) (omega arith)

-- and so after an `add`, whatever it answers
pub below_after : {A E : Type 0} (elements left : List Element) (e : Element) (group : ℕ) (answer : Result A E) → OnOk answer (left ≡ with_element e group elements) → OnErr answer (left ≡ elements) → All (λ x. x.number < e.number) elements → All (λ x. x.number < e.number + 1) left
below_after elements left e group (Ok _) ok err below = rw ok (below_with e group elements below)
below_after elements left e group (Err _) ok err below = rw err (All-weaker (λ x. x.number < e.number) (λ x. x.number < e.number + 1) (λ x h. omega arith) elements below)

-- all are below the next number
pub below_next : (number : ℕ) (elements : List Element) → All (λ x. x.number < number) elements → All (λ x. x.number < number + 1) elements
below_next number elements below = All-weaker (λ x. x.number < number) (λ x. x.number < number + 1) (λ x h. omega arith) elements below

-- and those that pass are too
pub below_left : (passes : Element → Bool) (number : ℕ) (elements : List Element) → All (λ x. x.number < number) elements → All (λ x. x.number < number + 1) (filter passes elements)
below_left passes number elements below = All-filter passes (λ x. x.number < number + 1) elements (below_next number elements below)
