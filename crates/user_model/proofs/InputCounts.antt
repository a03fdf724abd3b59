-- How many inputs there are.
use Rattle.std.proofs.Common.{◌≡◌, ℕ, ◌+◌, ◌≤◌, true, false, List, [], ◌∷◌, ◌++◌, length, refl, ap, arith}
use Rattle.std.proofs.lemmas.List.{append-nil, length-append}
use Rattle.user_model.specs.declared.entry.Answer.{Answer}
use Rattle.user_model.specs.declared.entry.Answer.TheVariants as answers
use Rattle.user_model.specs.declared.entry.Entry.{Entry}
use Rattle.user_model.specs.Past.{Past, is_refusal}
use Rattle.user_model.specs.Inputs.{number_of_input, inputs}

-- the number of inputs after an answer
abbrev pub inputs_after : Answer → ℕ → ℕ
inputs_after (answers.Input k) n = n + 1
inputs_after _ n = n

counted : (a : Answer) (numbers : List ℕ) → length (elim (is_refusal a) as (λ b. List ℕ) [ true ↦ numbers | false ↦ numbers ++ number_of_input a ]) ≡ inputs_after a (length numbers)
counted (answers.Input k) numbers = length-append numbers (k ∷ [])
counted (answers.Refused code) numbers = refl
counted _ numbers = ap length (append-nil numbers)

pub inputs-next : (e : Entry) (past : Past) → length (inputs (e ∷ past)) ≡ inputs_after e.answer (length (inputs past))
inputs-next e past = counted e.answer (inputs past)

pub inputs_grow : (a : Answer) (n : ℕ) → n ≤ inputs_after a n
inputs_grow (answers.Input k) n = omega arith
inputs_grow _ n = omega arith

inputs_step : (a : Answer) (n : ℕ) → inputs_after a n ≤ n + 1
inputs_step (answers.Input k) n = omega arith
inputs_step _ n = omega arith

-- there are at most as many inputs as entries
pub inputs_bound : (past : Past) → length (inputs past) ≤ length past
inputs_bound [] = omega arith
inputs_bound (e ∷ past) = omega (arith, inputs_bound past, inputs-next e past, inputs_step e.answer (length (inputs past)))
