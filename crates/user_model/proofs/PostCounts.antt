-- How many posts there are.
use Rattle.std.proofs.Common.{◌≡◌, ℕ, ◌+◌, ◌≤◌, Bool, true, false, List, [], ◌∷◌, ◌++◌, length, refl, ap, arith}
use Rattle.std.proofs.lemmas.List.{append-nil, length-append}
use Rattle.user_model.specs.declared.entry.Answer.{Answer}
use Rattle.user_model.specs.declared.entry.Answer.TheVariants as answers
use Rattle.user_model.specs.declared.entry.Entry.{Entry}
use Rattle.user_model.specs.Past.{Past, is_refusal}
use Rattle.user_model.specs.Posts.{number_of_post, posts}

-- whether the answer numbers a post
abbrev pub is_post : Answer → Bool
is_post (answers.Posted k) = true
is_post _ = false

-- the number of posts after an answer
abbrev pub count_after : Answer → ℕ → ℕ
count_after (answers.Posted k) n = n + 1
count_after _ n = n

counted : (a : Answer) (numbers : List ℕ) → length (elim (is_refusal a) as (λ b. List ℕ) [ true ↦ numbers | false ↦ numbers ++ number_of_post a ]) ≡ count_after a (length numbers)
counted (answers.Posted k) numbers = length-append numbers (k ∷ [])
counted (answers.Refused code) numbers = refl
counted _ numbers = ap length (append-nil numbers)

pub count-next : (e : Entry) (past : Past) → length (posts (e ∷ past)) ≡ count_after e.answer (length (posts past))
count-next e past = counted e.answer (posts past)

pub count_grows : (a : Answer) (n : ℕ) → n ≤ count_after a n
count_grows (answers.Posted k) n = omega arith
count_grows _ n = omega arith

count_steps : (a : Answer) (n : ℕ) → count_after a n ≤ n + 1
count_steps (answers.Posted k) n = omega arith
count_steps _ n = omega arith

-- there are at most as many posts as entries
pub count_bound : (past : Past) → length (posts past) ≤ length past
count_bound [] = omega arith
count_bound (e ∷ past) = omega (arith, count_bound past, count-next e past, count_steps e.answer (length (posts past)))
