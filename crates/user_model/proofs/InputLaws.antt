-- Untaken input, and which keys are down, at a past with one entry more.
use Rattle.std.proofs.Common.{◌≡◌, ℕ, Bool, true, false, not, cond, eqb, List, [], ◌∷◌, ◌++◌, Some, None, refl, ap, ◌∙◌}
use Rattle.std.specs.Prelude.{◌||◌, ◌&&◌, filter, unwrap_or}
use Rattle.std.proofs.lemmas.List.{append-nil}
use Rattle.user_model.specs.declared.call.Call.{Call}
use Rattle.user_model.specs.declared.entry.Answer.{Answer}
use Rattle.user_model.specs.declared.entry.Answer.TheVariants as answers
use Rattle.user_model.specs.declared.entry.Origin.TheVariants as origins
use Rattle.user_model.specs.declared.entry.Entry.{Entry}
use Rattle.user_model.specs.declared.entry.Setup.{Setup}
use Rattle.user_model.specs.Past.{Past, is_refusal, is_refused}
use Rattle.user_model.specs.Places.{is_end}
use Rattle.user_model.specs.Retrievals.{removes, removed_input, input_got, is_number}
use Rattle.user_model.specs.Focus.{if_among}
use Rattle.user_model.specs.Keys.{change_of, down_after, down_told, last_down}
use Rattle.user_model.specs.Inputs.{Element, injection, elements_by, replaced_by, injects, replaces, still_untaken, untaken}
use Rattle.user_model.proofs.PastLaws.{first_way, other_way}
use Rattle.user_model.proofs.ListLaws.{or-false, filter_every, filter_same}
use Rattle.user_model.proofs.DirtyLaws.{last_says, last_refused}

-- ---- untaken input

-- after an entry that wasn't refused
pub untaken-next : (setup : Setup) (e : Entry) (past : Past) → is_refused e ≡ false → untaken setup (e ∷ past) ≡ still_untaken setup e past (untaken setup past)
untaken-next setup e past h = other_way (is_refused e) (untaken setup past) (still_untaken setup e past (untaken setup past)) h

-- after one that was
pub untaken-refused : (setup : Setup) (e : Entry) (past : Past) → is_refused e ≡ true → untaken setup (e ∷ past) ≡ untaken setup past
untaken-refused setup e past h = first_way (is_refused e) (untaken setup past) (still_untaken setup e past (untaken setup past)) h

-- the elements after an answer: an injection adds one and may take out the move that it replaces, a retrieval may take out the one that
-- it hands out, and the end of a thread takes out those that were meant for it
abbrev pub untaken_after : Setup → Past → ℕ → Call → Answer → List Element → List Element
untaken_after setup before who call (answers.Input k) xs = filter (λ x. not (is_number (replaced_by setup before xs (injection call)) x.number)) xs ++ elements_by setup before k (injection call)
untaken_after setup before who call (answers.Got origins.Input n m) xs = cond (removes call) (filter (λ x. not (eqb n x.number)) xs) xs
untaken_after setup before who call answers.Ended xs = filter (λ x. not (eqb who x.home)) xs
untaken_after setup before who call _ xs = xs

-- whether an element ends with an answer
abbrev ends_with : Setup → Past → ℕ → Call → List Element → Answer → Element → Bool
ends_with setup before who call xs a x = is_number (removed_input a call) x.number || (is_end a && eqb who x.home) || is_number (replaces setup a call before xs) x.number

-- what an answer leaves, and what it adds
abbrev left : Setup → Past → ℕ → Call → List Element → Answer → List Element
left setup before who call xs a = filter (λ x. not (ends_with setup before who call xs a x)) xs ++ injects setup a call before

taken_out : (n : ℕ) (b : Bool) (xs : List Element) → (filter (λ (x : Element). not (is_number (cond b (Some n) None) x.number || false || false)) xs ++ []) ≡ cond b (filter (λ x. not (eqb n x.number)) xs) xs
taken_out n true xs = append-nil (filter (λ (x : Element). not (eqb n x.number || false || false)) xs) ∙ filter_same (λ (x : Element). not (eqb n x.number || false || false)) (λ x. not (eqb n x.number)) (λ x. ap not (or-false (eqb n x.number || false) ∙ or-false (eqb n x.number))) xs
taken_out n false xs = append-nil (filter (λ (x : Element). not false) xs) ∙ filter_every (λ (x : Element). not false) (λ x. refl) xs

all_left : (xs : List Element) → (filter (λ (x : Element). not false) xs ++ []) ≡ xs
all_left xs = append-nil (filter (λ (x : Element). not false) xs) ∙ filter_every (λ (x : Element). not false) (λ x. refl) xs

by_answer : (setup : Setup) (before : Past) (who : ℕ) (call : Call) (xs : List Element) (a : Answer) → (elim (is_refusal a) as (λ _. List Element) [ true ↦ xs | false ↦ left setup before who call xs a ]) ≡ untaken_after setup before who call a xs
by_answer setup before who call xs (answers.Input k) = refl
by_answer setup before who call xs (answers.Got origins.Input n m) = taken_out n (removes call) xs
by_answer setup before who call xs answers.Ended = append-nil (filter (λ (x : Element). not (eqb who x.home || false)) xs) ∙ filter_same (λ (x : Element). not (eqb who x.home || false)) (λ x. not (eqb who x.home)) (λ x. ap not (or-false (eqb who x.home))) xs
by_answer setup before who call xs (answers.Refused code) = refl
by_answer setup before who call xs _ = all_left xs

-- the untaken elements after any entry, from those before it
pub untaken-any : (setup : Setup) (e : Entry) (past : Past) → untaken setup (e ∷ past) ≡ untaken_after setup past e.who.0 e.call e.answer (untaken setup past)
untaken-any setup e past = by_answer setup past e.who.0 e.call (untaken setup past) e.answer

-- ---- keys

-- whether a key is down after an entry that wasn't refused
pub last_down-next : (among : ℕ → Bool) (key : ℕ) (e : Entry) (past : Past) → is_refused e ≡ false → last_down among key (e ∷ past) ≡ unwrap_or (if_among among e.who.0 (down_after key (change_of (input_got e.answer e.call)))) (last_down among key past)
last_down-next among key e past h = last_says (down_told among key) e past false h

-- and after one that was
pub last_down-refused : (among : ℕ → Bool) (key : ℕ) (e : Entry) (past : Past) → is_refused e ≡ true → last_down among key (e ∷ past) ≡ last_down among key past
last_down-refused among key e past h = ap (λ o. unwrap_or o false) (last_refused (down_told among key) e past h)

-- an entry that takes no input leaves it
pub last_down-same : (among : ℕ → Bool) (key : ℕ) (e : Entry) (past : Past) → input_got e.answer e.call ≡ None → last_down among key (e ∷ past) ≡ last_down among key past
last_down-same among key e past h = step (is_refused e) refl
  where
    step : (b : Bool) → is_refused e ≡ b → last_down among key (e ∷ past) ≡ last_down among key past
    step true r = last_down-refused among key e past r
    step false r = last_down-next among key e past r ∙ ap (λ o. unwrap_or (if_among among e.who.0 (down_after key (change_of o))) (last_down among key past)) h
