-- A send's story keeps the order of the law.
use Rattle.std.proofs.Common.{◌≡◌, ◌<◌, ℕ, Bool, true, false, cond, List, [], ◌∷◌, Option, Some, None, refl, ap, subst}
use Rattle.std.specs.Prelude.{is_some, option_map}
use Rattle.std.specs.List.{AllByRecursion}
use Rattle.user_model.specs.Past.{Past, first}
use Rattle.user_model.specs.Sends.{Outcome, answer, send}
use Rattle.user_model.specs.SendStories.{IsSendStory, entries}
use Rattle.user_model.specs.Stories.{no_story, send_story, story_of}

abbrev value : Option ℕ → ℕ
value None = 0
value (Some n) = n

-- the first entering stands before the answer
before : (p q : ℕ) (l : List ℕ) (o : Option Outcome) → ((a : Outcome) → o ≡ Some a → AllByRecursion (λ n. n < a.place) l) → first l ≡ Some p → option_map (λ a. a.place) o ≡ Some q → p < q
before p q [] o all entered answered = absurd cc
before p q (n ∷ l) None all entered answered = absurd cc
before p q (n ∷ l) (Some a) all entered answered = subst (λ m. m < q) (ap value entered) (subst (λ m. n < m) (ap value answered) (all a refl).0)

pub entered_first : (past : Past) (s p q : ℕ) → IsSendStory past s → (send_story past s).entered_at ≡ Some p → (send_story past s).answered_at ≡ Some q → p < q
entered_first past s p q law entered answered = by (is_some (send past s)) entered answered
  where
    by : (b : Bool) → (cond b (story_of past s) no_story).entered_at ≡ Some p → (cond b (story_of past s) no_story).answered_at ≡ Some q → p < q
    by true e a = before p q (entries past s) (answer past s) law.entered_before e a
    by false e a = absurd cc
