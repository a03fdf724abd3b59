-- The answers that give a step of a destruction.
use Rattle.std.proofs.Common.{◌≡◌, ◌≢◌, ℕ, Bool, true, false, refl, ap, ◌∙◌, subst}
use Rattle.std.proofs.lemmas.Bool.{false≢true}
use Rattle.user_model.specs.declared.call.Call.{Call}
use Rattle.user_model.specs.declared.call.Call.TheVariants as calls
use Rattle.user_model.specs.declared.entry.Answer.{Answer}
use Rattle.user_model.specs.declared.entry.Answer.TheVariants as answers
use Rattle.user_model.specs.declared.entry.Setup.{Setup}
use Rattle.user_model.specs.Past.{Past, is_refusal}
use Rattle.user_model.specs.Idle.{reply}
use Rattle.user_model.proofs.ReplyLaws.{is_of_thread, by_row}
use Rattle.user_model.proofs.WindowReplies.{IsUnmade, unmake_told}
use Rattle.user_model.proofs.AnswerFacts.{IsUnmaking, Says}
use Rattle.user_model.proofs.RowFacts.{says_of}

-- whether the answer gives a step
abbrev pub is_step : Answer → Bool
is_step (answers.Tell v) = true
is_step (answers.Last v) = true
is_step _ = false

step_of_thread : (a : Answer) → is_step a ≡ true → is_of_thread a ≡ true
step_of_thread (answers.Tell v) h = refl
step_of_thread (answers.Last v) h = refl
step_of_thread _ h = absurd (false≢true h)

step_no_refusal : (a : Answer) → is_step a ≡ true → is_refusal a ≡ false
step_no_refusal (answers.Tell v) h = refl
step_no_refusal (answers.Last v) h = refl
step_no_refusal _ h = absurd (false≢true h)

step_not_gone : (a : Answer) → is_step a ≡ true → answers.Gone ≢ a
step_not_gone a h e = false≢true (ap is_step e ∙ h)

asked : (setup : Setup) (past : Past) (who : ℕ) (call : Call) (a : Answer) → is_step a ≡ true → Says setup past who call a → IsUnmaking call
asked setup past who call (answers.Tell v) h s = s
asked setup past who call (answers.Last v) h s = s
asked setup past who call _ h s = absurd (false≢true h)

-- a step was given by a call that asks for it
pub step_told : (setup : Setup) (past : Past) (who : ℕ) (call : Call) (a : Answer) → reply setup past who call ≡ a → is_step a ≡ true → (w : ℕ) × (call ≡ calls.Unmake w) × IsUnmade setup past who w a
step_told setup past who call a e h =
    let asks = asked setup past who call a h (says_of setup past who call a (by_row setup past who call a e (step_of_thread a h)).is_row) in
    (asks.0, asks.1, unmake_told setup past who asks.0 a (subst (λ c. reply setup past who c ≡ a) asks.1 e) (step_no_refusal a h) (step_not_gone a h))
