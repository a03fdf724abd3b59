-- The line for people on an input that is refused.
use Rattle.std.specs.Prelude.{◌≡◌, ◌⊎◌, ℕ, List}
use Rattle.script_text.specs.declared.fault.ReadFault.TheVariants as reads
use Rattle.script_text.specs.declared.fault.Refusal.{Refusal}
use Rattle.script_text.specs.Refusals.{HasCause}
use Rattle.input_hints.specs.Hints.{hint_text}
use Rattle.user_app.specs.Inputs.{IsNoPair}
use Rattle.user_app.specs.Requests.{AskToRun, AskForThreads, check_words}

-- the line shows where the text is bad, which a refusal for this cause tells
pub record Shows (Cause : Refusal → Type 0) (text line : List ℕ) : Type 0 where
  pub refusal : Refusal
  pub cause : Cause refusal
  pub expected : List ℕ
  pub written : line ≡ hint_text text refusal expected

-- that of a text which is no script
abbrev pub ShowsBadScript : List ℕ → List ℕ → Type 0
ShowsBadScript text line = Shows (λ refusal. HasCause text (reads.Refused refusal)) text line

-- that of a text which is no script with a log
abbrev pub ShowsBadPair : List ℕ → List ℕ → Type 0
ShowsBadPair text line = Shows (IsNoPair text) text line

-- for a run the text is to be a script, for a check a script with a log
abbrev pub ShowsMistake : List (List ℕ) → List ℕ → List ℕ → Type 0
ShowsMistake words text line = ((AskToRun words ⊎ AskForThreads words) × ShowsBadScript text line) ⊎ ((words ≡ check_words) × ShowsBadPair text line)
