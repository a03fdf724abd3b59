-- What the words ask for.
use Rattle.std.specs.Prelude.{◌≡◌, ◌≢◌, ◌⊎◌, ℕ, ◌<◌, ◌≤◌, List, [], ◌∷◌, codes, decimal}
use Rattle.user_app.specs.declared.request.LogForm.{LogForm}
use Rattle.user_app.specs.declared.request.LogForm.TheVariants.{Plain, Json}
use Rattle.user_app.specs.declared.request.Request.{Request}
use Rattle.user_app.specs.declared.request.Request.TheVariants as requests

-- a run of the script in the input, whose log is written in this form
abbrev pub run_words : LogForm → List (List ℕ)
run_words Plain = codes "run" ∷ []
run_words Json = codes "run" ∷ codes "--json" ∷ []

-- a run of the script that is made from a number, which is in decimal
abbrev pub make_words : ℕ → List (List ℕ)
make_words n = codes "make" ∷ decimal n ∷ []

-- a check of the log in the input
abbrev pub check_words : List (List ℕ)
check_words = codes "check" ∷ []

-- a run of the script in the input by so many groups of threads, which are in decimal
abbrev pub threads_words : ℕ → List (List ℕ)
threads_words n = codes "threads" ∷ decimal n ∷ []

-- a run of the script in the input, in whatever form
abbrev pub AskToRun : List (List ℕ) → Type 0
AskToRun words = (form : LogForm) × (words ≡ run_words form)

-- whatever reads the input
abbrev pub AskToRead : List (List ℕ) → Type 0
AskToRead words = AskToRun words ⊎ (words ≡ check_words)

-- the number is from 1 to 60,000
pub record IsMake (words : List (List ℕ)) (n : ℕ) : Type 0 where
  pub some : 0 < n
  pub few : n ≤ 60000
  pub words_are : words ≡ make_words n

-- the groups are 1 to 15
pub record IsThreads (words : List (List ℕ)) (n : ℕ) : Type 0 where
  pub some : 0 < n
  pub few : n ≤ 15
  pub words_are : words ≡ threads_words n

-- a run by groups of threads
abbrev pub AskForThreads : List (List ℕ) → Type 0
AskForThreads words = (n : ℕ) × IsThreads words n

-- a run by turns, a check, or the run of a script that is made
abbrev pub AskPlain : List (List ℕ) → Type 0
AskPlain words = AskToRead words ⊎ ((n : ℕ) × IsMake words n)

-- none of these
pub record AskNothing (words : List (List ℕ)) : Type 0 where
  pub no_run : words ≢ run_words Plain
  pub no_json : words ≢ run_words Json
  pub no_check : words ≢ check_words
  pub no_make : (n : ℕ) → IsMake words n → ⊥
  pub no_threads : (n : ℕ) → IsThreads words n → ⊥

-- the words are those of the request
abbrev pub AskFor : List (List ℕ) → Request → Type 0
AskFor words (requests.Run form) = words ≡ run_words form
AskFor words (requests.Make n) = IsMake words n
AskFor words requests.Check = words ≡ check_words
AskFor words (requests.Threads n) = IsThreads words n
AskFor words requests.Nothing = AskNothing words
