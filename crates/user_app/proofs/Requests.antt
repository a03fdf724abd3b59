-- Words ask for one thing.
use Rattle.std.proofs.Common.{◌≡◌, inl, inr, ℕ, ◌<◌, ◌^◌, List, [], ◌∷◌, length, refl, sym, ap, ◌∙◌, arith}
use Rattle.std.specs.Prelude.{codes, decimal, Result, Ok}
use Rattle.std.proofs.lemmas.Fmt.{decimal_is_IsNumeral}
use Rattle.std.specs.Str.Parse.{digits_value}
use Rattle.user_app.specs.declared.request.LogForm.{LogForm}
use Rattle.user_app.specs.declared.request.LogForm.TheVariants.{Plain, Json}
use Rattle.user_app.specs.Requests.{AskNothing, AskPlain, AskForThreads, IsMake, IsThreads, make_words, run_words, check_words, threads_words}

same_second : {X : Type 0} (a b c d : X) → a ∷ b ∷ [] ≡ c ∷ d ∷ [] → b ≡ d
same_second a b c d e = cc

-- one number has this text in decimal
same_decimal : (n m : ℕ) → n < 2 ^ 64 → m < 2 ^ 64 → decimal n ≡ decimal m → n ≡ m
same_decimal n m small few e = sym (decimal_is_IsNumeral n small).1 ∙ ap (digits_value 10) e ∙ (decimal_is_IsNumeral m few).1

-- one number is asked for
pub same_number : (words : List (List ℕ)) (n m : ℕ) → IsMake words n → IsMake words m → n ≡ m
same_number words n m a b =
    let both : make_words n ≡ make_words m = sym a.words_are ∙ b.words_are in
    same_decimal n m (omega (arith, a.few)) (omega (arith, b.few)) (same_second (codes "make") (decimal n) (codes "make") (decimal m) both)

pub same_ok : {E : Type 0} (r : Result ℕ E) (n m : ℕ) → r ≡ Ok n → r ≡ Ok m → n ≡ m
same_ok r n m a b = cc

-- one form is asked for
pub same_form : (words : List (List ℕ)) (f g : LogForm) → words ≡ run_words f → words ≡ run_words g → f ≡ g
same_form words Plain Plain a b = refl
same_form words Plain Json a b = cc
same_form words Json Plain a b = cc
same_form words Json Json a b = refl

-- whoever asks for a run doesn't ask for nothing
pub asks_to_run : (words : List (List ℕ)) (form : LogForm) → words ≡ run_words form → AskNothing words → ⊥
asks_to_run words Plain asks none = none.no_run asks
asks_to_run words Json asks none = none.no_json asks

-- whoever asks for a check asks for no run
pub check_no_run : (words : List (List ℕ)) (form : LogForm) → words ≡ check_words → words ≡ run_words form → ⊥
check_no_run words Plain a b = let e : check_words ≡ run_words Plain = sym a ∙ b in absurd cc
check_no_run words Json a b = let e : check_words ≡ run_words Json = sym a ∙ b in absurd cc

pub check_no_make : (words : List (List ℕ)) (n : ℕ) → words ≡ check_words → IsMake words n → ⊥
check_no_make words n a b = let e : check_words ≡ make_words n = sym a ∙ b.words_are in absurd cc

first_word : (a b c d : List ℕ) → a ∷ b ∷ [] ≡ c ∷ d ∷ [] → a ≡ c
first_word a b c d e = cc

-- whoever asks for a run by threads asks for no run by turns
pub run_or_threads : (words : List (List ℕ)) (form : LogForm) (n : ℕ) → words ≡ run_words form → IsThreads words n → ⊥
run_or_threads words Plain n asks threads = let both : run_words Plain ≡ threads_words n = sym asks ∙ threads.words_are in absurd cc
run_or_threads words Json n asks threads =
    let both : run_words Json ≡ threads_words n = sym asks ∙ threads.words_are in
    let first : codes "run" ≡ codes "threads" = first_word (codes "run") (codes "--json") (codes "threads") (decimal n) both in
    absurd (omega (arith, ap (λ (l : List ℕ). length l) first))

-- nor for a check
pub check_no_threads : (words : List (List ℕ)) (n : ℕ) → words ≡ check_words → IsThreads words n → ⊥
check_no_threads words n a b = let e : check_words ≡ threads_words n = sym a ∙ b.words_are in absurd cc

-- nor for a script that is made
pub make_or_threads : (words : List (List ℕ)) (m n : ℕ) → IsMake words m → IsThreads words n → ⊥
make_or_threads words m n made threads =
    let both : make_words m ≡ threads_words n = sym made.words_are ∙ threads.words_are in
    let first : codes "make" ≡ codes "threads" = first_word (codes "make") (decimal m) (codes "threads") (decimal n) both in
    absurd (omega (arith, ap (λ (l : List ℕ). length l) first))

-- whoever asks for a run by threads asks for nothing that is done without them
pub plain_or_threads : (words : List (List ℕ)) → AskPlain words → AskForThreads words → ⊥
plain_or_threads words (inl (inl run)) threads = run_or_threads words run.0 threads.0 run.1 threads.1
plain_or_threads words (inl (inr check)) threads = check_no_threads words threads.0 check threads.1
plain_or_threads words (inr make) threads = make_or_threads words make.0 threads.0 make.1 threads.1

-- whoever asks for that doesn't ask for nothing
pub asks_plain : (words : List (List ℕ)) → AskPlain words → AskNothing words → ⊥
asks_plain words (inl (inl run)) none = asks_to_run words run.0 run.1 none
asks_plain words (inl (inr check)) none = none.no_check check
asks_plain words (inr make) none = none.no_make make.0 make.1
