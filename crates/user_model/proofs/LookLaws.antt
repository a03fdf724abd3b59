-- The last look of a thread: at a past with one entry more, and as one of the pasts that there were before.
use Rattle.std.proofs.Common.{◌≡◌, ℕ, suc, ◌<◌, ◌≤◌, Bool, true, false, cond, eqb, List, [], ◌∷◌, length, Some, None, refl, ap, ◌∙◌, sym, subst, inl, inr, arith}
use Rattle.std.specs.Prelude.{◌⊎◌, ◌&&◌, ◌||◌, nat_le, nat_lt, unwrap_or}
use Rattle.std.specs.List.{AllByRecursion, list_any}
use Rattle.std.proofs.lemmas.Bool.Decides.{nat_tests}
use Rattle.user_model.specs.declared.entry.Entry.{Entry}
use Rattle.user_model.specs.declared.entry.Setup.{Setup}
use Rattle.user_model.specs.Past.{Past, is_refused}
use Rattle.user_model.specs.Places.{clock}
use Rattle.user_model.specs.Posts.{posts}
use Rattle.user_model.specs.Inputs.{inputs}
use Rattle.user_model.specs.Since.{IsTail}
use Rattle.user_model.specs.Status.{is_look, looked, last_look}
use Rattle.user_model.specs.Legal.{IsLawful}
use Rattle.user_model.proofs.DirtyLaws.{last_says, last_refused}
use Rattle.user_model.proofs.PostCounts.{count-next, count_grows}
use Rattle.user_model.proofs.InputCounts.{inputs-next, inputs_grow}
use Rattle.user_model.proofs.TimeLaws.{clock_rises}

-- ---- one entry more

-- whether the entry is a look of t
abbrev pub is_look_of : ℕ → Entry → Bool
is_look_of t e = is_look e.call && eqb e.who.0 t

-- an entry that is a look of t is the last
pub last_look-look : (e : Entry) (past : Past) (t : ℕ) → is_refused e ≡ false → is_look_of t e ≡ true → last_look (e ∷ past) t ≡ e ∷ past
last_look-look e past t fine h = last_says (looked t) e past [] fine ∙ ap (λ b. unwrap_or (cond b (Some (e ∷ past)) None) (last_look past t)) h

-- a refused entry is none
pub last_look-refused : (e : Entry) (past : Past) (t : ℕ) → is_refused e ≡ true → last_look (e ∷ past) t ≡ last_look past t
last_look-refused e past t h = ap (λ o. unwrap_or o []) (last_refused (looked t) e past h)

-- and so is one that isn't a look of t
pub last_look-other : (e : Entry) (past : Past) (t : ℕ) → is_look_of t e ≡ false → last_look (e ∷ past) t ≡ last_look past t
last_look-other e past t h = by (is_refused e) refl
  where
    by : (b : Bool) → is_refused e ≡ b → last_look (e ∷ past) t ≡ last_look past t
    by true r = last_look-refused e past t r
    by false r = last_says (looked t) e past [] r ∙ ap (λ b. unwrap_or (cond b (Some (e ∷ past)) None) (last_look past t)) h

-- ---- a past that there was before

-- the past up to the last look is one
pub look_is_tail : (past : Past) (t : ℕ) → IsTail (last_look past t) past
look_is_tail [] t = refl
look_is_tail (e ∷ past) t = by (is_refused e) refl (is_look_of t e) refl (look_is_tail past t)
  where
    by : (b : Bool) → is_refused e ≡ b → (c : Bool) → is_look_of t e ≡ c → IsTail (last_look past t) past → (last_look (e ∷ past) t ≡ e ∷ past) ⊎ IsTail (last_look (e ∷ past) t) past
    by true r c h rest = inr (subst (λ l. IsTail l past) (sym (last_look-refused e past t r)) rest)
    by false r false h rest = inr (subst (λ l. IsTail l past) (sym (last_look-other e past t h)) rest)
    by false r true h rest = inl (last_look-look e past t r h)

-- and so is the empty one
pub start_is_tail : (past : Past) → IsTail [] past
start_is_tail [] = refl
start_is_tail (e ∷ past) = inr (start_is_tail past)

-- it is lawful where the past is
pub tail_lawful : (setup : Setup) (look past : Past) → IsTail look past → IsLawful setup past → IsLawful setup look
tail_lawful setup look [] tail lawful = subst (IsLawful setup) (sym tail) tt
tail_lawful setup look (e ∷ past) tail lawful = elim tail [
  | inl same ↦ subst (IsLawful setup) (sym same) lawful
  | inr rest ↦ tail_lawful setup look past rest lawful.0
]

-- what no entry makes less was no more then
pub tail_least : (setup : Setup) (count : Past → ℕ) → ((e : Entry) (past : Past) → IsLawful setup (e ∷ past) → count past ≤ count (e ∷ past)) → (look past : Past) → IsTail look past → IsLawful setup past → count look ≤ count past
tail_least setup count grows look [] tail lawful = subst (λ l. count l ≤ count []) (sym tail) (omega arith)
tail_least setup count grows look (e ∷ past) tail lawful = elim tail [
  | inl same ↦ subst (λ l. count l ≤ count (e ∷ past)) (sym same) (omega arith)
  | inr rest ↦ let before = tail_least setup count grows look past rest lawful.0 in let more = grows e past lawful in omega (arith, before, more)
]

longer : (setup : Setup) (e : Entry) (past : Past) → IsLawful setup (e ∷ past) → length past ≤ length (e ∷ past)
longer setup e past lawful = omega arith

-- it is no longer
pub tail_shorter : (setup : Setup) (look past : Past) → IsTail look past → IsLawful setup past → length look ≤ length past
tail_shorter setup look past tail lawful = tail_least setup length (longer setup) look past tail lawful

-- how many posts a past has, and how many inputs
abbrev pub post_count : Past → ℕ
post_count past = length (posts past)

abbrev pub input_count : Past → ℕ
input_count past = length (inputs past)

pub posts_grow : (setup : Setup) (e : Entry) (past : Past) → IsLawful setup (e ∷ past) → post_count past ≤ post_count (e ∷ past)
posts_grow setup e past lawful = let step = count-next e past in let more = count_grows e.answer (length (posts past)) in omega (arith, step, more)

pub inputs_grow_on : (setup : Setup) (e : Entry) (past : Past) → IsLawful setup (e ∷ past) → input_count past ≤ input_count (e ∷ past)
inputs_grow_on setup e past lawful = let step = inputs-next e past in let more = inputs_grow e.answer (length (inputs past)) in omega (arith, step, more)

-- it was no later then
pub tail_earlier : (setup : Setup) (look past : Past) → IsTail look past → IsLawful setup past → clock look ≤ clock past
tail_earlier setup look past tail lawful = tail_least setup clock (λ e before l. clock_rises setup before e l) look past tail lawful

-- ---- places and numbers

-- what came at a place and was counted then: at each past that there was it had come where it had been counted
pub record IsDated (count : Past → ℕ) (past : Past) (place number : ℕ) : Type 0 where
  pub early : place < length past
  pub old : number ≤ count past
  pub agrees : (look : Past) → IsTail look past → nat_le (length look) place ≡ nat_lt (count look) number

not_yet : (place number : ℕ) (n m : ℕ) → place < n → number ≤ m → nat_le n place ≡ nat_lt m number
not_yet place number n m h k =
    let early : nat_le n place ≡ false = grind (arith, nat_tests, h) in
    let old : nat_lt m number ≡ false = grind (arith, nat_tests, k) in
    early ∙ sym old

since_then : (place number : ℕ) (n m : ℕ) → n ≤ place → m < number → nat_le n place ≡ nat_lt m number
since_then place number n m h k =
    let late : nat_le n place ≡ true = grind (arith, nat_tests, h) in
    let new : nat_lt m number ≡ true = grind (arith, nat_tests, k) in
    late ∙ sym new

-- it stays so
pub dated_on : (count : Past → ℕ) (e : Entry) (past : Past) (place number : ℕ) → count past ≤ count (e ∷ past) → IsDated count past place number → IsDated count (e ∷ past) place number
dated_on count e past place number grows d = record {
  early = let early = d.early in omega (arith, early);
  old = let old = d.old in omega (arith, old, grows);
  agrees = λ look tail. elim tail [
    | inl same ↦ subst (λ l. nat_le (length l) place ≡ nat_lt (count l) number) (sym same) (not_yet place number (length (e ∷ past)) (count (e ∷ past)) (let early = d.early in omega (arith, early)) (let old = d.old in omega (arith, old, grows)))
    | inr rest ↦ d.agrees look rest
  ];
}

-- what an entry adds comes at its place, with the next number
pub dated_new : (setup : Setup) (count : Past → ℕ) → ((e : Entry) (past : Past) → IsLawful setup (e ∷ past) → count past ≤ count (e ∷ past)) → (e : Entry) (past : Past) (number : ℕ) → IsLawful setup past → count (e ∷ past) ≡ suc (count past) → number ≡ suc (count past) → IsDated count (e ∷ past) (length past) number
dated_new setup count grows e past number lawful counted next = record {
  early = omega arith;
  old = omega (arith, counted, next);
  agrees = λ look tail. elim tail [
    | inl same ↦ subst (λ l. nat_le (length l) (length past) ≡ nat_lt (count l) number) (sym same) (not_yet (length past) number (length (e ∷ past)) (count (e ∷ past)) (omega arith) (omega (arith, counted, next)))
    | inr rest ↦ let shorter = tail_shorter setup look past rest lawful in let fewer = tail_least setup count grows look past rest lawful in since_then (length past) number (length look) (count look) shorter (omega (arith, fewer, next))
  ];
}

-- tests that agree where a fact holds find alike
pub any_agree : {X : Type 0} (P : X → Type 0) (f g : X → Bool) → ((x : X) → P x → f x ≡ g x) → (xs : List X) → AllByRecursion P xs → list_any f xs ≡ list_any g xs
any_agree P f g same [] h = refl
any_agree P f g same (x ∷ xs) h = ap (λ b. b || list_any f xs) (same x h.0) ∙ ap (λ b. g x || b) (any_agree P f g same xs h.1)
