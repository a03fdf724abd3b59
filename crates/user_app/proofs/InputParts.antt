-- The two parts of an input.
use Rattle.std.proofs.Common.{◌≡◌, ℕ, ◌+◌, ◌<◌, ◌≤◌, Bool, true, false, List, [], ◌∷◌, ◌++◌, length, get_or, take, drop, refl, ap, sym, ◌∙◌, append_assoc, append-nil, arith}
use Rattle.std.specs.Prelude.{◌==◌, ◌&&◌, if◌then◌else◌}
use Rattle.std.proofs.lemmas.List.{take_more, drop_more, take_all, drop_all}
use Rattle.user_app.specs.Parts.{begins_log, before_log, from_log, script_part, log_part}

-- the log begins here
before_stops : (starts : Bool) (text : List ℕ) → (starts && begins_log text) ≡ true → before_log starts text ≡ []
before_stops starts [] hit = refl
before_stops starts (c ∷ text) hit = ap (λ b. if b then [] else c ∷ before_log (c == 10) text) hit

from_stops : (starts : Bool) (text : List ℕ) → (starts && begins_log text) ≡ true → from_log starts text ≡ text
from_stops starts [] hit = refl
from_stops starts (c ∷ text) hit = ap (λ b. if b then c ∷ text else from_log (c == 10) text) hit

-- or it doesn't
before_goes : (starts : Bool) (c : ℕ) (text : List ℕ) → (starts && begins_log (c ∷ text)) ≡ false → before_log starts (c ∷ text) ≡ c ∷ before_log (c == 10) text
before_goes starts c text miss = ap (λ b. if b then [] else c ∷ before_log (c == 10) text) miss

from_goes : (starts : Bool) (c : ℕ) (text : List ℕ) → (starts && begins_log (c ∷ text)) ≡ false → from_log starts (c ∷ text) ≡ from_log (c == 10) text
from_goes starts c text miss = ap (λ b. if b then c ∷ text else from_log (c == 10) text) miss

-- up to a place the log didn't begin
pub record Passed (text : List ℕ) (place : ℕ) (starts : Bool) : Type 0 where
  pub front : script_part text ≡ take place text ++ before_log starts (drop place text)
  pub back : log_part text ≡ from_log starts (drop place text)

pub passed_start : (text : List ℕ) → Passed text 0 true
passed_start text = record { front = refl; back = refl }

pub passed_more : (text : List ℕ) (place : ℕ) (starts : Bool) → place < length text → Passed text place starts → (starts && begins_log (drop place text)) ≡ false → Passed text (place + 1) (get_or text place 0 == 10)
passed_more text place starts lt so_far miss =
    let c : ℕ = get_or text place 0 in
    let rest : List ℕ = drop (place + 1) text in
    let here : drop place text ≡ c ∷ rest = drop_more text place 0 lt in
    let none : (starts && begins_log (c ∷ rest)) ≡ false = ap (λ (l : List ℕ). starts && begins_log l) (sym here) ∙ miss in
    record {
      front =
          so_far.front ∙ ap (λ (l : List ℕ). take place text ++ before_log starts l) here
          ∙ ap (λ (l : List ℕ). take place text ++ l) (before_goes starts c rest none)
          ∙ sym (append_assoc (take place text) (c ∷ []) (before_log (c == 10) rest))
          ∙ ap (λ (l : List ℕ). l ++ before_log (c == 10) rest) (sym (take_more text place 0 lt));
      back = so_far.back ∙ ap (from_log starts) here ∙ from_goes starts c rest none;
    }

pub front_here : (text : List ℕ) (place : ℕ) (starts : Bool) → Passed text place starts → (starts && begins_log (drop place text)) ≡ true → take place text ≡ script_part text
front_here text place starts so_far hit =
    sym (so_far.front ∙ ap (λ (l : List ℕ). take place text ++ l) (before_stops starts (drop place text) hit) ∙ append-nil (take place text))

pub back_here : (text : List ℕ) (place : ℕ) (starts : Bool) → Passed text place starts → (starts && begins_log (drop place text)) ≡ true → drop place text ≡ log_part text
back_here text place starts so_far hit = sym (so_far.back ∙ from_stops starts (drop place text) hit)

pub front_end : (text : List ℕ) (place : ℕ) (starts : Bool) → length text ≤ place → Passed text place starts → take (length text) text ≡ script_part text
front_end text place starts le so_far =
    let all : length text ≤ length text = omega arith in
    let none : drop place text ≡ [] = drop_all place text le in
    take_all (length text) text all ∙ sym (take_all place text le)
    ∙ sym (so_far.front ∙ ap (λ (l : List ℕ). take place text ++ before_log starts l) none ∙ append-nil (take place text))

pub back_end : (text : List ℕ) (place : ℕ) (starts : Bool) → length text ≤ place → Passed text place starts → drop (length text) text ≡ log_part text
back_end text place starts le so_far =
    let all : length text ≤ length text = omega arith in
    let none : drop place text ≡ [] = drop_all place text le in
    drop_all (length text) text all ∙ sym (so_far.back ∙ ap (from_log starts) none)
