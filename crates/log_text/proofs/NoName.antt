-- Numbers that are beyond all rows of a table, and how long the names of messages are.
use Rattle.std.proofs.Common.{◌≡◌, ℕ, ◌≤◌, ◌<◌, ◌||◌, Bool, true, false, eqb, ltb, List, [], ◌∷◌, Some, None, length, refl, ap, ◌∙◌, arith, cond}
use Rattle.std.specs.Prelude.{Option, find, ◌==◌, option_map, unwrap_or}
use Rattle.std.proofs.lemmas.Bool.{false≢true}
use Rattle.std.proofs.lemmas.Bool.Decides.{nat_tests}
use Rattle.name_table.specs.Rows.{Named, name_in}
use Rattle.name_table.specs.Messages.{message_rows}

-- whether all rows have numbers of 16 bits
abbrev are_small : List Named → Bool
are_small [] = true
are_small (r ∷ rows) = cond (ltb r.number 65536) (are_small rows) false

below : (small rest : Bool) → cond small rest false ≡ true → (small ≡ true) × (rest ≡ true)
below true rest h = (refl, h)
below false rest h = absurd (false≢true h)

all_below : (rows : List Named) (n : ℕ) → are_small rows ≡ true → 65536 ≤ n → find (λ r. r.number == n) rows ≡ None
all_below [] n h above = refl
all_below (r ∷ rows) n h above =
    let parts = below (ltb r.number 65536) (are_small rows) h in
    let miss : eqb r.number n ≡ false = grind (arith, nat_tests, parts.0) in
    ap (λ b. cond b (Some r) (find (λ x. x.number == n) rows)) miss ∙ all_below rows n parts.1 above

-- no message has so large a number
pub no_message : (n : ℕ) → 65536 ≤ n → name_in message_rows n ≡ None
no_message n above = ap (option_map (λ (r : Named). r.name)) (all_below message_rows n refl above)

apart : (low high rest : Bool) → cond low rest (cond high rest false) ≡ true → ((low || high) ≡ true) × (rest ≡ true)
apart true high rest h = (refl, h)
apart false true rest h = (refl, h)
apart false false rest h = absurd (false≢true h)

-- whether all rows have numbers up to 1024 or from 32768 on
abbrev are_outside : List Named → Bool
are_outside [] = true
are_outside (r ∷ rows) = cond (ltb r.number 1025) (are_outside rows) (cond (ltb 32767 r.number) (are_outside rows) false)

all_outside : (rows : List Named) (n : ℕ) → are_outside rows ≡ true → 1024 < n → n < 32768 → find (λ r. r.number == n) rows ≡ None
all_outside [] n h above below = refl
all_outside (r ∷ rows) n h above below =
    let parts = apart (ltb r.number 1025) (ltb 32767 r.number) (are_outside rows) h in
    let miss : eqb r.number n ≡ false = grind (arith, nat_tests, parts.0) in
    ap (λ b. cond b (Some r) (find (λ x. x.number == n) rows)) miss ∙ all_outside rows n parts.1 above below

-- no message between WM_USER and WM_APP has one
pub no_user_message : (n : ℕ) → 1024 < n → n < 32768 → name_in message_rows n ≡ None
no_user_message n above below = ap (option_map (λ (r : Named). r.name)) (all_outside message_rows n refl above below)

-- whether all rows have names of at most 20 bytes
abbrev are_short : List Named → Bool
are_short [] = true
are_short (r ∷ rows) = cond (ltb (length r.name) 21) (are_short rows) false

-- the bytes of the name of a row, or none
abbrev name_bytes : Option Named → List ℕ
name_bytes found = unwrap_or (option_map (λ (r : Named). r.name) found) []

either : (hit : Bool) (r : Named) (rest : Option Named) → length r.name ≤ 20 → length (name_bytes rest) ≤ 20 → length (name_bytes (cond hit (Some r) rest)) ≤ 20
either true r rest own others = own
either false r rest own others = others

all_short : (rows : List Named) (n : ℕ) → are_short rows ≡ true → length (name_bytes (find (λ r. r.number == n) rows)) ≤ 20
all_short [] n h = omega arith
all_short (r ∷ rows) n h =
    let parts = below (ltb (length r.name) 21) (are_short rows) h in
    either (eqb r.number n) r (find (λ x. x.number == n) rows) (grind (arith, nat_tests, parts.0)) (all_short rows n parts.1)

-- no message has a longer name
pub short_name : (n : ℕ) → length (unwrap_or (name_in message_rows n) []) ≤ 20
short_name n = all_short message_rows n refl
