-- The rank of an entry tells the place at which it became ready, so it tells what became ready since an earlier past.
use Rattle.std.proofs.Common.{◌≡◌, ℕ, ◌<◌, true, false, List, [], ◌∷◌, length, map as each, refl, ap, ◌∙◌, sym, inl, inr, arith}
use Rattle.std.specs.Prelude.{◌||◌, nat_le}
use Rattle.std.specs.List.{list_any}
use Rattle.std.proofs.lemmas.Bool.Decides.{leb_tells, nat_tests}
use Rattle.user_model.specs.declared.entry.Setup.{Setup}
use Rattle.user_model.specs.Past.{Past}
use Rattle.user_model.specs.Ready.{ReadyMsg, place_of, ready}
use Rattle.user_model.specs.Status.{has_send}
use Rattle.send_variants.specs.Lists.{Entry as Item, list_of}
use Rattle.send_state.specs.Parts.{rank}
use Rattle.send_state.specs.Standing.{IsOurs, ListsStand, item, item_as, place_at}

-- the place of a rank
pub rank-place : (place i : ℕ) → i < 1024 → place_at (rank place i) ≡ place
rank-place place i few = omega (arith, few)

-- a rank is no lower than the first of a place where its place is that or a later one
reaches : (place n : ℕ) → nat_le (rank place 0) n ≡ nat_le place (place_at n)
reaches place n = elim (leb_tells place (place_at n)) [
  | inl later ↦ let here = later.1 in let low : nat_le (rank place 0) n ≡ true = grind (arith, nat_tests, here) in low ∙ sym later.0
  | inr before ↦ let here = before.1 in let high : nat_le (rank place 0) n ≡ false = grind (arith, nat_tests, here) in high ∙ sym before.0
]

any-came : (place : ℕ) (es : List Item) (rs : List ReadyMsg) → each item es ≡ each item_as rs → list_any (λ e. nat_le (rank place 0) e.0) es ≡ list_any (λ r. nat_le place (place_of r)) rs
any-came place [] [] e = refl
any-came place [] (r ∷ rs) e = absurd cc
any-came place (x ∷ es) [] e = absurd cc
any-came place (x ∷ es) (r ∷ rs) e =
    let head : item x ≡ item_as r = cc in
    let rest : each item es ≡ each item_as rs = cc in
    ap (λ b. b || list_any (λ y. nat_le (rank place 0) y.0) es) (reaches place x.0 ∙ ap (λ a. nat_le place a.0) head)
    ∙ ap (λ b. nat_le place (place_of r) || b) (any-came place es rs rest)

lowest : (n : ℕ) → nat_le (rank 0 0) n ≡ true
lowest n = grind (arith, nat_tests)

any-entry : (es : List Item) → list_any (λ e. true) es ≡ list_any (λ e. nat_le (rank 0 0) e.0) es
any-entry [] = refl
any-entry (x ∷ es) = sym (ap (λ b. b || list_any (λ y. nat_le (rank 0 0) y.0) es) (lowest x.0))

-- an entry has a rank of the places since an earlier past where something became ready since then
pub came-stands : (setup : Setup) (look past : Past) (lists : List (List Item)) (t : ℕ) → IsOurs setup t → ListsStand setup past lists → list_any (λ e. nat_le (rank (length look) 0) e.0) (list_of lists t) ≡ has_send past t look
came-stands setup look past lists t ours h = any-came (length look) (list_of lists t) (ready past t) (h.ready t ours)

-- there is an entry where something is ready
pub some-stands : (setup : Setup) (past : Past) (lists : List (List Item)) (t : ℕ) → IsOurs setup t → ListsStand setup past lists → list_any (λ e. true) (list_of lists t) ≡ has_send past t []
some-stands setup past lists t ours h = any-entry (list_of lists t) ∙ came-stands setup [] past lists t ours h
