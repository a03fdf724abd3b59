-- The next place of a list whose number passes.
use Rattle.std.proofs.Common.{◌≡◌, ℕ, ◌+◌, ◌<◌, Bool, true, false, cond, List, length, get_or, drop, Some, refl, ap, ◌∙◌, sym, arith}
use Rattle.std.specs.Prelude.{find}
use Rattle.std.proofs.lemmas.List.{drop_more, drop_all}
use Rattle.std.proofs.lemmas.Option.{slice_get-get_or, slice_get_past}
use Rattle.user_pool.specs.Runs.{behind_first}
use Rattle.user_pool.specs.Moves.{IsNextPlace}

-- no number from one place to another passes
pub record Passes (test : ℕ → Bool) (order : List ℕ) (from place : ℕ) : Type 0 where
  pub find_same : find test (drop from order) ≡ find test (drop place order)
  pub behind_same : behind_first test (drop from order) ≡ behind_first test (drop place order)

pub at_start : (test : ℕ → Bool) (order : List ℕ) (from : ℕ) → Passes test order from from
at_start test order from = record { find_same = refl; behind_same = refl }

-- nor does this one
pub one_more : (test : ℕ → Bool) (order : List ℕ) (from place : ℕ) → place < length order → Passes test order from place → test (get_or order place 0) ≡ false → Passes test order from (place + 1)
one_more test order from place lt before miss = record {
  find_same = before.find_same ∙ ap (find test) (drop_more order place 0 lt) ∙ ap (λ b. cond b (Some (get_or order place 0)) (find test (drop (place + 1) order))) miss;
  behind_same = before.behind_same ∙ ap (behind_first test) (drop_more order place 0 lt) ∙ ap (λ b. cond b (drop (place + 1) order) (behind_first test (drop (place + 1) order))) miss;
}

-- but this one does
pub found_here : (test : ℕ → Bool) (order : List ℕ) (from place : ℕ) → place < length order → Passes test order from place → test (get_or order place 0) ≡ true → IsNextPlace test order from place
found_here test order from place lt before hit = record {
  within = omega arith;
  found = before.find_same ∙ ap (find test) (drop_more order place 0 lt) ∙ ap (λ b. cond b (Some (get_or order place 0)) (find test (drop (place + 1) order))) hit ∙ sym (slice_get-get_or order place 0 lt);
  behind = before.behind_same ∙ ap (behind_first test) (drop_more order place 0 lt) ∙ ap (λ b. cond b (drop (place + 1) order) (behind_first test (drop (place + 1) order))) hit;
}

-- and none does to the end
pub none_here : (test : ℕ → Bool) (order : List ℕ) (from : ℕ) → Passes test order from (length order) → IsNextPlace test order from (length order)
none_here test order from before = record {
  within = omega arith;
  found = before.find_same ∙ ap (find test) (drop_all (length order) order (omega arith)) ∙ sym (slice_get_past order (length order) (omega arith));
  behind = before.behind_same ∙ ap (behind_first test) (drop_all (length order) order (omega arith)) ∙ sym (drop_all (length order + 1) order (omega arith));
}
