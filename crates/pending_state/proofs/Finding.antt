-- What a thread may take of the input that is kept.
use Rattle.std.proofs.Common.{◌≡◌, ℕ, ◌<◌, ◌==◌, Bool, true, false, cond, eqb, List, [], ◌∷◌, length, Some, None, refl, ap, sym, ◌∙◌}
use Rattle.std.specs.Prelude.{◌&&◌, find, is_none, map, nat_le, option_map}
use Rattle.std.specs.List.{AllByRecursion, take_while}
use Rattle.std.proofs.lemmas.List.Sums.{take_while-cons}
use Rattle.win_num.specs.declared.message.Thread.{Thread}
use Rattle.win_num.specs.declared.names.TheConstants.{WM_MOUSEMOVE}
use Rattle.input_queue.specs.declared.element.Element.{Element as KeptElement}
use Rattle.input_queue.specs.Elements as queue
use Rattle.user_model.specs.declared.entry.Setup.{Setup}
use Rattle.user_model.specs.Past.{Past}
use Rattle.user_model.specs.Inputs.{Element, Injection, home_of, message_in, replaced_by, untaken, untaken_of}
use Rattle.user_model.specs.ReplyInput.{has_no_place}
use Rattle.pending_state.specs.Pending.{kept, IsGroupOf, untaken_at}
use Rattle.pending_state.proofs.Kept.{last_move-kept, length_mapped, of_group-kept}

-- the elements up to the first that is another thread's, as they are kept and as they are
abbrev yielded_kept : Thread → (KeptElement → Thread) → List Element → List KeptElement
yielded_kept t target_of xs = take_while (λ y. (target_of y).0 == t.0) (map kept xs)

abbrev yielded : Thread → (Element → ℕ) → List Element → List Element
yielded t who xs = take_while (λ y. who y == t.0) xs

-- the first of these that passes, and what is told of it
module _ (M : Type 0) (P : Element → Type 0) (t : Thread) (target_of : KeptElement → Thread) (test : KeptElement → Bool) (told : KeptElement → M) (who : Element → ℕ) (pass : Element → Bool) (tell : Element → M)
    (targets : (x : Element) → P x → (target_of (kept x)).0 ≡ who x) (tests : (x : Element) → P x → test (kept x) ≡ pass x) (tells : (x : Element) → P x → told (kept x) ≡ tell x) where
  picked : (b : Bool) (x : Element) (xs : List Element) → P x → option_map told (find test (yielded_kept t target_of xs)) ≡ option_map tell (find pass (yielded t who xs)) → option_map told (cond b (Some (kept x)) (find test (yielded_kept t target_of xs))) ≡ option_map tell (cond b (Some x) (find pass (yielded t who xs)))
  picked true x xs h rest = ap (λ m. Some m) (tells x h)
  picked false x xs h rest = rest

  looked_at : (b : Bool) (x : Element) (xs : List Element) → P x → option_map told (find test (yielded_kept t target_of xs)) ≡ option_map tell (find pass (yielded t who xs)) → option_map told (find test (cond b (kept x ∷ yielded_kept t target_of xs) [])) ≡ option_map tell (find pass (cond b (x ∷ yielded t who xs) []))
  looked_at true x xs h rest = ap (λ b. option_map told (cond b (Some (kept x)) (find test (yielded_kept t target_of xs)))) (tests x h) ∙ picked (pass x) x xs h rest
  looked_at false x xs h rest = refl

  pub first_told : (xs : List Element) → AllByRecursion P xs → option_map told (queue.first_takeable t target_of test (map kept xs)) ≡ option_map tell (find pass (take_while (λ x. who x == t.0) xs))
  first_told [] all = refl
  first_told (x ∷ xs) all =
      ap (λ l. option_map told (find test l)) (take_while-cons (λ y. (target_of y).0 == t.0) (kept x) (map kept xs))
      ∙ ap (λ n. option_map told (find test (cond (eqb n t.0) (kept x ∷ yielded_kept t target_of xs) []))) (targets x all.0)
      ∙ looked_at (eqb (who x) t.0) x xs all.0 (first_told xs all.1)
      ∙ sym (ap (λ l. option_map tell (find pass l)) (take_while-cons (λ y. who y == t.0) x xs))

-- whether an injection has no place
pub lacks_place-kept : (setup : Setup) (past : Past) (i : Injection) (group message : ℕ) → IsGroupOf past (home_of setup past i) group → message ≡ message_in i → AllByRecursion (λ x. x.home < 16) (untaken setup past) → queue.lacks_place message group (untaken_at setup past) ≡ has_no_place setup past i
lacks_place-kept setup past i group message members is low =
    ap (λ n. queue.lacks_place n group (untaken_at setup past)) is
    ∙ ap (λ o. is_none (cond (eqb (message_in i) WM_MOUSEMOVE) o None) && nat_le 512 (length (queue.of_group group (untaken_at setup past)))) (last_move-kept past (home_of setup past i) group (untaken setup past) members low)
    ∙ ap (λ n. is_none (replaced_by setup past (untaken setup past) (Some i)) && nat_le 512 n) (ap length (of_group-kept past (home_of setup past i) group (untaken setup past) members low) ∙ length_mapped kept (untaken_of setup past (home_of setup past i)))
