-- What the first answer of a send brings its sender.
use Rattle.std.proofs.Common.{◌≡◌, ◌≢◌, ℕ, Bool, true, false, not, cond, eqb, [], ◌∷◌, ◌++◌, Option, Some, None, refl, ap, ◌∙◌, sym, inl, inr}
use Rattle.std.specs.Prelude.{◌&&◌, ◌⊎◌, is_some, option_map}
use Rattle.std.specs.List.{flat_map}
use Rattle.std.proofs.lemmas.Bool.{false≢true}
use Rattle.std.proofs.lemmas.Bool.Decides.{eqb_tells}
use Rattle.win_num.specs.declared.send.Kind.{Kind}
use Rattle.win_num.specs.declared.send.Kind.TheVariants.{Wait, Timeout, Notify, Callback as WithCallback}
use Rattle.user_model.specs.declared.entry.Setup.{Setup}
use Rattle.user_model.specs.Past.{Past, place_after}
use Rattle.user_model.specs.Places.{has_ended}
use Rattle.user_model.specs.Sends.{SentMsg, Outcome, answer, is_answered, is_callback_kind, is_owed, send, was_called_back}
use Rattle.user_model.specs.SendStories.{was_handed_on}
use Rattle.user_model.specs.Ready.{ReadyMsg, to_call_back, result, result_in}
use Rattle.user_model.proofs.SendStanding.{Standing}
use Rattle.send_state.specs.Standing.{as_told, known_at, known_of, row_of}
use Rattle.send_state.proofs.Entering.{known_of-fresh}
use Rattle.send_state.proofs.CallingBack.{not_called_back}
use Rattle.send_state.proofs.Beginning.{false_if}

pub kind_is : (k : Kind) → is_callback_kind k ≡ true → (p : ℕ) × (extra : ℕ) × (k ≡ WithCallback p extra)
kind_is Wait h = absurd (false≢true h)
kind_is (Timeout flags ms) h = absurd (false≢true h)
kind_is Notify h = absurd (false≢true h)
kind_is (WithCallback p extra) h = (p, extra, refl)

no_result : (past : Past) (x : SentMsg) (k : Kind) → is_callback_kind k ≡ false → result_in past x k ≡ []
no_result past x Wait h = refl
no_result past x (Timeout flags ms) h = refl
no_result past x Notify h = refl
no_result past x (WithCallback p extra) h = absurd (false≢true (sym h))

pub and_true : (a b : Bool) → (a && b) ≡ true → (a ≡ true) × (b ≡ true)
and_true true b h = (refl, h)
and_true false b h = absurd (false≢true h)

pub not_true : (b : Bool) → not b ≡ true → b ≡ false
not_true true h = absurd (false≢true h)
not_true false h = refl

pub and_last : (a : Bool) → (a && true) ≡ a
and_last true = refl
and_last false = refl

module _ (setup : Setup) (past : Past) (f : ℕ) (x : SentMsg) (standing : Standing setup past) (found : send past f ≡ Some x) (unanswered : answer past f ≡ None) where
  number : x.number ≡ f
  number = (standing.sent f x found).is_number

  pub unanswered_x : is_answered past x.number ≡ false
  unanswered_x = ap (λ n. is_answered past n) number ∙ ap (λ (o : Option Outcome). is_some o) unanswered

  pub row-before : known_at past f ≡ Some (record { row = row_of x; answer = None; owed = is_owed past x })
  row-before =
      ap (known_of past) found ∙ known_of-fresh past x unanswered_x
      ∙ ap (λ (o : Option Outcome). Some (record { row = row_of x; answer = option_map as_told o; owed = is_owed past x })) (ap (answer past) number ∙ unanswered)

  uncalled : was_called_back past x ≡ false
  uncalled = not_called_back past x (false_if (was_handed_on past x.number) (λ h. false≢true (sym unanswered_x ∙ (standing.handed x.number h).1)))

  pub owes : x.is_inside ≡ false → is_owed past x ≡ (is_callback_kind x.kind && not (has_ended past x.from))
  owes outside =
      ap (λ b. is_callback_kind x.kind && (not b && (not (has_ended past x.from) && not (was_called_back past x)))) outside
      ∙ ap (λ b. is_callback_kind x.kind && (not (has_ended past x.from) && not b)) uncalled
      ∙ ap (λ b. is_callback_kind x.kind && b) (and_last (not (has_ended past x.from)))

  abbrev message : ℕ → ℕ → ReadyMsg
  message p extra = to_call_back x p extra (place_after past)

  -- a result that is owed comes to the sender
  pub one_comes : (p extra : ℕ) → x.is_inside ≡ false → x.kind ≡ WithCallback p extra → has_ended past x.from ≡ false → (t : ℕ) → flat_map (λ y. result past y) (cond (eqb x.from t && not (has_ended past t)) (x ∷ []) []) ≡ cond (eqb x.from t) (message p extra ∷ []) []
  one_comes p extra outside kind lives t = elim (eqb_tells x.from t) [
    | inl same ↦
        ap (λ b. flat_map (λ y. result past y) (cond (b && not (has_ended past t)) (x ∷ []) [])) same.0
        ∙ ap (λ b. flat_map (λ y. result past y) (cond (not b) (x ∷ []) [])) (ap (has_ended past) (sym same.1) ∙ lives)
        ∙ ap (λ b. cond b [] (result_in past x x.kind) ++ []) outside ∙ ap (λ k. result_in past x k ++ []) kind
        ∙ sym (ap (λ b. cond b (message p extra ∷ []) []) same.0)
    | inr differ ↦ ap (λ b. flat_map (λ y. result past y) (cond (b && not (has_ended past t)) (x ∷ []) [])) differ.0 ∙ sym (ap (λ b. cond b (message p extra ∷ []) []) differ.0)
  ]

  -- and none that isn't
  pub none_comes : is_owed past x ≡ false → (t : ℕ) → flat_map (λ y. result past y) (cond (eqb x.from t && not (has_ended past t)) (x ∷ []) []) ≡ []
  none_comes unowed t = either_way x.is_inside refl where
    either : (b : Bool) → result past x ≡ [] → flat_map (λ y. result past y) (cond b (x ∷ []) []) ≡ []
    either true none = ap (λ l. l ++ []) none
    either false none = refl

    by : x.is_inside ≡ false → (b : Bool) → is_callback_kind x.kind ≡ b → ((eqb x.from t ≡ true) × (x.from ≡ t)) ⊎ ((eqb x.from t ≡ false) × (x.from ≢ t)) → flat_map (λ y. result past y) (cond (eqb x.from t && not (has_ended past t)) (x ∷ []) []) ≡ []
    by outside false k how = either (eqb x.from t && not (has_ended past t)) (ap (λ b. cond b [] (result_in past x x.kind)) outside ∙ no_result past x x.kind k)
    by outside true k (inr differ) = ap (λ b. flat_map (λ y. result past y) (cond (b && not (has_ended past t)) (x ∷ []) [])) differ.0
    by outside true k (inl same) =
        let gone : not (has_ended past x.from) ≡ false = sym (ap (λ b. b && not (has_ended past x.from)) k) ∙ sym (owes outside) ∙ unowed in
        ap (λ b. flat_map (λ y. result past y) (cond (b && not (has_ended past t)) (x ∷ []) [])) same.0
        ∙ ap (λ b. flat_map (λ y. result past y) (cond b (x ∷ []) [])) (ap (λ n. not (has_ended past n)) (sym same.1) ∙ gone)

    either_way : (b : Bool) → x.is_inside ≡ b → flat_map (λ y. result past y) (cond (eqb x.from t && not (has_ended past t)) (x ∷ []) []) ≡ []
    either_way true inside = either (eqb x.from t && not (has_ended past t)) (ap (λ b. cond b [] (result_in past x x.kind)) inside)
    either_way false outside = by outside (is_callback_kind x.kind) refl (eqb_tells x.from t)
