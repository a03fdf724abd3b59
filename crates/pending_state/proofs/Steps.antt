-- The input that is kept after an entry is that of the past with the entry.
use Rattle.std.proofs.Common.{◌≡◌, ℕ, ◌<◌, ◌≤◌, Bool, true, false, not, cond, eqb, List, [], ◌∷◌, ◌++◌, Option, Some, None, refl, ap, sym, subst, ◌∙◌, arith}
use Rattle.std.specs.Prelude.{filter, map, nat_le}
use Rattle.std.specs.List.{AllByRecursion}
use Rattle.std.proofs.lemmas.Bool.{and_parts, leb-true}
use Rattle.win_num.specs.declared.names.TheConstants.{WM_MOUSEMOVE}
use Rattle.win_num.specs.declared.shapes.Point.{Point}
use Rattle.input_queue.specs.declared.element.Element.{Element as KeptElement}
use Rattle.input_queue.specs.Elements as queue
use Rattle.user_model.specs.declared.entry.Answer.{Answer}
use Rattle.user_model.specs.declared.entry.Answer.TheVariants as answers
use Rattle.user_model.specs.declared.entry.Origin.TheVariants as origins
use Rattle.user_model.specs.declared.entry.Entry.{Entry}
use Rattle.user_model.specs.declared.entry.Setup.{Setup}
use Rattle.user_model.specs.Past.{Past}
use Rattle.user_model.specs.Retrievals.{removes, is_number}
use Rattle.user_model.specs.Threads.{is_running}
use Rattle.user_model.specs.Inputs.{Element, Injection, of_mouse, of_key, element_after, elements_by, home_of, injection, message_in, replaced_by, untaken}
use Rattle.user_model.specs.Setups.{IsSetup}
use Rattle.user_model.specs.Idle.{reply}
use Rattle.user_model.specs.Legal.{IsLawful}
use Rattle.user_model.proofs.AnswerFacts.{IsInjected}
use Rattle.user_model.proofs.DeliveryReplies.{injected_told}
use Rattle.user_model.proofs.GroupThreads.{running_is_thread}
use Rattle.user_model.proofs.InputFacts.{IsKept, untaken_kept}
use Rattle.user_model.proofs.InputLaws.{untaken-any, untaken_after}
use Rattle.user_model.proofs.ListLaws.{all_weaker}
use Rattle.user_model.proofs.ReplyLaws.{by_row}
use Rattle.pending_state.specs.declared.changes.Meant.{Meant}
use Rattle.pending_state.specs.Pending.{kept, untaken_at}
use Rattle.pending_state.specs.Changes.{added_as, added_by, element_from, left_by}
use Rattle.pending_state.specs.Meanings.{IsMeantAt, IsMeantBy}
use Rattle.pending_state.proofs.Kept.{last_move-kept, map_joined, without-kept, without_home-kept, without_replaced-kept}

-- a thread that runs has a number below 16
pub low_home : (setup : Setup) (past : Past) (t : ℕ) → IsSetup setup → is_running setup past t ≡ true → t < 16
low_home setup past t s runs =
    let parts = and_parts (nat_le 1 t) (nat_le t setup.threads) (running_is_thread setup past t runs) in
    let high : t ≤ setup.threads = leb-true t setup.threads parts.1 in
    omega (arith, high, s.size.few_threads)

pub low_homes : (setup : Setup) (past : Past) → IsSetup setup → IsLawful setup past → AllByRecursion (λ x. x.home < 16) (untaken setup past)
low_homes setup past s lawful = all_weaker (IsKept setup past) (λ x. x.home < 16) (λ x k. low_home setup past x.home s k.runs) (untaken setup past) (untaken_kept setup past lawful)

-- the new element is that of the past
same_element : (setup : Setup) (past : Past) (meant : Meant) (k : ℕ) (i : Injection) → IsMeantAt setup past i meant → element_from meant k i ≡ kept (element_after setup past k i)
same_element setup past meant k (of_mouse number p) m =
    ap (λ (t : ℕ). let x : KeptElement = record { number = k; home = record { 0 = t }; message = number; key = 0; point = p; time = meant.time } in x) m.home
    ∙ ap (λ (n : ℕ). let x : KeptElement = record { number = k; home = record { 0 = home_of setup past (of_mouse number p) }; message = number; key = 0; point = p; time = n } in x) m.time
same_element setup past meant k (of_key number key) m =
    ap (λ (t : ℕ). let x : KeptElement = record { number = k; home = record { 0 = t }; message = number; key = key; point = meant.cursor; time = meant.time } in x) m.home
    ∙ ap (λ (p : Point). let x : KeptElement = record { number = k; home = record { 0 = home_of setup past (of_key number key) }; message = number; key = key; point = p; time = meant.time } in x) m.cursor
    ∙ ap (λ (n : ℕ). let x : KeptElement = record (kept (element_after setup past k (of_key number key))) { time = n } in x) m.time

message-from : (meant : Meant) (k : ℕ) (i : Injection) → (element_from meant k i).message ≡ message_in i
message-from meant k (of_mouse number p) = refl
message-from meant k (of_key number key) = refl

-- it has its number
pub number-from : (meant : Meant) (k : ℕ) (i : Injection) → (element_from meant k i).number ≡ k
number-from meant k (of_mouse number p) = refl
number-from meant k (of_key number key) = refl

-- it replaces the same one
pub same_replaced : (setup : Setup) (past : Past) (meant : Meant) (k : ℕ) (i : Injection) → IsSetup setup → IsLawful setup past → IsMeantAt setup past i meant → queue.replaced (element_from meant k i) meant.group (untaken_at setup past) ≡ replaced_by setup past (untaken setup past) (Some i)
same_replaced setup past meant k i s lawful m =
    ap (λ n. queue.replaced_in n meant.group (untaken_at setup past)) (message-from meant k i)
    ∙ ap (λ o. cond (eqb (message_in i) WM_MOUSEMOVE) o None) (last_move-kept past (home_of setup past i) meant.group (untaken setup past) m.group (low_homes setup past s lawful))

added : (setup : Setup) (past : Past) (meant : Meant) (k : ℕ) (i : Injection) → IsSetup setup → IsLawful setup past → IsMeantAt setup past i meant
    → queue.with_element (element_from meant k i) meant.group (untaken_at setup past) ≡ map kept (filter (λ x. not (is_number (replaced_by setup past (untaken setup past) (Some i)) x.number)) (untaken setup past) ++ element_after setup past k i ∷ [])
added setup past meant k i s lawful m =
    ap (λ o. queue.without_replaced o (untaken_at setup past) ++ element_from meant k i ∷ []) (same_replaced setup past meant k i s lawful m)
    ∙ ap (λ l. l ++ element_from meant k i ∷ []) (without_replaced-kept (replaced_by setup past (untaken setup past) (Some i)) (untaken setup past))
    ∙ ap (λ x. map kept (filter (λ x. not (is_number (replaced_by setup past (untaken setup past) (Some i)) x.number)) (untaken setup past)) ++ x ∷ []) (same_element setup past meant k i m)
    ∙ sym (map_joined kept (filter (λ x. not (is_number (replaced_by setup past (untaken setup past) (Some i)) x.number)) (untaken setup past)) (element_after setup past k i ∷ []))

injected : (setup : Setup) (past : Past) (meant : Meant) (k : ℕ) (o : Option Injection) (i : Injection) → o ≡ Some i → IsSetup setup → IsLawful setup past → IsMeantAt setup past i meant
    → added_as meant k o (untaken_at setup past) ≡ map kept (filter (λ x. not (is_number (replaced_by setup past (untaken setup past) o) x.number)) (untaken setup past) ++ elements_by setup past k o)
injected setup past meant k o i is s lawful m =
    subst (λ p. added_as meant k p (untaken_at setup past) ≡ map kept (filter (λ x. not (is_number (replaced_by setup past (untaken setup past) p) x.number)) (untaken setup past) ++ elements_by setup past k p)) (sym is) (added setup past meant k i s lawful m)

taken : (n : ℕ) (b : Bool) (xs : List Element) → cond b (queue.without n (map kept xs)) (map kept xs) ≡ map kept (cond b (filter (λ x. not (eqb n x.number)) xs) xs)
taken n true xs = without-kept n xs
taken n false xs = refl

module _ (setup : Setup) (past : Past) (e : Entry) (meant : Meant) (s : IsSetup setup) (lawful : IsLawful setup past) (m : IsMeantBy setup past e.call meant) where
  by_answer : (a : Answer) → a ≡ reply setup past e.who.0 e.call → left_by e.who a e.call (added_by meant a e.call (untaken_at setup past)) ≡ map kept (untaken_after setup past e.who.0 e.call a (untaken setup past))
  by_answer (answers.Input k) right =
      let new : IsInjected setup past e.call k = injected_told setup past e.who.0 e.call k (by_row setup past e.who.0 e.call (answers.Input k) (sym right) refl).is_row in
      injected setup past meant k (injection e.call) new.of new.is_call s lawful (m new.of new.is_call new.is_meant)
  by_answer (answers.Got origins.Input n msg) right = taken n (removes e.call) (untaken setup past)
  by_answer answers.Ended right = without_home-kept e.who.0 (untaken setup past)
  by_answer _ right = refl

  -- the input after an entry
  pub inputs_after : e.answer ≡ reply setup past e.who.0 e.call → left_by e.who e.answer e.call (added_by meant e.answer e.call (untaken_at setup past)) ≡ untaken_at setup (e ∷ past)
  inputs_after right = by_answer e.answer right ∙ ap (map kept) (sym (untaken-any setup e past))
