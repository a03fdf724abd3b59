-- What an injection needs of the input that is kept, at a lawful past.
use Rattle.std.proofs.Common.{◌≡◌, ℕ, ◌<◌, ◌≤◌, Bool, true, false, eqb, List, [], ◌∷◌, length, Option, Some, None, refl, ap, sym, subst, ◌∙◌, arith}
use Rattle.std.specs.Prelude.{◌&&◌, ◌||◌, ℤ, pos, ◌≤ℤ◌, ◌<ℤ◌, int_le, int_lt, is_none, map, nat_le, nat_lt, All}
use Rattle.std.specs.List.{AllByRecursion}
use Rattle.std.proofs.lemmas.Bool.{and_parts, false≢true, or_parts}
use Rattle.std.proofs.lemmas.Bool.Decides.{nat_tests}
use Rattle.std.proofs.lemmas.Int.{ints}
use Rattle.std.proofs.lemmas.List.Elements.{All-from_recursion}
use Rattle.win_num.specs.PixelSets.{has_pixel}
use Rattle.input_queue.specs.declared.element.Element.{Element as KeptElement}
use Rattle.input_queue.specs.Elements as queue
use Rattle.user_model.specs.declared.call.Call.{Call}
use Rattle.user_model.specs.declared.call.Call.TheVariants as calls
use Rattle.user_model.specs.declared.entry.Answer.{Answer}
use Rattle.user_model.specs.declared.entry.Answer.TheVariants as answers
use Rattle.user_model.specs.declared.entry.Entry.{Entry}
use Rattle.user_model.specs.declared.entry.Setup.{Setup}
use Rattle.user_model.specs.Past.{Past, is_refusal}
use Rattle.user_model.specs.Groups.{Link, attached, reaches}
use Rattle.user_model.specs.Threads.{is_running}
use Rattle.user_model.specs.Pixels.{point, screen}
use Rattle.user_model.specs.Inputs.{Element, home_of, injection, of_group, replaced_by, untaken, untaken_of}
use Rattle.user_model.specs.Targets.{is_of_mouse}
use Rattle.user_model.specs.Setups.{IsSetup}
use Rattle.user_model.specs.Idle.{reply}
use Rattle.user_model.specs.Legal.{IsLawful}
use Rattle.user_model.specs.ReplyInput.{is_no_key, next_input_number}
use Rattle.user_model.proofs.AnswerFacts.{IsInjected}
use Rattle.user_model.proofs.DeliveryReplies.{injected_told}
use Rattle.user_model.proofs.InputFacts.{IsKept, home_runs, untaken_kept}
use Rattle.user_model.proofs.InputReplies.{key_told, mouse_told}
use Rattle.user_model.proofs.ReplyLaws.{by_row}
use Rattle.pending_state.specs.declared.changes.Meant.{Meant}
use Rattle.pending_state.specs.Pending.{kept, untaken_at}
use Rattle.pending_state.specs.Changes.{FitsCursor, FitsInjecting, FitsInjection, FitsMoving, FitsPlace, HasPlace, IsCoordinate, element_from}
use Rattle.pending_state.specs.Meanings.{IsMeantAt, IsMeantBy}
use Rattle.pending_state.proofs.Kept.{length_mapped, of_group-kept}
use Rattle.pending_state.proofs.Steps.{low_home, low_homes, number-from, same_replaced}

-- each thread is in its group
reaches_self : (xs : List Link) (t : ℕ) → reaches xs t t ≡ true
reaches_self [] t = grind (arith, nat_tests)
reaches_self (x ∷ xs) t = ap (λ b. b || (reaches xs t x.one && reaches xs x.other t || reaches xs t x.other && reaches xs x.one t)) (reaches_self xs t)

all_mapped : (k : ℕ) (xs : List Element) → AllByRecursion (λ x. x.number < k) xs → AllByRecursion (λ (y : KeptElement). y.number < k) (map kept xs)
all_mapped k [] h = tt
all_mapped k (x ∷ xs) h = (h.0, all_mapped k xs h.1)

below : (setup : Setup) (past : Past) (k : ℕ) → k ≡ next_input_number past → (xs : List Element) → AllByRecursion (IsKept setup past) xs → AllByRecursion (λ x. x.number < k) xs
below setup past k next [] h = tt
below setup past k next (x ∷ xs) h = (omega (arith, h.0.old, next), below setup past k next xs h.1)

-- a group that has a place has fewer than 512 elements, or one that is replaced
few : (o : Option ℕ) (n : ℕ) → (is_none o && nat_le 512 n) ≡ false → o ≡ None → n < 512
few o n h is = grind (arith, nat_tests, subst (λ p. (is_none p && nat_le 512 n) ≡ false) is h)

-- there is a place for what is injected
pub has_place : (setup : Setup) (past : Past) (meant : Meant) (call : Call) (k : ℕ) (new : IsInjected setup past call k) → IsSetup setup → IsLawful setup past → IsMeantAt setup past new.of meant → HasPlace meant (untaken_at setup past) (element_from meant k new.of)
has_place setup past meant call k new s lawful m =
    let home = home_of setup past new.of in
    let runs : is_running setup past home ≡ true = home_runs setup past new.of lawful new.is_meant in
    let low : home < 16 = low_home setup past home s runs in
    let some : eqb home 0 ≡ false = new.is_meant in
    let member : queue.is_in meant.group meant.home ≡ true = ap (λ t. queue.is_in meant.group (record { 0 = t })) m.home ∙ m.group home low ∙ reaches_self (attached past) home in
    record {
      later = subst (λ (n : ℕ). All (λ (y : KeptElement). y.number < n) (untaken_at setup past)) (sym (number-from meant k new.of)) (All-from_recursion (λ (y : KeptElement). y.number < k) (untaken_at setup past) (all_mapped k (untaken setup past) (below setup past k new.is_next (untaken setup past) (untaken_kept setup past lawful))));
      some_thread = grind (arith, nat_tests, some, m.home);
      few_threads = omega (arith, low, m.home);
      member = member;
      room = λ none. subst (λ n. n < 512) (sym (ap length (of_group-kept past home meant.group (untaken setup past) m.group (low_homes setup past s lawful)) ∙ length_mapped kept (of_group past home (untaken setup past)))) (few (replaced_by setup past (untaken setup past) (Some new.of)) (length (untaken_of setup past home)) new.room (sym (same_replaced setup past meant k new.of s lawful m) ∙ none));
    }

-- ---- the numbers of an injection fit

message_fits : (n : ℕ) → is_of_mouse n ≡ true → n ≤ 65535
message_fits n h = grind (arith, nat_tests, h)

coordinate : (z : ℤ) (n : ℕ) → int_le (pos 0) z ≡ true → int_lt z (pos n) ≡ true → n ≤ 65536 → IsCoordinate z
coordinate z n low high few =
    let at_least : pos 0 ≤ℤ z = grind (arith, ints) in
    let below_all : z <ℤ pos n = grind (arith, ints) in
    (at_least, grind (arith, ints, few, below_all))

pixel_fits : (setup : Setup) (x y : ℤ) → IsSetup setup → has_pixel (screen setup) (point x y) ≡ true → IsCoordinate x × IsCoordinate y
pixel_fits setup x y s h =
    let last = and_parts _ _ h in
    let top = and_parts _ _ last.0 in
    let across = and_parts _ _ top.0 in
    (coordinate x setup.width across.0 across.1 (omega (arith, s.size.narrow)), coordinate y setup.height top.1 last.1 (omega (arith, s.size.low)))

key_fits : (key : ℕ) → is_no_key key ≡ false → key ≤ 255
key_fits key h = let parts = or_parts (eqb key 0) (nat_lt 254 key) h in grind (arith, nat_tests, parts.1)

numbers_fit : (setup : Setup) (past : Past) (who : ℕ) (call : Call) (k : ℕ) → IsSetup setup → reply setup past who call ≡ answers.Input k → FitsInjection (injection call)
numbers_fit setup past who (calls.Mouse number x y) k s e =
    let told = mouse_told setup past who number x y (answers.Input k) e refl in
    let pixel = pixel_fits setup x y s told.1.1 in
    (message_fits number told.1.0, pixel.0, pixel.1)
numbers_fit setup past who (calls.Key down key) k s e = key_fits key (key_told setup past who down key (answers.Input k) e refl).1.1
numbers_fit setup past who _ k s e = tt

-- what an entry injects fits
pub fits_injecting : (setup : Setup) (past : Past) (e : Entry) (meant : Meant) → IsSetup setup → IsLawful setup past → IsMeantBy setup past e.call meant → e.answer ≡ reply setup past e.who.0 e.call → FitsInjecting meant (untaken_at setup past) e.answer e.call
fits_injecting setup past e meant s lawful m right = by e.answer right
  where
    by : (a : Answer) → a ≡ reply setup past e.who.0 e.call → FitsInjecting meant (untaken_at setup past) a e.call
    by (answers.Input k) is =
        let new : IsInjected setup past e.call k = injected_told setup past e.who.0 e.call k (by_row setup past e.who.0 e.call (answers.Input k) (sym is) refl).is_row in
        let place : HasPlace meant (untaken_at setup past) (element_from meant k new.of) = has_place setup past meant e.call k new s lawful (m new.of new.is_call new.is_meant) in
        (numbers_fit setup past e.who.0 e.call k s (sym is), subst (λ o. FitsPlace meant (untaken_at setup past) k o) (sym new.is_call) place)
    by _ is = tt

-- ---- the coordinates of a call

moving_fits : (setup : Setup) (past : Past) (who : ℕ) (call : Call) (a : Answer) → IsSetup setup → reply setup past who call ≡ a → is_refusal a ≡ false → FitsMoving call
moving_fits setup past who (calls.Mouse number x y) a s e fine = pixel_fits setup x y s (mouse_told setup past who number x y a e fine).1.1
moving_fits setup past who _ a s e fine = tt

-- where an entry puts the cursor fits
pub fits_cursor : (setup : Setup) (past : Past) (who : ℕ) (a : Answer) (call : Call) → IsSetup setup → a ≡ reply setup past who call → FitsCursor a call
fits_cursor setup past who a call s right = by (is_refusal a) refl
  where
    refused : (b : Answer) → is_refusal b ≡ true → FitsCursor b call
    refused (answers.Refused code) h = tt
    refused _ h = absurd (false≢true h)

    allowed : (b : Answer) → FitsMoving call → FitsCursor b call
    allowed (answers.Refused code) fits = tt
    allowed _ fits = fits

    by : (b : Bool) → is_refusal a ≡ b → FitsCursor a call
    by true h = refused a h
    by false h = allowed a (moving_fits setup past who call a s (sym right) h)
