-- What holds of windows in a lawful past.
use Rattle.std.proofs.Common.{◌≡◌, ℕ, ◌+◌, ◌^◌, ◌≤◌, ◌<◌, Bool, true, false, not, eqb, [], ◌∷◌, ◌++◌, length, Option, Some, None, refl, ap, ◌∙◌, sym, subst, inl, inr, arith}
use Rattle.std.specs.Prelude.{◌⊎◌, ◌&&◌, ◌||◌, option_map, unwrap_or, is_some}
use Rattle.std.specs.List.{AllByRecursion}
use Rattle.std.proofs.lemmas.Bool.{ne_eqb, false≢true, leb-false}
use Rattle.std.proofs.lemmas.List.{length-append}
use Rattle.win_num.specs.declared.message.Hwnd.{Hwnd}
use Rattle.win_num.specs.declared.code.Code.TheVariants.{Full}
use Rattle.user_model.specs.declared.call.Call.{Call}
use Rattle.user_model.specs.declared.call.Call.TheVariants as calls
use Rattle.user_model.specs.declared.entry.Answer.{Answer}
use Rattle.user_model.specs.declared.entry.Answer.TheVariants as answers
use Rattle.user_model.specs.declared.entry.Entry.{Entry}
use Rattle.user_model.specs.declared.entry.Setup.{Setup}
use Rattle.user_model.specs.Past.{Past, is_refused, is_refusal, is_full}
use Rattle.user_model.specs.Threads.{is_running}
use Rattle.user_model.specs.Windows.{Window, live, window, is_live, thread_of, is_kin, windows_made, numbers_made, number_of_window}
use Rattle.user_model.specs.Destruction.{Step, told, ended, is_marked, dooms, was_given, gives, next_step}
use Rattle.user_model.specs.Idle.{reply, reply_with_room}
use Rattle.user_model.specs.Legal.{IsLawful}
use Rattle.user_model.specs.ReplyWindows.{step_answer}
use Rattle.user_model.specs.Refusals.{invalid_window_handle}
use Rattle.user_model.proofs.ListLaws.{all_weaker, all_found}
use Rattle.user_model.proofs.PastLaws.{first_way}
use Rattle.user_model.proofs.WindowLaws.{windows_made-next, is_marked-next, was_given-same}
use Rattle.user_model.proofs.ReplyLaws.{not_refused, by_call, not_false}
use Rattle.user_model.proofs.WindowReplies.{IsUnmade}
use Rattle.user_model.proofs.StepReplies.{step_told}
use Rattle.user_model.proofs.Forests.{IsBetween, IsUnder, number_found, between_found, none_past, none_before, no_kin, kin_thread, all_by_number}
use Rattle.user_model.proofs.LiveWindows.{sound}
use Rattle.user_model.proofs.Steps.{window_of, next_step_has}

-- a live window's number is above 15, and among those that were given
pub live_between : (setup : Setup) (past : Past) (w : ℕ) (x : Window) → IsLawful setup past → window past w ≡ Some x → IsBetween 15 (15 + length (windows_made past)) x × (x.number ≡ w)
live_between setup past w x lawful e = (between_found 15 (15 + length (windows_made past)) (live past) w x (sound setup past lawful).rising e, number_found (live past) w x e)

-- a number that wasn't given is no live window
pub not_made : (setup : Setup) (past : Past) (w : ℕ) → IsLawful setup past → 15 + length (windows_made past) < w → window past w ≡ None
not_made setup past w lawful lt = none_past 15 (15 + length (windows_made past)) (live past) w (sound setup past lawful).rising lt

-- nor is one up to 15, such as 0
pub too_low : (setup : Setup) (past : Past) (w : ℕ) → IsLawful setup past → w ≤ 15 → window past w ≡ None
too_low setup past w lawful le = none_before 15 (15 + length (windows_made past)) (live past) w (sound setup past lawful).rising le

some_of : (past : Past) (w : ℕ) → is_live past w ≡ true → (x : Window) × (window past w ≡ Some x)
some_of past w h = pick (window past w) refl h
  where
    pick : (o : Option Window) → window past w ≡ o → is_some o ≡ true → (x : Window) × (window past w ≡ Some x)
    pick None e h = absurd (false≢true h)
    pick (Some x) e h = (x, e)

-- a live window is a window
pub live_window : (past : Past) (w : ℕ) → is_live past w ≡ true → (x : Window) × (window past w ≡ Some x)
live_window past w h = some_of past w h

pub live_within : (setup : Setup) (past : Past) (w : ℕ) → IsLawful setup past → is_live past w ≡ true → (15 < w) × (w ≤ 15 + length (windows_made past))
live_within setup past w lawful h =
    let found = some_of past w h in
    let b = live_between setup past w found.0 lawful found.1 in
    (subst (λ n. 15 < n) b.1 b.0.over, subst (λ n. n ≤ 15 + length (windows_made past)) b.1 b.0.within)

-- the thread of a live window is a thread that runs
pub live_running : (setup : Setup) (past : Past) (w : ℕ) (x : Window) → IsLawful setup past → window past w ≡ Some x → is_running setup past x.thread ≡ true
live_running setup past w x lawful e = all_found (λ (y : Window). is_running setup past y.thread ≡ true) (λ y. eqb y.number w) (live past) x (sound setup past lawful).running e

-- what stands above a live window or owns it is a live window of its thread
pub live_under : (setup : Setup) (past : Past) (w : ℕ) (x : Window) → IsLawful setup past → window past w ≡ Some x → IsUnder (live past) x
live_under setup past w x lawful e = all_found (IsUnder (live past)) (λ y. eqb y.number w) (live past) x (sound setup past lawful).under e

-- all kin of a window have its thread
pub kin_of_thread : (setup : Setup) (past : Past) (v w : ℕ) (x : Window) → IsLawful setup past → window past w ≡ Some x → is_kin (live past) v w ≡ true → thread_of past v ≡ x.thread
kin_of_thread setup past v w x lawful e k = ap (λ (o : Option ℕ). unwrap_or o 0) (kin_thread (live past) (sound setup past lawful).under w v w x.thread (ap (option_map (λ (y : Window). y.thread)) e) k)

-- each live window is found by its number
all_live : (setup : Setup) (past : Past) → IsLawful setup past → AllByRecursion (λ x. is_live past x.number ≡ true) (live past)
all_live setup past lawful = all_weaker (λ (x : Window). window past x.number ≡ Some x) (λ (x : Window). is_live past x.number ≡ true) (λ x e. ap is_some e) (live past) (all_by_number 15 (15 + length (windows_made past)) (live past) (sound setup past lawful).rising)

-- what a step of a destruction names is a live window
pub next_step_live : (setup : Setup) (past : Past) (w : ℕ) (x : Window) (i : Step) → IsLawful setup past → window past w ≡ Some x → next_step past x ≡ Some i → is_live past (window_of i) ≡ true
next_step_live setup past w x i lawful e next = next_step_has (λ n. is_live past n ≡ true) past x i (all_live setup past lawful) (ap (is_live past) (number_found (live past) w x e) ∙ ap is_some e) next

told_is : (u v : ℕ) → answers.Tell (record { 0 = u }) ≡ answers.Tell (record { 0 = v }) → u ≡ v
told_is u v e = let same : ◌≡◌ {A = Hwnd} (record { 0 = u }) (record { 0 = v }) = cc in ap (λ (w : Hwnd). w.0) same

ended_is : (u v : ℕ) → answers.Last (record { 0 = u }) ≡ answers.Last (record { 0 = v }) → u ≡ v
ended_is u v e = let same : ◌≡◌ {A = Hwnd} (record { 0 = u }) (record { 0 = v }) = cc in ap (λ (w : Hwnd). w.0) same

told_by : (past : Past) (w v : ℕ) (o : Option Step) → ((i : Step) → o ≡ Some i → is_live past (window_of i) ≡ true) → is_live past w ≡ true → (a : Answer) → step_answer w o ≡ a → (a ≡ answers.Tell (record { 0 = v })) ⊎ (a ≡ answers.Last (record { 0 = v })) → is_live past v ≡ true
told_by past w v (Some (told u)) all here a e is = elim is [
  | inl t ↦ (ap (is_live past) (sym (told_is u v (e ∙ t))) ∙ all (told u) refl)
  | inr t ↦ absurd cc
]
told_by past w v (Some (ended u)) all here a e is = elim is [
  | inl t ↦ absurd cc
  | inr t ↦ (ap (is_live past) (sym (ended_is u v (e ∙ t))) ∙ all (ended u) refl)
]
told_by past w v None all here a e is = elim is [
  | inl t ↦ absurd cc
  | inr t ↦ (ap (is_live past) (sym (ended_is w v (e ∙ t))) ∙ here)
]

unmade_live : (setup : Setup) (past : Past) (who w v : ℕ) (a : Answer) → IsLawful setup past → IsUnmade setup past who w a → (a ≡ answers.Tell (record { 0 = v })) ⊎ (a ≡ answers.Last (record { 0 = v })) → is_live past v ≡ true
unmade_live setup past who w v a lawful u is = told_by past w v (next_step past u.x) (λ i next. next_step_live setup past w u.x i lawful u.is_window next) (ap is_some u.is_window) a u.is_step is

-- a window that is told or gets its last message is live
pub told_live : (setup : Setup) (past : Past) (who : ℕ) (call : Call) (v : ℕ) → IsLawful setup past → reply setup past who call ≡ answers.Tell (record { 0 = v }) → is_live past v ≡ true
told_live setup past who call v lawful e =
    let by = step_told setup past who call (answers.Tell (record { 0 = v })) e refl in
    unmade_live setup past who by.0 v (answers.Tell (record { 0 = v })) lawful by.2 (inl refl)

pub ended_live : (setup : Setup) (past : Past) (who : ℕ) (call : Call) (v : ℕ) → IsLawful setup past → reply setup past who call ≡ answers.Last (record { 0 = v }) → is_live past v ≡ true
ended_live setup past who call v lawful e =
    let by = step_told setup past who call (answers.Last (record { 0 = v })) e refl in
    unmade_live setup past who by.0 v (answers.Last (record { 0 = v })) lawful by.2 (inr refl)

other_step : (setup : Setup) (past : Past) (who : ℕ) (call : Call) (a : Answer) (i : Step) → IsLawful setup past → reply setup past who call ≡ a → 15 + length (windows_made past) < window_of i → gives a i ≡ false
other_step setup past who call (answers.Tell v) (told k) lawful e lt =
    let b = live_within setup past v.0 lawful (told_live setup past who call v.0 lawful e) in
    ne_eqb v.0 k (λ q. omega (arith, b.1, q, lt))
other_step setup past who call (answers.Last v) (ended k) lawful e lt =
    let b = live_within setup past v.0 lawful (ended_live setup past who call v.0 lawful e) in
    ne_eqb v.0 k (λ q. omega (arith, b.1, q, lt))
other_step setup past who call (answers.Tell v) (ended k) lawful e lt = refl
other_step setup past who call (answers.Last v) (told k) lawful e lt = refl
other_step setup past who call _ i lawful e lt = refl

-- no entry takes a number back
pub made_grows : (e : Entry) (past : Past) → length (windows_made past) ≤ length (windows_made (e ∷ past))
made_grows e past = pick (is_refused e) refl
  where
    pick : (b : Bool) → is_refused e ≡ b → length (windows_made past) ≤ length (windows_made (e ∷ past))
    pick true h = let same : windows_made (e ∷ past) ≡ windows_made past = first_way (is_refused e) (windows_made past) (windows_made past ++ numbers_made e.answer e.call) h in omega (arith, ap length same)
    pick false h = omega (arith, ap length (windows_made-next e past h), length-append (windows_made past) (numbers_made e.answer e.call))

not_given : (was now : Bool) → was ≡ false → now ≡ false → (was || now) ≡ false
not_given true now e f = e
not_given false now e f = f

-- a window that wasn't made was given no step
pub new_ungiven : (setup : Setup) (past : Past) (i : Step) → IsLawful setup past → 15 + length (windows_made past) < window_of i → was_given past i ≡ false
new_ungiven setup [] i lawful lt = refl
new_ungiven setup (e ∷ past) i lawful lt =
    let before : 15 + length (windows_made past) < window_of i = omega (arith, lt, made_grows e past) in
    was_given-same e past i (other_step setup past e.who.0 e.call e.answer i lawful.0 (sym lawful.1) before) ∙ new_ungiven setup past i lawful.0 before

-- a doom that isn't refused is of a live window
doom_live : (setup : Setup) (past : Past) (who v : ℕ) (a : Answer) → reply setup past who (calls.Doom v) ≡ a → is_refusal a ≡ false → is_live past v ≡ true
doom_live setup past who v a e right =
    let by = by_call setup past who (calls.Doom v) a e refl right in
    let marked = not_refused (is_live past v && is_marked past v) invalid_window_handle _ a right by.is_row in
    let live = not_refused (not (is_live past v)) invalid_window_handle _ a right marked.1 in
    not_false (is_live past v) live.0

other_doom : (setup : Setup) (past : Past) (who : ℕ) (call : Call) (a : Answer) (w : ℕ) → IsLawful setup past → reply setup past who call ≡ a → is_refusal a ≡ false → 15 + length (windows_made past) < w → dooms call past w ≡ false
other_doom setup past who (calls.Doom v) a w lawful e right lt =
    let b = live_within setup past v lawful (doom_live setup past who v a e right) in
    no_kin w (live past) v w (not_made setup past w lawful lt) (ne_eqb w v (λ q. omega (arith, b.1, q, lt)))
other_doom setup past who _ a w lawful e right lt = refl

-- a window that wasn't made isn't marked
pub new_unmarked : (setup : Setup) (past : Past) (w : ℕ) → IsLawful setup past → 15 + length (windows_made past) < w → is_marked past w ≡ false
new_unmarked setup [] w lawful lt = refl
new_unmarked setup (e ∷ past) w lawful lt =
    let before : 15 + length (windows_made past) < w = omega (arith, lt, made_grows e past) in
    pick (is_refused e) refl (new_unmarked setup past w lawful.0 before) before
  where
    pick : (b : Bool) → is_refused e ≡ b → is_marked past w ≡ false → 15 + length (windows_made past) < w → is_marked (e ∷ past) w ≡ false
    pick true h was before = first_way (is_refused e) (is_marked past w) (elim (is_marked past w) as (λ c. Bool) [ true ↦ true | false ↦ dooms e.call past w ]) h ∙ was
    pick false h was before = is_marked-next e past w h ∙ not_given (is_marked past w) (dooms e.call past w) was (other_doom setup past e.who.0 e.call e.answer w lawful.0 (sym lawful.1) h before)

one_number : (a : Answer) (call : Call) → length (numbers_made a call) ≤ 1
one_number a (calls.NewWindow name title parent style ex l t r b) = one a
  where
    one : (a : Answer) → length (number_of_window a) ≤ 1
    one (answers.Window w) = omega arith
    one _ = omega arith
one_number a _ = omega arith

-- each entry makes one window at most
pub made_few : (past : Past) → length (windows_made past) ≤ length past
made_few [] = omega arith
made_few (e ∷ past) = pick (made_few past) (is_refused e) refl
  where
    pick : length (windows_made past) ≤ length past → (b : Bool) → is_refused e ≡ b → length (windows_made (e ∷ past)) ≤ length (e ∷ past)
    pick few true h = let same : windows_made (e ∷ past) ≡ windows_made past = first_way (is_refused e) (windows_made past) (windows_made past ++ numbers_made e.answer e.call) h in omega (arith, ap length same, few)
    pick few false h = omega (arith, few, ap length (windows_made-next e past h), length-append (windows_made past) (numbers_made e.answer e.call), one_number e.answer e.call)

-- an entry that isn't refused had room
pub had_room : (setup : Setup) (past : Past) (who : ℕ) (call : Call) (a : Answer) → reply setup past who call ≡ a → is_refusal a ≡ false → is_full past ≡ false
unfolding reply
had_room setup past who call a e right = (not_refused (is_full past) Full (reply_with_room setup past who call) a right e).0

-- no more windows are made than a history has entries
pub made_bounded : (setup : Setup) (past : Past) → IsLawful setup past → length (windows_made past) ≤ 2097152
made_bounded setup [] lawful = omega arith
made_bounded setup (e ∷ past) lawful = pick (made_bounded setup past lawful.0) (is_refused e) refl
  where
    pick : length (windows_made past) ≤ 2097152 → (b : Bool) → is_refused e ≡ b → length (windows_made (e ∷ past)) ≤ 2097152
    pick few true h = let same : windows_made (e ∷ past) ≡ windows_made past = first_way (is_refused e) (windows_made past) (windows_made past ++ numbers_made e.answer e.call) h in omega (arith, ap length same, few)
    pick few false h =
        let room : length past < 2097152 = leb-false 2097152 (length past) (had_room setup past e.who.0 e.call e.answer (sym lawful.1) h) in
        let less = made_few (e ∷ past) in
        omega (arith, room, less)

-- the numbers of live windows fit in 32 bits
pub live_fits : (setup : Setup) (past : Past) (w : ℕ) → IsLawful setup past → is_live past w ≡ true → w < 2 ^ 32
live_fits setup past w lawful h = let b = live_within setup past w lawful h in let few = made_bounded setup past lawful in omega (arith, b.1, few)
