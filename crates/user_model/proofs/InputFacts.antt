-- What holds of untaken input in a lawful past: numbers rise, and each element is meant for a thread that runs.
use Rattle.std.proofs.Common.{◌≡◌, ℕ, ◌<◌, ◌≤◌, Bool, true, false, not, cond, eqb, List, [], ◌∷◌, ◌++◌, length, Option, Some, None, refl, ap, ◌∙◌, sym, subst, inl, inr, arith}
use Rattle.std.specs.Prelude.{◌⊎◌, ◌&&◌, ◌||◌, filter, unwrap_or, option_map}
use Rattle.std.specs.List.{AllByRecursion}
use Rattle.std.proofs.lemmas.Bool.{false≢true}
use Rattle.user_model.specs.declared.call.Call.{Call}
use Rattle.user_model.specs.declared.call.Call.TheVariants as calls
use Rattle.user_model.specs.declared.entry.Answer.{Answer}
use Rattle.user_model.specs.declared.entry.Answer.TheVariants as answers
use Rattle.user_model.specs.declared.entry.Origin.TheVariants as origins
use Rattle.user_model.specs.declared.entry.Entry.{Entry}
use Rattle.user_model.specs.declared.entry.Setup.{Setup}
use Rattle.user_model.specs.Past.{Past, is_refused}
use Rattle.user_model.specs.Places.{has_ended, is_end}
use Rattle.user_model.specs.Threads.{is_thread, is_running}
use Rattle.user_model.specs.Windows.{Window, window, thread_of}
use Rattle.user_model.specs.Pixels.{owner}
use Rattle.user_model.specs.Retrievals.{removes, is_number}
use Rattle.user_model.specs.Focus.{activates, capture, foreground, value_of}
use Rattle.user_model.specs.Inputs.{Element, Injection, of_mouse, of_key, element_after, elements_by, home_of, injection, inputs, mouse_home, or_window, replaced_by, untaken}
use Rattle.user_model.specs.ReplyInput.{next_input_number}
use Rattle.user_model.specs.Idle.{reply}
use Rattle.user_model.specs.Legal.{IsLawful}
use Rattle.user_model.proofs.AnswerFacts.{IsInjected}
use Rattle.user_model.proofs.ListLaws.{all_weaker, all_append, all_filter, all_kept}
use Rattle.user_model.proofs.KeptWindows.{not_true}
use Rattle.user_model.proofs.ReplyLaws.{by_row}
use Rattle.user_model.proofs.DeliveryReplies.{injected_told}
use Rattle.user_model.proofs.GroupLaws.{foreground-next, foreground-refused}
use Rattle.user_model.proofs.GroupReplies.{set_active_told}
use Rattle.user_model.proofs.GroupThreads.{running_is_thread}
use Rattle.user_model.proofs.InputCounts.{inputs-next, inputs_after, inputs_grow}
use Rattle.user_model.proofs.InputLaws.{untaken-any, untaken_after}
use Rattle.user_model.proofs.ThreadLaws.{has_ended-same, has_ended-end}
use Rattle.user_model.proofs.WindowFacts.{live_running}

-- ---- the foreground thread

made_active : (setup : Setup) (who w t : ℕ) → is_thread setup who ≡ true → activates who (calls.SetActive w) ≡ Some t → is_thread setup t ≡ true
made_active setup who w t thread h = by (eqb w 0) h
  where
    by : (b : Bool) → cond b None (Some who) ≡ Some t → is_thread setup t ≡ true
    by true k = let none : None ≡ Some t = k in absurd cc
    by false k = let same : who ≡ t = cc in subst (λ u. is_thread setup u ≡ true) same thread

told_thread : (setup : Setup) (past : Past) (e : Entry) (call : Call) → e.answer ≡ reply setup past e.who.0 e.call → is_refused e ≡ false → e.call ≡ call → (t : ℕ) → activates e.who.0 call ≡ Some t → is_thread setup t ≡ true
told_thread setup past e (calls.SetActive w) right fine is t h =
    let told = set_active_told setup past e.who.0 w e.answer (sym (right ∙ ap (reply setup past e.who.0) is)) fine in
    made_active setup e.who.0 w t (running_is_thread setup past e.who.0 told.running) h
told_thread setup past e _ right fine is t h = let none : None ≡ Some t = h in absurd cc

-- the foreground thread is a thread, where there is one
pub foreground_is_thread : (setup : Setup) (past : Past) → IsLawful setup past → (foreground past ≡ 0) ⊎ (is_thread setup (foreground past) ≡ true)
foreground_is_thread setup [] lawful = inl refl
foreground_is_thread setup (e ∷ past) lawful = by (is_refused e) refl (foreground_is_thread setup past lawful.0)
  where
    told : is_refused e ≡ false → (o : Option ℕ) → activates e.who.0 e.call ≡ o → (foreground past ≡ 0) ⊎ (is_thread setup (foreground past) ≡ true) → (unwrap_or o (foreground past) ≡ 0) ⊎ (is_thread setup (unwrap_or o (foreground past)) ≡ true)
    told fine None h before = before
    told fine (Some t) h before = inr (told_thread setup past e e.call lawful.1 fine refl t h)

    by : (b : Bool) → is_refused e ≡ b → (foreground past ≡ 0) ⊎ (is_thread setup (foreground past) ≡ true) → (foreground (e ∷ past) ≡ 0) ⊎ (is_thread setup (foreground (e ∷ past)) ≡ true)
    by true h before = subst (λ n. (n ≡ 0) ⊎ (is_thread setup n ≡ true)) (sym (foreground-refused e past h)) before
    by false h before = subst (λ n. (n ≡ 0) ⊎ (is_thread setup n ≡ true)) (sym (foreground-next e past h)) (told h (activates e.who.0 e.call) refl before)

-- ---- whom an input is meant for

lives_on : (setup : Setup) (past : Past) (t : ℕ) (b : Bool) → has_ended past t ≡ b → eqb (cond b 0 t) 0 ≡ false → (eqb t 0 ≡ false → is_thread setup t ≡ true) → is_running setup past (cond b 0 t) ≡ true
lives_on setup past t true h k thread = absurd (false≢true (sym k))
lives_on setup past t false h k thread = ap (λ b. b && not (has_ended past t)) (thread k) ∙ ap not h

-- the thread of a window is one, where it is any
pub of_window : (setup : Setup) (past : Past) (w : ℕ) → IsLawful setup past → eqb (thread_of past w) 0 ≡ false → is_thread setup (thread_of past w) ≡ true
of_window setup past w lawful h = by (window past w) refl h
  where
    by : (o : Option Window) → window past w ≡ o → eqb (unwrap_or (option_map (λ (x : Window). x.thread) o) 0) 0 ≡ false → is_thread setup (unwrap_or (option_map (λ (x : Window). x.thread) o) 0) ≡ true
    by None is k = absurd (false≢true (sym k))
    by (Some x) is k = running_is_thread setup past x.thread (live_running setup past w x lawful is)

-- and so is the foreground thread
pub of_foreground : (setup : Setup) (past : Past) → IsLawful setup past → eqb (foreground past) 0 ≡ false → is_thread setup (foreground past) ≡ true
of_foreground setup past lawful h = elim (foreground_is_thread setup past lawful) [
  | inl none ↦ absurd (false≢true (sym (sym (ap (λ n. eqb n 0) none) ∙ h)))
  | inr thread ↦ thread
]

-- an injection that is meant for a thread is meant for one that runs
pub home_runs : (setup : Setup) (past : Past) (i : Injection) → IsLawful setup past → eqb (home_of setup past i) 0 ≡ false → is_running setup past (home_of setup past i) ≡ true
home_runs setup past (of_mouse number p) lawful h = lives_on setup past (mouse_home setup past p) (has_ended past (mouse_home setup past p)) refl h (of_window setup past (or_window (value_of past (foreground past) capture) (owner setup past p).0) lawful)
home_runs setup past (of_key number key) lawful h = lives_on setup past (foreground past) (has_ended past (foreground past)) refl h (of_foreground setup past lawful)

-- ---- what each element is

-- an element has one of the numbers that were given, and its home runs
pub record IsKept (setup : Setup) (past : Past) (x : Element) : Type 0 where
  pub old : x.number ≤ length (inputs past)
  pub runs : is_running setup past x.home ≡ true

ended_other : (setup : Setup) (past : Past) (e : Entry) (t : ℕ) → is_end e.answer ≡ false → is_running setup past t ≡ true → is_running setup (e ∷ past) t ≡ true
ended_other setup past e t lives runs = ap (λ b. is_thread setup t && not b) (has_ended-same e past t lives) ∙ runs

older : (e : Entry) (past : Past) (n : ℕ) → n ≤ length (inputs past) → n ≤ length (inputs (e ∷ past))
older e past n h = omega (arith, h, inputs-next e past, inputs_grow e.answer (length (inputs past)))

kept_on : (setup : Setup) (past : Past) (e : Entry) (x : Element) → is_end e.answer ≡ false → IsKept setup past x → IsKept setup (e ∷ past) x
kept_on setup past e x lives k = record { old = older e past x.number k.old; runs = ended_other setup past e x.home lives k.runs }

all_on : (setup : Setup) (past : Past) (e : Entry) (xs : List Element) → is_end e.answer ≡ false → AllByRecursion (IsKept setup past) xs → AllByRecursion (IsKept setup (e ∷ past)) xs
all_on setup past e xs lives all = all_weaker (IsKept setup past) (IsKept setup (e ∷ past)) (λ x k. kept_on setup past e x lives k) xs all

injected_by : (setup : Setup) (past : Past) (e : Entry) (k : ℕ) → IsLawful setup past → e.answer ≡ reply setup past e.who.0 e.call → e.answer ≡ answers.Input k → IsInjected setup past e.call k
injected_by setup past e k lawful right is = injected_told setup past e.who.0 e.call k (by_row setup past e.who.0 e.call (answers.Input k) (sym right ∙ is) refl).is_row

new_kept : (setup : Setup) (past : Past) (e : Entry) (k : ℕ) → IsLawful setup past → e.answer ≡ answers.Input k → IsInjected setup past e.call k → AllByRecursion (IsKept setup (e ∷ past)) (elements_by setup past k (injection e.call))
new_kept setup past e k lawful is new =
    subst (λ o. AllByRecursion (IsKept setup (e ∷ past)) (elements_by setup past k o)) (sym new.is_call)
    (record { old = omega (arith, new.is_next, inputs-next e past, ap (λ a. inputs_after a (length (inputs past))) is); runs = ended_other setup past e (home_of setup past new.of) (ap is_end is) (home_runs setup past new.of lawful new.is_meant) }, tt)

stays_running : (setup : Setup) (past : Past) (e : Entry) (x : Element) → e.answer ≡ answers.Ended → not (eqb e.who.0 x.home) ≡ true → IsKept setup past x → IsKept setup (e ∷ past) x
stays_running setup past e x is other k =
    let same : has_ended (e ∷ past) x.home ≡ has_ended past x.home = has_ended-end e past x.home is ∙ ap (λ b. b || has_ended past x.home) (not_true (eqb e.who.0 x.home) other) in
    record { old = older e past x.number k.old; runs = ap (λ b. is_thread setup x.home && not b) same ∙ k.runs }

-- each untaken element is one of those that were injected, and is meant for a thread that runs
pub untaken_kept : (setup : Setup) (past : Past) → IsLawful setup past → AllByRecursion (IsKept setup past) (untaken setup past)
untaken_kept setup [] lawful = tt
untaken_kept setup (e ∷ past) lawful = subst (AllByRecursion (IsKept setup (e ∷ past))) (sym (untaken-any setup e past)) (by e.answer refl (untaken_kept setup past lawful.0))
  where
    taken : (n : ℕ) (b : Bool) → is_end e.answer ≡ false → AllByRecursion (IsKept setup past) (untaken setup past) → AllByRecursion (IsKept setup (e ∷ past)) (cond b (filter (λ x. not (eqb n x.number)) (untaken setup past)) (untaken setup past))
    taken n true lives all = all_filter (IsKept setup (e ∷ past)) (λ x. not (eqb n x.number)) (untaken setup past) (all_on setup past e (untaken setup past) lives all)
    taken n false lives all = all_on setup past e (untaken setup past) lives all

    by : (a : Answer) → e.answer ≡ a → AllByRecursion (IsKept setup past) (untaken setup past) → AllByRecursion (IsKept setup (e ∷ past)) (untaken_after setup past e.who.0 e.call a (untaken setup past))
    by (answers.Input k) is all =
        all_append (IsKept setup (e ∷ past)) (filter (λ x. not (is_number (replaced_by setup past (untaken setup past) (injection e.call)) x.number)) (untaken setup past)) (elements_by setup past k (injection e.call))
        (all_filter (IsKept setup (e ∷ past)) (λ x. not (is_number (replaced_by setup past (untaken setup past) (injection e.call)) x.number)) (untaken setup past) (all_on setup past e (untaken setup past) (ap is_end is) all))
        (new_kept setup past e k lawful.0 is (injected_by setup past e k lawful.0 lawful.1 is))
    by (answers.Got origins.Input n m) is all = taken n (removes e.call) (ap is_end is) all
    by answers.Ended is all = all_kept (IsKept setup past) (IsKept setup (e ∷ past)) (λ x. not (eqb e.who.0 x.home)) (λ x other k. stays_running setup past e x is other k) (untaken setup past) all
    by _ is all = all_on setup past e (untaken setup past) (ap is_end is) all

-- ---- the numbers rise

abbrev pub AreRising : List Element → Type 0
AreRising [] = Unit {0}
AreRising (x ∷ xs) = AllByRecursion (λ y. x.number < y.number) xs × AreRising xs

rising_filter : (test : Element → Bool) (xs : List Element) → AreRising xs → AreRising (filter test xs)
rising_filter test [] r = tt
rising_filter test (x ∷ xs) r = elim (test x) as (λ b. AreRising (cond b (x ∷ filter test xs) (filter test xs))) [ true ↦ (all_filter (λ y. x.number < y.number) test xs r.0, rising_filter test xs r.1) | false ↦ rising_filter test xs r.1 ]

rising_push : (xs : List Element) (y : Element) → AllByRecursion (λ x. x.number < y.number) xs → AreRising xs → AreRising (xs ++ y ∷ [])
rising_push [] y below r = (tt, tt)
rising_push (x ∷ xs) y below r = (all_append (λ z. x.number < z.number) xs (y ∷ []) r.0 (below.0, tt), rising_push xs y below.1 r.1)

-- untaken elements stand in the order of their numbers
pub untaken_rises : (setup : Setup) (past : Past) → IsLawful setup past → AreRising (untaken setup past)
untaken_rises setup [] lawful = tt
untaken_rises setup (e ∷ past) lawful = subst AreRising (sym (untaken-any setup e past)) (by e.answer refl (untaken_rises setup past lawful.0) (untaken_kept setup past lawful.0))
  where
    taken : (n : ℕ) (b : Bool) → AreRising (untaken setup past) → AreRising (cond b (filter (λ x. not (eqb n x.number)) (untaken setup past)) (untaken setup past))
    taken n true r = rising_filter (λ x. not (eqb n x.number)) (untaken setup past) r
    taken n false r = r

    below : (k : ℕ) → k ≡ next_input_number past → (xs : List Element) → AllByRecursion (IsKept setup past) xs → AllByRecursion (λ x. x.number < k) xs
    below k next xs all = all_weaker (IsKept setup past) (λ x. x.number < k) (λ x kept. omega (arith, kept.old, next)) xs all

    pushed : (k : ℕ) (xs : List Element) → IsInjected setup past e.call k → AllByRecursion (IsKept setup past) xs → AreRising xs → AreRising (xs ++ elements_by setup past k (injection e.call))
    pushed k xs new all r = subst (λ o. AreRising (xs ++ elements_by setup past k o)) (sym new.is_call) (rising_push xs (element_after setup past k new.of) (below k new.is_next xs all) r)

    by : (a : Answer) → e.answer ≡ a → AreRising (untaken setup past) → AllByRecursion (IsKept setup past) (untaken setup past) → AreRising (untaken_after setup past e.who.0 e.call a (untaken setup past))
    by (answers.Input k) is r all =
        let keeps : Element → Bool = λ x. not (is_number (replaced_by setup past (untaken setup past) (injection e.call)) x.number) in
        pushed k (filter keeps (untaken setup past)) (injected_by setup past e k lawful.0 lawful.1 is) (all_filter (IsKept setup past) keeps (untaken setup past) all) (rising_filter keeps (untaken setup past) r)
    by (answers.Got origins.Input n m) is r all = taken n (removes e.call) r
    by answers.Ended is r all = rising_filter (λ x. not (eqb e.who.0 x.home)) (untaken setup past) r
    by _ is r all = r
