-- Live windows of a lawful past.
use Rattle.std.proofs.Common.{◌≡◌, ◌≢◌, ℕ, zero, suc, ◌+◌, ◌≤◌, Bool, true, false, not, cond, eqb, List, [], ◌∷◌, ◌++◌, length, Option, Some, None, refl, ap, ◌∙◌, sym, subst, inl, inr, arith}
use Rattle.std.specs.Prelude.{◌⊎◌, ◌&&◌, ◌||◌, filter, option_map, unwrap_or, is_some, ℤ}
use Rattle.std.specs.List.{AllByRecursion}
use Rattle.std.proofs.lemmas.Bool.{eqb-true, false≢true, true≢false, or_parts, or_from, not-true}
use Rattle.std.proofs.lemmas.List.{append-nil, length-append}
use Rattle.win_num.specs.declared.message.Hwnd.{Hwnd}
use Rattle.win_num.specs.declared.message.Thread.{Thread}
use Rattle.win_num.specs.declared.names.TheConstants.{WS_CHILD}
use Rattle.user_model.specs.declared.call.Call.{Call}
use Rattle.user_model.specs.declared.call.Call.TheVariants as calls
use Rattle.user_model.specs.declared.entry.Answer.{Answer}
use Rattle.user_model.specs.declared.entry.Answer.TheVariants as answers
use Rattle.user_model.specs.declared.entry.Entry.{Entry}
use Rattle.user_model.specs.declared.entry.Setup.{Setup}
use Rattle.user_model.specs.Past.{Past, is_refused, is_refusal}
use Rattle.user_model.specs.Places.{ends_thread, is_end}
use Rattle.user_model.specs.Threads.{is_thread, is_running}
use Rattle.user_model.specs.Windows.{Window, has_flag, live, window, find_window, is_live, thread_of, up, above, is_kin, top_of, made_by, drops, drops_kin, windows_made, numbers_made}
use Rattle.user_model.specs.Destruction.{is_marked}
use Rattle.user_model.specs.Idle.{reply}
use Rattle.user_model.specs.Legal.{IsLawful}
use Rattle.user_model.specs.Machines.{entry_of}
use Rattle.user_model.specs.ReplyWindows.{is_no_parent}
use Rattle.user_model.proofs.ListLaws.{all_weaker, all_append, filter_every}
use Rattle.user_model.proofs.PastLaws.{first_way, ever-same}
use Rattle.user_model.proofs.WindowLaws.{live-refused, live-next, windows_made-next}
use Rattle.user_model.proofs.WindowReplies.{IsNewWindow, new_window_told}
use Rattle.user_model.proofs.Forests.{IsRising, IsBetween, IsUnder, thread_in, thread_found, all_both, all_kept, all_between, all_by_number, rising_filter, rising_more, number_found, between_found, is_kin-up, under_filter, under_more, top_thread}

-- the window that a call makes
abbrev pub new_window : Thread → ℕ → ℕ → ℕ → ℕ → ℕ → ℤ → ℤ → ℤ → ℤ → Hwnd → List Window → Window
new_window who name title parent style ex l t r b w ws = record { number = w.0; thread = who.0; class = name; title = title; parent = cond (has_flag style WS_CHILD) parent 0; owner = cond (has_flag style WS_CHILD) 0 (top_of ws parent) }

-- an entry makes no window
pub record MakesNone (past : Past) (e : Entry) : Type 0 where
  pub none : made_by e.who.0 e.answer e.call (live past) ≡ []
  pub no_number : numbers_made e.answer e.call ≡ []

-- an entry makes this window, with the next number, for a thread that runs, and drops none
pub record MakesOne (setup : Setup) (past : Past) (e : Entry) : Type 0 where
  pub z : Window
  pub one : made_by e.who.0 e.answer e.call (live past) ≡ z ∷ []
  pub number : numbers_made e.answer e.call ≡ z.number ∷ []
  pub is_next : z.number ≡ 16 + length (windows_made past)
  pub running : is_running setup past z.thread ≡ true
  pub under : IsUnder (live past) z
  pub ends_none : is_end e.answer ≡ false
  pub keeps : (y : Window) → drops e (live past) y ≡ false

live_found : (o : Option Window) (who : ℕ) → is_some o ≡ true → eqb (unwrap_or (option_map (λ x. x.thread) o) 0) who ≡ true → option_map (λ x. x.thread) o ≡ Some who
live_found None who h e = absurd (false≢true h)
live_found (Some x) who h e = ap (λ (t : ℕ). let o : Option ℕ = Some t in o) (eqb-true x.thread who e)

parent_tests : (zero live unmarked own : Bool) → zero ≡ false → not (zero || live && unmarked) ≡ false → (not zero && not own) ≡ false → (live ≡ true) × (own ≡ true)
parent_tests true live unmarked own z h k = absurd (true≢false z)
parent_tests false true unmarked true z h k = (refl, refl)
parent_tests false true unmarked false z h k = absurd (true≢false k)
parent_tests false false unmarked own z h k = absurd (true≢false h)

-- the parent of a new window is a window of its thread
pub parent_thread : (past : Past) (parent who : ℕ) → eqb parent 0 ≡ false → is_no_parent past parent ≡ false → (not (eqb parent 0) && not (eqb (thread_of past parent) who)) ≡ false → thread_in (live past) parent ≡ Some who
parent_thread past parent who some good own =
    let both = parent_tests (eqb parent 0) (is_live past parent) (not (is_marked past parent)) (eqb (thread_of past parent) who) some good own in
    live_found (window past parent) who both.0 both.1

pub new_under : (setup : Setup) (past : Past) (who : Thread) (name title parent style ex : ℕ) (l t r b : ℤ) (w : Hwnd) → AllByRecursion (IsUnder (live past)) (live past) → IsNewWindow setup past who.0 name parent style ex l t r b w → IsUnder (live past) (new_window who name title parent style ex l t r b w (live past))
new_under setup past who name title parent style ex l t r b w h new = by_style (has_flag style WS_CHILD) (eqb parent 0) refl new.some_parent
  where
    zero_top : (p : ℕ) → p ≡ 0 → top_of (live past) p ≡ 0
    zero_top zero e = refl
    zero_top (suc p) e = absurd cc

    by_style : (child zero : Bool) → eqb parent 0 ≡ zero → (child && zero) ≡ false → (let u : ℕ = cond (eqb (cond child parent 0) 0) (cond child 0 (top_of (live past) parent)) (cond child parent 0) in (u ≡ 0) ⊎ (thread_in (live past) u ≡ Some who.0))
    by_style true true e k = absurd (true≢false k)
    by_style true false e k = inr (ap (λ c. thread_in (live past) (cond c 0 parent)) e ∙ parent_thread past parent who.0 e new.good_parent new.own_parent)
    by_style false true e k = inl (zero_top parent (eqb-true parent 0 e))
    by_style false false e k = inr (top_thread (live past) h parent parent who.0 (parent_thread past parent who.0 e new.good_parent new.own_parent))

-- whether the call makes a window
abbrev pub is_new_window : Call → Bool
is_new_window (calls.NewWindow name title parent style ex l t r b) = true
is_new_window _ = false

-- another call makes no window
pub made_by-other : (who : ℕ) (a : Answer) (call : Call) (ws : List Window) → is_new_window call ≡ false → made_by who a call ws ≡ []
made_by-other who (answers.Window w) (calls.NewWindow name title parent style ex l t r b) ws h = absurd (true≢false h)
made_by-other who _ _ ws h = refl

-- an entry that makes no window or one
pub makes : (setup : Setup) (past : Past) (who : Thread) (call : Call) (a : Answer) → a ≡ reply setup past who.0 call → AllByRecursion (IsUnder (live past)) (live past) → MakesNone past (entry_of who call a) ⊎ MakesOne setup past (entry_of who call a)
makes setup past who (calls.NewWindow name title parent style ex l t r b) (answers.Window w) e h =
    let new = new_window_told setup past who.0 name title parent style ex l t r b w (sym e) in
    inr (record {
      z = new_window who name title parent style ex l t r b w (live past);
      one = refl;
      number = refl;
      is_next = ap (λ (v : Hwnd). v.0) new.is_next;
      running = new.running;
      under = new_under setup past who name title parent style ex l t r b w h new;
      ends_none = refl;
      keeps = λ y. refl;
    })
makes setup past who (calls.NewWindow name title parent style ex l t r b) _ e h = inl (record { none = refl; no_number = refl })
makes setup past who call a e h = inl (record { none = made_by-other who.0 a call (live past) refl; no_number = refl })

-- the live windows with a new one
pub live-new : (past : Past) (who : Thread) (name title parent style ex : ℕ) (l t r b : ℤ) (w : Hwnd) → live (entry_of who (calls.NewWindow name title parent style ex l t r b) (answers.Window w) ∷ past) ≡ live past ++ new_window who name title parent style ex l t r b w (live past) ∷ []
live-new past who name title parent style ex l t r b w =
    let e = entry_of who (calls.NewWindow name title parent style ex l t r b) (answers.Window w) in
    live-next e past refl
    ∙ ap (λ ws. ws ++ new_window who name title parent style ex l t r b w (live past) ∷ []) (filter_every (λ x. not (drops e (live past) x)) (λ x. refl) (live past))

-- numbers rise, threads of live windows run, and what stands above a window is a live window of its thread
pub record IsSound (setup : Setup) (past : Past) : Type 0 where
  pub rising : IsRising 15 (15 + length (windows_made past)) (live past)
  pub running : AllByRecursion (λ x. is_running setup past x.thread ≡ true) (live past)
  pub under : AllByRecursion (IsUnder (live past)) (live past)

refusal_ends_none : (a : Answer) → is_refusal a ≡ true → is_end a ≡ false
refusal_ends_none answers.Ended h = absurd (false≢true h)
refusal_ends_none _ h = refl

-- a thread runs as before where the entry doesn't end it
pub running-same : (setup : Setup) (past : Past) (e : Entry) (t : ℕ) → ends_thread e t ≡ false → is_running setup (e ∷ past) t ≡ is_running setup past t
running-same setup past e t h = ap (λ b. is_thread setup t && not b) (ever-same (λ (e : Entry) (before : Past). ends_thread e t) e past h)

sound_refused : (setup : Setup) (past : Past) (e : Entry) → is_refused e ≡ true → IsSound setup past → IsSound setup (e ∷ past)
sound_refused setup past e h s =
    let same = live-refused e past h in
    let made : windows_made (e ∷ past) ≡ windows_made past = first_way (is_refused e) (windows_made past) (windows_made past ++ numbers_made e.answer e.call) h in
    let ends_none : (t : ℕ) → ends_thread e t ≡ false = λ t. ap (λ b. b && eqb e.who.0 t) (refusal_ends_none e.answer h) in
    record {
      rising = subst (λ (ns : List ℕ). IsRising 15 (15 + length ns) (live (e ∷ past))) (sym made) (subst (IsRising 15 (15 + length (windows_made past))) (sym same) s.rising);
      running = subst (AllByRecursion (λ x. is_running setup (e ∷ past) x.thread ≡ true)) (sym same) (all_weaker (λ (x : Window). is_running setup past x.thread ≡ true) (λ (x : Window). is_running setup (e ∷ past) x.thread ≡ true) (λ x r. running-same setup past e x.thread (ends_none x.thread) ∙ r) (live past) s.running);
      under = subst (λ (ws : List Window). AllByRecursion (IsUnder ws) ws) (sym same) s.under;
    }

kin_closed : (from last : ℕ) (ws : List Window) (x y : Window) (call : Call) → IsRising from last ws → x.number ≢ 0 → above ws x.number ≡ y.number → drops_kin call ws x ≡ false → drops_kin call ws y ≡ false
kin_closed from last ws x y (calls.Drop v) h some over e = pick (eqb x.number v) (sym (is_kin-up from last ws v x.number h some) ∙ e)
  where
    pick : (b : Bool) → (elim b as (λ c. Bool) [ true ↦ true | false ↦ is_kin ws v (above ws x.number) ]) ≡ false → is_kin ws v y.number ≡ false
    pick true k = absurd (true≢false k)
    pick false k = ap (is_kin ws v) (sym over) ∙ k
kin_closed from last ws x y _ h some over e = refl

-- what stands above a window that an entry leaves is left
stays_up : (from last : ℕ) (ws : List Window) (e : Entry) → IsRising from last ws → (x : Window) → IsBetween from last x × ((find_window ws x.number ≡ Some x) × IsUnder ws x) → (y : Window) → find_window ws (up x) ≡ Some y → not (drops e ws x) ≡ true → not (drops e ws y) ≡ true
stays_up from last ws e h x facts y found stays =
    let parts = or_parts (drops_kin e.call ws x) (ends_thread e x.thread) (not-true (drops e ws x) stays) in
    let number : y.number ≡ up x = number_found ws (up x) y found in
    let over : above ws x.number ≡ y.number = ap (λ (o : Option Window). unwrap_or (option_map up o) 0) facts.1.0 ∙ sym number in
    let some : x.number ≢ 0 = λ z. (let b = facts.0.over in absurd (omega (arith, b, z))) in
    let same : y.thread ≡ x.thread = of_thread facts.1.1 in
    ap not (or_from (drops_kin e.call ws y) (ends_thread e y.thread) (kin_closed from last ws x y e.call h some over parts.0) (ap (ends_thread e) same ∙ parts.1))
  where
    of_thread : IsUnder ws x → y.thread ≡ x.thread
    of_thread u = elim u [
      | inl none ↦ (let b = between_found from last ws (up x) y h found in let n = number_found ws (up x) y found in absurd (omega (arith, b.over, n, none)))
      | inr under ↦ (let two : Some y.thread ≡ Some x.thread = ap (option_map (λ (z : Window). z.thread)) (sym found) ∙ under in let one : y.thread ≡ x.thread = cc in one)
    ]

-- the live windows that an entry leaves
abbrev pub kept : Entry → List Window → List Window
kept e ws = filter (λ x. not (drops e ws x)) ws

kept_under : (from last : ℕ) (ws : List Window) (e : Entry) → IsRising from last ws → AllByRecursion (IsUnder ws) ws → AllByRecursion (IsUnder (kept e ws)) (kept e ws)
kept_under from last ws e h u =
    under_filter (λ x. not (drops e ws x)) ws u
    (all_weaker (λ x. IsBetween from last x × ((find_window ws x.number ≡ Some x) × IsUnder ws x)) (λ x. (y : Window) → find_window ws (up x) ≡ Some y → not (drops e ws x) ≡ true → not (drops e ws y) ≡ true) (stays_up from last ws e h) ws
    (all_both (IsBetween from last) (λ x. (find_window ws x.number ≡ Some x) × IsUnder ws x) ws (all_between from last ws h)
    (all_both (λ x. find_window ws x.number ≡ Some x) (IsUnder ws) ws (all_by_number from last ws h) u)))

kept_running : (setup : Setup) (past : Past) (e : Entry) → AllByRecursion (λ x. is_running setup past x.thread ≡ true) (live past) → AllByRecursion (λ x. is_running setup (e ∷ past) x.thread ≡ true) (kept e (live past))
kept_running setup past e h =
    all_kept (λ (x : Window). is_running setup (e ∷ past) x.thread ≡ true) (λ x. not (drops e (live past) x)) (live past)
    (all_weaker (λ (x : Window). is_running setup past x.thread ≡ true) (λ (x : Window). not (drops e (live past) x) ≡ true → is_running setup (e ∷ past) x.thread ≡ true)
    (λ x r stays. running-same setup past e x.thread (or_parts (drops_kin e.call (live past) x) (ends_thread e x.thread) (not-true (drops e (live past) x) stays)).1 ∙ r) (live past) h)

with_none : (ws us : List Window) → us ≡ [] → ws ++ us ≡ ws
with_none ws us e = ap (λ l. ws ++ l) e ∙ append-nil ws

sound_none : (setup : Setup) (past : Past) (e : Entry) → is_refused e ≡ false → IsSound setup past → MakesNone past e → IsSound setup (e ∷ past)
sound_none setup past e right s m =
    let same : live (e ∷ past) ≡ kept e (live past) = live-next e past right ∙ with_none (kept e (live past)) (made_by e.who.0 e.answer e.call (live past)) m.none in
    let made : windows_made (e ∷ past) ≡ windows_made past = windows_made-next e past right ∙ (ap (λ l. windows_made past ++ l) m.no_number ∙ append-nil (windows_made past)) in
    record {
      rising = subst (λ (ns : List ℕ). IsRising 15 (15 + length ns) (live (e ∷ past))) (sym made) (subst (IsRising 15 (15 + length (windows_made past))) (sym same) (rising_filter (λ x. not (drops e (live past) x)) 15 (15 + length (windows_made past)) (live past) s.rising));
      running = subst (AllByRecursion (λ x. is_running setup (e ∷ past) x.thread ≡ true)) (sym same) (kept_running setup past e s.running);
      under = subst (λ (ws : List Window). AllByRecursion (IsUnder ws) ws) (sym same) (kept_under 15 (15 + length (windows_made past)) (live past) e s.rising s.under);
    }

-- with a window more
pub live-made : (setup : Setup) (past : Past) (e : Entry) (m : MakesOne setup past e) → is_refused e ≡ false → live (e ∷ past) ≡ live past ++ m.z ∷ []
live-made setup past e m right =
    live-next e past right
    ∙ (ap (λ l. kept e (live past) ++ l) m.one
    ∙ ap (λ l. l ++ m.z ∷ []) (filter_every (λ x. not (drops e (live past) x)) (λ x. ap not (m.keeps x)) (live past)))

up_less : (past : Past) (last : ℕ) (z : Window) → IsRising 15 last (live past) → IsUnder (live past) z → up z ≤ last
up_less past last z h u = elim u [
  | inl none ↦ omega (arith, none)
  | inr under ↦
      let found = thread_found (live past) (up z) z.thread under in
      let b = between_found 15 last (live past) (up z) found.0 h found.1 in
      let n = number_found (live past) (up z) found.0 found.1 in
      omega (arith, b.within, n)
]

sound_one : (setup : Setup) (past : Past) (e : Entry) → is_refused e ≡ false → IsSound setup past → MakesOne setup past e → IsSound setup (e ∷ past)
sound_one setup past e right s m =
    let z = m.z in
    let same : live (e ∷ past) ≡ live past ++ z ∷ [] = live-made setup past e m right in
    let made : windows_made (e ∷ past) ≡ windows_made past ++ z.number ∷ [] = windows_made-next e past right ∙ ap (λ l. windows_made past ++ l) m.number in
    let last_is : z.number ≡ 15 + length (windows_made past ++ z.number ∷ []) = omega (arith, m.is_next, length-append (windows_made past) (z.number ∷ [])) in
    let less = up_less past (15 + length (windows_made past)) z s.rising m.under in
    let ends_none : (t : ℕ) → ends_thread e t ≡ false = λ t. ap (λ b. b && eqb e.who.0 t) m.ends_none in
    record {
      rising =
          subst (λ (ns : List ℕ). IsRising 15 (15 + length ns) (live (e ∷ past))) (sym made)
          (subst (λ (n : ℕ). IsRising 15 n (live (e ∷ past))) last_is
          (subst (IsRising 15 z.number) (sym same)
          (rising_more 15 (15 + length (windows_made past)) (live past) z s.rising (omega (arith, m.is_next)) (omega (arith, m.is_next, less)))));
      running =
          subst (AllByRecursion (λ x. is_running setup (e ∷ past) x.thread ≡ true)) (sym same)
          (all_append (λ x. is_running setup (e ∷ past) x.thread ≡ true) (live past) (z ∷ [])
          (all_weaker (λ (x : Window). is_running setup past x.thread ≡ true) (λ (x : Window). is_running setup (e ∷ past) x.thread ≡ true) (λ x r. running-same setup past e x.thread (ends_none x.thread) ∙ r) (live past) s.running)
          (running-same setup past e z.thread (ends_none z.thread) ∙ m.running, tt));
      under = subst (λ (ws : List Window). AllByRecursion (IsUnder ws) ws) (sym same) (under_more (live past) z s.under m.under);
    }

sound_next : (setup : Setup) (past : Past) (e : Entry) → e.answer ≡ reply setup past e.who.0 e.call → IsSound setup past → IsSound setup (e ∷ past)
sound_next setup past e right s = pick (is_refused e) refl
  where
    pick : (b : Bool) → is_refused e ≡ b → IsSound setup (e ∷ past)
    pick true h = sound_refused setup past e h s
    pick false h = elim (makes setup past e.who e.call e.answer right s.under) [
      | inl none ↦ sound_none setup past e h s none
      | inr one ↦ sound_one setup past e h s one
    ]

pub sound : (setup : Setup) (past : Past) → IsLawful setup past → IsSound setup past
sound setup [] h = record { rising = omega arith; running = tt; under = tt }
sound setup (e ∷ past) h = sound_next setup past e h.1 (sound setup past h.0)
