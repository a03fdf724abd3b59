-- Which due timers came after the last look is told by the clock of the look.
use Rattle.std.proofs.Common.{◌≡◌, ℕ, ◌+◌, ◌<◌, ◌≤◌, Bool, true, false, not, cond, eqb, List, [], ◌∷◌, length, Option, Some, None, refl, ap, ◌∙◌, sym, subst, arith}
use Rattle.std.specs.Prelude.{◌&&◌, ◌||◌, filter, max, min, nat_le, nat_lt, option_map, unwrap_or}
use Rattle.std.specs.List.{AllByRecursion}
use Rattle.std.proofs.lemmas.Bool.{and_parts, eqb-true, false≢true}
use Rattle.std.proofs.lemmas.Bool.Decides.{nat_tests}
use Rattle.win_num.specs.declared.message.Filter.{Filter}
use Rattle.win_num.specs.declared.message.Msg.{Msg}
use Rattle.user_model.specs.declared.call.Call.{Call}
use Rattle.user_model.specs.declared.call.Call.TheVariants.{SetTimer}
use Rattle.user_model.specs.declared.entry.Answer.{Answer}
use Rattle.user_model.specs.declared.entry.Answer.TheVariants as answers
use Rattle.user_model.specs.declared.entry.Origin.TheVariants as origins
use Rattle.user_model.specs.declared.entry.Entry.{Entry}
use Rattle.user_model.specs.declared.entry.Setup.{Setup}
use Rattle.user_model.specs.Past.{Past, is_refused}
use Rattle.user_model.specs.Places.{clock}
use Rattle.user_model.specs.Windows.{Window, drops_window, find_window, is_live, thread_of}
use Rattle.user_model.specs.Retrievals.{removed_timer, removes}
use Rattle.user_model.specs.Timers.{WinTimer, base, due, due_time, ends_timer, is_due, is_message_of, passes_timer, passing_timers, sets, sooner, soonest_timer, timers, timers_of, timers_set}
use Rattle.user_model.specs.Since.{has_due_after}
use Rattle.user_model.specs.Status.{came_after, has_timer, is_look, last_look, set_place, setting_told, timer_came}
use Rattle.user_model.specs.Legal.{IsLawful}
use Rattle.user_model.proofs.AnswerFacts.{IsTimer}
use Rattle.user_model.proofs.ListLaws.{all_append, all_filter, all_kept, all_weaker}
use Rattle.user_model.proofs.KeptWindows.{not_true, or_neither}
use Rattle.user_model.proofs.ReplyLaws.{by_row}
use Rattle.user_model.proofs.DeliveryReplies.{timer_told}
use Rattle.user_model.proofs.DirtyLaws.{last_says, last_refused}
use Rattle.user_model.proofs.WindowLaws.{live-refused}
use Rattle.user_model.proofs.TimerLaws.{base-next, base-refused, timers-next, timers-refused}
use Rattle.user_model.proofs.TimerWindows.{IsLeft, left_alone, thread_stays, timers_live}
use Rattle.user_model.proofs.LookLaws.{any_agree, is_look_of, last_look-look, last_look-other, last_look-refused, look_is_tail, tail_earlier, tail_shorter}
use Rattle.user_model.proofs.StatusPosts.{removes_looks}

-- ---- the place of a setting

set_place-next : (e : Entry) (past : Past) (x : WinTimer) → is_refused e ≡ false → set_place (e ∷ past) x ≡ unwrap_or (setting_told x.hwnd x.id e past) (set_place past x)
set_place-next e past x fine = last_says (setting_told x.hwnd x.id) e past 0 fine

set_place-refused : (e : Entry) (past : Past) (x : WinTimer) → is_refused e ≡ true → set_place (e ∷ past) x ≡ set_place past x
set_place-refused e past x h = ap (λ o. unwrap_or o 0) (last_refused (setting_told x.hwnd x.id) e past h)

same_number : (a b : ℕ) → eqb a b ≡ eqb b a
same_number a b = by (eqb a b) refl (eqb b a) refl
  where
    itself : (n : ℕ) → eqb n n ≡ true
    itself n = grind (arith, nat_tests)

    by : (c : Bool) → eqb a b ≡ c → (d : Bool) → eqb b a ≡ d → c ≡ d
    by true h true k = refl
    by false h false k = refl
    by true h false k = absurd (false≢true (sym k ∙ subst (λ (n : ℕ). eqb n a ≡ true) (eqb-true a b h) (itself a)))
    by false h true k = absurd (false≢true (sym h ∙ subst (λ (n : ℕ). eqb n b ≡ true) (eqb-true b a k) (itself b)))

-- a call that leaves a timer doesn't set it
left_unset : (call : Call) (x : WinTimer) → ends_timer call x ≡ false → sets x.hwnd x.id call ≡ false
left_unset (SetTimer w id ms) x h = ap (λ b. b && eqb id x.id) (same_number w x.hwnd) ∙ ap (λ b. eqb x.hwnd w && b) (same_number id x.id) ∙ h
left_unset _ x h = refl

-- ---- whose message it is

all_passing : {X : Type 0} (test : X → Bool) (xs : List X) → AllByRecursion (λ x. test x ≡ true) (filter test xs)
all_passing test [] = tt
all_passing test (x ∷ xs) = by (test x) refl (all_passing test xs)
  where
    by : (b : Bool) → test x ≡ b → AllByRecursion (λ x. test x ≡ true) (filter test xs) → AllByRecursion (λ x. test x ≡ true) (cond b (x ∷ filter test xs) (filter test xs))
    by true h rest = (h, rest)
    by false h rest = rest

soonest_held : (past : Past) (P : WinTimer → Type 0) (xs : List WinTimer) (y : WinTimer) → AllByRecursion P xs → soonest_timer past xs ≡ Some y → P y
soonest_held past P [] y h e = absurd cc
soonest_held past P (x ∷ xs) y h e = let same : sooner past x (soonest_timer past xs) ≡ y = cc in subst P same (by (soonest_timer past xs) (λ z k. soonest_held past P xs z h.1 k))
  where
    picked : (b : Bool) (z : WinTimer) → P z → P (cond b x z)
    picked true z k = h.0
    picked false z k = k

    by : (o : Option WinTimer) → ((z : WinTimer) → o ≡ Some z → P z) → P (sooner past x o)
    by None rest = h.0
    by (Some z) rest = picked (nat_le (due_time past x) (due_time past z)) z (rest z refl)

-- the timer that is due first for t is t's
pub due_own : (past : Past) (t : ℕ) (f : Filter) (y : WinTimer) → due past t f ≡ Some y → thread_of past y.hwnd ≡ t
due_own past t f y h =
    let own : WinTimer → Type 0 = λ x. eqb (thread_of past x.hwnd) t ≡ true in
    eqb-true (thread_of past y.hwnd) t (soonest_held past own (filter (is_due past) (passing_timers past t f)) y (all_filter own (is_due past) (passing_timers past t f) (all_filter own (passes_timer past f) (timers_of past t) (all_passing (λ x. eqb (thread_of past x.hwnd) t) (timers past)))) h)

-- the removal of a timer's message is a look of its thread
own_message : (setup : Setup) (e : Entry) (past : Past) (w id : ℕ) → IsLawful setup (e ∷ past) → is_message_of w id (removed_timer e.answer e.call) ≡ true → (thread_of past w ≡ e.who.0) × (is_look e.call ≡ true)
own_message setup e past w id lawful h = by e.answer refl h
  where
    looks : removes e.call ≡ true → is_look e.call ≡ true
    looks k = seen (is_look e.call) refl
      where
        seen : (b : Bool) → is_look e.call ≡ b → b ≡ true
        seen true l = refl
        seen false l = absurd (false≢true (sym (removes_looks e.call l) ∙ k))

    taken : (n : ℕ) (m : Msg) → e.answer ≡ answers.Got origins.Timer n m → (b : Bool) → removes e.call ≡ b → is_message_of w id (cond b (Some m) None) ≡ true → (thread_of past w ≡ e.who.0) × (is_look e.call ≡ true)
    taken n m is false k l = absurd (false≢true l)
    taken n m is true k l =
        let told : IsTimer setup past e.who.0 e.call n m = timer_told setup past e.who.0 e.call n m (by_row setup past e.who.0 e.call (answers.Got origins.Timer n m) (sym lawful.1 ∙ is) refl).is_row in
        let window : told.of.hwnd ≡ w = sym (ap (λ (x : Msg). x.hwnd.0) told.is_message) ∙ eqb-true m.hwnd.0 w (and_parts (eqb m.hwnd.0 w) (eqb m.wparam id) l).0 in
        (subst (λ (v : ℕ). thread_of past v ≡ e.who.0) window (due_own past e.who.0 told.pass told.of told.is_first), looks k)

    by : (a : Answer) → e.answer ≡ a → is_message_of w id (removed_timer a e.call) ≡ true → (thread_of past w ≡ e.who.0) × (is_look e.call ≡ true)
    by (answers.Got origins.Timer n m) is k = taken n m is (removes e.call) refl k
    by _ is k = absurd (false≢true k)

-- ---- timers and the clock of the look

-- a timer was set before now, with a period of at least 10, and came after the last look of its thread where it is due later than the
-- clock was then
pub record IsTimed (past : Past) (x : WinTimer) : Type 0 where
  pub early : set_place past x < length past
  pub period : 10 ≤ x.period
  pub agrees : (t : ℕ) → thread_of past x.hwnd ≡ t → timer_came past (last_look past t) x ≡ nat_lt (clock (last_look past t)) (due_time past x)

carried : (past after look new : Past) (x : WinTimer) → new ≡ look → set_place after x ≡ set_place past x → base after x ≡ base past x → timer_came past look x ≡ nat_lt (clock look) (due_time past x) → timer_came after new x ≡ nat_lt (clock new) (due_time after x)
carried past after look new x is set began h =
    ap (λ l. came_after l (set_place after x) || not (is_due l x)) is
    ∙ ap (λ n. came_after look n || not (is_due look x)) set
    ∙ h
    ∙ sym (ap (λ l. nat_lt (clock l) (base after x + x.period)) is ∙ ap (λ n. nat_lt (clock look) (n + x.period)) began)

not_late : (n m : ℕ) → not (nat_le n m) ≡ nat_lt m n
not_late n m = by (nat_le n m) refl
  where
    by : (b : Bool) → nat_le n m ≡ b → not b ≡ nat_lt m n
    by true h = sym (grind (arith, nat_tests, h))
    by false h = sym (grind (arith, nat_tests, h))

-- at a look, the timers that are due then are those that came before
at_look : (after : Past) (x : WinTimer) → set_place after x < length after → timer_came after after x ≡ nat_lt (clock after) (due_time after x)
at_look after x early =
    let old : came_after after (set_place after x) ≡ false = grind (arith, nat_tests, early) in
    ap (λ b. b || not (is_due after x)) old ∙ not_late (due_time after x) (clock after)

refused_on : (e : Entry) (past : Past) (x : WinTimer) → is_refused e ≡ true → IsTimed past x → IsTimed (e ∷ past) x
refused_on e past x r k = record {
  early = let early = k.early in let same = set_place-refused e past x r in omega (arith, early, same);
  period = k.period;
  agrees = λ t own. carried past (e ∷ past) (last_look past t) (last_look (e ∷ past) t) x (last_look-refused e past t r) (set_place-refused e past x r) (base-refused e past x r)
      (k.agrees t (sym (ap (λ ws. unwrap_or (option_map (λ (y : Window). y.thread) (find_window ws x.hwnd)) 0) (live-refused e past r)) ∙ own));
}

kept_on : (setup : Setup) (e : Entry) (past : Past) (x : WinTimer) → IsLawful setup (e ∷ past) → is_refused e ≡ false → ends_timer e.call x ≡ false → IsLeft e past x.hwnd → IsTimed past x → IsTimed (e ∷ past) x
kept_on setup e past x lawful fine stays left k = record { early = early; period = k.period; agrees = λ t own. by t (sym (thread_stays e past x.hwnd left) ∙ own) (is_look_of t e) refl }
  where
    unset : sets x.hwnd x.id e.call ≡ false
    unset = left_unset e.call x stays

    set : set_place (e ∷ past) x ≡ set_place past x
    set = set_place-next e past x fine ∙ ap (λ b. unwrap_or (cond b (Some (length past)) None) (set_place past x)) unset

    early : set_place (e ∷ past) x < length (e ∷ past)
    early = let before = k.early in omega (arith, before, set)

    unmessaged : (t : ℕ) → thread_of past x.hwnd ≡ t → is_look_of t e ≡ false → is_message_of x.hwnd x.id (removed_timer e.answer e.call) ≡ false
    unmessaged t own other = seen (is_message_of x.hwnd x.id (removed_timer e.answer e.call)) refl
      where
        itself : (n : ℕ) → eqb n n ≡ true
        itself n = grind (arith, nat_tests)

        seen : (b : Bool) → is_message_of x.hwnd x.id (removed_timer e.answer e.call) ≡ b → b ≡ false
        seen false h = refl
        seen true h =
            let told = own_message setup e past x.hwnd x.id lawful h in
            let mine : eqb e.who.0 t ≡ true = subst (λ (n : ℕ). eqb n t ≡ true) (sym own ∙ told.0) (itself t) in
            absurd (false≢true (sym other ∙ ap (λ b. b && eqb e.who.0 t) told.1 ∙ mine))

    began : (t : ℕ) → thread_of past x.hwnd ≡ t → is_look_of t e ≡ false → base (e ∷ past) x ≡ base past x
    began t own other =
        base-next e past x fine
        ∙ ap (λ b. unwrap_or (cond (b || is_message_of x.hwnd x.id (removed_timer e.answer e.call)) (Some (clock past)) None) (base past x)) unset
        ∙ ap (λ b. unwrap_or (cond b (Some (clock past)) None) (base past x)) (unmessaged t own other)

    by : (t : ℕ) → thread_of past x.hwnd ≡ t → (b : Bool) → is_look_of t e ≡ b → timer_came (e ∷ past) (last_look (e ∷ past) t) x ≡ nat_lt (clock (last_look (e ∷ past) t)) (due_time (e ∷ past) x)
    by t own true h = subst (λ l. timer_came (e ∷ past) l x ≡ nat_lt (clock l) (due_time (e ∷ past) x)) (sym (last_look-look e past t fine h)) (at_look (e ∷ past) x early)
    by t own false h = carried past (e ∷ past) (last_look past t) (last_look (e ∷ past) t) x (last_look-other e past t h) set (began t own h) (k.agrees t own)

-- a timer that is set is later than the look
new_timed : (setup : Setup) (e : Entry) (past : Past) (call : Call) → IsLawful setup (e ∷ past) → is_refused e ≡ false → e.call ≡ call → AllByRecursion (IsTimed (e ∷ past)) (timers_set call)
new_timed setup e past (SetTimer w id ms) lawful fine is = (record { early = let at = set in omega (arith, at); period = omega arith; agrees = λ t own. by t }, tt)
  where
    x : WinTimer
    x = record { hwnd = w; id = id; period = min (max ms 10) 2147483647 }

    itself : (n : ℕ) → eqb n n ≡ true
    itself n = grind (arith, nat_tests)

    now : sets w id e.call ≡ true
    now = ap (sets w id) is ∙ ap (λ b. b && eqb id id) (itself w) ∙ itself id

    set : set_place (e ∷ past) x ≡ length past
    set = set_place-next e past x fine ∙ ap (λ b. unwrap_or (cond b (Some (length past)) None) (set_place past x)) now

    began : base (e ∷ past) x ≡ clock past
    began = base-next e past x fine ∙ ap (λ b. unwrap_or (cond (b || is_message_of w id (removed_timer e.answer e.call)) (Some (clock past)) None) (base past x)) now

    late : (look : Past) → length look ≤ length past → clock look ≤ clock past → timer_came (e ∷ past) look x ≡ nat_lt (clock look) (due_time (e ∷ past) x)
    late look shorter earlier =
        let came : came_after look (length past) ≡ true = grind (arith, nat_tests, shorter) in
        let above : clock look < clock past + x.period = omega (arith, earlier) in
        let later : nat_lt (clock look) (clock past + x.period) ≡ true = grind (arith, nat_tests, above) in
        ap (λ n. came_after look n || not (is_due look x)) set ∙ ap (λ b. b || not (is_due look x)) came
        ∙ sym (ap (λ n. nat_lt (clock look) (n + x.period)) began ∙ later)

    by : (t : ℕ) → timer_came (e ∷ past) (last_look (e ∷ past) t) x ≡ nat_lt (clock (last_look (e ∷ past) t)) (due_time (e ∷ past) x)
    by t = subst (λ l. timer_came (e ∷ past) l x ≡ nat_lt (clock l) (due_time (e ∷ past) x)) (sym (last_look-other e past t (ap (λ c. is_look c && eqb e.who.0 t) is)))
        (late (last_look past t) (tail_shorter setup (last_look past t) past (look_is_tail past t) lawful.0) (tail_earlier setup (last_look past t) past (look_is_tail past t) lawful.0))
new_timed setup e past _ lawful fine is = tt

-- each timer is so
pub timers_timed : (setup : Setup) (past : Past) → IsLawful setup past → AllByRecursion (IsTimed past) (timers past)
timers_timed setup [] lawful = tt
timers_timed setup (e ∷ past) lawful = by (timers_timed setup past lawful.0) (is_refused e) refl
  where
    -- a timer that is there with its window
    Held : WinTimer → Type 0
    Held x = IsTimed past x × (is_live past x.hwnd ≡ true)

    both : (xs : List WinTimer) → AllByRecursion (IsTimed past) xs → AllByRecursion (λ x. is_live past x.hwnd ≡ true) xs → AllByRecursion Held xs
    both [] h k = tt
    both (x ∷ xs) h k = ((h.0, k.0), both xs h.1 k.1)

    stays : is_refused e ≡ false → (x : WinTimer) → not (ends_timer e.call x || drops_window e past x.hwnd) ≡ true → Held x → IsTimed (e ∷ past) x
    stays fine x left held =
        let neither = or_neither (ends_timer e.call x) (drops_window e past x.hwnd) (not_true (ends_timer e.call x || drops_window e past x.hwnd) left) in
        kept_on setup e past x lawful fine neither.0 (left_alone e past x.hwnd held.1 neither.1) held.0

    by : AllByRecursion (IsTimed past) (timers past) → (b : Bool) → is_refused e ≡ b → AllByRecursion (IsTimed (e ∷ past)) (timers (e ∷ past))
    by before true r = subst (AllByRecursion (IsTimed (e ∷ past))) (sym (timers-refused e past r)) (all_weaker (IsTimed past) (IsTimed (e ∷ past)) (λ x k. refused_on e past x r k) (timers past) before)
    by before false r = subst (AllByRecursion (IsTimed (e ∷ past))) (sym (timers-next e past r))
        (all_append (IsTimed (e ∷ past)) (filter (λ x. not (ends_timer e.call x || drops_window e past x.hwnd)) (timers past)) (timers_set e.call)
        (all_kept Held (IsTimed (e ∷ past)) (λ x. not (ends_timer e.call x || drops_window e past x.hwnd)) (stays r) (timers past) (both (timers past) before (timers_live setup past lawful.0)))
        (new_timed setup e past e.call lawful r refl))

-- the due timers that came after the last look are those that are due later than the clock was then
pub timers_since : (setup : Setup) (past : Past) (t : ℕ) → IsLawful setup past → has_timer past t (last_look past t) ≡ has_due_after past t (clock (last_look past t))
timers_since setup past t lawful = any_agree (λ x. IsTimed past x × (eqb (thread_of past x.hwnd) t ≡ true))
    (λ x. is_due past x && timer_came past (last_look past t) x)
    (λ x. is_due past x && nat_lt (clock (last_look past t)) (due_time past x))
    (λ x k. ap (λ b. is_due past x && b) (k.0.agrees t (eqb-true (thread_of past x.hwnd) t k.1)))
    (timers_of past t)
    (all_kept (IsTimed past) (λ x. IsTimed past x × (eqb (thread_of past x.hwnd) t ≡ true)) (λ x. eqb (thread_of past x.hwnd) t) (λ x own k. (k, own)) (timers past) (timers_timed setup past lawful))

-- each due timer is later than the time 0
pub timers_now : (setup : Setup) (past : Past) (t : ℕ) → IsLawful setup past → has_timer past t [] ≡ has_due_after past t 0
timers_now setup past t lawful = any_agree (IsTimed past)
    (λ x. is_due past x && timer_came past [] x)
    (λ x. is_due past x && nat_lt 0 (due_time past x))
    (λ x k. ap (λ b. is_due past x && b) (ap (λ b. b || not (is_due [] x)) (all_came (set_place past x)) ∙ sym (later x k)))
    (timers_of past t)
    (all_filter (IsTimed past) (λ x. eqb (thread_of past x.hwnd) t) (timers past) (timers_timed setup past lawful))
  where
    all_came : (n : ℕ) → nat_le 0 n ≡ true
    all_came n = grind (arith, nat_tests)

    later : (x : WinTimer) → IsTimed past x → nat_lt 0 (due_time past x) ≡ true
    later x k = let period = k.period in let some : 0 < base past x + x.period = omega (arith, period) in grind (arith, nat_tests, some)
