-- The timers that are kept after an entry are those of the past with the entry.
use Rattle.std.proofs.Common.{◌≡◌, ℕ, Bool, true, false, not, cond, eqb, ◌∷◌, ◌++◌, List, [], Option, Some, None, refl, ap, sym, ◌∙◌, arith}
use Rattle.std.proofs.lemmas.Bool.Decides.{nat_tests}
use Rattle.std.specs.Prelude.{◌&&◌, ◌||◌, filter, map, max, min, is_some, option_map, unwrap_or}
use Rattle.std.specs.List.{AllByRecursion}
use Rattle.std.proofs.lemmas.Bool.{false≢true, eqb-true}
use Rattle.win_num.specs.declared.message.Msg.{Msg}
use Rattle.win_num.specs.declared.message.Thread.{Thread}
use Rattle.win_rows.specs.declared.window.Window.{Window as KeptWindow}
use Rattle.win_rows.specs.Windows as rows
use Rattle.win_rows.specs.Windows.{Windows}
use Rattle.win_tree.specs.Kin as kept_kin
use Rattle.timer_source.specs.declared.setting.Setting.{Setting}
use Rattle.timer_source.specs.Settings.{anew, is_of, restarted, setting_at}
use Rattle.user_model.specs.declared.call.Call.{Call}
use Rattle.user_model.specs.declared.call.Call.TheVariants as calls
use Rattle.user_model.specs.declared.entry.Answer.{Answer}
use Rattle.user_model.specs.declared.entry.Answer.TheVariants as answers
use Rattle.user_model.specs.declared.entry.Origin.TheVariants as origins
use Rattle.user_model.specs.declared.entry.Entry.{Entry}
use Rattle.user_model.specs.declared.entry.Setup.{Setup}
use Rattle.user_model.specs.Past.{Past, is_refused, is_refusal}
use Rattle.user_model.specs.Places.{clock, is_end}
use Rattle.user_model.specs.Windows.{Window, live, find_window, is_live, is_kin, thread_of, drops, drops_kin, drops_window}
use Rattle.user_model.specs.Retrievals.{removes, removed_timer}
use Rattle.user_model.specs.Timers.{WinTimer, is_timer, timers, timers_set, ends_timer, base, is_message_of, restarts, sets}
use Rattle.user_model.specs.Idle.{reply}
use Rattle.user_model.specs.Legal.{IsLawful}
use Rattle.user_model.proofs.KeptWindows.{or_neither}
use Rattle.user_model.proofs.ListLaws.{filter_every}
use Rattle.user_model.proofs.TimerLaws.{timers-next, timers-refused, base-next, base-refused}
use Rattle.user_model.proofs.TimerReplies.{set_okay, set_told, kill_okay}
use Rattle.user_model.proofs.TimerWindows.{left_alone, none_dropped, set_left, thread_stays, timers_live}
use Rattle.user_model.proofs.WindowFacts.{live_window}
use Rattle.user_model.proofs.WindowLaws.{live-refused}
use Rattle.user_model.proofs.WindowReplies.{drop_okay}
use Rattle.window_state.specs.Trees.{IsTreeAt}
use Rattle.window_state.proofs.Bridges.{kin_made, live_made}
use Rattle.window_state.proofs.TreeFacts.{found_passes}
use Rattle.timer_state.specs.Changes.{added_timers, followed, goes_with, kept_of, set_by}
use Rattle.timer_state.specs.TimerLists.{kept, timers_at}
use Rattle.timer_state.proofs.Kept.{filter_mapped, map_agree, map_joined, map_twice, nothing_behind, swapped}

-- a setting with its period begun anew, where the message is its timer's
abbrev after : ℕ → Option Msg → Setting → Setting
after time None s = s
after time (Some m) s = anew m.hwnd m.wparam time s

-- whether a timer stays
abbrev stays : Entry → Past → WinTimer → Bool
stays e past x = not (ends_timer e.call x || drops_window e past x.hwnd)

-- a timer whose window stays, after an entry
kept_after : (e : Entry) (past : Past) (x : WinTimer) → is_refused e ≡ false → is_live past x.hwnd ≡ true → drops_window e past x.hwnd ≡ false → sets x.hwnd x.id e.call ≡ false → kept (e ∷ past) x ≡ after (clock past) (removed_timer e.answer e.call) (kept past x)
kept_after e past x fine lives left unset =
    ap (λ t. record (kept past x) { thread = record { 0 = t }; base = base (e ∷ past) x }) (thread_stays e past x.hwnd (left_alone e past x.hwnd lives left))
    ∙ ap (λ n. record (kept past x) { base = n }) (base-next e past x fine ∙ ap (λ b. unwrap_or (cond (b || is_message_of x.hwnd x.id (removed_timer e.answer e.call)) (Some (clock past)) None) (base past x)) unset)
    ∙ by (removed_timer e.answer e.call)
  where
    pick : (m : Msg) (b : Bool) → record (kept past x) { base = unwrap_or (cond b (Some (clock past)) None) (base past x) } ≡ cond b (record (kept past x) { base = clock past }) (kept past x)
    pick m true = refl
    pick m false = refl

    by : (o : Option Msg) → record (kept past x) { base = unwrap_or (cond (is_message_of x.hwnd x.id o) (Some (clock past)) None) (base past x) } ≡ after (clock past) o (kept past x)
    by None = refl
    by (Some m) = pick m (eqb m.hwnd.0 x.hwnd && eqb m.wparam x.id) ∙ ap (λ b. cond b (record (kept past x) { base = clock past }) (kept past x)) (swapped m.hwnd.0 x.hwnd m.wparam x.id)

-- ---- an entry that was refused

at_refusal : (setup : Setup) (past : Past) (e : Entry) → is_refused e ≡ true → timers_at (e ∷ past) ≡ timers_at past
at_refusal setup past e h = ap (map (kept (e ∷ past))) (timers-refused e past h) ∙ all (timers past)
  where
    one : (x : WinTimer) → kept (e ∷ past) x ≡ kept past x
    one x =
        ap (λ ws. record (kept past x) { thread = record { 0 = unwrap_or (option_map (λ (y : Window). y.thread) (find_window ws x.hwnd)) 0 }; base = base (e ∷ past) x }) (live-refused e past h)
        ∙ ap (λ n. record (kept past x) { base = n }) (base-refused e past x h)

    all : (xs : List WinTimer) → map (kept (e ∷ past)) xs ≡ map (kept past) xs
    all [] = refl
    all (x ∷ xs) = ap (λ s. s ∷ map (kept (e ∷ past)) xs) (one x) ∙ ap (λ ys. kept past x ∷ ys) (all xs)

-- ---- a call that has nothing to do with timers, and drops nothing

record IsPlain (call : Call) : Type 0 where
  sets_none : timers_set call ≡ []
  ends_none : (x : WinTimer) → ends_timer call x ≡ false
  begins_none : (w id : ℕ) → sets w id call ≡ false
  drops_none : (ws : List Window) (x : Window) → drops_kin call ws x ≡ false

-- all timers stay, where the entry ends no thread
all_after : (setup : Setup) (past : Past) (e : Entry) → IsLawful setup past → is_refused e ≡ false → is_end e.answer ≡ false → IsPlain e.call → timers_at (e ∷ past) ≡ map (after (clock past) (removed_timer e.answer e.call)) (timers_at past)
all_after setup past e lawful fine no_end plain =
    let left : (x : WinTimer) → drops_window e past x.hwnd ≡ false = λ x. none_dropped e past x.hwnd (plain.drops_none (live past)) no_end in
    let same : timers (e ∷ past) ≡ timers past =
    timers-next e past fine
    ∙ ap (λ xs. xs ++ timers_set e.call) (filter_every (stays e past) (λ x. ap (λ b. not (b || drops_window e past x.hwnd)) (plain.ends_none x) ∙ ap not (left x)) (timers past))
    ∙ ap (λ xs. timers past ++ xs) plain.sets_none ∙ nothing_behind (timers past) in
    ap (map (kept (e ∷ past))) same
    ∙ map_agree (λ x. is_live past x.hwnd ≡ true) (kept (e ∷ past)) (λ x. after (clock past) (removed_timer e.answer e.call) (kept past x)) (λ x lives. kept_after e past x fine lives (left x) (plain.begins_none x.hwnd x.id)) (timers past) (timers_live setup past lawful)
    ∙ sym (map_twice (after (clock past) (removed_timer e.answer e.call)) (kept past) (timers past))

after_none : (time : ℕ) (xs : List Setting) → map (after time None) xs ≡ xs
after_none time [] = refl
after_none time (x ∷ xs) = ap (λ ys. x ∷ ys) (after_none time xs)

-- those of a thread that ends go
ended_after : (setup : Setup) (past : Past) (e : Entry) → IsLawful setup past → e.answer ≡ answers.Ended → IsPlain e.call → timers_at (e ∷ past) ≡ filter (λ s. not (eqb s.thread.0 e.who.0)) (timers_at past)
ended_after setup past e lawful is plain =
    let fine : is_refused e ≡ false = ap is_refusal is in
    let told : removed_timer e.answer e.call ≡ None = ap (λ a. removed_timer a e.call) is in
    let kept_ones : timers (e ∷ past) ≡ filter (stays e past) (timers past) = timers-next e past fine ∙ ap (λ xs. filter (stays e past) (timers past) ++ xs) plain.sets_none ∙ nothing_behind (filter (stays e past) (timers past)) in
    ap (map (kept (e ∷ past))) kept_ones
    ∙ each (timers past) (timers_live setup past lawful)
    ∙ sym (filter_mapped (λ s. not (eqb s.thread.0 e.who.0)) (kept past) (timers past))
  where
    leaves : (x : WinTimer) → is_live past x.hwnd ≡ true → drops_window e past x.hwnd ≡ eqb (thread_of past x.hwnd) e.who.0
    leaves x lives =
        let found = live_window past x.hwnd lives in
        ap (λ o. unwrap_or (option_map (drops e (live past)) o) false) found.1
        ∙ ap (λ b. b || is_end e.answer && eqb e.who.0 found.0.thread) (plain.drops_none (live past) found.0)
        ∙ ap (λ a. is_end a && eqb e.who.0 found.0.thread) is
        ∙ flipped e.who.0 found.0.thread
        ∙ ap (λ o. eqb (unwrap_or (option_map (λ (y : Window). y.thread) o) 0) e.who.0) (sym found.1)
      where
        flipped : (a b : ℕ) → eqb a b ≡ eqb b a
        flipped a b = grind (arith, nat_tests)

    one : (x : WinTimer) (xs : List WinTimer) → is_live past x.hwnd ≡ true → map (kept (e ∷ past)) (filter (stays e past) xs) ≡ map (kept past) (filter (λ y. not (eqb (thread_of past y.hwnd) e.who.0)) xs) → (b : Bool) → eqb (thread_of past x.hwnd) e.who.0 ≡ b → map (kept (e ∷ past)) (cond (not b) (x ∷ filter (stays e past) xs) (filter (stays e past) xs)) ≡ map (kept past) (cond (not b) (x ∷ filter (λ y. not (eqb (thread_of past y.hwnd) e.who.0)) xs) (filter (λ y. not (eqb (thread_of past y.hwnd) e.who.0)) xs))
    one x xs lives rest true same = rest
    one x xs lives rest false other =
        let same : kept (e ∷ past) x ≡ kept past x =
        kept_after e past x (ap is_refusal is) lives (leaves x lives ∙ other) (plain.begins_none x.hwnd x.id)
        ∙ ap (λ o. after (clock past) o (kept past x)) (ap (λ a. removed_timer a e.call) is) in
        ap (λ s. s ∷ map (kept (e ∷ past)) (filter (stays e past) xs)) same ∙ ap (λ ys. kept past x ∷ ys) rest

    each : (xs : List WinTimer) → AllByRecursion (λ x. is_live past x.hwnd ≡ true) xs → map (kept (e ∷ past)) (filter (stays e past) xs) ≡ map (kept past) (filter (λ x. not (eqb (thread_of past x.hwnd) e.who.0)) xs)
    each [] h = refl
    each (x ∷ xs) h =
        let gone : stays e past x ≡ not (eqb (thread_of past x.hwnd) e.who.0) = ap (λ b. not (b || drops_window e past x.hwnd)) (plain.ends_none x) ∙ ap not (leaves x h.0) in
        ap (λ b. map (kept (e ∷ past)) (cond b (x ∷ filter (stays e past) xs) (filter (stays e past) xs))) gone
        ∙ one x xs h.0 (each xs h.1) (eqb (thread_of past x.hwnd) e.who.0) refl

-- ---- an entry of such a call

plain_followed : (ws : List KeptWindow) (who : Thread) (time : ℕ) (a : Answer) (call : Call) (old : List Setting) → is_end a ≡ false → ((l : List Setting) → set_by who time call l ≡ l) → ((l : List Setting) → kept_of ws call l ≡ l) → followed ws who time a call (added_timers who time a call old) ≡ map (after time (removed_timer a call)) old
plain_followed ws who time answers.Okay call old no_end adds keeps = keeps (set_by who time call old) ∙ adds old ∙ sym (after_none time old)
plain_followed ws who time answers.Ended call old no_end adds keeps = absurd (false≢true (sym no_end))
plain_followed ws who time (answers.Got origins.Timer n m) call old no_end adds keeps = by (removes call)
  where
    by : (b : Bool) → cond b (restarted m.hwnd m.wparam time old) old ≡ map (after time (cond b (Some m) None)) old
    by true = refl
    by false = sym (after_none time old)
plain_followed ws who time (answers.Got origins.Posted n m) call old no_end adds keeps = sym (after_none time old)
plain_followed ws who time (answers.Got origins.Quit n m) call old no_end adds keeps = sym (after_none time old)
plain_followed ws who time (answers.Got origins.Input n m) call old no_end adds keeps = sym (after_none time old)
plain_followed ws who time (answers.Got origins.Paint n m) call old no_end adds keeps = sym (after_none time old)
plain_followed ws who time _ call old no_end adds keeps = sym (after_none time old)

is_ended : (a : Answer) → is_end a ≡ true → a ≡ answers.Ended
is_ended answers.Ended h = refl
is_ended _ h = absurd (false≢true h)

ended_followed : (ws : List KeptWindow) (who : Thread) (time : ℕ) (a : Answer) (call : Call) (old : List Setting) → a ≡ answers.Ended → followed ws who time a call (added_timers who time a call old) ≡ filter (λ s. not (eqb s.thread.0 who.0)) old
ended_followed ws who time a call old is = ap (λ b. followed ws who time b call (added_timers who time b call old)) is

plain_step : (setup : Setup) (past : Past) (t : Windows) (e : Entry) → IsLawful setup past → is_refused e ≡ false → IsPlain e.call → ((l : List Setting) → set_by e.who (clock past) e.call l ≡ l) → ((l : List Setting) → kept_of t.live e.call l ≡ l) → followed t.live e.who (clock past) e.answer e.call (added_timers e.who (clock past) e.answer e.call (timers_at past)) ≡ timers_at (e ∷ past)
plain_step setup past t e lawful fine plain adds keeps = by (is_end e.answer) refl
  where
    by : (b : Bool) → is_end e.answer ≡ b → followed t.live e.who (clock past) e.answer e.call (added_timers e.who (clock past) e.answer e.call (timers_at past)) ≡ timers_at (e ∷ past)
    by false no_end = plain_followed t.live e.who (clock past) e.answer e.call (timers_at past) no_end adds keeps ∙ sym (all_after setup past e lawful fine no_end plain)
    by true ends = let is = is_ended e.answer ends in ended_followed t.live e.who (clock past) e.answer e.call (timers_at past) is ∙ sym (ended_after setup past e lawful is plain)

-- ---- a call that was answered by ok

-- those that stay of a list of live windows' timers, where their periods don't begin anew
some_after : (past : Past) (e : Entry) (goes : WinTimer → Bool) (xs : List WinTimer) → e.answer ≡ answers.Okay → AllByRecursion (λ x. is_live past x.hwnd ≡ true) xs → ((x : WinTimer) → is_live past x.hwnd ≡ true → (ends_timer e.call x || drops_window e past x.hwnd) ≡ goes x) → ((x : WinTimer) → goes x ≡ false → sets x.hwnd x.id e.call ≡ false) → map (kept (e ∷ past)) (filter (stays e past) xs) ≡ map (kept past) (filter (λ x. not (goes x)) xs)
some_after past e goes [] is h says begins = refl
some_after past e goes (x ∷ xs) is h says begins =
    ap (λ b. map (kept (e ∷ past)) (cond (not b) (x ∷ filter (stays e past) xs) (filter (stays e past) xs))) (says x h.0) ∙ pick (goes x) refl (some_after past e goes xs is h.1 says begins)
  where
    pick : (b : Bool) → goes x ≡ b → map (kept (e ∷ past)) (filter (stays e past) xs) ≡ map (kept past) (filter (λ y. not (goes y)) xs) → map (kept (e ∷ past)) (cond (not b) (x ∷ filter (stays e past) xs) (filter (stays e past) xs)) ≡ map (kept past) (cond (not b) (x ∷ filter (λ y. not (goes y)) xs) (filter (λ y. not (goes y)) xs))
    pick true go rest = rest
    pick false stay rest =
        let left = (or_neither (ends_timer e.call x) (drops_window e past x.hwnd) (says x h.0 ∙ stay)).1 in
        let same : kept (e ∷ past) x ≡ kept past x = kept_after e past x (ap is_refusal is) h.0 left (begins x stay) ∙ ap (λ o. after (clock past) o (kept past x)) (ap (λ a. removed_timer a e.call) is) in
        ap (λ s. s ∷ map (kept (e ∷ past)) (filter (stays e past) xs)) same ∙ ap (λ ys. kept past x ∷ ys) rest

or_no : (b c : Bool) → c ≡ false → (b || c) ≡ b
or_no true c h = refl
or_no false c h = h

both_turned : (a b c d : ℕ) → (eqb a b && eqb c d) ≡ false → (eqb b a && eqb d c) ≡ false
both_turned a b c d h = sym (swapped a b c d) ∙ h

set_step : (setup : Setup) (past : Past) (t : Windows) (e : Entry) (w id ms : ℕ) → IsLawful setup past → e.answer ≡ reply setup past e.who.0 e.call → is_refused e ≡ false → e.call ≡ calls.SetTimer w id ms → followed t.live e.who (clock past) e.answer e.call (added_timers e.who (clock past) e.answer e.call (timers_at past)) ≡ timers_at (e ∷ past)
set_step setup past t e w id ms lawful right fine call =
    let told : reply setup past e.who.0 (calls.SetTimer w id ms) ≡ e.answer = sym (right ∙ ap (reply setup past e.who.0) call) in
    let okay : e.answer ≡ answers.Okay = set_okay setup past e.who.0 w id ms e.answer told fine in
    let set = set_told setup past e.who.0 w id ms (told ∙ okay) in
    let drops_none : (x : WinTimer) → drops_window e past x.hwnd ≡ false = λ x. none_dropped e past x.hwnd (λ y. ap (λ c. drops_kin c (live past) y) call) (ap is_end okay) in
    let z : WinTimer = record { hwnd = w; id = id; period = min (max ms 10) 2147483647 } in
    let begun : restarts w id e ≡ true = ap (λ c. sets w id c || is_message_of w id (removed_timer e.answer c)) call ∙ ap (λ b. b || is_message_of w id (removed_timer e.answer (calls.SetTimer w id ms))) (itself w id) in
    let now : base (e ∷ past) z ≡ clock past = base-next e past z fine ∙ ap (λ b. unwrap_or (cond b (Some (clock past)) None) (base past z)) begun in
    let owner : thread_of (e ∷ past) w ≡ e.who.0 = thread_stays e past w (set_left setup past e w id ms right fine call) ∙ eqb-true (thread_of past w) e.who.0 set.own.own in
    let fresh : kept (e ∷ past) z ≡ setting_at e.who (record { 0 = w }) id ms (clock past) = ap (λ n. record (kept (e ∷ past) z) { thread = record { 0 = n } }) owner ∙ ap (λ n. record (setting_at e.who (record { 0 = w }) id ms 0) { base = n }) now in
    let older = some_after past e (is_timer w id) (timers past) okay (timers_live setup past lawful)
    (λ x lives. or_no (ends_timer e.call x) (drops_window e past x.hwnd) (drops_none x) ∙ ap (λ c. ends_timer c x) call)
    (λ x stay. ap (sets x.hwnd x.id) call ∙ both_turned x.hwnd w x.id id stay) in
    ap (λ c. followed t.live e.who (clock past) e.answer c (added_timers e.who (clock past) e.answer c (timers_at past))) call
    ∙ ap (λ a. followed t.live e.who (clock past) a (calls.SetTimer w id ms) (added_timers e.who (clock past) a (calls.SetTimer w id ms) (timers_at past))) okay
    ∙ ap (λ l. l ++ setting_at e.who (record { 0 = w }) id ms (clock past) ∷ []) (filter_mapped (λ s. not (is_of (record { 0 = w }) id s)) (kept past) (timers past) ∙ sym older)
    ∙ ap (λ s. map (kept (e ∷ past)) (filter (stays e past) (timers past)) ++ s ∷ []) (sym fresh)
    ∙ sym (map_joined (kept (e ∷ past)) (filter (stays e past) (timers past)) (z ∷ []))
    ∙ ap (λ c. map (kept (e ∷ past)) (filter (stays e past) (timers past) ++ timers_set c)) (sym call)
    ∙ ap (map (kept (e ∷ past))) (sym (timers-next e past fine))
  where
    itself : (a b : ℕ) → (eqb a a && eqb b b) ≡ true
    itself a b = grind arith

-- those that stay, where the call sets none
left_step : (setup : Setup) (past : Past) (t : Windows) (e : Entry) (call : Call) (goes : WinTimer → Bool) → IsLawful setup past → is_refused e ≡ false → e.answer ≡ answers.Okay → e.call ≡ call → timers_set call ≡ [] → ((x : WinTimer) → is_live past x.hwnd ≡ true → (ends_timer call x || drops_window e past x.hwnd) ≡ goes x) → ((x : WinTimer) → sets x.hwnd x.id call ≡ false) → map (kept past) (filter (λ x. not (goes x)) (timers past)) ≡ timers_at (e ∷ past)
left_step setup past t e call goes lawful fine okay is none says begins =
    sym (some_after past e goes (timers past) okay (timers_live setup past lawful) (λ x lives. ap (λ c. ends_timer c x || drops_window e past x.hwnd) is ∙ says x lives) (λ x stay. ap (sets x.hwnd x.id) is ∙ begins x))
    ∙ ap (map (kept (e ∷ past))) (sym (timers-next e past fine ∙ ap (λ xs. filter (stays e past) (timers past) ++ xs) (ap timers_set is ∙ none) ∙ nothing_behind (filter (stays e past) (timers past))))

kill_step : (setup : Setup) (past : Past) (t : Windows) (e : Entry) (w id : ℕ) → IsLawful setup past → e.answer ≡ reply setup past e.who.0 e.call → is_refused e ≡ false → e.call ≡ calls.KillTimer w id → followed t.live e.who (clock past) e.answer e.call (added_timers e.who (clock past) e.answer e.call (timers_at past)) ≡ timers_at (e ∷ past)
kill_step setup past t e w id lawful right fine call =
    let told : reply setup past e.who.0 (calls.KillTimer w id) ≡ e.answer = sym (right ∙ ap (reply setup past e.who.0) call) in
    let okay : e.answer ≡ answers.Okay = kill_okay setup past e.who.0 w id e.answer told fine in
    let drops_none : (x : WinTimer) → drops_window e past x.hwnd ≡ false = λ x. none_dropped e past x.hwnd (λ y. ap (λ c. drops_kin c (live past) y) call) (ap is_end okay) in
    ap (λ c. followed t.live e.who (clock past) e.answer c (added_timers e.who (clock past) e.answer c (timers_at past))) call
    ∙ ap (λ a. followed t.live e.who (clock past) a (calls.KillTimer w id) (added_timers e.who (clock past) a (calls.KillTimer w id) (timers_at past))) okay
    ∙ filter_mapped (λ s. not (is_of (record { 0 = w }) id s)) (kept past) (timers past)
    ∙ left_step setup past t e (calls.KillTimer w id) (is_timer w id) lawful fine okay call refl (λ x lives. or_no (is_timer w id x) (drops_window e past x.hwnd) (drops_none x)) (λ x. refl)

drop_step : (setup : Setup) (past : Past) (t : Windows) (e : Entry) (v : ℕ) → IsLawful setup past → IsTreeAt past t → e.answer ≡ reply setup past e.who.0 e.call → is_refused e ≡ false → e.call ≡ calls.Drop v → followed t.live e.who (clock past) e.answer e.call (added_timers e.who (clock past) e.answer e.call (timers_at past)) ≡ timers_at (e ∷ past)
drop_step setup past t e v lawful at right fine call =
    let told : reply setup past e.who.0 (calls.Drop v) ≡ e.answer = sym (right ∙ ap (reply setup past e.who.0) call) in
    let okay : e.answer ≡ answers.Okay = drop_okay setup past e.who.0 v e.answer told fine in
    ap (λ c. followed t.live e.who (clock past) e.answer c (added_timers e.who (clock past) e.answer c (timers_at past))) call
    ∙ ap (λ a. followed t.live e.who (clock past) a (calls.Drop v) (added_timers e.who (clock past) a (calls.Drop v) (timers_at past))) okay
    ∙ filter_mapped (λ s. not (goes_with t.live v s.hwnd.0)) (kept past) (timers past)
    ∙ left_step setup past t e (calls.Drop v) (λ x. goes_with t.live v x.hwnd) lawful fine okay call refl (λ x lives. dropped okay x lives) (λ x. refl)
  where
    in_kin : (w : ℕ) → rows.is_live t.live w ≡ true → is_kin (live past) v w ≡ goes_with t.live v w
    in_kin w lives = ap (λ ws. is_kin ws v w) (sym at.windows) ∙ kin_made t.live v w ∙ ap (λ b. b && kept_kin.is_kin t.live v w) (sym lives)

    dropped : e.answer ≡ answers.Okay → (x : WinTimer) → is_live past x.hwnd ≡ true → drops_window e past x.hwnd ≡ goes_with t.live v x.hwnd
    dropped okay x lives =
        let found = live_window past x.hwnd lives in
        let number : eqb found.0.number x.hwnd ≡ true = found_passes (λ (y : Window). eqb y.number x.hwnd) (live past) found.0 found.1 in
        ap (λ o. unwrap_or (option_map (drops e (live past)) o) false) found.1
        ∙ ap (λ c. drops_kin c (live past) found.0 || (is_end e.answer && eqb e.who.0 found.0.thread)) call
        ∙ ap (λ a. is_kin (live past) v found.0.number || (is_end a && eqb e.who.0 found.0.thread)) okay
        ∙ or_no (is_kin (live past) v found.0.number) false refl
        ∙ ap (is_kin (live past) v) (eqb-true found.0.number x.hwnd number)
        ∙ in_kin x.hwnd (sym (live_made t.live x.hwnd) ∙ ap (λ ws. is_some (find_window ws x.hwnd)) at.windows ∙ lives)

by_call : (setup : Setup) (past : Past) (t : Windows) (e : Entry) (call : Call) → IsLawful setup past → IsTreeAt past t → e.answer ≡ reply setup past e.who.0 e.call → is_refused e ≡ false → e.call ≡ call → followed t.live e.who (clock past) e.answer e.call (added_timers e.who (clock past) e.answer e.call (timers_at past)) ≡ timers_at (e ∷ past)
by_call setup past t e (calls.SetTimer w id ms) lawful at right fine is = set_step setup past t e w id ms lawful right fine is
by_call setup past t e (calls.KillTimer w id) lawful at right fine is = kill_step setup past t e w id lawful right fine is
by_call setup past t e (calls.Drop v) lawful at right fine is = drop_step setup past t e v lawful at right fine is
by_call setup past t e c lawful at right fine is = plain_step setup past t e lawful fine
    (record { sets_none = ap timers_set is; ends_none = λ x. ap (λ d. ends_timer d x) is; begins_none = λ w id. ap (sets w id) is; drops_none = λ ws x. ap (λ d. drops_kin d ws x) is })
    (λ l. ap (λ d. set_by e.who (clock past) d l) is) (λ l. ap (λ d. kept_of t.live d l) is)

refused_same : (ws : List KeptWindow) (who : Thread) (time : ℕ) (a : Answer) (call : Call) (old : List Setting) → is_refusal a ≡ true → followed ws who time a call (added_timers who time a call old) ≡ old
refused_same ws who time (answers.Refused code) call old h = refl
refused_same ws who time _ call old h = absurd (false≢true h)

-- the timers after an entry
pub timers_after : (setup : Setup) (past : Past) (t : Windows) (e : Entry) → IsLawful setup past → IsTreeAt past t → e.answer ≡ reply setup past e.who.0 e.call → followed t.live e.who (clock past) e.answer e.call (added_timers e.who (clock past) e.answer e.call (timers_at past)) ≡ timers_at (e ∷ past)
timers_after setup past t e lawful at right = by (is_refused e) refl
  where
    by : (b : Bool) → is_refused e ≡ b → followed t.live e.who (clock past) e.answer e.call (added_timers e.who (clock past) e.answer e.call (timers_at past)) ≡ timers_at (e ∷ past)
    by true h = refused_same t.live e.who (clock past) e.answer e.call (timers_at past) h ∙ sym (at_refusal setup past e h)
    by false h = by_call setup past t e e.call lawful at right h refl
