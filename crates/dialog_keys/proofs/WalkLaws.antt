-- What a walk in a lawful history has seen.
use Rattle.std.proofs.Common.{◌≡◌, ℕ, zero, suc, ◌<◌, Bool, true, false, not, cond, eqb, ltb, List, [], ◌∷◌, ◌++◌, length, Option, Some, None, refl, sym, ap, ◌∙◌, subst, arith}
use Rattle.std.specs.Prelude.{◌&&◌, filter, find, map, option_map, unwrap_or, is_some}
use Rattle.std.proofs.lemmas.Bool.{false≢true, leb-false, lt-leb, ne_eqb, eq-eqb}
use Rattle.std.proofs.lemmas.List.{map-append}
use Rattle.std.proofs.lemmas.List.Elements.{filter-append}
use Rattle.std.proofs.Math.Bool.{and-false}
use Rattle.win_num.specs.declared.message.Hwnd.{Hwnd}
use Rattle.win_num.specs.declared.message.Thread.{Thread}
use Rattle.win_num.specs.declared.code.Code.{Code}
use Rattle.win_num.specs.declared.code.Code.TheVariants.{NotNow, Full}
use Rattle.win_num.specs.declared.send.Frame.{Frame}
use Rattle.win_num.specs.declared.send.Frame.TheVariants.{Await}
use Rattle.user_model.specs.declared.call.Call.TheVariants.{ChildAfter, StyleOf}
use Rattle.user_model.specs.declared.entry.Entry.{Entry}
use Rattle.user_model.specs.declared.entry.Setup.{Setup}
use Rattle.user_model.specs.declared.entry.Answer.{Answer}
use Rattle.user_model.specs.declared.entry.Answer.TheVariants as answers
use Rattle.user_model.specs.Past.{Past, is_full, is_refusal}
use Rattle.user_model.specs.Places.{is_end, ends_thread}
use Rattle.user_model.specs.Threads.{is_running}
use Rattle.user_model.specs.Stacks.{top}
use Rattle.user_model.specs.Windows.{Window, find_window, is_live, live, next_child, drops}
use Rattle.user_model.specs.Looks.{Look, style_of}
use Rattle.user_model.specs.Refusals.{refuse, invalid_window_handle}
use Rattle.user_model.specs.Replies.{is_barred_by, thread_reply}
use Rattle.user_model.specs.Idle.{reply, clock_row}
use Rattle.user_model.specs.Legal.{IsLawful}
use Rattle.user_model.specs.Machines.{entry_of}
use Rattle.user_model.proofs.Forests.{IsRising, rising_filter}
use Rattle.user_model.proofs.LiveWindows.{sound, made_by-other, is_new_window, running-same}
use Rattle.user_model.proofs.WindowLaws.{live-same}
use Rattle.user_model.proofs.WindowLooks.{changes_look, look-same}
use Rattle.user_model.proofs.ReplyLaws.{not_refused, by_call, ByRow}
use Rattle.user_model.proofs.SendLaws.{stack-other, stack-same}
use Rattle.dialog_keys.specs.declared.key.DialogKey.{DialogKey}
use Rattle.dialog_keys.specs.Controls.{Control, control, controls, is_open, open_of, open_controls, KeepsControls}
use Rattle.dialog_keys.specs.Traces.{Point, beginning, walking, looking, walked, refused, stating, over, child_call, led_to, child_told, tells_open, seen, style_told}
use Rattle.dialog_keys.specs.Walks.{Walks, begins, meanwhile, finds, looks}
use Rattle.dialog_keys.proofs.ControlLaws.{AreRising, up_to, next_above, none_up_to, next_is_above, up_to_next, up_to_all}

rising_controls : (past : Past) (from last : ℕ) (xs : List Window) → IsRising from last xs → AreRising from (map (control past) xs)
rising_controls past from last [] h = tt
rising_controls past from last (x ∷ xs) h = (h.0, rising_controls past x.number last xs h.2)

-- numbers of controls rise from above 15
rising : (setup : Setup) (past : Past) (dialog : ℕ) → IsLawful setup past → AreRising 15 (controls past dialog)
rising setup past dialog l = rising_controls past 15 _ (filter (λ x. eqb x.parent dialog) (live past)) (rising_filter (λ x. eqb x.parent dialog) 15 _ (live past) (sound setup past l).rising)

-- the next child is the next control
next_number : (past : Past) (dialog v : ℕ) (xs : List Window) → option_map (λ (x : Window). x.number) (find (λ x. eqb x.parent dialog && ltb v x.number) xs) ≡ option_map (λ (c : Control). c.number) (next_above v (map (control past) (filter (λ x. eqb x.parent dialog) xs)))
next_number past dialog v [] = refl
next_number past dialog v (x ∷ xs) = here (eqb x.parent dialog) (next_number past dialog v xs)
  where
    there : (b : Bool) (o : Option Window) (p : Option Control) → option_map (λ (x : Window). x.number) o ≡ option_map (λ (c : Control). c.number) p → option_map (λ (x : Window). x.number) (cond b (Some x) o) ≡ option_map (λ (c : Control). c.number) (cond b (Some (control past x)) p)
    there true o p e = refl
    there false o p e = e

    here : (b : Bool) → option_map (λ (x : Window). x.number) (find (λ x. eqb x.parent dialog && ltb v x.number) xs) ≡ option_map (λ (c : Control). c.number) (next_above v (map (control past) (filter (λ x. eqb x.parent dialog) xs)))
        → option_map (λ (x : Window). x.number) (cond (b && ltb v x.number) (Some x) (find (λ x. eqb x.parent dialog && ltb v x.number) xs)) ≡ option_map (λ (c : Control). c.number) (next_above v (map (control past) (cond b (x ∷ filter (λ x. eqb x.parent dialog) xs) (filter (λ x. eqb x.parent dialog) xs))))
    here true e = there (ltb v x.number) _ _ e
    here false e = e

-- a control that is found is a live window, with its style
found_style : (past : Past) (v : ℕ) (xs : List Window) (c : Control) → next_above v (map (control past) xs) ≡ Some c → c.style ≡ style_of past c.number
found_style past v [] c e = absurd cc
found_style past v (x ∷ xs) c e = here (ltb v x.number) e (found_style past v xs c)
  where
    here : (b : Bool) → cond b (Some (control past x)) (next_above v (map (control past) xs)) ≡ Some c → (next_above v (map (control past) xs) ≡ Some c → c.style ≡ style_of past c.number) → c.style ≡ style_of past c.number
    here true e rest = let same : control past x ≡ c = cc in subst (λ (c : Control). c.style ≡ style_of past c.number) same refl
    here false e rest = rest e

found_live : (past : Past) (dialog v : ℕ) (xs : List Window) (c : Control) → next_above v (map (control past) (filter (λ x. eqb x.parent dialog) xs)) ≡ Some c → is_some (find_window xs c.number) ≡ true
found_live past dialog v [] c e = absurd cc
found_live past dialog v (x ∷ xs) c e = here (eqb x.parent dialog) e (found_live past dialog v xs c)
  where
    any_way : (b : Bool) (o : Option Window) → is_some o ≡ true → is_some (cond b (Some x) o) ≡ true
    any_way true o h = refl
    any_way false o h = h

    this : (n : ℕ) → x.number ≡ n → is_some (cond (eqb x.number n) (Some x) (find_window xs n)) ≡ true
    this n h = ap (λ b. is_some (cond b (Some x) (find_window xs n))) (eq-eqb x.number n h)

    there : (b : Bool) → cond b (Some (control past x)) (next_above v (map (control past) (filter (λ x. eqb x.parent dialog) xs))) ≡ Some c → (next_above v (map (control past) (filter (λ x. eqb x.parent dialog) xs)) ≡ Some c → is_some (find_window xs c.number) ≡ true) → is_some (find_window (x ∷ xs) c.number) ≡ true
    there true e rest = let same : control past x ≡ c = cc in this c.number (ap (λ (c : Control). c.number) same)
    there false e rest = any_way (eqb x.number c.number) (find_window xs c.number) (rest e)

    here : (b : Bool) → next_above v (map (control past) (cond b (x ∷ filter (λ x. eqb x.parent dialog) xs) (filter (λ x. eqb x.parent dialog) xs))) ≡ Some c → (next_above v (map (control past) (filter (λ x. eqb x.parent dialog) xs)) ≡ Some c → is_some (find_window xs c.number) ≡ true) → is_some (find_window (x ∷ xs) c.number) ≡ true
    here true e rest = there (ltb v x.number) e rest
    here false e rest = any_way (eqb x.number c.number) (find_window xs c.number) (rest e)

map_same : {A B : Type 0} (f g : A → B) → ((a : A) → f a ≡ g a) → (xs : List A) → map f xs ≡ map g xs
map_same f g h [] = refl
map_same f g h (x ∷ xs) = ap (λ y. y ∷ map f xs) (h x) ∙ ap (λ ys. g x ∷ ys) (map_same f g h xs)

-- an entry that makes no window, drops none and changes no look leaves the controls
keeps : (dialog : ℕ) (e : Entry) (past : Past) → is_new_window e.call ≡ false → ((x : Window) → drops e (live past) x ≡ false) → changes_look e.call e.answer ≡ false → KeepsControls dialog e past
keeps dialog e past new kept same =
    let lives : live (e ∷ past) ≡ live past = live-same e past (made_by-other e.who.0 e.answer e.call (live past) new) kept in
    ap (λ ws. map (control (e ∷ past)) (filter (λ x. eqb x.parent dialog) ws)) lives
    ∙ map_same (control (e ∷ past)) (control past) (λ x. ap (λ (l : Look). record { number = x.number; style = l.style }) (look-same e past x.number same)) (filter (λ x. eqb x.parent dialog) (live past))

ends_none : (a : Answer) (who t : ℕ) → is_end a ≡ false → (is_end a && eqb who t) ≡ false
ends_none a who t h = ap (λ b. b && eqb who t) h

child_keeps : (dialog : ℕ) (who : Thread) (d v : ℕ) (a : Answer) (past : Past) → is_end a ≡ false → KeepsControls dialog (entry_of who (ChildAfter d v) a) past
child_keeps dialog who d v a past h = keeps dialog (entry_of who (ChildAfter d v) a) past refl (λ x. ends_none a who.0 x.thread h) refl

style_keeps : (dialog : ℕ) (who : Thread) (w : ℕ) (a : Answer) (past : Past) → is_end a ≡ false → KeepsControls dialog (entry_of who (StyleOf w) a) past
style_keeps dialog who w a past h = keeps dialog (entry_of who (StyleOf w) a) past refl (λ x. ends_none a who.0 x.thread h) refl

-- a past that isn't full was none before
before_full : (e : Entry) (past : Past) → is_full (e ∷ past) ≡ false → is_full past ≡ false
before_full e past h = let few = leb-false 2097152 (suc (length past)) h in lt-leb 2097152 (length past) (omega (arith, few))

-- it runs, and its stack allows it to ask
record CanCall (setup : Setup) (past : Past) (who : ℕ) : Type 0 where
  running : is_running setup past who ≡ true
  allowed : is_barred_by (StyleOf 0) (top past who) ≡ false

alike : (o : Option Frame) (d v w : ℕ) → is_barred_by (ChildAfter d v) o ≡ is_barred_by (StyleOf w) o
alike None d v w = refl
alike (Some (Await s)) d v w = refl
alike (Some _) d v w = refl

can_by_other : (setup : Setup) (past : Past) (e : Entry) (who : ℕ) → (e.who.0 ≡ who → ⊥) → CanCall setup past who → CanCall setup (e ∷ past) who
can_by_other setup past e who other can =
    let apart = ne_eqb e.who.0 who other in
    let stays : ends_thread e who ≡ false = ap (λ b. is_end e.answer && b) apart ∙ and-false (is_end e.answer) in
    record {
      running = running-same setup past e who stays ∙ can.running;
      allowed = ap (λ fs. is_barred_by (StyleOf 0) (elim fs as (λ _. Option Frame) [ [] ↦ None | f ∷ gs ↦ Some f ])) (stack-other e past who apart) ∙ can.allowed;
    }

can_by_own : (setup : Setup) (past : Past) (who : Thread) (d v : ℕ) (w : Hwnd) → CanCall setup past who.0 → CanCall setup (entry_of who (ChildAfter d v) (answers.Window w) ∷ past) who.0
can_by_own setup past who d v w can =
    let e = entry_of who (ChildAfter d v) (answers.Window w) in
    record {
      running = running-same setup past e who.0 refl ∙ can.running;
      allowed = ap (λ fs. is_barred_by (StyleOf 0) (elim fs as (λ _. Option Frame) [ [] ↦ None | f ∷ gs ↦ Some f ])) (stack-same e past who.0 refl) ∙ can.allowed;
    }

refused_not : (b : Bool) (code : Code) (x : Answer) → b ≡ false → refuse b code x ≡ x
refused_not true code x h = absurd (false≢true (sym h))
refused_not false code x h = refl

clock_runs_not : (setup : Setup) (past : Past) (who : ℕ) → is_running setup past who ≡ true → eqb who 0 ≡ false
clock_runs_not setup past zero h = absurd (false≢true h)
clock_runs_not setup past (suc who) h = ne_eqb (suc who) 0 (λ e. omega (arith, e))

-- a live window's style is told
style_told_so : (setup : Setup) (past : Past) (who w : ℕ) → is_full past ≡ false → CanCall setup past who → is_live past w ≡ true → reply setup past who (StyleOf w) ≡ answers.Value (style_of past w)
unfolding reply
style_told_so setup past who w room can lives =
    refused_not (is_full past) Full _ room
    ∙ ap (λ b. cond b (clock_row setup past (StyleOf w)) (thread_reply setup past who (StyleOf w))) (clock_runs_not setup past who can.running)
    ∙ refused_not (not (is_running setup past who)) NotNow _ (ap not can.running)
    ∙ refused_not (is_barred_by (StyleOf w) (top past who)) NotNow _ (sym (alike (top past who) 0 0 w) ∙ alike (top past who) 0 0 0 ∙ can.allowed)
    ∙ refused_not (not (is_live past w)) invalid_window_handle _ (ap not lives)

-- the walk came to that child behind the others
record Found (setup : Setup) (past : Past) (who dialog : ℕ) (ws : List ℕ) (w : ℕ) : Type 0 where
  last : ℕ
  found : Control
  is_next : next_above last (controls past dialog) ≡ Some found
  number : found.number ≡ w
  saw : ws ≡ open_of (up_to last (controls past dialog))
  can : CanCall setup past who

-- what holds at a point of the walk over the children of a dialog
abbrev Holds : Setup → ℕ → ℕ → Past → Point → Type 0
Holds setup who d past (walking k forwards ws v) = is_full past ≡ false → ws ≡ open_of (up_to v (controls past d))
Holds setup who d past (looking k forwards ws w) = is_full past ≡ false → Found setup past who d ws w
Holds setup who d past (walked k forwards ws) = ws ≡ open_controls past d
Holds setup who d past (beginning k) = Unit {0}
Holds setup who d past (refused err) = Unit {0}
Holds setup who d past (stating gives ps st) = Unit {0}
Holds setup who d past over = Unit {0}

found_kept : (setup : Setup) (past : Past) (e : Entry) (who dialog : ℕ) (ws : List ℕ) (w : ℕ) → (e.who.0 ≡ who → ⊥) → KeepsControls dialog e past → Found setup past who dialog ws w → Found setup (e ∷ past) who dialog ws w
found_kept setup past e who dialog ws w other same f = record {
  last = f.last;
  found = f.found;
  is_next = ap (next_above f.last) same ∙ f.is_next;
  number = f.number;
  saw = f.saw ∙ sym (ap (λ cs. open_of (up_to f.last cs)) same);
  can = can_by_other setup past e who other f.can;
}

-- another's entry that keeps the controls
held : (setup : Setup) (who d : ℕ) (past : Past) (e : Entry) (p : Point) → (e.who.0 ≡ who → ⊥) → KeepsControls d e past → Holds setup who d past p → Holds setup who d (e ∷ past) p
held setup who d past e (walking k forwards ws v) other same h = λ room. h (before_full e past room) ∙ sym (ap (λ cs. open_of (up_to v cs)) same)
held setup who d past e (looking k forwards ws w) other same h = λ room. found_kept setup past e who d ws w other same (h (before_full e past room))
held setup who d past e (walked k forwards ws) other same h = h ∙ sym (ap open_of same)
held setup who d past e (beginning k) other same h = tt
held setup who d past e (refused err) other same h = tt
held setup who d past e (stating gives ps st) other same h = tt
held setup who d past e over other same h = tt

open_append : (cs ds : List Control) → open_of (cs ++ ds) ≡ open_of cs ++ open_of ds
open_append cs ds = ap (map (λ (c : Control). c.number)) (filter-append (λ (c : Control). is_open c.style) cs ds) ∙ map-append (λ (c : Control). c.number) (filter (λ (c : Control). is_open c.style) cs) (filter (λ (c : Control). is_open c.style) ds)

seen_so : (ws : List ℕ) (c : Control) (b : Bool) → is_open c.style ≡ b → ws ++ open_of (c ∷ []) ≡ seen ws c.number b
seen_so ws c true h = ap (λ b. ws ++ map (λ (c : Control). c.number) (cond b (c ∷ []) [])) h
seen_so ws c false h = ap (λ b. ws ++ map (λ (c : Control). c.number) (cond b (c ∷ []) [])) h ∙ append_nothing ws
  where
    append_nothing : (ws : List ℕ) → ws ++ [] ≡ ws
    append_nothing [] = refl
    append_nothing (w ∷ ws) = ap (λ l. w ∷ l) (append_nothing ws)

-- a `style_of` is answered
styled : (setup : Setup) (past : Past) (who : Thread) (k : DialogKey) (forwards : Bool) (ws : List ℕ) (w : ℕ) (a : Answer) → IsLawful setup (entry_of who (StyleOf w) a ∷ past) → Holds setup who.0 k.dialog.0 past (looking k forwards ws w) → Holds setup who.0 k.dialog.0 (entry_of who (StyleOf w) a ∷ past) (style_told k forwards ws w a)
styled setup past who k forwards ws w a l h = λ room.
    let d = k.dialog.0 in
    let before = before_full (entry_of who (StyleOf w) a) past room in
    let f = h before in
    let lives : is_live past w ≡ true = subst (λ n. is_live past n ≡ true) f.number (found_live past d f.last (live past) f.found f.is_next) in
    let told : a ≡ answers.Value (style_of past w) = l.1 ∙ style_told_so setup past who.0 w before f.can lives in
    let style : f.found.style ≡ style_of past w = found_style past f.last (filter (λ x. eqb x.parent d) (live past)) f.found f.is_next ∙ ap (style_of past) f.number in
    let same : KeepsControls d (entry_of who (StyleOf w) a) past = style_keeps d who w a past (ap is_end told) in
    ap (λ x. seen ws w (tells_open x)) told
    ∙ ap (λ x. seen ws w (is_open x)) (sym style)
    ∙ ap (λ n. seen ws n (is_open f.found.style)) (sym f.number)
    ∙ sym (seen_so ws f.found (is_open f.found.style) refl)
    ∙ ap (λ us. us ++ open_of (f.found ∷ [])) f.saw
    ∙ sym (open_append (up_to f.last (controls past d)) (f.found ∷ []))
    ∙ sym (ap open_of (up_to_next f.last 15 (controls past d) f.found (rising setup past d l.0) f.is_next))
    ∙ ap (λ n. open_of (up_to n (controls past d))) f.number
    ∙ sym (ap (λ cs. open_of (up_to w cs)) same)

refusal_is : (a : Answer) → is_refusal a ≡ true → (code : Code) × (a ≡ answers.Refused code)
refusal_is (answers.Refused code) h = (code, refl)
refusal_is _ h = absurd (false≢true h)

abbrev hwnd_of : ℕ → Hwnd
hwnd_of n = record { 0 = n }

not_zero : (n : ℕ) → 0 < n → eqb n 0 ≡ false
not_zero n h = ne_eqb n 0 (λ e. omega (arith, h, e))

-- a `child_after` gives a window
child_found : (setup : Setup) (past : Past) (who : Thread) (k : DialogKey) (forwards : Bool) (ws : List ℕ) (v : ℕ) (x : Hwnd) (o : Option Control) → next_above v (controls past k.dialog.0) ≡ o → x.0 ≡ unwrap_or (option_map (λ (c : Control). c.number) o) 0 → CanCall setup past who.0 → ws ≡ open_of (up_to v (controls past k.dialog.0)) → Holds setup who.0 k.dialog.0 (entry_of who (child_call k v) (answers.Window x) ∷ past) (child_told k forwards ws (answers.Window x))
child_found setup past who k forwards ws v x None e n can saw =
    let new = entry_of who (child_call k v) (answers.Window x) ∷ past in
    let same : KeepsControls k.dialog.0 (entry_of who (child_call k v) (answers.Window x)) past = child_keeps k.dialog.0 who k.dialog.0 v (answers.Window x) past refl in
    subst (λ b. Holds setup who.0 k.dialog.0 new (led_to k forwards ws None (cond b None (Some x.0)))) (sym (eq-eqb x.0 0 n)) (saw ∙ ap open_of (up_to_all v (controls past k.dialog.0) e) ∙ sym (ap open_of same))
child_found setup past who k forwards ws v x (Some c) e n can saw =
    let new = entry_of who (child_call k v) (answers.Window x) ∷ past in
    let same : KeepsControls k.dialog.0 (entry_of who (child_call k v) (answers.Window x)) past = child_keeps k.dialog.0 who k.dialog.0 v (answers.Window x) past refl in
    let over = next_is_above v (controls past k.dialog.0) c e in
    let found : Found setup new who.0 k.dialog.0 ws x.0 = record {
      last = v;
      found = c;
      is_next = ap (next_above v) same ∙ e;
      number = sym n;
      saw = saw ∙ sym (ap (λ cs. open_of (up_to v cs)) same);
      can = can_by_own setup past who k.dialog.0 v x can;
    } in
    subst (λ b. Holds setup who.0 k.dialog.0 new (led_to k forwards ws None (cond b None (Some x.0)))) (sym (not_zero x.0 (omega (arith, over, n)))) (λ room. found)

-- a `child_after` is answered
child_answered : (setup : Setup) (past : Past) (who : Thread) (k : DialogKey) (forwards : Bool) (ws : List ℕ) (v : ℕ) (a : Answer) → IsLawful setup (entry_of who (child_call k v) a ∷ past) → Holds setup who.0 k.dialog.0 past (walking k forwards ws v) → Holds setup who.0 k.dialog.0 (entry_of who (child_call k v) a ∷ past) (child_told k forwards ws a)
child_answered setup past who k forwards ws v a l h = by_case (is_refusal a) refl
  where
    d : ℕ
    d = k.dialog.0

    new : Past
    new = entry_of who (child_call k v) a ∷ past

    by_case : (b : Bool) → is_refusal a ≡ b → Holds setup who.0 k.dialog.0 new (child_told k forwards ws a)
    by_case true r = let code = refusal_is a r in subst (λ x. Holds setup who.0 k.dialog.0 new (child_told k forwards ws x)) (sym code.1) tt
    by_case false r =
        let by : ByRow setup past who.0 (ChildAfter d v) a = by_call setup past who.0 (ChildAfter d v) a (sym l.1) refl r in
        let behind = not_refused (not (is_live past d)) invalid_window_handle (answers.Window (hwnd_of (unwrap_or (option_map (λ x. x.number) (next_child past d v)) 0))) a r by.is_row in
        let number : unwrap_or (option_map (λ x. x.number) (next_child past d v)) 0 ≡ unwrap_or (option_map (λ (c : Control). c.number) (next_above v (controls past d))) 0 = ap (λ o. unwrap_or o 0) (next_number past d v (live past)) in
        let can : CanCall setup past who.0 = record { running = by.running; allowed = sym (alike (top past who.0) d v 0) ∙ by.allowed } in
        subst (λ x. Holds setup who.0 k.dialog.0 (entry_of who (child_call k v) x ∷ past) (child_told k forwards ws x)) behind.1
        (child_found setup past who k forwards ws v (hwnd_of (unwrap_or (option_map (λ x. x.number) (next_child past d v)) 0)) (next_above v (controls past d)) refl number can (h by.room))

holds : (setup : Setup) (who : Thread) (k : DialogKey) (forwards : Bool) {past : Past} {p : Point} → Walks who k forwards past p → IsLawful setup past → Holds setup who.0 k.dialog.0 past p
holds setup who k forwards (begins past) l = λ room. sym (ap open_of (none_up_to 0 15 (controls past k.dialog.0) (rising setup past k.dialog.0 l) (omega arith)))
holds setup who k forwards (meanwhile {past = past} {p = p} e other same w) l = held setup who.0 k.dialog.0 past e p other same (holds setup who k forwards w l.0)
holds setup who k forwards (finds {past = past} {ws = ws} {v = v} a w) l = child_answered setup past who k forwards ws v a l (holds setup who k forwards w l.0)
holds setup who k forwards (looks {past = past} {ws = ws} {w = v} a w) l = styled setup past who k forwards ws v a l (holds setup who k forwards w l.0)

-- behind the walk the open children are those that it saw
pub saw_all : (setup : Setup) (who : Thread) (k : DialogKey) (forwards : Bool) (past : Past) (ws : List ℕ) → IsLawful setup past → Walks who k forwards past (walked k forwards ws) → ws ≡ open_controls past k.dialog.0
saw_all setup who k forwards past ws l w = holds setup who k forwards w l
