-- What the answers of the calls on windows and classes tell.
use Rattle.std.proofs.Common.{◌≡◌, ◌≢◌, ℕ, suc, Bool, true, false, not, eqb, length, Option, Some, None, refl, sym}
use Rattle.std.specs.Prelude.{◌&&◌, ◌||◌, ℤ, is_none, is_some}
use Rattle.std.proofs.Math.Dec.{leb, ltb}
use Rattle.std.proofs.lemmas.Bool.{or_parts, true≢false}
use Rattle.win_num.specs.declared.code.Code.TheVariants.{Full}
use Rattle.win_num.specs.declared.names.TheConstants.{SWP_NOZORDER, WS_CHILD}
use Rattle.win_num.specs.declared.message.Hwnd.{Hwnd}
use Rattle.user_model.specs.declared.call.Call.TheVariants as calls
use Rattle.user_model.specs.declared.entry.Answer.{Answer}
use Rattle.user_model.specs.declared.entry.Answer.TheVariants as answers
use Rattle.user_model.specs.declared.entry.Setup.{Setup}
use Rattle.user_model.specs.Past.{Past, is_refusal}
use Rattle.user_model.specs.Threads.{is_running}
use Rattle.user_model.specs.Windows.{Window, has_flag, live, window, is_live, thread_of}
use Rattle.user_model.specs.Destruction.{ended, is_marked, was_given, next_step}
use Rattle.user_model.specs.Classes.{class, classes, registered_count, is_used, message_names, message_number}
use Rattle.user_model.specs.Refusals.{refuse, if_live, is_no_rect, invalid_parameter, invalid_window_handle, access_denied, child_without_parent, cannot_find_class, class_already_exists, class_does_not_exist, class_has_windows}
use Rattle.user_model.specs.ReplyWindows.{is_no_style, is_no_parent, is_no_placing, is_order, next_window, number_or_next, step_answer, window_if_room, unmake_step}
use Rattle.user_model.specs.Idle.{reply}
use Rattle.user_model.proofs.ReplyLaws.{not_refused, not_false, by_call}

-- a window was made: all tests passed, and it has the next number
pub record IsNewWindow (setup : Setup) (past : Past) (who : ℕ) (name parent style ex : ℕ) (l t r b : ℤ) (w : Hwnd) : Type 0 where
  pub running : is_running setup past who ≡ true
  pub good_edges : is_no_rect l t r b ≡ false
  pub good_style : is_no_style style ex ≡ false
  pub good_parent : is_no_parent past parent ≡ false
  pub own_parent : (not (eqb parent 0) && not (eqb (thread_of past parent) who)) ≡ false
  pub some_parent : (has_flag style WS_CHILD && eqb parent 0) ≡ false
  pub has_class : is_none (class past name) ≡ false
  pub short : leb 1024 (length (live past)) ≡ false
  pub is_next : w ≡ next_window past

window_is : (v w : Hwnd) → answers.Window v ≡ answers.Window w → w ≡ v
window_is v w e = cc

pub new_window_told : (setup : Setup) (past : Past) (who : ℕ) (name title parent style ex : ℕ) (l t r b : ℤ) (w : Hwnd) → reply setup past who (calls.NewWindow name title parent style ex l t r b) ≡ answers.Window w → IsNewWindow setup past who name parent style ex l t r b w
new_window_told setup past who name title parent style ex l t r b w e =
    let by = by_call setup past who (calls.NewWindow name title parent style ex l t r b) (answers.Window w) e refl refl in
    let numbers = not_refused (is_no_rect l t r b || is_no_style style ex) invalid_parameter _ (answers.Window w) refl by.is_row in
    let live_parent = not_refused (is_no_parent past parent) invalid_window_handle _ (answers.Window w) refl numbers.1 in
    let own = not_refused (not (eqb parent 0) && not (eqb (thread_of past parent) who)) access_denied _ (answers.Window w) refl live_parent.1 in
    let some = not_refused (has_flag style WS_CHILD && eqb parent 0) child_without_parent _ (answers.Window w) refl own.1 in
    let of_class = not_refused (is_none (class past name)) cannot_find_class (window_if_room past) (answers.Window w) refl some.1 in
    let room = not_refused (leb 1024 (length (live past))) Full (answers.Window (next_window past)) (answers.Window w) refl of_class.1 in
    let both = or_parts (is_no_rect l t r b) (is_no_style style ex) numbers.0 in
    record { running = by.running; good_edges = both.0; good_style = both.1; good_parent = live_parent.0; own_parent = own.0; some_parent = some.0; has_class = of_class.0; short = room.0; is_next = window_is (next_window past) w room.1 }

-- a call was made by a thread that runs, on a live window of its own
pub record IsOwn (setup : Setup) (past : Past) (who w : ℕ) : Type 0 where
  pub running : is_running setup past who ≡ true
  pub is_live : is_live past w ≡ true
  pub own : eqb (thread_of past w) who ≡ true

pub own_told : (setup : Setup) (past : Past) (who w : ℕ) → is_running setup past who ≡ true → if_live past w (refuse (not (eqb (thread_of past w) who)) access_denied answers.Okay) ≡ answers.Okay → IsOwn setup past who w
own_told setup past who w running e =
    let live = not_refused (not (is_live past w)) invalid_window_handle _ answers.Okay refl e in
    let own = not_refused (not (eqb (thread_of past w) who)) access_denied answers.Okay answers.Okay refl live.1 in
    record { running = running; is_live = not_false (is_live past w) live.0; own = not_false (eqb (thread_of past w) who) own.0 }

live_so : (a b : Bool) → (a && b) ≡ false → a ≡ true → b ≡ false
live_so true b e h = e
live_so false b e h = absurd (true≢false (sym h))

-- a window was marked that wasn't
pub doom_told : (setup : Setup) (past : Past) (who w : ℕ) → reply setup past who (calls.Doom w) ≡ answers.Okay → IsOwn setup past who w × (is_marked past w ≡ false)
doom_told setup past who w e =
    let by = by_call setup past who (calls.Doom w) answers.Okay e refl refl in
    let marked = not_refused (is_live past w && is_marked past w) invalid_window_handle _ answers.Okay refl by.is_row in
    let own = own_told setup past who w by.running marked.1 in
    (own, live_so (is_live past w) (is_marked past w) marked.0 own.is_live)

-- a window was dropped that got its last message
pub drop_told : (setup : Setup) (past : Past) (who w : ℕ) → reply setup past who (calls.Drop w) ≡ answers.Okay → IsOwn setup past who w × (was_given past (ended w) ≡ true)
drop_told setup past who w e =
    let by = by_call setup past who (calls.Drop w) answers.Okay e refl refl in
    let told = not_refused (is_live past w && not (was_given past (ended w))) invalid_parameter _ answers.Okay refl by.is_row in
    let own = own_told setup past who w by.running told.1 in
    (own, not_false (was_given past (ended w)) (live_so (is_live past w) (not (was_given past (ended w))) told.0 own.is_live))

-- a doom or a drop that isn't refused answers okay
pub doom_okay : (setup : Setup) (past : Past) (who w : ℕ) (a : Answer) → reply setup past who (calls.Doom w) ≡ a → is_refusal a ≡ false → a ≡ answers.Okay
doom_okay setup past who w a e right =
    let by = by_call setup past who (calls.Doom w) a e refl right in
    let marked = not_refused (is_live past w && is_marked past w) invalid_window_handle _ a right by.is_row in
    let live = not_refused (not (is_live past w)) invalid_window_handle _ a right marked.1 in
    let own = not_refused (not (eqb (thread_of past w) who)) access_denied answers.Okay a right live.1 in
    sym own.1

pub drop_okay : (setup : Setup) (past : Past) (who w : ℕ) (a : Answer) → reply setup past who (calls.Drop w) ≡ a → is_refusal a ≡ false → a ≡ answers.Okay
drop_okay setup past who w a e right =
    let by = by_call setup past who (calls.Drop w) a e refl right in
    let told = not_refused (is_live past w && not (was_given past (ended w))) invalid_parameter _ a right by.is_row in
    let live = not_refused (not (is_live past w)) invalid_window_handle _ a right told.1 in
    let own = not_refused (not (eqb (thread_of past w) who)) access_denied answers.Okay a right live.1 in
    sym own.1

-- a step was given, or the last one again: the window is live, marked and the caller's
pub record IsUnmade (setup : Setup) (past : Past) (who w : ℕ) (a : Answer) : Type 0 where
  pub running : is_running setup past who ≡ true
  pub x : Window
  pub is_window : window past w ≡ Some x
  pub marked : is_marked past w ≡ true
  pub own : eqb x.thread who ≡ true
  pub is_step : step_answer w (next_step past x) ≡ a

unmade_by : (setup : Setup) (past : Past) (who w : ℕ) (a : Answer) → is_running setup past who ≡ true → is_refusal a ≡ false → answers.Gone ≢ a → (o : Option Window) → window past w ≡ o → (elim o as (λ q. Answer) [ None ↦ answers.Gone | Some x ↦ unmake_step past who w x ]) ≡ a → IsUnmade setup past who w a
unmade_by setup past who w a running right some None is e = absurd (some e)
unmade_by setup past who w a running right some (Some x) is e =
    let marked = not_refused (not (is_marked past w)) invalid_parameter _ a right e in
    let own = not_refused (not (eqb x.thread who)) access_denied (step_answer w (next_step past x)) a right marked.1 in
    record { running = running; x = x; is_window = is; marked = not_false (is_marked past w) marked.0; own = not_false (eqb x.thread who) own.0; is_step = own.1 }

pub unmake_told : (setup : Setup) (past : Past) (who w : ℕ) (a : Answer) → reply setup past who (calls.Unmake w) ≡ a → is_refusal a ≡ false → answers.Gone ≢ a → IsUnmade setup past who w a
unmake_told setup past who w a e right some =
    let by = by_call setup past who (calls.Unmake w) a e refl right in
    unmade_by setup past who w a by.running right some (window past w) refl by.is_row

value_is : (m n : ℕ) → answers.Value m ≡ answers.Value n → n ≡ m
value_is m n e = cc

-- a class was registered: its name was free, and there were fewer than 64
pub register_told : (setup : Setup) (past : Past) (who name proc_no colour n : ℕ) → reply setup past who (calls.Register name proc_no colour) ≡ answers.Value n → (ltb 15 colour ≡ false) × (is_some (class past name) ≡ false) × (leb 64 (length (classes past)) ≡ false) × (n ≡ suc (registered_count past))
register_told setup past who name proc_no colour n e =
    let by = by_call setup past who (calls.Register name proc_no colour) (answers.Value n) e refl refl in
    let known = not_refused (ltb 15 colour) invalid_parameter _ (answers.Value n) refl by.is_row in
    let free = not_refused (is_some (class past name)) class_already_exists _ (answers.Value n) refl known.1 in
    let room = not_refused (leb 64 (length (classes past))) Full (answers.Value (suc (registered_count past))) (answers.Value n) refl free.1 in
    (known.0, free.0, room.0, value_is (suc (registered_count past)) n room.1)

-- a class was taken back: it was there, and no live window has it
pub unregister_told : (setup : Setup) (past : Past) (who name : ℕ) → reply setup past who (calls.Unregister name) ≡ answers.Okay → (is_none (class past name) ≡ false) × (is_used past name ≡ false)
unregister_told setup past who name e =
    let by = by_call setup past who (calls.Unregister name) answers.Okay e refl refl in
    let there = not_refused (is_none (class past name)) class_does_not_exist _ answers.Okay refl by.is_row in
    let free = not_refused (is_used past name) class_has_windows answers.Okay answers.Okay refl there.1 in
    (there.0, free.0)

-- a message's number was told: it has one, or fewer than 16,384 have
pub message_told : (setup : Setup) (past : Past) (who name n : ℕ) → reply setup past who (calls.Message name) ≡ answers.Value n → ((is_none (message_number past name) && leb 16384 (length (message_names past))) ≡ false) × (n ≡ number_or_next past name)
message_told setup past who name n e =
    let by = by_call setup past who (calls.Message name) (answers.Value n) e refl refl in
    let room = not_refused (is_none (message_number past name) && leb 16384 (length (message_names past))) Full (answers.Value (number_or_next past name)) (answers.Value n) refl by.is_row in
    (room.0, value_is (number_or_next past name) n room.1)

-- the answers of these calls, where they aren't refused
pub register_value : (setup : Setup) (past : Past) (who name proc_no colour : ℕ) (a : Answer) → reply setup past who (calls.Register name proc_no colour) ≡ a → is_refusal a ≡ false → a ≡ answers.Value (suc (registered_count past))
register_value setup past who name proc_no colour a e right =
    let by = by_call setup past who (calls.Register name proc_no colour) a e refl right in
    let known = not_refused (ltb 15 colour) invalid_parameter _ a right by.is_row in
    let free = not_refused (is_some (class past name)) class_already_exists _ a right known.1 in
    let room = not_refused (leb 64 (length (classes past))) Full (answers.Value (suc (registered_count past))) a right free.1 in
    sym room.1

pub unregister_okay : (setup : Setup) (past : Past) (who name : ℕ) (a : Answer) → reply setup past who (calls.Unregister name) ≡ a → is_refusal a ≡ false → a ≡ answers.Okay
unregister_okay setup past who name a e right =
    let by = by_call setup past who (calls.Unregister name) a e refl right in
    let there = not_refused (is_none (class past name)) class_does_not_exist _ a right by.is_row in
    let free = not_refused (is_used past name) class_has_windows answers.Okay a right there.1 in
    sym free.1

pub message_value : (setup : Setup) (past : Past) (who name : ℕ) (a : Answer) → reply setup past who (calls.Message name) ≡ a → is_refusal a ≡ false → a ≡ answers.Value (number_or_next past name)
message_value setup past who name a e right =
    let by = by_call setup past who (calls.Message name) a e refl right in
    let room = not_refused (is_none (message_number past name) && leb 16384 (length (message_names past))) Full (answers.Value (number_or_next past name)) a right by.is_row in
    sym room.1

-- a live window was put at a place: its edges are good
pub record IsPlaced (past : Past) (w : ℕ) (after l t r b : ℤ) (flags : ℕ) : Type 0 where
  pub good_edges : is_no_rect l t r b ≡ false
  pub good_order : (not (has_flag flags SWP_NOZORDER) && (is_live past w && not (is_order past w after))) ≡ false
  pub lives : is_live past w ≡ true

pub place_told : (setup : Setup) (past : Past) (who w : ℕ) (after l t r b : ℤ) (flags n : ℕ) → reply setup past who (calls.Place w after l t r b flags) ≡ answers.Value n → IsPlaced past w after l t r b flags
place_told setup past who w after l t r b flags n e =
    let by = by_call setup past who (calls.Place w after l t r b flags) (answers.Value n) e refl refl in
    let numbers = not_refused (is_no_rect l t r b || is_no_placing flags) invalid_parameter _ (answers.Value n) refl by.is_row in
    let order = not_refused (not (has_flag flags SWP_NOZORDER) && (is_live past w && not (is_order past w after))) invalid_parameter _ (answers.Value n) refl numbers.1 in
    let live = not_refused (not (is_live past w)) invalid_window_handle _ (answers.Value n) refl order.1 in
    record { good_edges = (or_parts (is_no_rect l t r b) (is_no_placing flags) numbers.0).0; good_order = order.0; lives = not_false (is_live past w) live.0 }

-- a live window was shown or hidden
pub show_told : (setup : Setup) (past : Past) (who w on n : ℕ) → reply setup past who (calls.Show w on) ≡ answers.Value n → is_live past w ≡ true
show_told setup past who w on n e =
    let by = by_call setup past who (calls.Show w on) (answers.Value n) e refl refl in
    let number = not_refused (ltb 1 on) invalid_parameter _ (answers.Value n) refl by.is_row in
    let live = not_refused (not (is_live past w)) invalid_window_handle _ (answers.Value n) refl number.1 in
    not_false (is_live past w) live.0

-- a live window was enabled or disabled
pub enable_told : (setup : Setup) (past : Past) (who w on n : ℕ) → reply setup past who (calls.Enable w on) ≡ answers.Value n → is_live past w ≡ true
enable_told setup past who w on n e =
    let by = by_call setup past who (calls.Enable w on) (answers.Value n) e refl refl in
    let number = not_refused (ltb 1 on) invalid_parameter _ (answers.Value n) refl by.is_row in
    let live = not_refused (not (is_live past w)) invalid_window_handle _ (answers.Value n) refl number.1 in
    not_false (is_live past w) live.0
