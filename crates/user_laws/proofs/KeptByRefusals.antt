-- A refused entry changes nothing, and posts leave in posted order.
use Rattle.std.proofs.Common.{◌≡◌, ◌≢◌, ◌≤◌, ◌<◌, ℕ, suc, not, Bool, true, false, cond, eqb, List, [], ◌∷◌, length, Option, Some, None, refl, sym, ap, ◌∙◌, subst, arith}
use Rattle.std.specs.Prelude.{◌+◌, ◌&&◌, ℤ, nat_le, nat_lt, find, is_none, unwrap_or}
use Rattle.std.specs.List.{AllByRecursion}
use Rattle.std.proofs.lemmas.Bool.{false≢true, eqb-true}
use Rattle.std.proofs.lemmas.Bool.Decides.{nat_tests}
use Rattle.win_num.specs.declared.message.Thread.{Thread}
use Rattle.win_num.specs.declared.message.Filter.{Filter}
use Rattle.win_num.specs.declared.message.Hwnd.{Hwnd}
use Rattle.win_num.specs.declared.shapes.Point.{Point}
use Rattle.win_num.specs.PixelSets.{Box, kind_of}
use Rattle.win_num.specs.declared.code.Code.{Code}
use Rattle.win_num.specs.declared.code.Code.TheVariants.{Full, NoTarget, NotNow}
use Rattle.win_num.specs.declared.names.TheConstants.{WM_MOUSEMOVE}
use Rattle.user_model.specs.declared.call.Call.{Call}
use Rattle.user_model.specs.declared.call.Call.TheVariants.{Peek, Get, Status, Mouse, UpdateRect, BeginPaint, Tick, Advance, WindowAt}
use Rattle.user_model.specs.declared.entry.Answer.{Answer}
use Rattle.user_model.specs.declared.entry.Answer.TheVariants.{Input as InputMade, Nothing, Refused, Value, Wait, Window as WindowTold}
use Rattle.user_model.specs.declared.entry.Entry.{Entry}
use Rattle.user_model.specs.declared.entry.Setup.{Setup}
use Rattle.user_model.specs.Past.{Past, is_full, is_refused, is_refusal}
use Rattle.user_model.specs.Posts.{PostedMsg, first_post, passes, posted}
use Rattle.user_model.specs.Next.{is_empty, next_quit}
use Rattle.user_model.specs.Filters.{filter_of, is_no_filter_window}
use Rattle.user_model.specs.Refusals.{refuse, if_live, if_own, invalid_parameter, invalid_window_handle}
use Rattle.user_model.specs.Pixels.{origin, point}
use Rattle.user_model.specs.Dirty.{dirty_pixels, must_erase}
use Rattle.user_model.specs.Painting.{is_painting}
use Rattle.user_model.specs.ReplyDrawing.{bounds_from, painting_begun, update_told}
use Rattle.user_model.specs.Replies.{is_barred_by, row, thread_reply}
use Rattle.user_model.specs.Stacks.{top}
use Rattle.user_model.specs.Threads.{is_running}
use Rattle.user_model.specs.Windows.{is_live, thread_of}
use Rattle.user_model.specs.Focus.{capture, foreground, value_of}
use Rattle.user_model.specs.Inputs.{if_lives, last_element, move_number, of_group, or_window, untaken}
use Rattle.user_model.specs.ReplyInput.{is_no_mouse, mouse_reply, next_input_number}
use Rattle.user_model.specs.Idle.{reply, clock_row}
use Rattle.user_model.specs.Legal.{IsLawful}
use Rattle.user_model.specs.Machines.{entry_of}
use Rattle.user_model.proofs.PostLaws.{IsRising, posted_rises}
use Rattle.user_laws.specs.Kept.{ChangesNothing}
use Rattle.user_laws.proofs.PaintKept.{corner_kept, dirty_kept, next_kept, owner_kept, pixels_kept, status_kept}

changes_none : (past : Past) (who : Thread) (call : Call) (a : Answer) → is_refusal a ≡ true → ChangesNothing past (entry_of who call a)
changes_none past who call (Refused code) is = record {
  same_clock = refl;
  same_cursor = refl;
  same_ends = λ t. refl;
  same_windows = refl;
  same_numbers = refl;
  same_looks = λ w. refl;
  same_siblings = λ p. refl;
  same_owners = λ setup p. owner_kept past who call code setup p;
  same_dirty = λ setup w p. dirty_kept past who call code setup w p;
  same_flags = λ setup w. refl;
  same_painting = λ w. refl;
  same_clips = λ setup w p. refl;
  same_colours = λ setup p. refl;
  same_frames = λ setup number. refl;
  same_marks = λ w. refl;
  same_steps = λ step. refl;
  same_classes = refl;
  same_atoms = refl;
  same_message_names = refl;
  same_post_numbers = refl;
  same_posts = λ t. refl;
  same_quit = λ t. refl;
  same_stacks = λ t. refl;
  same_sends = refl;
  same_enterings = λ s. refl;
  same_answers = λ s. refl;
  same_results = λ x. refl;
  same_unfinished = refl;
  same_ready = λ t. refl;
  same_timers = refl;
  same_bases = λ x. refl;
  same_links = refl;
  same_settings = λ among slot. refl;
  same_foreground = refl;
  same_inputs = λ setup. refl;
  same_input_numbers = refl;
  same_keys = λ t key. refl;
  same_dialogs = λ w. refl;
  same_last_looks = λ t. refl;
}
changes_none past who call _ is = absurd (false≢true is)

-- a refused entry changes nothing
pub changes_nothing : (past : Past) (e : Entry) → is_refused e ≡ true → ChangesNothing past e
changes_nothing past e is = changes_none past e.who e.call e.answer is

fewer : (n : ℕ) → nat_le 2097152 (suc n) ≡ false → nat_le 2097152 n ≡ false
fewer n is = grind (arith, nat_tests, is)

-- what is told of a window's dirty pixels
update_same : (past : Past) (by : Thread) (asked : Call) (code : Code) (setup : Setup) (w : ℕ) (tell : ℕ → Box → Answer)
    → tell (kind_of (dirty_pixels setup (entry_of by asked (Refused code) ∷ past) w)) (bounds_from (origin (entry_of by asked (Refused code) ∷ past) w) (dirty_pixels setup (entry_of by asked (Refused code) ∷ past) w)) ≡ tell (kind_of (dirty_pixels setup past w)) (bounds_from (origin past w) (dirty_pixels setup past w))
update_same past by asked code setup w tell =
    ap (λ (ps : List Point). tell (kind_of ps) (bounds_from (origin (entry_of by asked (Refused code) ∷ past) w) ps)) (pixels_kept past by asked code setup w)
    ∙ ap (λ (o : Point). tell (kind_of (dirty_pixels setup past w)) (bounds_from o (dirty_pixels setup past w))) (corner_kept past by asked code w)

-- what a message of the mouse is answered that is meant for this thread
abbrev injected : Setup → Past → ℕ → ℕ → Answer
injected setup past number home = refuse (eqb home 0) NoTarget (refuse (is_none (cond (eqb number WM_MOUSEMOVE) (move_number (last_element (of_group past home (untaken setup past)))) None) && nat_le 512 (length (of_group past home (untaken setup past)))) Full (InputMade (next_input_number past)))

mouse_same : (setup : Setup) (past : Past) (by : Thread) (asked : Call) (code : Code) (number : ℕ) (x y : ℤ) → mouse_reply setup (entry_of by asked (Refused code) ∷ past) number x y ≡ mouse_reply setup past number x y
mouse_same setup past by asked code number x y =
    ap (λ (w : Hwnd). refuse (is_no_mouse setup number (point x y)) invalid_parameter (injected setup past number (if_lives past (thread_of past (or_window (value_of past (foreground past) capture) w.0))))) (owner_kept past by asked code setup (point x y))

row_same : (setup : Setup) (past : Past) (by : Thread) (asked : Call) (code : Code) (who : ℕ) (call : Call) → row setup (entry_of by asked (Refused code) ∷ past) who call ≡ row setup past who call
row_same setup past by asked code who (WindowAt x y) = ap (λ (w : Hwnd). WindowTold w) (owner_kept past by asked code setup (point x y))
row_same setup past by asked code who (Peek w min max flags) = ap (λ (o : Option Answer). refuse (nat_lt 3 flags) invalid_parameter (refuse (is_no_filter_window past who w) invalid_window_handle (unwrap_or o Nothing))) (next_kept past by asked code setup who (filter_of w min max))
row_same setup past by asked code who (Get w min max) = ap (λ (o : Option Answer). refuse (is_no_filter_window past who w) invalid_window_handle (unwrap_or o Wait)) (next_kept past by asked code setup who (filter_of w min max))
row_same setup past by asked code who (Status flags) = ap (λ n. refuse (nat_lt 127 flags) invalid_parameter (Value n)) (status_kept past by asked code setup who flags)
row_same setup past by asked code who (Mouse number x y) = mouse_same setup past by asked code number x y
row_same setup past by asked code who (UpdateRect w) = update_same past by asked code setup w (λ n b. if_live past w (update_told n b))
row_same setup past by asked code who (BeginPaint w) = update_same past by asked code setup w (λ n b. refuse (is_live past w && is_painting past w) invalid_parameter (if_own past who w (painting_begun (must_erase setup past w) b)))
row_same setup past by asked code who _ = refl

thread_same : (setup : Setup) (past : Past) (by : Thread) (asked : Call) (a : Answer) → is_refusal a ≡ true → (who : ℕ) (call : Call) → thread_reply setup (entry_of by asked a ∷ past) who call ≡ thread_reply setup past who call
thread_same setup past by asked (Refused code) is who call = ap (λ (a : Answer). refuse (not (is_running setup past who)) NotNow (refuse (is_barred_by call (top past who)) NotNow a)) (row_same setup past by asked code who call)
thread_same setup past by asked _ is who call = absurd (false≢true is)

-- a thread's next reply is the same
pub same_reply : (setup : Setup) (past : Past) (e : Entry) → is_refused e ≡ true → is_full (e ∷ past) ≡ false → (who : ℕ) (call : Call) → who ≢ 0 → reply setup (e ∷ past) who call ≡ reply setup past who call
unfolding reply
same_reply setup past e is room who call thread = by_actor (eqb who 0) refl
  where
    by_actor : (zero : Bool) → eqb who 0 ≡ zero → refuse (is_full (e ∷ past)) Full (cond (eqb who 0) (clock_row setup (e ∷ past) call) (thread_reply setup (e ∷ past) who call)) ≡ refuse (is_full past) Full (cond (eqb who 0) (clock_row setup past call) (thread_reply setup past who call))
    by_actor true at = absurd (thread (eqb-true who 0 at))
    by_actor false at =
        ap (λ b. refuse (is_full (e ∷ past)) Full (cond b (clock_row setup (e ∷ past) call) (thread_reply setup (e ∷ past) who call))) at
        ∙ ap (λ b. refuse b Full (thread_reply setup (e ∷ past) who call)) (room ∙ sym (fewer (length past) room))
        ∙ ap (refuse (is_full past) Full) (thread_same setup past e.who e.call e.answer is who call)
        ∙ sym (ap (λ b. refuse (is_full past) Full (cond b (clock_row setup past call) (thread_reply setup past who call))) at)

-- a row of the clock is the same, but that of advance
clock_row_same : (setup : Setup) (past : Past) (e : Entry) → is_refused e ≡ true → (call : Call) → call ≢ Advance → clock_row setup (e ∷ past) call ≡ clock_row setup past call
clock_row_same setup past e is (Tick ms) other = ap (λ n. refuse (nat_lt 4294967295 ms) invalid_parameter (Value (n + ms))) (changes_nothing past e is).same_clock
clock_row_same setup past e is Advance other = absurd (other refl)
clock_row_same setup past e is _ other = refl

-- the clock's next reply is the same, but that to advance
pub same_clock_reply : (setup : Setup) (past : Past) (e : Entry) → is_refused e ≡ true → is_full (e ∷ past) ≡ false → (call : Call) → call ≢ Advance → reply setup (e ∷ past) 0 call ≡ reply setup past 0 call
unfolding reply
same_clock_reply setup past e is room call other =
    ap (λ b. refuse b Full (clock_row setup (e ∷ past) call)) (room ∙ sym (fewer (length past) room)) ∙ ap (refuse (is_full past) Full) (clock_row_same setup past e is call other)

all_above : (p : PostedMsg → Bool) (n m : ℕ) (xs : List PostedMsg) → m ≤ n → AllByRecursion (λ x. n < x.number) xs → AllByRecursion (λ x. p x ≡ true → m ≤ x.number) xs
all_above p n m [] low above = tt
all_above p n m (x ∷ xs) low above = let here = above.0 in (λ passed. omega (arith, low, here), all_above p n m xs low above.1)

some_same : {x y : PostedMsg} → Some x ≡ Some y → x ≡ y
some_same is = cc

-- the first that passes has the least number of those that pass
first_least : (p : PostedMsg → Bool) (xs : List PostedMsg) (y : PostedMsg) → IsRising xs → find p xs ≡ Some y → AllByRecursion (λ x. p x ≡ true → y.number ≤ x.number) xs
first_least p [] y rising found = tt
first_least p (x ∷ xs) y rising found = by_test (first_least p xs y rising.1) (p x) refl found
  where
    by_test : (find p xs ≡ Some y → AllByRecursion (λ z. p z ≡ true → y.number ≤ z.number) xs) → (b : Bool) → p x ≡ b → cond b (Some x) (find p xs) ≡ Some y → AllByRecursion (λ z. p z ≡ true → y.number ≤ z.number) (x ∷ xs)
    by_test rest true is found = let same : x ≡ y = some_same found in (λ passed. subst (λ z. y.number ≤ z.number) (sym same) (omega arith), all_above p x.number y.number xs (subst (λ z. z.number ≤ x.number) same (omega arith)) rising.0)
    by_test rest false is found = (λ passed. absurd (false≢true (sym is ∙ passed)), rest found)

-- the first post that passes has the least number of those that pass
pub leave_in_order : (setup : Setup) (past : Past) (t : ℕ) (f : Filter) (first : PostedMsg) → IsLawful setup past → first_post past t f ≡ Some first → AllByRecursion (λ x. passes past f x ≡ true → first.number ≤ x.number) (posted past t)
leave_in_order setup past t f first lawful found = first_least (passes past f) (posted past t) first (posted_rises setup past t lawful) found

none_left : (ps : List PostedMsg) (o : Option Answer) (a : Answer) → cond (is_empty ps) o None ≡ Some a → ps ≡ []
none_left [] o a is = refl
none_left (p ∷ ps) o a is = absurd cc

-- quit comes where no post is left
pub quit_comes_last : (past : Past) (t : ℕ) (answer : Answer) → next_quit past t ≡ Some answer → posted past t ≡ []
quit_comes_last past t answer is = none_left (posted past t) _ answer is
