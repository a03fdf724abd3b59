-- Posts and retrievals over the table of windows, and over the past that it stands for.
use Rattle.std.proofs.Common.{◌≡◌, ℕ, ◌+◌, ◌-◌, ◌<◌, ◌≤◌, Bool, true, false, cond, eqb, List, [], ◌∷◌, length, Option, Some, None, refl, ap, ◌∙◌, sym, subst, inl, inr, arith}
use Rattle.std.specs.Prelude.{map, filter, find, All, ◌||◌, ◌&&◌, option_map, unwrap_or, is_some, slice_index_or, IsTrue}
use Rattle.std.proofs.lemmas.Bool.Decides.{nat_tests}
use Rattle.win_num.specs.declared.message.Msg.{Msg}
use Rattle.win_num.specs.declared.shapes.Point.{Point}
use Rattle.win_num.specs.declared.message.Filter.{Filter}
use Rattle.win_num.specs.Numbers.{passes_range}
use Rattle.win_num.specs.declared.names.TheConstants.{NO_WINDOW, WM_QUIT}
use Rattle.post_queue.specs.Queue.{Posted, pair_of}
use Rattle.win_rows.specs.declared.window.Window.{Window as KeptWindow}
use Rattle.win_rows.specs.Windows as kept
use Rattle.win_tree.specs.Kin as kept_kin
use Rattle.user_model.specs.declared.call.Call.{Call}
use Rattle.user_model.specs.declared.call.Call.TheVariants.{PostQuit, Drop}
use Rattle.user_model.specs.declared.entry.Answer.{Answer}
use Rattle.user_model.specs.declared.entry.Answer.TheVariants as answers
use Rattle.user_model.specs.declared.entry.Origin.TheVariants as origins
use Rattle.user_model.specs.declared.entry.Setup.{Setup}
use Rattle.user_model.specs.Past.{Past}
use Rattle.user_model.specs.Places.{clock, cursor}
use Rattle.user_model.specs.Deeds.{Posting, to_window, to_thread, posting_of}
use Rattle.user_model.specs.Keys.{is_shift_down}
use Rattle.user_model.specs.Threads.{is_running}
use Rattle.user_model.specs.Windows.{Window, live, find_window, is_live, thread_of, is_kin, is_below}
use Rattle.user_model.specs.Filters.{passes_window}
use Rattle.user_model.specs.Refusals.{is_no_message}
use Rattle.user_model.specs.Retrievals.{removes}
use Rattle.user_model.specs.Posts.{PostedMsg, message, posted, passes, first_post}
use Rattle.user_model.proofs.AnswerFacts.{IsPost}
use Rattle.user_model.specs.ReplyDelivery.{is_no_post_window}
use Rattle.user_model.specs.Legal.{IsLawful}
use Rattle.user_model.specs.Setups.{IsSetup, post_limit}
use Rattle.user_model.proofs.SetupLaws.{few_posts}
use Rattle.user_model.proofs.ReplyLaws.{not_false}
use Rattle.user_model.proofs.PostOwners.{message_of, post_runs}
use Rattle.window_state.specs.Trees.{as_made}
use Rattle.thread_state.specs.Threads.{ThreadView, as_kept, queue_at, thread_at, told_post}
use Rattle.thread_queues.specs.Changes.{Change, posts as posts_one, purges, none, change_by, change_by_post, changed, kin_of}
use Rattle.thread_state.specs.Passing.{passes_window_in, passes_here, passes_in}
use Rattle.window_state.specs.Trees.{thread_in}
use Rattle.thread_queues.specs.Deliveries.{posting, posting_in, FitsPost, FitsPostIn, kin_in, change_of_post, adding_in, carried_in, effect_in}
use Rattle.core_state.specs.Needs.{FitsPosting}
use Rattle.thread_queues.specs.Queues.{IsOne, HasRoom}
use Rattle.core_state.specs.States.{EachThread}
use Rattle.window_state.proofs.Bridges.{window_made, live_made, kin_made, below_made, filter_made}
use Rattle.thread_queues.proofs.QueueLists.{queue_below, queue_length}

-- ---- windows of the table

thread_made : (o : Option KeptWindow) → unwrap_or (option_map (λ (x : KeptWindow). x.row.thread.0) o) 0 ≡ unwrap_or (option_map (λ (x : Window). x.thread) (option_map as_made o)) 0
thread_made None = refl
thread_made (Some x) = refl

-- the thread of a window
pub thread_in-is : (past : Past) (ws : List KeptWindow) (w : ℕ) → map as_made ws ≡ live past → thread_in ws w ≡ thread_of past w
thread_in-is past ws w e =
    thread_made (kept.window_of ws w)
    ∙ ap (λ (o : Option Window). unwrap_or (option_map (λ (x : Window). x.thread) o) 0) (sym (window_made ws w))
    ∙ ap (λ (us : List Window). unwrap_or (option_map (λ (x : Window). x.thread) (find_window us w)) 0) e

-- whether it is a live window
pub is_live-is : (past : Past) (ws : List KeptWindow) (w : ℕ) → map as_made ws ≡ live past → kept.is_live ws w ≡ is_live past w
is_live-is past ws w e = sym (live_made ws w) ∙ ap (λ (us : List Window). is_some (find_window us w)) e

numbers_made : (ws : List KeptWindow) → map (λ (x : KeptWindow). x.number.0) ws ≡ map (λ (x : Window). x.number) (map as_made ws)
numbers_made [] = refl
numbers_made (x ∷ ws) = ap (λ (l : List ℕ). x.number.0 ∷ l) (numbers_made ws)

-- the numbers of the windows that go with v
pub kin_in-is : (past : Past) (ws : List KeptWindow) (v : ℕ) → map as_made ws ≡ live past → kin_in ws v ≡ kin_of past v
kin_in-is past ws v e =
    numbers_made (filter (λ x. kept_kin.is_kin ws v x.number.0) ws)
    ∙ ap (map (λ (x : Window). x.number)) (sym (filter_made (λ x. is_kin (map as_made ws) v x.number) (λ x. kept_kin.is_kin ws v x.number.0) (λ x. kin_made ws v x.number.0) ws))
    ∙ ap (λ (us : List Window). map (λ (x : Window). x.number) (filter (λ x. is_kin us v x.number) us)) e

-- ---- filters

-- whether a filter's window lets a window pass
pub passes_window_in-is : (past : Past) (ws : List KeptWindow) (wanted w : ℕ) → map as_made ws ≡ live past → passes_window_in ws wanted w ≡ passes_window past wanted w
passes_window_in-is past ws wanted w e =
    ap (λ b. eqb wanted 0 || eqb wanted NO_WINDOW && eqb w 0 || b && (eqb w wanted || kept_kin.is_below ws wanted w)) (is_live-is past ws wanted e)
    ∙ ap (λ b. eqb wanted 0 || eqb wanted NO_WINDOW && eqb w 0 || is_live past wanted && (eqb w wanted || b)) (sym (below_made ws wanted w) ∙ ap (λ (us : List Window). is_below us wanted w) e)

-- whether a filter lets a message pass
pub passes_here-is : (past : Past) (ws : List KeptWindow) (f : Filter) (x : PostedMsg) → map as_made ws ≡ live past → passes_here ws f x.msg ≡ passes past f x
passes_here-is past ws f x e = ap (λ b. (passes_range f.min f.max x.msg.number || eqb x.msg.number WM_QUIT) && b) (passes_window_in-is past ws f.hwnd x.msg.hwnd.0 e)

find_kept_first : (test : Posted → Bool) (g : PostedMsg → Bool) → ((x : PostedMsg) → test (as_kept x) ≡ g x) → (xs : List PostedMsg) → option_map pair_of (find test (map as_kept xs)) ≡ option_map told_post (find g xs)
find_kept_first test g e [] = refl
find_kept_first test g e (x ∷ xs) = ap (λ b. option_map pair_of (cond b (Some (as_kept x)) (find test (map as_kept xs)))) (e x) ∙ pick (g x) (find_kept_first test g e xs)
  where
    pick : (b : Bool) → option_map pair_of (find test (map as_kept xs)) ≡ option_map told_post (find g xs) → option_map pair_of (cond b (Some (as_kept x)) (find test (map as_kept xs))) ≡ option_map told_post (cond b (Some x) (find g xs))
    pick true rest = refl
    pick false rest = rest

-- the first message of a queue that a filter lets pass
pub first_kept : (past : Past) (ws : List KeptWindow) (t : ℕ) (f : Filter) → map as_made ws ≡ live past → option_map pair_of (find (passes_in ws f) (queue_at past t).posted) ≡ option_map told_post (first_post past t f)
first_kept past ws t f e = find_kept_first (passes_in ws f) (passes past f) (λ x. passes_here-is past ws f x e) (posted past t)

-- ---- what an entry changes

posted_same : (past : Past) (ws : List KeptWindow) (who k : ℕ) (o : Option Posting) → map as_made ws ≡ live past → change_of_post k (posting_in ws (clock past) (cursor past) who o) ≡ change_by_post past who k o
posted_same past ws who k (Some (to_window w m p q)) e = ap (λ (t : ℕ). posts_one (cond (eqb w 0) who t) k (message w m p q (clock past) (cursor past))) (thread_in-is past ws w e)
posted_same past ws who k (Some (to_thread to m p q)) e = refl
posted_same past ws who k None e = refl

growth_same : (past : Past) (ws : List KeptWindow) (who k : ℕ) (call : Call) → map as_made ws ≡ live past → change_of_post k (posting ws (clock past) (cursor past) (is_shift_down past who) who call) ≡ change_by past who (answers.Posted k) call
growth_same past ws who k call e = posted_same past ws who k (posting_of (is_shift_down past who) call) e

carried_same : (past : Past) (ws : List KeptWindow) (who : ℕ) (call : Call) → map as_made ws ≡ live past → carried_in ws who call ≡ change_by past who answers.Okay call
carried_same past ws who (Drop v) e = ap (purges who) (kin_in-is past ws v e)
carried_same past ws who (PostQuit code) e = refl
carried_same past ws who _ e = refl

none_twice : (t : ℕ) (b : Bool) (v : ThreadView) → changed t (cond b none none) v ≡ v
none_twice t true v = refl
none_twice t false v = refl

both_now : (past : Past) (ws : List KeptWindow) (t who : ℕ) (a : Answer) (call : Call) (v : ThreadView) → map as_made ws ≡ live past → changed t (effect_in ws who a call) (changed t (adding_in ws (clock past) (cursor past) (is_shift_down past who) who a call) v) ≡ changed t (change_by past who a call) v
both_now past ws t who (answers.Posted k) call v e = ap (λ (c : Change). changed t c v) (growth_same past ws who k call e)
both_now past ws t who answers.Okay call v e = ap (λ (c : Change). changed t c v) (carried_same past ws who call e)
both_now past ws t who (answers.Got origins.Posted n m) call v e = refl
both_now past ws t who (answers.Got origins.Quit n m) call v e = refl
both_now past ws t who (answers.Got origins.Input n m) call v e = none_twice t (removes call) v
both_now past ws t who (answers.Got origins.Paint n m) call v e = none_twice t (removes call) v
both_now past ws t who (answers.Got origins.Timer n m) call v e = none_twice t (removes call) v
both_now past ws t who _ call v e = refl

-- what is added and then what is settled make the change of the entry
pub both_changes : (past : Past) (ws : List KeptWindow) (time : ℕ) (point : Point) (shift : Bool) (t who : ℕ) (a : Answer) (call : Call) (v : ThreadView) → map as_made ws ≡ live past → time ≡ clock past → point ≡ cursor past → adding_in ws time point shift who a call ≡ adding_in ws time point (is_shift_down past who) who a call → changed t (effect_in ws who a call) (changed t (adding_in ws time point shift who a call) v) ≡ changed t (change_by past who a call) v
both_changes past ws time point shift t who a call v e now at down =
    ap (λ (c : Change). changed t (effect_in ws who a call) (changed t c v)) down
    ∙ ap (λ (c : ℕ). changed t (effect_in ws who a call) (changed t (adding_in ws c point (is_shift_down past who) who a call) v)) now
    ∙ ap (λ (c : Point). changed t (effect_in ws who a call) (changed t (adding_in ws (clock past) c (is_shift_down past who) who a call) v)) at
    ∙ both_now past ws t who a call v e

-- ---- what a post needs

-- the thread that a post goes to, and its message
pub posting-is : (setup : Setup) (past : Past) (ws : List KeptWindow) (time : ℕ) (point : Point) (shift : Bool) (who k : ℕ) (call : Call) (p : IsPost setup past who call k) → map as_made ws ≡ live past → time ≡ clock past → point ≡ cursor past → posting_of shift call ≡ posting_of (is_shift_down past who) call → posting ws time point shift who call ≡ Some (p.to, message_of p)
posting-is setup past ws time point shift who k call p e now at down = ap (λ (c : ℕ). posting ws c point shift who call) now ∙ ap (λ (c : Point). posting ws (clock past) c shift who call) at ∙ ap (posting_in ws (clock past) (cursor past) who) down ∙ elim p.is_call [
  | inl x ↦ ap (posting_in ws (clock past) (cursor past) who) x.0 ∙ ap (λ (t : ℕ). let y : ℕ × Msg = (t, message_of p) in Some y) (ap (λ (t : ℕ). cond (eqb p.hwnd 0) who t) (thread_in-is past ws p.hwnd e) ∙ sym x.1)
  | inr x ↦ ap (posting_in ws (clock past) (cursor past) who) x.0 ∙ ap (λ (w : ℕ). let y : ℕ × Msg = (p.to, message w p.number p.wparam p.lparam (clock past) (cursor past)) in Some y) (sym x.1)
]

-- a running thread is one of the threads
pub running_is_one : (setup : Setup) (past : Past) (threads : List ThreadView) (t : ℕ) → length threads ≡ setup.threads → is_running setup past t ≡ true → IsOne threads t
running_is_one setup past threads t count e = record { some = grind (arith, nat_tests, e); known = grind (arith, nat_tests, e, count) }

-- the queue of the thread has room, and its numbers are below the next
pub post_has_room : (setup : Setup) (past : Past) (threads : List ThreadView) (who k : ℕ) (call : Call) (p : IsPost setup past who call k) → IsSetup setup → IsLawful setup past → length threads ≡ setup.threads → EachThread past threads → is_running setup past who ≡ true → HasRoom threads p.to k
post_has_room setup past threads who k call p ready lawful count each running =
    let one = running_is_one setup past threads p.to count (post_runs setup past who call k p lawful running) in
    let within : p.to - 1 < length threads = omega (arith, one.some, one.known) in
    let place : p.to - 1 + 1 ≡ p.to = omega (arith, one.some) in
    let is : (d : ThreadView) → slice_index_or threads (p.to - 1) d ≡ thread_at past p.to = λ d. each.at (p.to - 1) d within ∙ ap (thread_at past) place in
    let limit : post_limit setup p.to ≤ 10000 = few_posts setup p.to ready in
    let few : length (posted past p.to) < 10000 = grind (arith, nat_tests, p.short, limit) in
    let short : length (queue_at past p.to).posted < 10000 = omega (arith, few, queue_length past p.to) in
    record {
      is_one = one;
      rises = λ d. subst (λ (v : ThreadView). All (λ q. q.number < k) v.queue.posted) (sym (is d)) (subst (λ (n : ℕ). All (λ q. q.number < n) (queue_at past p.to).posted) (sym p.is_next) (queue_below setup past p.to lawful));
      short = λ d. subst (λ (v : ThreadView). length v.queue.posted < v.queue.limit) (sym (is d)) short;
    }

-- the change of a post can be made
pub fits_posting : (setup : Setup) (past : Past) (threads : List ThreadView) (ws : List KeptWindow) (time : ℕ) (point : Point) (shift : Bool) (who k : ℕ) (call : Call) (p : IsPost setup past who call k) → IsSetup setup → IsLawful setup past → length threads ≡ setup.threads → EachThread past threads → is_running setup past who ≡ true → map as_made ws ≡ live past → time ≡ clock past → point ≡ cursor past → posting_of shift call ≡ posting_of (is_shift_down past who) call → FitsPosting threads k (posting ws time point shift who call)
fits_posting setup past threads ws time point shift who k call p ready lawful count each running e now at down =
    subst (FitsPosting threads k) (sym (posting-is setup past ws time point shift who k call p e now at down)) (post_has_room setup past threads who k call p ready lawful count each running)

small_number : (m : ℕ) → is_no_message m ≡ false → m ≤ 65535
small_number m h = grind (arith, nat_tests, h)

window_fits : (past : Past) (ws : List KeptWindow) (w : ℕ) → map as_made ws ≡ live past → is_no_post_window past w ≡ false → IsTrue (eqb w 0 || kept.is_live ws w)
window_fits past ws w e h = ap (λ b. eqb w 0 || b) (is_live-is past ws w e) ∙ not_false (eqb w 0 || is_live past w) h

-- the call of a post is a message's to a live window or to none
pub fits_post : (setup : Setup) (past : Past) (ws : List KeptWindow) (shift : Bool) (who k : ℕ) (call : Call) (p : IsPost setup past who call k) → map as_made ws ≡ live past → posting_of shift call ≡ posting_of (is_shift_down past who) call → FitsPost ws shift call
fits_post setup past ws shift who k call p e down = elim p.is_call [
  | inl x ↦ subst (FitsPostIn ws) (sym (down ∙ x.0)) (window_fits past ws p.hwnd e x.2, small_number p.number p.fits)
  | inr x ↦ subst (FitsPostIn ws) (sym (down ∙ x.0)) (small_number p.number p.fits)
]
