-- What one more entry does to what is kept of a thread.
use Rattle.std.proofs.Common.{◌≡◌, ◌≤◌, ℕ, Bool, true, false, not, cond, eqb, List, [], ◌∷◌, ◌++◌, length, Option, Some, None, refl, ap, ◌∙◌, sym, inl, inr, arith}
use Rattle.std.specs.Prelude.{map, filter, ◌||◌, ◌&&◌, nat_le, unwrap_or, is_some, option_map}
use Rattle.std.proofs.lemmas.Bool.{eqb-true, false≢true}
use Rattle.std.proofs.lemmas.Bool.Decides.{nat_tests}
use Rattle.std.proofs.lemmas.List.{append-nil}
use Rattle.win_num.specs.declared.message.Msg.{Msg}
use Rattle.post_queue.specs.Queue.{Posted, post_of, queue, without_number}
use Rattle.user_model.specs.declared.call.Call.{Call}
use Rattle.user_model.specs.declared.call.Call.TheVariants.{PostQuit, Drop}
use Rattle.user_model.specs.declared.entry.Answer.{Answer}
use Rattle.user_model.specs.declared.entry.Answer.TheVariants as answers
use Rattle.user_model.specs.declared.entry.Origin.TheVariants as origins
use Rattle.user_model.specs.declared.entry.Entry.{Entry}
use Rattle.user_model.specs.declared.entry.Setup.{Setup}
use Rattle.user_model.specs.Past.{Past, is_refusal, is_refused, unless_refused}
use Rattle.user_model.specs.Places.{clock, cursor, has_ended, is_end, if_clock, time_told}
use Rattle.user_model.specs.Windows.{thread_of}
use Rattle.user_model.specs.Retrievals.{removes}
use Rattle.user_model.specs.Posts.{PostedMsg, PostedQuit, message, post_after, quit_after, message_to, posts, posted, quit}
use Rattle.user_model.specs.Deeds.{Posting, to_window, to_thread, posting_of, retrieves}
use Rattle.user_model.specs.Keys.{is_shift_down}
use Rattle.user_model.proofs.AnswerFacts.{IsPost}
use Rattle.user_model.specs.Idle.{reply, last_entry}
use Rattle.user_model.specs.Status.{last_look, quit_came}
use Rattle.user_model.specs.Legal.{IsLawful}
use Rattle.user_model.proofs.ClockLaws.{clock-next, last_entry-next}
use Rattle.user_model.proofs.LookLaws.{is_look_of, last_look-look, last_look-other, last_look-refused, look_is_tail, tail_shorter}
use Rattle.user_model.proofs.ReplyLaws.{by_row}
use Rattle.user_model.proofs.ThreadLaws.{has_ended-same, has_ended-end}
use Rattle.user_model.proofs.DeliveryReplies.{post_told, take_told, quit_told, input_told, paint_told, timer_told, end_told}
use Rattle.user_model.proofs.PostCounts.{count-next, count_after}
use Rattle.user_model.proofs.PostOwners.{message_of, is_drop}
use Rattle.user_model.proofs.PostLaws.{GoWithin, goes_with, is_plain, posted-plain, posted-okay, posted-post, posted-got, posted-quit, posted-input, posted-paint, posted-timer, posted-drop, posted-drop-other, posted-end}
use Rattle.user_model.proofs.QuitLaws.{is_post_quit, is_got_quit, quit-plain, quit-posted, quit-taken, quit-other}
use Rattle.user_model.proofs.StatusPosts.{quit_is_new-look}
use Rattle.user_model.proofs.WindowFacts.{kin_of_thread}
use Rattle.user_model.proofs.WindowReplies.{drop_told}
use Rattle.thread_state.specs.Threads.{ThreadView, as_kept, code_of, queue_with, thread_at, waiting_with, waiting_call}
use Rattle.thread_queues.specs.Changes.{Change, posts as posts_one, takes, quits, none, change_by, change_by_post, kin_of, changed, marked, noted, thread_after, count_kept, time_kept, time_told_to, without_windows}
use Rattle.thread_queues.proofs.QueueLists.{without_number-kept, without_kin, kept_more}

-- ---- one thread from its parts

view : Past → List PostedMsg → Option PostedQuit → Bool → Option Call → ThreadView
view look xs q ended waiting = record { queue = queue_with xs; quit = option_map code_of q; quit_is_new = quit_came look q; seen = length (posts look); ended = ended; waiting = waiting }

-- the thread after the entry, but for what it waits with and whether it looks
half : Past → ℕ → Entry → ThreadView
half past t e = view (last_look past t) (posted (e ∷ past) t) (quit (e ∷ past) t) (has_ended (e ∷ past) t) (waiting_call (last_entry past t))

same_view : (look : Past) (xs ys : List PostedMsg) (q r : Option PostedQuit) (en fn : Bool) (w : Option Call) → ys ≡ xs → r ≡ q → fn ≡ en → view look xs q en w ≡ view look ys r fn w
same_view look xs ys q r en fn w e f g = ap (λ (x : List PostedMsg). view look x q en w) (sym e) ∙ ap (λ (x : Option PostedQuit). view look ys x en w) (sym f) ∙ ap (λ (x : Bool). view look ys r x w) (sym g)

-- ---- each kind of change

module _ (look : Past) where
  -- with other messages
  with_posts : Option PostedQuit → Bool → Option Call → List Posted → ThreadView
  with_posts q en w ps = record { queue = queue 10000 ps; quit = option_map code_of q; quit_is_new = quit_came look q; seen = length (posts look); ended = en; waiting = w }

  post_view : (past : Past) (b : Bool) (k : ℕ) (m : Msg) (xs : List PostedMsg) (q : Option PostedQuit) (en : Bool) (w : Option Call) → cond b (with_posts q en w (map as_kept xs ++ post_of k m ∷ [])) (view look xs q en w) ≡ view look (xs ++ cond b (post_after past k m ∷ []) []) q en w
  unfolding view with_posts
  post_view past true k m xs q en w = ap (with_posts q en w) (sym (kept_more past xs k m))
  post_view past false k m xs q en w = ap (λ (ys : List PostedMsg). view look ys q en w) (sym (append-nil xs))

  take_view : (b : Bool) (n : ℕ) (xs : List PostedMsg) (q : Option PostedQuit) (en : Bool) (w : Option Call) → cond b (with_posts q en w (without_number (map as_kept xs) n)) (view look xs q en w) ≡ view look (cond b (filter (λ x. not (eqb n x.number)) xs) xs) q en w
  unfolding view with_posts
  take_view true n xs q en w = ap (with_posts q en w) (without_number-kept xs n)
  take_view false n xs q en w = refl

  quit_view : (b : Bool) (xs : List PostedMsg) (q r : Option PostedQuit) (en : Bool) (w : Option Call) → cond b (view look xs r en w) (view look xs q en w) ≡ view look xs (cond b r q) en w
  quit_view true xs q r en w = refl
  quit_view false xs q r en w = refl

  purge_view : (past : Past) (b : Bool) (v : ℕ) (xs : List PostedMsg) (q : Option PostedQuit) (en : Bool) (w : Option Call) → cond b (with_posts q en w (without_windows (map as_kept xs) (kin_of past v))) (view look xs q en w) ≡ view look (cond b (filter (λ x. not (goes_with past v x.msg.hwnd.0)) xs) xs) q en w
  unfolding view with_posts
  purge_view past true v xs q en w = ap (with_posts q en w) (without_kin past v xs)
  purge_view past false v xs q en w = refl

  end_view : (b : Bool) (xs : List PostedMsg) (q : Option PostedQuit) (en : Bool) (w : Option Call) → cond b (view look [] q true w) (view look xs q en w) ≡ view look (cond b [] xs) q (b || en) w
  end_view true xs q en w = refl
  end_view false xs q en w = refl

  note_view : (b : Bool) (xs : List PostedMsg) (q : Option PostedQuit) (en : Bool) (e : Entry) (o : Option Entry) → cond b (view look xs q en (waiting_with e)) (view look xs q en (waiting_call o)) ≡ view look xs q en (waiting_call (cond b (Some e) o))
  note_view true xs q en e o = refl
  note_view false xs q en e o = refl

-- ---- which change an entry makes

-- the change of a post
pub change_posted : (setup : Setup) (past : Past) (who : ℕ) (call : Call) (k : ℕ) (p : IsPost setup past who call k) → change_by past who (answers.Posted k) call ≡ posts_one p.to k (message_of p)
change_posted setup past who call k p = elim p.is_call [
  | inl x ↦ ap (change_by_post past who k) x.0 ∙ ap (λ (to : ℕ). posts_one to k (message_of p)) (sym x.1)
  | inr x ↦ ap (change_by_post past who k) x.0 ∙ ap (λ (w : ℕ). posts_one p.to k (message w p.number p.wparam p.lparam (clock past) (cursor past))) (sym x.1)
]

-- ---- one thread after each entry

changed_none : (setup : Setup) (past : Past) (t : ℕ) (e : Entry) → posted (e ∷ past) t ≡ posted past t → quit (e ∷ past) t ≡ quit past t → is_end e.answer ≡ false → thread_at past t ≡ half past t e
unfolding half view with_posts
changed_none setup past t e f g lives = same_view (last_look past t) (posted past t) (posted (e ∷ past) t) (quit past t) (quit (e ∷ past) t) (has_ended past t) (has_ended (e ∷ past) t) (waiting_call (last_entry past t)) f g (has_ended-same e past t lives)

posts_no_quit : (shift : Bool) (call : Call) (p : Posting) → posting_of shift call ≡ Some p → is_post_quit call ≡ false
posts_no_quit shift (PostQuit code) p e = let none : None ≡ Some p = e in absurd cc
posts_no_quit shift _ p e = refl

post_no_quit : (setup : Setup) (past : Past) (who : ℕ) (call : Call) (k : ℕ) → IsPost setup past who call k → is_post_quit call ≡ false
post_no_quit setup past who call k p = elim p.is_call [
  | inl x ↦ posts_no_quit (is_shift_down past who) call (to_window p.hwnd p.number p.wparam p.lparam) x.0
  | inr x ↦ posts_no_quit (is_shift_down past who) call (to_thread p.to p.number p.wparam p.lparam) x.0
]

changed_post : (setup : Setup) (past : Past) (t k : ℕ) (e : Entry) → e.answer ≡ answers.Posted k → answers.Posted k ≡ reply setup past e.who.0 e.call → changed t (change_by past e.who.0 (answers.Posted k) e.call) (thread_at past t) ≡ half past t e
unfolding half view with_posts
changed_post setup past t k e is right =
    let p = post_told setup past e.who.0 e.call k (by_row setup past e.who.0 e.call (answers.Posted k) (sym right) refl).is_row in
    ap (λ (c : Change). changed t c (thread_at past t)) (change_posted setup past e.who.0 e.call k p)
    ∙ post_view (last_look past t) past (eqb p.to t) k (message_of p) (posted past t) (quit past t) (has_ended past t) (waiting_call (last_entry past t))
    ∙ same_view (last_look past t) (posted past t ++ message_to t k p.to p.hwnd p.number p.wparam p.lparam past) (posted (e ∷ past) t) (quit past t) (quit (e ∷ past) t) (has_ended past t) (has_ended (e ∷ past) t) (waiting_call (last_entry past t)) (posted-post setup e past t k is p) (quit-other e past t (post_no_quit setup past e.who.0 e.call k p) (ap is_got_quit is)) (has_ended-same e past t (ap is_end is))

retrieves_no_quit : (call : Call) → is_some (retrieves call) ≡ true → is_post_quit call ≡ false
retrieves_no_quit (PostQuit code) h = absurd (false≢true h)
retrieves_no_quit _ h = refl

taken_view : (t who n : ℕ) (b : Bool) (v : ThreadView) → changed t (cond b (takes who n) none) v ≡ cond (b && eqb who t) (record v { queue = queue v.queue.limit (without_number v.queue.posted n) }) v
taken_view t who n true v = refl
taken_view t who n false v = refl

changed_take : (setup : Setup) (past : Past) (t n : ℕ) (m : Msg) (e : Entry) → IsLawful setup past → e.answer ≡ answers.Got origins.Posted n m → answers.Got origins.Posted n m ≡ reply setup past e.who.0 e.call → changed t (change_by past e.who.0 (answers.Got origins.Posted n m) e.call) (thread_at past t) ≡ half past t e
unfolding half view with_posts
changed_take setup past t n m e lawful is right =
    let taken = take_told setup past e.who.0 e.call n m (by_row setup past e.who.0 e.call (answers.Got origins.Posted n m) (sym right) refl).is_row in
    taken_view t e.who.0 n (removes e.call) (thread_at past t)
    ∙ take_view (last_look past t) (removes e.call && eqb e.who.0 t) n (posted past t) (quit past t) (has_ended past t) (waiting_call (last_entry past t))
    ∙ same_view (last_look past t) (cond (removes e.call && eqb e.who.0 t) (filter (λ x. not (eqb n x.number)) (posted past t)) (posted past t)) (posted (e ∷ past) t) (quit past t) (quit (e ∷ past) t) (has_ended past t) (has_ended (e ∷ past) t) (waiting_call (last_entry past t)) (posted-got setup e past t n m lawful is taken) (quit-other e past t (retrieves_no_quit e.call (ap is_some taken.is_call)) (ap is_got_quit is)) (has_ended-same e past t (ap is_end is))

quit_taken_view : (t who : ℕ) (b : Bool) (v : ThreadView) → changed t (cond b (quits who None) none) v ≡ cond (b && eqb who t) (record v { quit = None; quit_is_new = false }) v
quit_taken_view t who true v = refl
quit_taken_view t who false v = refl

changed_quit : (setup : Setup) (past : Past) (t n : ℕ) (m : Msg) (e : Entry) → e.answer ≡ answers.Got origins.Quit n m → answers.Got origins.Quit n m ≡ reply setup past e.who.0 e.call → changed t (change_by past e.who.0 (answers.Got origins.Quit n m) e.call) (thread_at past t) ≡ half past t e
unfolding half view with_posts
changed_quit setup past t n m e is right =
    let told = quit_told setup past e.who.0 e.call n m (by_row setup past e.who.0 e.call (answers.Got origins.Quit n m) (sym right) refl).is_row in
    quit_taken_view t e.who.0 (removes e.call) (thread_at past t)
    ∙ quit_view (last_look past t) (removes e.call && eqb e.who.0 t) (posted past t) (quit past t) None (has_ended past t) (waiting_call (last_entry past t))
    ∙ same_view (last_look past t) (posted past t) (posted (e ∷ past) t) (cond (removes e.call && eqb e.who.0 t) None (quit past t)) (quit (e ∷ past) t) (has_ended past t) (has_ended (e ∷ past) t) (waiting_call (last_entry past t)) (posted-quit e past t n m is (ap is_some told.is_call)) (quit-taken e past t n m is (ap is_some told.is_call)) (has_ended-same e past t (ap is_end is))

changed_input : (setup : Setup) (past : Past) (t n : ℕ) (m : Msg) (e : Entry) → e.answer ≡ answers.Got origins.Input n m → answers.Got origins.Input n m ≡ reply setup past e.who.0 e.call → thread_at past t ≡ half past t e
changed_input setup past t n m e is right =
    let told = input_told setup past e.who.0 e.call n m (by_row setup past e.who.0 e.call (answers.Got origins.Input n m) (sym right) refl).is_row in
    changed_none setup past t e (posted-input e past t n m is (ap is_some told.is_call)) (quit-other e past t (retrieves_no_quit e.call (ap is_some told.is_call)) (ap is_got_quit is)) (ap is_end is)

changed_paint : (setup : Setup) (past : Past) (t n : ℕ) (m : Msg) (e : Entry) → e.answer ≡ answers.Got origins.Paint n m → answers.Got origins.Paint n m ≡ reply setup past e.who.0 e.call → thread_at past t ≡ half past t e
changed_paint setup past t n m e is right =
    let told = paint_told setup past e.who.0 e.call n m (by_row setup past e.who.0 e.call (answers.Got origins.Paint n m) (sym right) refl).is_row in
    changed_none setup past t e (posted-paint e past t n m is (ap is_some told.is_call)) (quit-other e past t (retrieves_no_quit e.call (ap is_some told.is_call)) (ap is_got_quit is)) (ap is_end is)

changed_timer : (setup : Setup) (past : Past) (t n : ℕ) (m : Msg) (e : Entry) → e.answer ≡ answers.Got origins.Timer n m → answers.Got origins.Timer n m ≡ reply setup past e.who.0 e.call → thread_at past t ≡ half past t e
changed_timer setup past t n m e is right =
    let told = timer_told setup past e.who.0 e.call n m (by_row setup past e.who.0 e.call (answers.Got origins.Timer n m) (sym right) refl).is_row in
    changed_none setup past t e (posted-timer e past t n m is (ap is_some told.is_call)) (quit-other e past t (retrieves_no_quit e.call (ap is_some told.is_call)) (ap is_got_quit is)) (ap is_end is)

changed_end : (setup : Setup) (past : Past) (t : ℕ) (e : Entry) → IsLawful setup past → e.answer ≡ answers.Ended → answers.Ended ≡ reply setup past e.who.0 e.call → changed t (change_by past e.who.0 answers.Ended e.call) (thread_at past t) ≡ half past t e
unfolding half view with_posts
changed_end setup past t e lawful is right =
    let call = end_told setup past e.who.0 e.call (by_row setup past e.who.0 e.call answers.Ended (sym right) refl).is_row in
    end_view (last_look past t) (eqb e.who.0 t) (posted past t) (quit past t) (has_ended past t) (waiting_call (last_entry past t))
    ∙ same_view (last_look past t) (cond (eqb e.who.0 t) [] (posted past t)) (posted (e ∷ past) t) (quit past t) (quit (e ∷ past) t) (eqb e.who.0 t || has_ended past t) (has_ended (e ∷ past) t) (waiting_call (last_entry past t)) (posted-end setup e past t lawful (is ∙ right) is) (quit-other e past t (ap is_post_quit call) (ap is_got_quit is)) (has_ended-end e past t is)

go_within : (setup : Setup) (past : Past) (who v : ℕ) → IsLawful setup past → answers.Okay ≡ reply setup past who (Drop v) → GoWithin past v who
go_within setup past who v lawful right w x e k = sym (kin_of_thread setup past v w x lawful e k) ∙ eqb-true (thread_of past v) who (drop_told setup past who v (sym right)).0.own

dropped_own : (setup : Setup) (past : Past) (t v : ℕ) (e : Entry) → IsLawful setup past → e.call ≡ Drop v → e.answer ≡ answers.Okay → answers.Okay ≡ reply setup past e.who.0 (Drop v) → posted (e ∷ past) t ≡ cond (eqb e.who.0 t) (filter (λ x. not (goes_with past v x.msg.hwnd.0)) (posted past t)) (posted past t)
dropped_own setup past t v e lawful call is right = pick (eqb e.who.0 t) refl
  where
    pick : (b : Bool) → eqb e.who.0 t ≡ b → posted (e ∷ past) t ≡ cond b (filter (λ x. not (goes_with past v x.msg.hwnd.0)) (posted past t)) (posted past t)
    pick true same = posted-drop e past t v call is
    pick false differs = posted-drop-other setup e past t v lawful call is (go_within setup past e.who.0 v lawful right) differs

-- a quit that is posted came after the look
quit_posted_view : (setup : Setup) (past : Past) (t : ℕ) (b : Bool) (code : ℕ) → IsLawful setup past
    → cond b (record (thread_at past t) { quit = Some code; quit_is_new = true }) (thread_at past t)
    ≡ cond b (view (last_look past t) (posted past t) (Some (quit_after past code)) (has_ended past t) (waiting_call (last_entry past t))) (thread_at past t)
unfolding view
quit_posted_view setup past t b code lawful =
    ap (λ n. cond b (record (thread_at past t) { quit = Some code; quit_is_new = n }) (thread_at past t)) (sym (late (tail_shorter setup (last_look past t) past (look_is_tail past t) lawful)))
  where
    late : length (last_look past t) ≤ length past → nat_le (length (last_look past t)) (length past) ≡ true
    late h = grind (arith, nat_tests, h)

changed_okay : (setup : Setup) (past : Past) (t : ℕ) (e : Entry) (call : Call) → IsLawful setup past → e.answer ≡ answers.Okay → e.call ≡ call → answers.Okay ≡ reply setup past e.who.0 call → changed t (change_by past e.who.0 answers.Okay call) (thread_at past t) ≡ half past t e
unfolding half view with_posts
changed_okay setup past t e (PostQuit code) lawful is call right =
    quit_posted_view setup past t (eqb e.who.0 t) code lawful
    ∙ quit_view (last_look past t) (eqb e.who.0 t) (posted past t) (quit past t) (Some (quit_after past code)) (has_ended past t) (waiting_call (last_entry past t))
    ∙ same_view (last_look past t) (posted past t) (posted (e ∷ past) t) (cond (eqb e.who.0 t) (Some (quit_after past code)) (quit past t)) (quit (e ∷ past) t) (has_ended past t) (has_ended (e ∷ past) t) (waiting_call (last_entry past t)) (posted-okay e past t is (ap is_drop call)) (quit-posted e past t code (ap is_refusal is) call) (has_ended-same e past t (ap is_end is))
changed_okay setup past t e (Drop v) lawful is call right =
    purge_view (last_look past t) past (eqb e.who.0 t) v (posted past t) (quit past t) (has_ended past t) (waiting_call (last_entry past t))
    ∙ same_view (last_look past t) (cond (eqb e.who.0 t) (filter (λ x. not (goes_with past v x.msg.hwnd.0)) (posted past t)) (posted past t)) (posted (e ∷ past) t) (quit past t) (quit (e ∷ past) t) (has_ended past t) (has_ended (e ∷ past) t) (waiting_call (last_entry past t)) (dropped_own setup past t v e lawful call is right) (quit-other e past t (ap is_post_quit call) (ap is_got_quit is)) (has_ended-same e past t (ap is_end is))
changed_okay setup past t e _ lawful is call right = changed_none setup past t e (posted-okay e past t is (ap is_drop call)) (quit-other e past t (ap is_post_quit call) (ap is_got_quit is)) (ap is_end is)

plain_is_no_end : (a : Answer) → is_plain a ≡ true → is_end a ≡ false
plain_is_no_end answers.Ended h = absurd (false≢true h)
plain_is_no_end _ h = refl

changed_plain : (setup : Setup) (past : Past) (t : ℕ) (e : Entry) → e.answer ≡ reply setup past e.who.0 e.call → is_plain e.answer ≡ true → thread_at past t ≡ half past t e
changed_plain setup past t e right plain = changed_none setup past t e (posted-plain setup e past t right plain) (quit-plain setup e past t right plain) (plain_is_no_end e.answer plain)

changed_by : (setup : Setup) (past : Past) (t : ℕ) (e : Entry) (a : Answer) → IsLawful setup past → e.answer ≡ a → a ≡ reply setup past e.who.0 e.call → changed t (change_by past e.who.0 a e.call) (thread_at past t) ≡ half past t e
changed_by setup past t e (answers.Posted k) lawful is right = changed_post setup past t k e is right
changed_by setup past t e (answers.Got origins.Posted n m) lawful is right = changed_take setup past t n m e lawful is right
changed_by setup past t e (answers.Got origins.Quit n m) lawful is right = changed_quit setup past t n m e is right
changed_by setup past t e (answers.Got origins.Input n m) lawful is right = changed_input setup past t n m e is right
changed_by setup past t e (answers.Got origins.Paint n m) lawful is right = changed_paint setup past t n m e is right
changed_by setup past t e (answers.Got origins.Timer n m) lawful is right = changed_timer setup past t n m e is right
changed_by setup past t e answers.Ended lawful is right = changed_end setup past t e lawful is right
changed_by setup past t e answers.Okay lawful is right = changed_okay setup past t e e.call lawful is refl right
changed_by setup past t e _ lawful is right = changed_plain setup past t e (is ∙ right) (ap is_plain is)

-- ---- looks

marked_by : (t count : ℕ) (e : Entry) (v : ThreadView) (r l : Bool) → is_refused e ≡ r → is_look_of t e ≡ l → marked t e count v ≡ cond r v (cond l (record v { quit_is_new = false; seen = count }) v)
marked_by t count e v r l is_r is_l = ap (λ b. cond b v (cond (is_look_of t e) (record v { quit_is_new = false; seen = count }) v)) is_r ∙ ap (λ b. cond r v (cond b (record v { quit_is_new = false; seen = count }) v)) is_l

-- what came since the last look
marked_view : (past : Past) (t : ℕ) (e : Entry) (xs : List PostedMsg) (en : Bool) (w : Option Call) → marked t e (length (posts (e ∷ past))) (view (last_look past t) xs (quit (e ∷ past) t) en w) ≡ view (last_look (e ∷ past) t) xs (quit (e ∷ past) t) en w
unfolding view
marked_view past t e xs en w = by (is_refused e) refl (is_look_of t e) refl
  where
    old : ThreadView
    old = view (last_look past t) xs (quit (e ∷ past) t) en w

    by : (r : Bool) → is_refused e ≡ r → (l : Bool) → is_look_of t e ≡ l → marked t e (length (posts (e ∷ past))) old ≡ view (last_look (e ∷ past) t) xs (quit (e ∷ past) t) en w
    by true r l look = marked_by t (length (posts (e ∷ past))) e old true l r look ∙ ap (λ (p : Past). view p xs (quit (e ∷ past) t) en w) (sym (last_look-refused e past t r))
    by false r false look = marked_by t (length (posts (e ∷ past))) e old false false r look ∙ ap (λ (p : Past). view p xs (quit (e ∷ past) t) en w) (sym (last_look-other e past t look))
    by false r true look =
        let here : last_look (e ∷ past) t ≡ e ∷ past = last_look-look e past t r look in
        let none : quit_came (e ∷ past) (quit (e ∷ past) t) ≡ false = ap (λ (p : Past). quit_came p (quit (e ∷ past) t)) (sym here) ∙ quit_is_new-look e past t r look in
        marked_by t (length (posts (e ∷ past))) e old false true r look
        ∙ ap (λ b. let v : ThreadView = record old { quit_is_new = b; seen = length (posts (e ∷ past)) } in v) (sym none)
        ∙ ap (λ (p : Past). view p xs (quit (e ∷ past) t) en w) (sym here)

-- what is kept of a thread follows the past
pub thread-next : (setup : Setup) (past : Past) (t : ℕ) (e : Entry) → IsLawful setup past → e.answer ≡ reply setup past e.who.0 e.call → thread_after past e t (thread_at past t) ≡ thread_at (e ∷ past) t
unfolding half view
thread-next setup past t e lawful right =
    ap (λ (v : ThreadView). marked t e (length (posts (e ∷ past))) (noted t e v)) (changed_by setup past t e e.answer lawful refl right)
    ∙ ap (marked t e (length (posts (e ∷ past)))) (note_view (last_look past t) (eqb e.who.0 t) (posted (e ∷ past) t) (quit (e ∷ past) t) (has_ended (e ∷ past) t) e (last_entry past t)
    ∙ ap (λ (o : Option Entry). view (last_look past t) (posted (e ∷ past) t) (quit (e ∷ past) t) (has_ended (e ∷ past) t) (waiting_call o)) (sym (last_entry-next e past t)))
    ∙ marked_view past t e (posted (e ∷ past) t) (has_ended (e ∷ past) t) (waiting_call (last_entry (e ∷ past) t))

-- ---- the count of posts and the clock

count_step : (setup : Setup) (past : Past) (who : ℕ) (a : Answer) (call : Call) → a ≡ reply setup past who call → count_kept a (length (posts past)) ≡ count_after a (length (posts past))
count_step setup past who (answers.Posted k) call e =
    let p = post_told setup past who call k (by_row setup past who call (answers.Posted k) (sym e) refl).is_row in
    omega (arith, p.is_next)
count_step setup past who _ call e = refl

-- the count of posts follows the past
pub count_kept-next : (setup : Setup) (past : Past) (e : Entry) → e.answer ≡ reply setup past e.who.0 e.call → count_kept e.answer (length (posts past)) ≡ length (posts (e ∷ past))
count_kept-next setup past e right = count_step setup past e.who.0 e.answer e.call right ∙ sym (count-next e past)

time_step : (e : Entry) (a : Answer) (past : Past) → e.answer ≡ a → time_told_to e.who.0 a (clock past) ≡ unwrap_or (unless_refused e (if_clock e.who.0 (time_told a))) (clock past)
time_step e (answers.Advanced v) past is = rw is (pick (eqb e.who.0 0))
  where
    pick : (b : Bool) → cond b v (clock past) ≡ unwrap_or (cond b (Some v) None) (clock past)
    pick true = refl
    pick false = refl
time_step e (answers.Value v) past is = rw is (pick (eqb e.who.0 0))
  where
    pick : (b : Bool) → cond b v (clock past) ≡ unwrap_or (cond b (Some v) None) (clock past)
    pick true = refl
    pick false = refl
time_step e _ past is = rw is refl

-- the clock follows the past
pub time_kept-next : (e : Entry) (past : Past) → time_kept e (clock past) ≡ clock (e ∷ past)
time_kept-next e past = time_step e e.answer past refl ∙ sym (clock-next e past)
