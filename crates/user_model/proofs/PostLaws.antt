-- Posted messages at a past with one entry more.
use Rattle.std.proofs.Common.{◌≡◌, ◌≢◌, ℕ, ◌<◌, Bool, true, false, not, cond, eqb, List, [], ◌∷◌, ◌++◌, Option, Some, None, refl, ap, ◌∙◌, sym, subst, inl, inr, arith}
use Rattle.std.specs.Prelude.{filter, ◌||◌, ◌&&◌, unwrap_or, option_map, is_some}
use Rattle.std.specs.List.{AllByRecursion}
use Rattle.std.proofs.lemmas.Bool.{false≢true}
use Rattle.std.proofs.lemmas.Bool.Decides.{nat_tests, eqb_tells}
use Rattle.std.proofs.lemmas.List.{append-nil}
use Rattle.win_num.specs.declared.message.Msg.{Msg}
use Rattle.user_model.specs.declared.call.Call.{Call}
use Rattle.user_model.specs.declared.call.Call.TheVariants.{Drop, EndThread}
use Rattle.user_model.specs.declared.entry.Answer.{Answer}
use Rattle.user_model.specs.declared.entry.Answer.TheVariants as answers
use Rattle.user_model.specs.declared.entry.Origin.TheVariants as origins
use Rattle.user_model.specs.declared.entry.Entry.{Entry}
use Rattle.user_model.specs.declared.entry.Setup.{Setup}
use Rattle.user_model.specs.Past.{Past, is_refusal, is_refused}
use Rattle.user_model.specs.Places.{is_end, ends_thread}
use Rattle.user_model.specs.Windows.{Window, live, window, is_live, thread_of, drops, drops_kin, drops_window, is_kin}
use Rattle.user_model.specs.Destruction.{ended, was_given}
use Rattle.user_model.specs.Retrievals.{removes, removed_post, is_number, takes_post}
use Rattle.user_model.specs.Posts.{PostedMsg, post_after, posts_to, posts_by, message_to, ends_post, posted, passes}
use Rattle.user_model.specs.Deeds.{retrieves}
use Rattle.user_model.proofs.AnswerFacts.{IsPost, IsTaken}
use Rattle.user_model.specs.Refusals.{access_denied, invalid_parameter, invalid_window_handle}
use Rattle.user_model.specs.Replies.{row}
use Rattle.user_model.specs.ReplyDelivery.{next_post_number}
use Rattle.user_model.specs.Idle.{reply}
use Rattle.user_model.specs.Legal.{IsLawful}
use Rattle.user_model.proofs.PastLaws.{first_way, standing-same, standing-next}
use Rattle.user_model.proofs.ListLaws.{or-false, all_weaker, all_append, all_filter, filter_same, filter_all, filter_every, filter_none, all_found}
use Rattle.user_model.proofs.ReplyLaws.{by_row, by_call, not_refused}
use Rattle.user_model.proofs.DeliveryReplies.{post_told, end_told}
use Rattle.user_model.proofs.Forests.{number_found}
use Rattle.user_model.proofs.WindowFacts.{too_low}
use Rattle.user_model.proofs.PostCounts.{is_post}
use Rattle.user_model.proofs.PostOwners.{message_of, posts_none, posts_one, recipient, IsOf, all_owned, IsHeld, all_held, is_drop, drops_none, no_drop_or, post_is_no_drop}

-- ---- an entry that does nothing to posts

-- a refused entry leaves all posts
pub posted-refused : (e : Entry) (past : Past) (t : ℕ) → is_refused e ≡ true → posted (e ∷ past) t ≡ posted past t
posted-refused e past t h = first_way (is_refused e) (posted past t) (filter (λ x. not (ends_post t e past x)) (posted past t) ++ posts_to t e past) h

either_of : (a b c d : Bool) → a ≡ d → b ≡ false → c ≡ false → (a || b || c) ≡ d
either_of a b c d e f g = rw (e, f, g) (last d)
  where
    last : (x : Bool) → (x || false || false) ≡ x
    last true = refl
    last false = refl

-- an entry that ends no thread and drops no window ends a post only by taking it
ends_taken : (e : Entry) (past : Past) (t : ℕ) (x : PostedMsg) (b : Bool) → is_end e.answer ≡ false → is_drop e.call ≡ false → takes_post e x.number ≡ b → ends_post t e past x ≡ b
ends_taken e past t x b lives stays taken =
    either_of (takes_post e x.number) (drops_window e past x.msg.hwnd.0) (ends_thread e t) b taken (drops_none e past x.msg.hwnd.0 stays lives) (ap (λ c. c && eqb e.who.0 t) lives)

-- an entry that posts, takes, ends and drops nothing leaves all posts
pub posted-same : (e : Entry) (past : Past) (t : ℕ) → is_post e.answer ≡ false → removed_post e.answer e.call ≡ None → is_end e.answer ≡ false → is_drop e.call ≡ false → posted (e ∷ past) t ≡ posted past t
posted-same e past t plain kept lives stays =
    standing-same (posts_to t) (ends_post t) e past (posts_none t e.who.0 e.answer e.call past plain) (λ x. ends_taken e past t x false lives stays (ap (λ o. is_number o x.number) kept))

-- a drop that isn't refused is okay
drop_okay : (setup : Setup) (past : Past) (who v : ℕ) (a : Answer) → is_refusal a ≡ false → row setup past who (Drop v) ≡ a → a ≡ answers.Okay
drop_okay setup past who v a hit e =
    let done = not_refused (is_live past v && not (was_given past (ended v))) invalid_parameter _ a hit e in
    let there = not_refused (not (is_live past v)) invalid_window_handle _ a hit done.1 in
    let own = not_refused (not (eqb (thread_of past v) who)) access_denied _ a hit there.1 in
    sym own.1

-- an answer that no post, no retrieval, no end of a thread and no drop of a window gets
abbrev pub is_plain : Answer → Bool
is_plain answers.Okay = false
is_plain answers.Ended = false
is_plain (answers.Posted k) = false
is_plain (answers.Got o n m) = false
is_plain _ = true

plain_parts : (a : Answer) (call : Call) → is_plain a ≡ true → (is_post a ≡ false) × (removed_post a call ≡ None) × (is_end a ≡ false)
plain_parts answers.Okay call h = absurd (false≢true h)
plain_parts answers.Ended call h = absurd (false≢true h)
plain_parts (answers.Posted k) call h = absurd (false≢true h)
plain_parts (answers.Got o n m) call h = absurd (false≢true h)
plain_parts _ call h = (refl, refl, refl)

plain_no_drop : (setup : Setup) (past : Past) (who : ℕ) (call : Call) (a : Answer) → a ≡ reply setup past who call → is_plain a ≡ true → is_refusal a ≡ false → is_drop call ≡ false
plain_no_drop setup past who (Drop v) a e plain hit = absurd (false≢true (sym (ap is_plain (drop_okay setup past who v a hit (by_call setup past who (Drop v) a (sym e) refl hit).is_row)) ∙ plain))
plain_no_drop setup past who _ a e plain hit = refl

-- a lawful entry with such an answer leaves all posts
pub posted-plain : (setup : Setup) (e : Entry) (past : Past) (t : ℕ) → e.answer ≡ reply setup past e.who.0 e.call → is_plain e.answer ≡ true → posted (e ∷ past) t ≡ posted past t
posted-plain setup e past t right plain = step (is_refused e) refl
  where
    step : (b : Bool) → is_refused e ≡ b → posted (e ∷ past) t ≡ posted past t
    step true h = posted-refused e past t h
    step false h =
        let parts = plain_parts e.answer e.call plain in
        posted-same e past t parts.0 parts.1 parts.2 (plain_no_drop setup past e.who.0 e.call e.answer right plain h)

-- ---- a post

-- a post stands at the end of its thread's posts
pub posted-post : (setup : Setup) (e : Entry) (past : Past) (t k : ℕ) → e.answer ≡ answers.Posted k → (p : IsPost setup past e.who.0 e.call k) → posted (e ∷ past) t ≡ posted past t ++ message_to t k p.to p.hwnd p.number p.wparam p.lparam past
posted-post setup e past t k is p =
    standing-next (posts_to t) (ends_post t) e past (ap is_refusal is)
    ∙ ap (λ l. l ++ posts_to t e past) (filter_every (λ x. not (ends_post t e past x)) (λ x. ap not (ends_taken e past t x false (ap is_end is) (post_is_no_drop setup past e.who.0 e.call k p) (ap (λ a. is_number (removed_post a e.call) x.number) is))) (posted past t))
    ∙ ap (λ l. posted past t ++ l) (ap (λ a. posts_by t e.who.0 a e.call past) is ∙ posts_one setup t e.who.0 e.call past k p)

-- ---- the end of a thread

or_last : (a : Bool) → (a || true) ≡ true
or_last true = refl
or_last false = refl

held_stays : (setup : Setup) (e : Entry) (past : Past) (t w : ℕ) → IsLawful setup past → is_drop e.call ≡ false → eqb e.who.0 t ≡ false → IsHeld past t w → drops_window e past w ≡ false
held_stays setup e past t w lawful stays differ (inl none) =
    ap (λ (n : ℕ). drops_window e past n) none ∙ ap (λ o. unwrap_or (option_map (drops e (live past)) o) false) (too_low setup past 0 lawful (omega arith))
held_stays setup e past t w lawful stays differ (inr of) =
    ap (λ o. unwrap_or (option_map (drops e (live past)) o) false) of.is_live
    ∙ no_drop_or e.call (live past) of.made (ends_thread e of.made.thread) stays (ap (λ (u : ℕ). is_end e.answer && eqb e.who.0 u) of.is_of ∙ and_last (is_end e.answer) (eqb e.who.0 t) differ)
  where
    and_last : (a b : Bool) → b ≡ false → (a && b) ≡ false
    and_last true b h = h
    and_last false b h = refl

-- the end of a thread ends its posts alone
pub posted-end : (setup : Setup) (e : Entry) (past : Past) (t : ℕ) → IsLawful setup past → e.answer ≡ reply setup past e.who.0 e.call → e.answer ≡ answers.Ended → posted (e ∷ past) t ≡ cond (eqb e.who.0 t) [] (posted past t)
posted-end setup e past t lawful right is =
    let call : e.call ≡ EndThread = end_told setup past e.who.0 e.call (by_row setup past e.who.0 e.call answers.Ended (sym right ∙ is) refl).is_row in
    standing-next (posts_to t) (ends_post t) e past (ap is_refusal is)
    ∙ ap (λ l. filter (λ x. not (ends_post t e past x)) (posted past t) ++ l) (posts_none t e.who.0 e.answer e.call past (ap is_post is))
    ∙ append-nil (filter (λ x. not (ends_post t e past x)) (posted past t))
    ∙ pick (eqb e.who.0 t) refl (ap is_drop call)
  where
    pick : (b : Bool) → eqb e.who.0 t ≡ b → is_drop e.call ≡ false → filter (λ x. not (ends_post t e past x)) (posted past t) ≡ cond b [] (posted past t)
    pick true same stays = filter_none (λ x. not (ends_post t e past x)) (λ x. ap not (ap (λ c. takes_post e x.number || drops_window e past x.msg.hwnd.0 || c) (ap (λ a. is_end a && eqb e.who.0 t) is ∙ same) ∙ or_last (takes_post e x.number || drops_window e past x.msg.hwnd.0))) (posted past t)
    pick false differ stays = filter_all (λ x. not (ends_post t e past x)) (posted past t) (all_weaker (λ x. IsHeld past t x.msg.hwnd.0) (λ x. not (ends_post t e past x) ≡ true) (λ x held. ap not (either_of (takes_post e x.number) (drops_window e past x.msg.hwnd.0) (ends_thread e t) false (ap (λ a. is_number (removed_post a e.call) x.number) is) (held_stays setup e past t x.msg.hwnd.0 lawful stays differ held) (ap (λ a. is_end a && eqb e.who.0 t) is ∙ differ))) (posted past t) (all_held setup past t lawful))

-- ---- a window that is dropped

-- whether w is a live window that goes with v
abbrev pub goes_with : Past → ℕ → ℕ → Bool
goes_with past v w = is_live past w && is_kin (live past) v w

dropped_kin : (past : Past) (e : Entry) (v w : ℕ) (o : Option Window) → window past w ≡ o → e.call ≡ Drop v → is_end e.answer ≡ false → unwrap_or (option_map (drops e (live past)) o) false ≡ (is_some o && is_kin (live past) v w)
dropped_kin past e v w None is call lives = refl
dropped_kin past e v w (Some x) is call lives =
    ap (λ c. drops_kin c (live past) x || ends_thread e x.thread) call
    ∙ ap (λ b. is_kin (live past) v x.number || b && eqb e.who.0 x.thread) lives
    ∙ or-false (is_kin (live past) v x.number)
    ∙ ap (is_kin (live past) v) (number_found (live past) w x is)

-- an entry that drops v drops the windows that go with v
pub drops_window-drop : (e : Entry) (past : Past) (v w : ℕ) → e.call ≡ Drop v → is_end e.answer ≡ false → drops_window e past w ≡ goes_with past v w
drops_window-drop e past v w call lives = dropped_kin past e v w (window past w) refl call lives

or_middle : (a b c d : Bool) → a ≡ false → b ≡ d → c ≡ false → (a || b || c) ≡ d
or_middle a b c d e f g = rw (e, f, g) (or-false d)

-- a drop of v takes out the posts to the windows that go with v
pub posted-drop : (e : Entry) (past : Past) (t v : ℕ) → e.call ≡ Drop v → e.answer ≡ answers.Okay → posted (e ∷ past) t ≡ filter (λ x. not (goes_with past v x.msg.hwnd.0)) (posted past t)
posted-drop e past t v call is =
    standing-next (posts_to t) (ends_post t) e past (ap is_refusal is)
    ∙ ap (λ l. filter (λ x. not (ends_post t e past x)) (posted past t) ++ l) (posts_none t e.who.0 e.answer e.call past (ap is_post is))
    ∙ append-nil (filter (λ x. not (ends_post t e past x)) (posted past t))
    ∙ filter_same (λ x. not (ends_post t e past x)) (λ x. not (goes_with past v x.msg.hwnd.0)) (λ x. ap not (or_middle (takes_post e x.number) (drops_window e past x.msg.hwnd.0) (ends_thread e t) (goes_with past v x.msg.hwnd.0) (ap (λ a. is_number (removed_post a e.call) x.number) is) (drops_window-drop e past v x.msg.hwnd.0 call (ap is_end is)) (ap (λ a. is_end a && eqb e.who.0 t) is))) (posted past t)

-- all windows that go with v are of one thread
abbrev pub GoWithin : Past → ℕ → ℕ → Type 0
GoWithin past v t = (w : ℕ) (x : Window) → window past w ≡ Some x → is_kin (live past) v w ≡ true → x.thread ≡ t

itself : (n : ℕ) → eqb n n ≡ true
itself n = grind (arith, nat_tests)

held_apart : (setup : Setup) (past : Past) (v who t w : ℕ) → IsLawful setup past → GoWithin past v who → eqb who t ≡ false → IsHeld past t w → goes_with past v w ≡ false
held_apart setup past v who t w lawful within differ (inl none) = ap (goes_with past v) none ∙ ap (λ o. is_some o && is_kin (live past) v 0) (too_low setup past 0 lawful (omega arith))
held_apart setup past v who t w lawful within differ (inr of) = ap (λ o. is_some o && is_kin (live past) v w) of.is_live ∙ miss (is_kin (live past) v w) refl
  where
    miss : (b : Bool) → is_kin (live past) v w ≡ b → b ≡ false
    miss true h = let same : who ≡ t = sym (within w of.made of.is_live h) ∙ of.is_of in absurd (false≢true (sym differ ∙ ap (eqb who) (sym same) ∙ itself who))
    miss false h = refl

-- a drop touches the posts of its own thread alone
pub posted-drop-other : (setup : Setup) (e : Entry) (past : Past) (t v : ℕ) → IsLawful setup past → e.call ≡ Drop v → e.answer ≡ answers.Okay → GoWithin past v e.who.0 → eqb e.who.0 t ≡ false → posted (e ∷ past) t ≡ posted past t
posted-drop-other setup e past t v lawful call is within differ =
    posted-drop e past t v call is
    ∙ filter_all (λ x. not (goes_with past v x.msg.hwnd.0)) (posted past t) (all_weaker (λ x. IsHeld past t x.msg.hwnd.0) (λ x. not (goes_with past v x.msg.hwnd.0) ≡ true) (λ x held. ap not (held_apart setup past v e.who.0 t x.msg.hwnd.0 lawful within differ held)) (posted past t) (all_held setup past t lawful))

-- ---- a message that is retrieved

retrieves_no_drop : (call : Call) → is_some (retrieves call) ≡ true → is_drop call ≡ false
retrieves_no_drop (Drop v) h = absurd (false≢true h)
retrieves_no_drop _ h = refl

taken_number : (b : Bool) (n k : ℕ) → is_number (cond b (Some n) None) k ≡ (b && eqb n k)
taken_number true n k = refl
taken_number false n k = refl

others_stay : (past : Past) (n who t : ℕ) → recipient past n ≡ who → who ≢ t → (xs : List PostedMsg) → AllByRecursion (IsOf past t) xs → filter (λ x. not (eqb n x.number)) xs ≡ xs
others_stay past n who t own differ xs all =
    filter_all (λ x. not (eqb n x.number)) xs (all_weaker (IsOf past t) (λ x. not (eqb n x.number) ≡ true) (λ x is.
    elim (eqb_tells n x.number) [ inl y ↦ absurd (differ (sym own ∙ ap (recipient past) y.1 ∙ is.owned)) | inr y ↦ ap not y.0 ]) xs all)

-- what a retrieval took is a post to its thread
pub taken_owned : (setup : Setup) (past : Past) (who : ℕ) (call : Call) (n : ℕ) (m : Msg) → IsLawful setup past → (taken : IsTaken past who call n m) → IsOf past who taken.of
taken_owned setup past who call n m lawful taken = all_found (IsOf past who) (passes past taken.pass) (posted past who) taken.of (all_owned setup past who lawful) taken.is_first

take_filter : (b : Bool) (n : ℕ) (xs : List PostedMsg) → filter (λ x. not (b && eqb n x.number)) xs ≡ cond b (filter (λ x. not (eqb n x.number)) xs) xs
take_filter true n xs = refl
take_filter false n xs = filter_every (λ x. not (false && eqb n x.number)) (λ x. refl) xs

-- a retrieval that removes takes the post out of its own thread's posts
pub posted-got : (setup : Setup) (e : Entry) (past : Past) (t n : ℕ) (m : Msg) → IsLawful setup past → e.answer ≡ answers.Got origins.Posted n m → IsTaken past e.who.0 e.call n m
    → posted (e ∷ past) t ≡ cond (removes e.call && eqb e.who.0 t) (filter (λ x. not (eqb n x.number)) (posted past t)) (posted past t)
posted-got setup e past t n m lawful is taken =
    standing-next (posts_to t) (ends_post t) e past (ap is_refusal is)
    ∙ ap (λ l. filter (λ x. not (ends_post t e past x)) (posted past t) ++ l) (posts_none t e.who.0 e.answer e.call past (ap is_post is))
    ∙ append-nil (filter (λ x. not (ends_post t e past x)) (posted past t))
    ∙ filter_same (λ x. not (ends_post t e past x)) (λ x. not (removes e.call && eqb n x.number)) (λ x. ap not (ends_taken e past t x (removes e.call && eqb n x.number) (ap is_end is) (retrieves_no_drop e.call (ap is_some taken.is_call)) (ap (λ a. is_number (removed_post a e.call) x.number) is ∙ taken_number (removes e.call) n x.number))) (posted past t)
    ∙ take_filter (removes e.call) n (posted past t)
    ∙ elim (eqb_tells e.who.0 t) as (λ _. cond (removes e.call) (filter (λ x. not (eqb n x.number)) (posted past t)) (posted past t) ≡ cond (removes e.call && eqb e.who.0 t) (filter (λ x. not (eqb n x.number)) (posted past t)) (posted past t)) [
      | inl x ↦ rw x.0 (own (removes e.call))
      | inr x ↦ rw x.0 (other (removes e.call) (others_stay past n e.who.0 t (ap (recipient past) (sym taken.is_number) ∙ (taken_owned setup past e.who.0 e.call n m lawful taken).owned) x.1 (posted past t) (all_owned setup past t lawful)))
    ]
  where
    own : (b : Bool) → cond b (filter (λ x. not (eqb n x.number)) (posted past t)) (posted past t) ≡ cond (b && true) (filter (λ x. not (eqb n x.number)) (posted past t)) (posted past t)
    own true = refl
    own false = refl

    other : (b : Bool) → filter (λ x. not (eqb n x.number)) (posted past t) ≡ posted past t → cond b (filter (λ x. not (eqb n x.number)) (posted past t)) (posted past t) ≡ cond (b && false) (filter (λ x. not (eqb n x.number)) (posted past t)) (posted past t)
    other true h = h
    other false h = refl

-- a retrieval that hands out quit leaves all posts
pub posted-quit : (e : Entry) (past : Past) (t n : ℕ) (m : Msg) → e.answer ≡ answers.Got origins.Quit n m → is_some (retrieves e.call) ≡ true → posted (e ∷ past) t ≡ posted past t
posted-quit e past t n m is call = posted-same e past t (ap is_post is) (ap (λ a. removed_post a e.call) is) (ap is_end is) (retrieves_no_drop e.call call)

-- and so does one that hands out an input
pub posted-input : (e : Entry) (past : Past) (t n : ℕ) (m : Msg) → e.answer ≡ answers.Got origins.Input n m → is_some (retrieves e.call) ≡ true → posted (e ∷ past) t ≡ posted past t
posted-input e past t n m is call = posted-same e past t (ap is_post is) (ap (λ a. removed_post a e.call) is) (ap is_end is) (retrieves_no_drop e.call call)

-- and so does one that hands out WM_PAINT
pub posted-paint : (e : Entry) (past : Past) (t n : ℕ) (m : Msg) → e.answer ≡ answers.Got origins.Paint n m → is_some (retrieves e.call) ≡ true → posted (e ∷ past) t ≡ posted past t
posted-paint e past t n m is call = posted-same e past t (ap is_post is) (ap (λ a. removed_post a e.call) is) (ap is_end is) (retrieves_no_drop e.call call)

-- and so does one that hands out WM_TIMER
pub posted-timer : (e : Entry) (past : Past) (t n : ℕ) (m : Msg) → e.answer ≡ answers.Got origins.Timer n m → is_some (retrieves e.call) ≡ true → posted (e ∷ past) t ≡ posted past t
posted-timer e past t n m is call = posted-same e past t (ap is_post is) (ap (λ a. removed_post a e.call) is) (ap is_end is) (retrieves_no_drop e.call call)

-- a call that is answered okay and drops no window leaves all posts
pub posted-okay : (e : Entry) (past : Past) (t : ℕ) → e.answer ≡ answers.Okay → is_drop e.call ≡ false → posted (e ∷ past) t ≡ posted past t
posted-okay e past t is call = posted-same e past t (ap is_post is) (ap (λ a. removed_post a e.call) is) (ap is_end is) call

-- ---- the numbers rise

abbrev pub IsRising : List PostedMsg → Type 0
IsRising [] = Unit {0}
IsRising (x ∷ xs) = AllByRecursion (λ y. x.number < y.number) xs × IsRising xs

rising_filter : (test : PostedMsg → Bool) (xs : List PostedMsg) → IsRising xs → IsRising (filter test xs)
rising_filter test [] r = tt
rising_filter test (x ∷ xs) r = elim (test x) as (λ b. IsRising (cond b (x ∷ filter test xs) (filter test xs))) [ true ↦ (all_filter (λ y. x.number < y.number) test xs r.0, rising_filter test xs r.1) | false ↦ rising_filter test xs r.1 ]

rising_push : (xs : List PostedMsg) (y : PostedMsg) → AllByRecursion (λ x. x.number < y.number) xs → IsRising xs → IsRising (xs ++ y ∷ [])
rising_push [] y below r = (tt, tt)
rising_push (x ∷ xs) y below r = (all_append (λ z. x.number < z.number) xs (y ∷ []) r.0 (below.0, tt), rising_push xs y below.1 r.1)

rising_new : (setup : Setup) (past : Past) (who t : ℕ) (a : Answer) (call : Call) (xs : List PostedMsg) → a ≡ reply setup past who call → AllByRecursion (λ x. x.number < next_post_number past) xs → IsRising xs → IsRising (xs ++ posts_by t who a call past)
rising_new setup past who t (answers.Posted k) call xs e below r =
    let made = post_told setup past who call k (by_row setup past who call (answers.Posted k) (sym e) refl).is_row in
    subst (λ l. IsRising (xs ++ l)) (sym (posts_one setup t who call past k made)) (push made.is_next (eqb made.to t) (message_of made))
  where
    push : k ≡ next_post_number past → (b : Bool) (m : Msg) → IsRising (xs ++ cond b ((post_after past k m) ∷ []) [])
    push next true m = rising_push xs (post_after past k m) (all_weaker (λ x. x.number < next_post_number past) (λ x. x.number < k) (λ x lt. omega (arith, lt, next)) xs below) r
    push next false m = rw append-nil r
rising_new setup past who t a call xs e below r = rw append-nil r

-- the numbers of posts are below the next one
pub all_below : (setup : Setup) (past : Past) (t : ℕ) → IsLawful setup past → AllByRecursion (λ x. x.number < next_post_number past) (posted past t)
all_below setup past t lawful = all_weaker (IsOf past t) (λ x. x.number < next_post_number past) (λ x is. omega (arith, is.old)) (posted past t) (all_owned setup past t lawful)

-- posts stand in the order of their numbers
pub posted_rises : (setup : Setup) (past : Past) (t : ℕ) → IsLawful setup past → IsRising (posted past t)
posted_rises setup [] t lawful = tt
posted_rises setup (e ∷ past) t lawful =
    let before : IsRising (posted past t) = posted_rises setup past t lawful.0 in
    let below : AllByRecursion (λ x. x.number < next_post_number past) (posted past t) = all_below setup past t lawful.0 in
    elim (is_refused e) as (λ b. IsRising (elim b as (λ c. List PostedMsg) [ true ↦ posted past t | false ↦ filter (λ x. not (ends_post t e past x)) (posted past t) ++ posts_to t e past ])) [
      | true ↦ before
      | false ↦ rising_new setup past e.who.0 t e.answer e.call (filter (λ x. not (ends_post t e past x)) (posted past t)) lawful.1 (all_filter (λ x. x.number < next_post_number past) (λ x. not (ends_post t e past x)) (posted past t) below) (rising_filter (λ x. not (ends_post t e past x)) (posted past t) before)
    ]
