-- Whose a post is, and the thread of its window.
use Rattle.std.proofs.Common.{◌≡◌, ℕ, ◌≤◌, Bool, true, false, not, cond, eqb, List, [], ◌∷◌, ◌++◌, length, Option, Some, None, refl, ap, ◌∙◌, sym, subst, inl, inr, arith}
use Rattle.std.specs.Prelude.{filter, ◌||◌, ◌&&◌, ◌⊎◌, unwrap_or, option_map, is_some, find}
use Rattle.std.specs.List.{AllByRecursion}
use Rattle.std.proofs.lemmas.Bool.{eqb-true, false≢true}
use Rattle.std.proofs.lemmas.Bool.Decides.{nat_tests}
use Rattle.win_num.specs.declared.message.Msg.{Msg}
use Rattle.user_model.specs.declared.call.Call.{Call}
use Rattle.user_model.specs.declared.call.Call.TheVariants.{Drop}
use Rattle.user_model.specs.declared.entry.Answer.{Answer}
use Rattle.user_model.specs.declared.entry.Answer.TheVariants as answers
use Rattle.user_model.specs.declared.entry.Entry.{Entry}
use Rattle.user_model.specs.declared.entry.Setup.{Setup}
use Rattle.user_model.specs.Past.{Past, is_refused}
use Rattle.user_model.specs.Places.{clock, cursor, is_end, ends_thread}
use Rattle.user_model.specs.Threads.{is_running}
use Rattle.user_model.specs.Windows.{Window, live, window, drops, drops_kin, drops_window}
use Rattle.user_model.specs.Retrievals.{takes_post}
use Rattle.user_model.specs.Posts.{PostedMsg, message, post_after, posts, posted_by, posts_by, posts_to, message_to, queue_of, ends_post, posted}
use Rattle.user_model.specs.Deeds.{Posting, to_window, to_thread, posting_of}
use Rattle.user_model.specs.Keys.{is_shift_down}
use Rattle.user_model.proofs.AnswerFacts.{IsPost}
use Rattle.user_model.specs.ReplyDelivery.{next_post_number}
use Rattle.user_model.specs.Idle.{reply}
use Rattle.user_model.specs.Legal.{IsLawful}
use Rattle.user_model.proofs.PastLaws.{first_way}
use Rattle.user_model.proofs.ListLaws.{all_weaker, all_append, all_filter, all_kept, all_one}
use Rattle.user_model.proofs.ReplyLaws.{by_row}
use Rattle.user_model.proofs.DeliveryReplies.{post_told}
use Rattle.user_model.proofs.PostCounts.{is_post, count_after, count-next, count_grows}
use Rattle.user_model.proofs.KeptWindows.{not_true, or_neither, window-kept}
use Rattle.user_model.proofs.WindowFacts.{live_running}

-- ---- what an entry posts

-- the message of a post
abbrev pub message_of : {setup : Setup} {past : Past} {who : ℕ} {call : Call} {k : ℕ} → IsPost setup past who call k → Msg
message_of {past = past} p = message p.hwnd p.number p.wparam p.lparam (clock past) (cursor past)

-- an answer without a post posts nothing
pub posts_none : (t who : ℕ) (a : Answer) (call : Call) (past : Past) → is_post a ≡ false → posts_by t who a call past ≡ []
posts_none t who (answers.Posted k) call past h = absurd (false≢true (sym h))
posts_none t who _ call past h = refl

-- a post goes to its thread
pub posts_one : (setup : Setup) (t who : ℕ) (call : Call) (past : Past) (k : ℕ) (p : IsPost setup past who call k) → posts_by t who (answers.Posted k) call past ≡ message_to t k p.to p.hwnd p.number p.wparam p.lparam past
posts_one setup t who call past k p = elim p.is_call [
  | inl x ↦ ap (λ (o : Option Posting). posted_by t who k o past) x.0 ∙ ap (λ (to : ℕ). message_to t k to p.hwnd p.number p.wparam p.lparam past) (sym x.1)
  | inr x ↦ ap (λ (o : Option Posting). posted_by t who k o past) x.0 ∙ ap (λ (w : ℕ). message_to t k p.to w p.number p.wparam p.lparam past) (sym x.1)
]

-- what a lawful answer of a post tells
pub number_told : (setup : Setup) (past : Past) (who : ℕ) (call : Call) (k : ℕ) → answers.Posted k ≡ reply setup past who call → IsPost setup past who call k
number_told setup past who call k e = post_told setup past who call k (by_row setup past who call (answers.Posted k) (sym e) refl).is_row

-- ---- whose a post is

-- the thread that post k went to, where the entry made it
abbrev pub recipient_in : ℕ → ℕ → Option Posting → Past → ℕ → ℕ → ℕ
recipient_in who n (Some (to_window w m p q)) past k old = cond (eqb k n) (queue_of past who w) old
recipient_in who n (Some (to_thread to m p q)) past k old = cond (eqb k n) to old
recipient_in who n None past k old = old

abbrev pub recipient_by : ℕ → Answer → Call → Past → ℕ → ℕ → ℕ
recipient_by who (answers.Posted n) call past k old = recipient_in who n (posting_of (is_shift_down past who) call) past k old
recipient_by who _ call past k old = old

abbrev pub recipient : Past → ℕ → ℕ
recipient [] k = 0
recipient (e ∷ past) k = recipient_by e.who.0 e.answer e.call past k (recipient past k)

recipient_none : (who : ℕ) (a : Answer) (call : Call) (past : Past) (k old : ℕ) → is_post a ≡ false → recipient_by who a call past k old ≡ old
recipient_none who (answers.Posted n) call past k old h = absurd (false≢true (sym h))
recipient_none who _ call past k old h = refl

recipient_one : (setup : Setup) (who n : ℕ) (call : Call) (past : Past) (k old : ℕ) (p : IsPost setup past who call n) → recipient_by who (answers.Posted n) call past k old ≡ cond (eqb k n) p.to old
recipient_one setup who n call past k old p = elim p.is_call [
  | inl x ↦ ap (λ (o : Option Posting). recipient_in who n o past k old) x.0 ∙ ap (λ (to : ℕ). cond (eqb k n) to old) (sym x.1)
  | inr x ↦ ap (λ (o : Option Posting). recipient_in who n o past k old) x.0
]

-- a post to t that was made
pub record IsOf (past : Past) (t : ℕ) (x : PostedMsg) : Type 0 where
  pub old : x.number ≤ length (posts past)
  pub owned : recipient past x.number ≡ t

kept_recipient : (setup : Setup) (past : Past) (who : ℕ) (a : Answer) (call : Call) (k : ℕ) → a ≡ reply setup past who call → k ≤ length (posts past) → recipient_by who a call past k (recipient past k) ≡ recipient past k
kept_recipient setup past who (answers.Posted n) call k e old =
    let made = number_told setup past who call n e in
    let differs : eqb k n ≡ false = grind (arith, nat_tests, old, made.is_next) in
    recipient_one setup who n call past k (recipient past k) made ∙ ap (λ b. cond b made.to (recipient past k)) differs
kept_recipient setup past who a call k e old = recipient_none who a call past k (recipient past k) refl

-- a post stays its thread's
IsOf-more : (setup : Setup) (e : Entry) (past : Past) (t : ℕ) → e.answer ≡ reply setup past e.who.0 e.call → (x : PostedMsg) → IsOf past t x → IsOf (e ∷ past) t x
IsOf-more setup e past t right x is = record {
  old = omega (arith, is.old, count-next e past, count_grows e.answer (length (posts past)));
  owned = kept_recipient setup past e.who.0 e.answer e.call x.number right is.old ∙ is.owned;
}

-- a new post is its thread's
abbrev pub IsNew : Past → ℕ → ℕ → Answer → Call → PostedMsg → Type 0
IsNew past t who a call x = (x.number ≡ next_post_number past) × (x.number ≤ count_after a (length (posts past))) × (recipient_by who a call past x.number (recipient past x.number) ≡ t)

pub all_new : (setup : Setup) (past : Past) (who t : ℕ) (a : Answer) (call : Call) → a ≡ reply setup past who call → AllByRecursion (IsNew past t who a call) (posts_by t who a call past)
all_new setup past who t (answers.Posted k) call e =
    let made = number_told setup past who call k e in
    let itself : eqb k k ≡ true = grind (arith, nat_tests) in
    subst (AllByRecursion (IsNew past t who (answers.Posted k) call)) (sym (posts_one setup t who call past k made))
    (all_one (IsNew past t who (answers.Posted k) call) (eqb made.to t) (post_after past k (message_of made))
    (λ same. (made.is_next, omega (arith, made.is_next), recipient_one setup who k call past k (recipient past k) made ∙ ap (λ b. cond b made.to (recipient past k)) itself ∙ eqb-true made.to t same)))
all_new setup past who t a call e = tt

IsOf-new : (e : Entry) (past : Past) (t : ℕ) (x : PostedMsg) → IsNew past t e.who.0 e.answer e.call x → IsOf (e ∷ past) t x
IsOf-new e past t x new = record { old = omega (arith, new.1, count-next e past); owned = new.2 }

-- each post that stands for t is a post to t
pub all_owned : (setup : Setup) (past : Past) (t : ℕ) → IsLawful setup past → AllByRecursion (IsOf past t) (posted past t)
all_owned setup [] t lawful = tt
all_owned setup (e ∷ past) t lawful =
    let before : AllByRecursion (IsOf (e ∷ past) t) (posted past t) = all_weaker (IsOf past t) (IsOf (e ∷ past) t) (IsOf-more setup e past t lawful.1) (posted past t) (all_owned setup past t lawful.0) in
    let new : AllByRecursion (IsOf (e ∷ past) t) (posts_to t e past) = all_weaker (IsNew past t e.who.0 e.answer e.call) (IsOf (e ∷ past) t) (IsOf-new e past t) (posts_to t e past) (all_new setup past e.who.0 t e.answer e.call lawful.1) in
    elim (is_refused e) as (λ b. AllByRecursion (IsOf (e ∷ past) t) (elim b as (λ c. List PostedMsg) [ true ↦ posted past t | false ↦ filter (λ x. not (ends_post t e past x)) (posted past t) ++ posts_to t e past ])) [
      | true ↦ before
      | false ↦ all_append (IsOf (e ∷ past) t) (filter (λ x. not (ends_post t e past x)) (posted past t)) (posts_to t e past) (all_filter (IsOf (e ∷ past) t) (λ x. not (ends_post t e past x)) (posted past t) before) new
    ]

-- ---- the window of a post

-- whether the call drops a window
abbrev pub is_drop : Call → Bool
is_drop (Drop v) = true
is_drop _ = false

no_kin : (call : Call) (ws : List Window) (x : Window) → is_drop call ≡ false → drops_kin call ws x ≡ false
no_kin (Drop v) ws x h = absurd (false≢true (sym h))
no_kin _ ws x h = refl

none_drops : (o : Option Window) (test : Window → Bool) → ((x : Window) → test x ≡ false) → unwrap_or (option_map test o) false ≡ false
none_drops None test h = refl
none_drops (Some x) test h = h x

pub no_drop_or : (call : Call) (ws : List Window) (x : Window) (b : Bool) → is_drop call ≡ false → b ≡ false → (drops_kin call ws x || b) ≡ false
no_drop_or call ws x b h e = ap (λ c. c || b) (no_kin call ws x h) ∙ e

no_end_by : (a : Answer) (who t : ℕ) → is_end a ≡ false → (is_end a && eqb who t) ≡ false
no_end_by a who t h = ap (λ b. b && eqb who t) h

-- an entry that neither drops windows nor ends a thread drops no window
pub drops_none : (e : Entry) (past : Past) (w : ℕ) → is_drop e.call ≡ false → is_end e.answer ≡ false → drops_window e past w ≡ false
drops_none e past w h lives = none_drops (window past w) (drops e (live past)) (λ x. no_drop_or e.call (live past) x (ends_thread e x.thread) h (no_end_by e.answer e.who.0 x.thread lives))

-- a live window of t
pub record IsWindowOf (past : Past) (t w : ℕ) : Type 0 where
  pub made : Window
  pub is_live : window past w ≡ Some made
  pub is_of : made.thread ≡ t

-- the window of a message to t: none, or a live window of t
abbrev pub IsHeld : Past → ℕ → ℕ → Type 0
IsHeld past t w = (w ≡ 0) ⊎ IsWindowOf past t w

held_more : (e : Entry) (past : Past) (t w : ℕ) → drops_window e past w ≡ false → IsHeld past t w → IsHeld (e ∷ past) t w
held_more e past t w kept (inl is_none) = inl is_none
held_more e past t w kept (inr of) =
    let stays : drops e (live past) of.made ≡ false = ap (λ o. unwrap_or (option_map (drops e (live past)) o) false) (sym of.is_live) ∙ kept in
    inr (record { made = of.made; is_live = window-kept e past w of.made of.is_live stays; is_of = of.is_of })

held_by : (past : Past) (who w : ℕ) (o : Option Window) (absent : Bool) → window past w ≡ o → eqb w 0 ≡ absent → not (absent || is_some o) ≡ false → IsHeld past (cond absent who (unwrap_or (option_map (λ x. x.thread) o) 0)) w
held_by past who w o true is z e = inl (eqb-true w 0 z)
held_by past who w None false is z e = absurd (false≢true (sym e))
held_by past who w (Some x) false is z e = inr (record { made = x; is_live = is; is_of = refl })

-- the window that a post goes to is held by its thread
pub post_held : (setup : Setup) (past : Past) (who : ℕ) (call : Call) (k : ℕ) (p : IsPost setup past who call k) → IsHeld past p.to p.hwnd
post_held setup past who call k p = elim p.is_call [
  | inl x ↦ subst (λ t. IsHeld past t p.hwnd) (sym x.1) (held_by past who p.hwnd (window past p.hwnd) (eqb p.hwnd 0) refl refl x.2)
  | inr x ↦ inl x.1
]

held_runs : (setup : Setup) (past : Past) (t w : ℕ) → IsLawful setup past → IsWindowOf past t w → is_running setup past t ≡ true
held_runs setup past t w lawful of = subst (λ u. is_running setup past u ≡ true) of.is_of (live_running setup past w of.made lawful of.is_live)

-- a post goes to a thread that runs
pub post_runs : (setup : Setup) (past : Past) (who : ℕ) (call : Call) (k : ℕ) (p : IsPost setup past who call k) → IsLawful setup past → is_running setup past who ≡ true → is_running setup past p.to ≡ true
post_runs setup past who call k p lawful running = elim p.is_call [
  | inl x ↦ subst (λ t. is_running setup past t ≡ true) (sym x.1) (queue_runs (window past p.hwnd) (eqb p.hwnd 0) refl refl x.2)
  | inr x ↦ x.2
]
  where
    queue_runs : (o : Option Window) (absent : Bool) → window past p.hwnd ≡ o → eqb p.hwnd 0 ≡ absent → not (absent || is_some o) ≡ false → is_running setup past (cond absent who (unwrap_or (option_map (λ x. x.thread) o) 0)) ≡ true
    queue_runs o true is z e = running
    queue_runs None false is z e = absurd (false≢true (sym e))
    queue_runs (Some x) false is z e = live_running setup past p.hwnd x lawful is

posts_no_drop : (shift : Bool) (call : Call) (p : Posting) → posting_of shift call ≡ Some p → is_drop call ≡ false
posts_no_drop shift (Drop v) p e = let none : None ≡ Some p = e in absurd cc
posts_no_drop shift _ p e = refl

pub post_is_no_drop : (setup : Setup) (past : Past) (who : ℕ) (call : Call) (k : ℕ) → IsPost setup past who call k → is_drop call ≡ false
post_is_no_drop setup past who call k p = elim p.is_call [
  | inl x ↦ posts_no_drop (is_shift_down past who) call (to_window p.hwnd p.number p.wparam p.lparam) x.0
  | inr x ↦ posts_no_drop (is_shift_down past who) call (to_thread p.to p.number p.wparam p.lparam) x.0
]

new_held : (setup : Setup) (e : Entry) (past : Past) (t : ℕ) (a : Answer) → e.answer ≡ a → a ≡ reply setup past e.who.0 e.call → AllByRecursion (λ x. IsHeld (e ∷ past) t x.msg.hwnd.0) (posts_by t e.who.0 a e.call past)
new_held setup e past t (answers.Posted k) is right =
    let made = number_told setup past e.who.0 e.call k right in
    let stays : IsHeld (e ∷ past) made.to made.hwnd = held_more e past made.to made.hwnd (drops_none e past made.hwnd (post_is_no_drop setup past e.who.0 e.call k made) (ap is_end is)) (post_held setup past e.who.0 e.call k made) in
    subst (AllByRecursion (λ (x : PostedMsg). IsHeld (e ∷ past) t x.msg.hwnd.0)) (sym (posts_one setup t e.who.0 e.call past k made))
    (all_one (λ (x : PostedMsg). IsHeld (e ∷ past) t x.msg.hwnd.0) (eqb made.to t) (post_after past k (message_of made)) (λ same. subst (λ u. IsHeld (e ∷ past) u made.hwnd) (eqb-true made.to t same) stays))
new_held setup e past t _ is right = tt

kept_held : (e : Entry) (past : Past) (t : ℕ) (x : PostedMsg) → not (ends_post t e past x) ≡ true → IsHeld past t x.msg.hwnd.0 → IsHeld (e ∷ past) t x.msg.hwnd.0
kept_held e past t x kept held =
    let parts = or_neither (takes_post e x.number || drops_window e past x.msg.hwnd.0) (ends_thread e t) (not_true (ends_post t e past x) kept) in
    held_more e past t x.msg.hwnd.0 (or_neither (takes_post e x.number) (drops_window e past x.msg.hwnd.0) parts.0).1 held

refused_held : (e : Entry) (past : Past) (t w : ℕ) → is_refused e ≡ true → IsHeld past t w → IsHeld (e ∷ past) t w
refused_held e past t w h (inl is_none) = inl is_none
refused_held e past t w h (inr of) = inr (record { made = of.made; is_live = ap (λ ws. find (λ y. eqb y.number w) ws) (first_way (is_refused e) (live past) _ h) ∙ of.is_live; is_of = of.is_of })

-- the window of a posted message is none, or a live window of its very thread
pub all_held : (setup : Setup) (past : Past) (t : ℕ) → IsLawful setup past → AllByRecursion (λ x. IsHeld past t x.msg.hwnd.0) (posted past t)
all_held setup [] t lawful = tt
all_held setup (e ∷ past) t lawful = step (is_refused e) refl (all_held setup past t lawful.0)
  where
    step : (b : Bool) → is_refused e ≡ b → AllByRecursion (λ x. IsHeld past t x.msg.hwnd.0) (posted past t) → AllByRecursion (λ x. IsHeld (e ∷ past) t x.msg.hwnd.0) (elim b as (λ c. List PostedMsg) [ true ↦ posted past t | false ↦ filter (λ x. not (ends_post t e past x)) (posted past t) ++ posts_to t e past ])
    step true h before = all_weaker (λ x. IsHeld past t x.msg.hwnd.0) (λ x. IsHeld (e ∷ past) t x.msg.hwnd.0) (λ x held. refused_held e past t x.msg.hwnd.0 h held) (posted past t) before
    step false h before =
        all_append (λ x. IsHeld (e ∷ past) t x.msg.hwnd.0) (filter (λ x. not (ends_post t e past x)) (posted past t)) (posts_to t e past)
        (all_kept (λ x. IsHeld past t x.msg.hwnd.0) (λ x. IsHeld (e ∷ past) t x.msg.hwnd.0) (λ x. not (ends_post t e past x)) (kept_held e past t) (posted past t) before)
        (new_held setup e past t e.answer refl lawful.1)
