-- How many frames a stack has, how many sends are unfinished, and what is known of each ready message.
use Rattle.std.proofs.Common.{◌≡◌, ℕ, suc, ◌+◌, ◌<◌, ◌≤◌, Bool, true, false, not, cond, eqb, List, [], ◌∷◌, ◌++◌, length, drop, Some, None, refl, ap, ◌∙◌, sym, subst, inl, inr, arith}
use Rattle.std.specs.Prelude.{◌&&◌, ◌||◌, is_some, filter, nat_lt, nat_le}
use Rattle.std.specs.List.{AllByRecursion, list_any}
use Rattle.std.proofs.lemmas.Bool.{false≢true, eqb-true}
use Rattle.std.proofs.lemmas.Bool.Decides.{nat_tests}
use Rattle.std.proofs.lemmas.List.{length-append}
use Rattle.win_num.specs.declared.message.Thread.{Thread}
use Rattle.win_num.specs.declared.send.SendId.{SendId}
use Rattle.win_num.specs.declared.send.Frame.{Frame}
use Rattle.win_num.specs.declared.send.Frame.TheVariants.{Entered, Inside as InsideFrame, Called as CalledFrame, CallbackRun, Await as AwaitFrame}
use Rattle.win_num.specs.declared.code.Code.{Code}
use Rattle.user_model.specs.declared.call.Call.{Call}
use Rattle.user_model.specs.declared.call.Call.TheVariants.{Leave}
use Rattle.user_model.specs.declared.entry.Entry.{Entry}
use Rattle.user_model.specs.declared.entry.Answer.{Answer}
use Rattle.user_model.specs.declared.entry.Answer.TheVariants as answers
use Rattle.user_model.specs.declared.entry.Setup.{Setup}
use Rattle.user_model.specs.Past.{Past, is_refused, ever, first}
use Rattle.user_model.specs.Places.{has_ended, ends_thread}
use Rattle.user_model.specs.Stacks.{stack, has_room, leaves, waits}
use Rattle.user_model.specs.Sends.{SentMsg, send, sends, enters, is_answered, answers, calls_back, names_send, is_stacked, is_callback_kind, was_called_back, is_owed, is_unfinished, unfinished}
use Rattle.user_model.specs.SendStories.{IsLimited}
use Rattle.user_model.specs.Legal.{IsLawful}
use Rattle.user_model.proofs.PastLaws.{ever-next}
use Rattle.user_model.proofs.SendReplies.{Tells}
use Rattle.user_model.specs.Deeds.{is_serving}
use Rattle.user_model.proofs.SendLaws.{is_sent, makes_none, sends-next, sends-same, is_answered-next, stack-other}
use Rattle.user_model.proofs.SendStanding.{Standing}
use Rattle.user_model.proofs.SendSteps.{Fits, never, or_left, or_neither, not_left, not_right, some_true, none_some, list_any_append, pushed, pops, remaining, enters_fresh}
use Rattle.user_model.proofs.SendMaking.{IsNew, new_send, new_unmade}
use Rattle.user_model.proofs.SendNext.{own_stack}
use Rattle.user_model.proofs.SendLawful.{sends_found, lawful_fits, lawful_standing, refusal_is}

less : (m k : ℕ) → nat_lt m k ≡ true → m < k
less m k h = grind (arith, nat_tests, h)

above : (m k : ℕ) → nat_le m k ≡ false → k < m
above m k h = grind (arith, nat_tests, h)

drop_le : {A : Type 0} (xs : List A) → length (drop 1 xs) ≤ length xs
drop_le [] = omega arith
drop_le (x ∷ xs) = omega arith

room_is : (past : Past) (t : ℕ) → has_room past t ≡ true → length (stack past t) < 64
room_is past t h = less (length (stack past t)) 64 h

top_room : {A : Type 0} (xs : List A) (x : A) → first xs ≡ Some x → suc (length (drop 1 xs)) ≡ length xs
top_room [] x h = absurd cc
top_room (y ∷ xs) x h = refl

no_leave : (c : Call) → is_serving c ≡ true → leaves c ≡ false
no_leave (Leave v) h = absurd (false≢true h)
no_leave _ h = refl

rest_le : (b : Bool) (fs : List Frame) → length (cond b (drop 1 fs) fs) ≤ length fs
rest_le true fs = drop_le fs
rest_le false fs = omega arith

-- what the answer leaves of the frames is no longer than they were
remaining_le : (call : Call) (a : Answer) (fs : List Frame) → length (remaining call a fs) ≤ length fs
remaining_le call a fs = rest_le (pops call a) fs

module _ (setup : Setup) (past : Past) (e : Entry) (n : Standing setup past) (f : Fits setup past e) where
  -- ---- frames

  own_short : length (stack past e.who.0) ≤ 64 → length (pushed e.call e.answer ++ remaining e.call e.answer (stack past e.who.0)) ≤ 64
  own_short h = by e.answer refl f.tells
    where
      one : (g : Frame) (a : Answer) → has_room past e.who.0 ≡ true → length (g ∷ remaining e.call a (stack past e.who.0)) ≤ 64
      one g a r = let room = room_is past e.who.0 r in let rest = remaining_le e.call a (stack past e.who.0) in omega arith

      none : (a : Answer) → length (remaining e.call a (stack past e.who.0)) ≤ 64
      none a = let rest = remaining_le e.call a (stack past e.who.0) in omega (arith, h)

      begun : (s : SendId) (b : Bool) → (b ≡ true → has_room past e.who.0 ≡ true) → length (cond b (AwaitFrame s ∷ []) [] ++ stack past e.who.0) ≤ 64
      begun s true r = let room = room_is past e.who.0 (r refl) in omega arith
      begun s false r = h

      by_answer : (a : Answer) → Tells past e.who.0 e.call a → length (pushed e.call a ++ remaining e.call a (stack past e.who.0)) ≤ 64
      by_answer (answers.Enter s proc_no w message wparam lparam) k = one (Entered s) (answers.Enter s proc_no w message wparam lparam) k.room
      by_answer (answers.Inside s proc_no) k = one (InsideFrame s) (answers.Inside s proc_no) (k.made.room refl)
      by_answer (answers.Called proc_no) k = one CalledFrame (answers.Called proc_no) k.room
      by_answer (answers.Callback s proc_no w message extra result) (inl k) = one CallbackRun (answers.Callback s proc_no w message extra result) k.room
      by_answer (answers.Callback s proc_no w message extra result) (inr k) =
          let at = top_room (stack past e.who.0) (InsideFrame k.frame) k.is_top in
          let leaving : leaves e.call ≡ true = ap leaves k.is_call in
          subst (λ b. suc (length (cond b (drop 1 (stack past e.who.0)) (stack past e.who.0))) ≤ 64) (sym leaving) (omega (arith, at, h))
      by_answer (answers.Begun s) k = begun s (waits e.call) (λ r. k.room r)
      by_answer (answers.Left s) k = none (answers.Left s)
      by_answer (answers.Done result cause) k = none (answers.Done result cause)
      by_answer _ k = h

      by : (a : Answer) → e.answer ≡ a → Tells past e.who.0 e.call a → length (pushed e.call e.answer ++ remaining e.call e.answer (stack past e.who.0)) ≤ 64
      by a is k = subst (λ a. length (pushed e.call a ++ remaining e.call a (stack past e.who.0)) ≤ 64) (sym is) (by_answer a k)

  short_next : (t : ℕ) → length (stack past t) ≤ 64 → length (stack (e ∷ past) t) ≤ 64
  short_next t h = by (eqb e.who.0 t) refl
    where
      own : e.who.0 ≡ t → length (pushed e.call e.answer ++ remaining e.call e.answer (stack past t)) ≤ 64
      own is = subst (λ m. length (pushed e.call e.answer ++ remaining e.call e.answer (stack past m)) ≤ 64) is (own_short (subst (λ m. length (stack past m) ≤ 64) (sym is) h))

      by : (b : Bool) → eqb e.who.0 t ≡ b → length (stack (e ∷ past) t) ≤ 64
      by true is = subst (λ xs. length xs ≤ 64) (sym (own_stack setup past e n f t is)) (own (eqb-true e.who.0 t is))
      by false is = subst (λ xs. length xs ≤ 64) (sym (stack-other e past t is)) h

  -- ---- finished sends

  -- a new frame names no send that was answered
  pushed_unnamed : (x : SentMsg) → send past x.number ≡ Some x → is_answered past x.number ≡ true → list_any (λ g. names_send g x.number) (pushed e.call e.answer) ≡ false
  pushed_unnamed x found answered = by e.answer refl f.tells
    where
      made : is_sent e.answer ≡ true → (s : SendId) → ((y : SentMsg) → IsNew past e y → s.0 ≡ y.number) → eqb s.0 x.number ≡ false
      made told s at = let k = new_send setup past e n f told in never (eqb s.0 x.number) (λ same. none_some (send past x.number) (subst (λ m. send past m ≡ None) (sym (at k.0 k.1) ∙ eqb-true s.0 x.number same) (new_unmade setup past e n f k.0 k.1)) (some_true (send past x.number) x found))

      begun : (s : SendId) (b : Bool) → eqb s.0 x.number ≡ false → list_any (λ g. names_send g x.number) (cond b (AwaitFrame s ∷ []) []) ≡ false
      begun s true h = or_neither (eqb s.0 x.number) false h refl
      begun s false h = refl

      by_answer : (a : Answer) → e.answer ≡ a → Tells past e.who.0 e.call a → list_any (λ g. names_send g x.number) (pushed e.call a) ≡ false
      by_answer (answers.Enter s proc_no w message wparam lparam) is k = or_neither (eqb s.0 x.number) false (never (eqb s.0 x.number) (λ same. false≢true (sym (enters_fresh setup past e n f x.number (ap (λ a. enters a x.number) is ∙ same)).1 ∙ answered))) refl
      by_answer (answers.Inside s proc_no) is k = or_neither (eqb s.0 x.number) false (made (ap is_sent is) s (λ y new. k.made.is_next ∙ sym new.is_next)) refl
      by_answer (answers.Begun s) is k = begun s (waits e.call) (made (ap is_sent is) s (λ y new. k.is_next ∙ sym new.is_next))
      by_answer (answers.Called proc_no) is k = refl
      by_answer (answers.Callback s proc_no w message extra result) is k = refl
      by_answer _ is k = refl

      by : (a : Answer) → e.answer ≡ a → Tells past e.who.0 e.call a → list_any (λ g. names_send g x.number) (pushed e.call e.answer) ≡ false
      by a is k = subst (λ a. list_any (λ g. names_send g x.number) (pushed e.call a) ≡ false) (sym is) (by_answer a is k)

  remaining_unnamed : (p : Frame → Bool) (b : Bool) (fs : List Frame) → list_any p fs ≡ false → list_any p (cond b (drop 1 fs) fs) ≡ false
  remaining_unnamed p true [] h = refl
  remaining_unnamed p true (g ∷ fs) h = not_right (p g) (list_any p fs) h
  remaining_unnamed p false fs h = h

  unnamed_next : (x : SentMsg) (t : ℕ) → send past x.number ≡ Some x → is_answered past x.number ≡ true → list_any (λ g. names_send g x.number) (stack past t) ≡ false → list_any (λ g. names_send g x.number) (stack (e ∷ past) t) ≡ false
  unnamed_next x t found answered h = by (eqb e.who.0 t) refl
    where
      by : (b : Bool) → eqb e.who.0 t ≡ b → list_any (λ g. names_send g x.number) (stack (e ∷ past) t) ≡ false
      by true is =
          ap (list_any (λ g. names_send g x.number)) (own_stack setup past e n f t is)
          ∙ list_any_append (λ g. names_send g x.number) (pushed e.call e.answer) (remaining e.call e.answer (stack past t))
          ∙ or_neither (list_any (λ g. names_send g x.number) (pushed e.call e.answer)) (list_any (λ g. names_send g x.number) (remaining e.call e.answer (stack past t))) (pushed_unnamed x found answered) (remaining_unnamed (λ g. names_send g x.number) (pops e.call e.answer) (stack past t) h)
      by false is = ap (list_any (λ g. names_send g x.number)) (stack-other e past t is) ∙ h

  unowed : (a b : Bool) (ended called ended_later called_later : Bool) → (ended ≡ true → ended_later ≡ true) → (called ≡ true → called_later ≡ true) → (a && (b && (not ended && not called))) ≡ false → (a && (b && (not ended_later && not called_later))) ≡ false
  unowed false b ended called el cl f g h = refl
  unowed true false ended called el cl f g h = refl
  unowed true true true called el cl f g h = ap (λ b. not b && not cl) (f refl)
  unowed true true false true el cl f g h = ap (λ b. not el && not b) (g refl) ∙ none el
    where
      none : (b : Bool) → (not b && false) ≡ false
      none true = refl
      none false = refl
  unowed true true false false el cl f g h = absurd (false≢true (sym h))

  ever_stays : (does : Entry → Past → Bool) → ever does past ≡ true → ever does (e ∷ past) ≡ true
  ever_stays does h = ever-next does e past f.unrefused ∙ or_left (ever does past) (does e past) h

  -- a send that is finished stays so
  finished_stays : (x : SentMsg) → send past x.number ≡ Some x → is_unfinished past x ≡ false → is_unfinished (e ∷ past) x ≡ false
  finished_stays x found h =
      or_neither (not (is_answered (e ∷ past) x.number)) (is_stacked (e ∷ past) x || is_owed (e ∷ past) x)
      (ap not (is_answered-next e past x.number f.unrefused ∙ or_left (is_answered past x.number) (is_some (answers e past x.number)) answered))
      (or_neither (is_stacked (e ∷ past) x) (is_owed (e ∷ past) x)
      (or_neither (list_any (λ g. names_send g x.number) (stack (e ∷ past) x.from)) (list_any (λ g. names_send g x.number) (stack (e ∷ past) x.to)) (unnamed_next x x.from found answered (not_left _ _ unstacked)) (unnamed_next x x.to found answered (not_right _ _ unstacked)))
      (unowed (is_callback_kind x.kind) (not x.is_inside) (has_ended past x.from) (was_called_back past x) (has_ended (e ∷ past) x.from) (was_called_back (e ∷ past) x) (ever_stays (λ y before. ends_thread y x.from)) (ever_stays (λ y before. calls_back y.answer x.number && eqb y.who.0 x.from)) (not_right (is_stacked past x) (is_owed past x) rest)))
    where
      not_false : (b : Bool) → not b ≡ false → b ≡ true
      not_false true h = refl
      not_false false h = absurd (false≢true (sym h))

      answered : is_answered past x.number ≡ true
      answered = not_false (is_answered past x.number) (not_left (not (is_answered past x.number)) (is_stacked past x || is_owed past x) h)

      rest : (is_stacked past x || is_owed past x) ≡ false
      rest = not_right (not (is_answered past x.number)) (is_stacked past x || is_owed past x) h

      unstacked : is_stacked past x ≡ false
      unstacked = not_left (is_stacked past x) (is_owed past x) rest

  fewer_here : (x : SentMsg) (b c : Bool) (xs ys : List SentMsg) → (b ≡ false → c ≡ false) → length ys ≤ length xs → length (cond c (x ∷ ys) ys) ≤ length (cond b (x ∷ xs) xs)
  fewer_here x true true xs ys h k = omega arith
  fewer_here x true false xs ys h k = omega arith
  fewer_here x false true xs ys h k = absurd (false≢true (sym (h refl)))
  fewer_here x false false xs ys h k = k

  fewer : (xs : List SentMsg) → AllByRecursion (λ x. send past x.number ≡ Some x) xs → length (filter (is_unfinished (e ∷ past)) xs) ≤ length (filter (is_unfinished past) xs)
  fewer [] h = omega arith
  fewer (x ∷ xs) h = fewer_here x (is_unfinished past x) (is_unfinished (e ∷ past) x) (filter (is_unfinished past) xs) (filter (is_unfinished (e ∷ past)) xs) (finished_stays x h.0) (fewer xs h.1)

filter_more : {A : Type 0} (p : A → Bool) (xs ys : List A) → filter p (xs ++ ys) ≡ filter p xs ++ filter p ys
filter_more {A = A} p [] ys = refl
filter_more {A = A} p (x ∷ xs) ys = here (p x) (filter p (xs ++ ys)) (filter p xs) (filter_more p xs ys)
  where
    here : (b : Bool) (zs ws : List A) → zs ≡ ws ++ filter p ys → cond b (x ∷ zs) zs ≡ cond b (x ∷ ws) ws ++ filter p ys
    here true zs ws h = ap (λ l. x ∷ l) h
    here false zs ws h = h

filter_one : {A : Type 0} (p : A → Bool) (x : A) → length (filter p (x ∷ [])) ≤ 1
filter_one p x = by (p x)
  where
    by : (b : Bool) → length (cond b (x ∷ []) []) ≤ 1
    by true = omega arith
    by false = omega arith

few_told : (past : Past) (who : ℕ) (call : Call) (a : Answer) → is_sent a ≡ true → Tells past who call a → length (unfinished past) < 1024
few_told past who call (answers.Inside s proc_no) h k = above 1024 (length (unfinished past)) k.made.few
few_told past who call (answers.Begun s) h k = above 1024 (length (unfinished past)) k.few
few_told past who call _ h k = absurd (false≢true h)

few_next : (setup : Setup) (past : Past) (e : Entry) → Standing setup past → Fits setup past e → length (unfinished past) ≤ 1024 → length (unfinished (e ∷ past)) ≤ 1024
few_next setup past e n f h = by (is_sent e.answer) refl (fewer setup past e n f (sends past) (sends_found setup past n))
  where
    by : (b : Bool) → is_sent e.answer ≡ b → length (filter (is_unfinished (e ∷ past)) (sends past)) ≤ length (unfinished past) → length (unfinished (e ∷ past)) ≤ 1024
    by true is le =
        let k = new_send setup past e n f is in
        let room = few_told past e.who.0 e.call e.answer is f.tells in
        let split : unfinished (e ∷ past) ≡ filter (is_unfinished (e ∷ past)) (sends past) ++ filter (is_unfinished (e ∷ past)) (k.0 ∷ []) = ap (filter (is_unfinished (e ∷ past))) (sends-next e past f.unrefused ∙ ap (λ l. sends past ++ l) k.1.makes) ∙ filter_more (is_unfinished (e ∷ past)) (sends past) (k.0 ∷ []) in
        let sum : length (unfinished (e ∷ past)) ≡ length (filter (is_unfinished (e ∷ past)) (sends past)) + length (filter (is_unfinished (e ∷ past)) (k.0 ∷ [])) = ap length split ∙ length-append (filter (is_unfinished (e ∷ past)) (sends past)) (filter (is_unfinished (e ∷ past)) (k.0 ∷ [])) in
        let one = filter_one (is_unfinished (e ∷ past)) k.0 in
        omega arith
    by false is le = subst (λ l. length (filter (is_unfinished (e ∷ past)) l) ≤ 1024) (sym (sends-same e past (makes_none e past is))) (omega arith)

limited_refused : (who : Thread) (call : Call) (code : Code) (past : Past) → IsLimited past → IsLimited (record { who = who; call = call; answer = answers.Refused code } ∷ past)
limited_refused who call code past h = record { short = h.short; few = h.few }

pub limited : (setup : Setup) (past : Past) → IsLawful setup past → IsLimited past
limited setup [] h = record { short = λ t. omega arith; few = omega arith }
limited setup (e ∷ past) h = by (limited setup past h.0) (is_refused e) refl
  where
    by : IsLimited past → (b : Bool) → is_refused e ≡ b → IsLimited (e ∷ past)
    by k true is = let r = refusal_is e.answer is in subst (λ a. IsLimited (record { who = e.who; call = e.call; answer = a } ∷ past)) (sym r.1) (limited_refused e.who e.call r.0 past k)
    by k false is =
        let n = lawful_standing setup past h.0 in
        let f = lawful_fits setup past e h.1 is in
        record { short = λ t. short_next setup past e n f t (k.short t); few = few_next setup past e n f k.few }
