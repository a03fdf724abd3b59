-- What an entry that wasn't refused does to sends and frames, where what stands of them is known.
use Rattle.std.proofs.Common.{◌≡◌, ℕ, zero, suc, ◌+◌, ◌<◌, Bool, true, false, not, cond, eqb, List, [], ◌∷◌, ◌++◌, length, drop, Option, Some, None, refl, ap, ◌∙◌, sym, subst, inl, inr, arith}
use Rattle.std.specs.Prelude.{◌&&◌, ◌||◌, ◌⊎◌, is_some, find}
use Rattle.std.specs.List.{AllByRecursion, list_any}
use Rattle.std.proofs.lemmas.Bool.{false≢true, eqb-true}
use Rattle.win_num.specs.declared.send.SendId.{SendId}
use Rattle.win_num.specs.declared.send.Cause.{Cause}
use Rattle.win_num.specs.declared.send.Cause.TheVariants.{Proc, Reply as ByReply, Loss, Timeout as ByTimeout}
use Rattle.win_num.specs.declared.send.Frame.{Frame}
use Rattle.win_num.specs.declared.send.Frame.TheVariants.{Entered, Inside as InsideFrame, Called as CalledFrame, CallbackRun, Await as AwaitFrame}
use Rattle.user_model.specs.declared.call.Call.{Call}
use Rattle.user_model.specs.declared.call.Call.TheVariants.{Await, Leave, Reply}
use Rattle.user_model.specs.declared.entry.Entry.{Entry}
use Rattle.user_model.specs.declared.entry.Answer.{Answer}
use Rattle.user_model.specs.declared.entry.Answer.TheVariants as answers
use Rattle.user_model.specs.declared.entry.Setup.{Setup}
use Rattle.user_model.specs.Past.{Past, is_refused, first}
use Rattle.user_model.specs.Windows.{drops_window}
use Rattle.user_model.specs.Stacks.{stack, stacked, top, leaves, waits}
use Rattle.user_model.specs.Sends.{SentMsg, outcome, send, sends, enters, is_entered, is_answered, answers, answers_in, loses, left_by, is_one, is_timed_out, is_entered_frame, is_callback_kind, calls_back}
use Rattle.user_model.specs.Ready.{ReadyMsg, to_enter, to_call_back, ready, ready_head}
use Rattle.user_model.specs.Replies.{is_barred_by}
use Rattle.user_model.specs.SendStories.{NamesOnce, ends_await, hands_on, was_handed_on, same_frame}
use Rattle.user_model.proofs.PastLaws.{ever-next}
use Rattle.user_model.proofs.ListLaws.{all_weaker}
use Rattle.user_model.proofs.ReplyLaws.{ByRow, is_of_clock}
use Rattle.user_model.proofs.SendReplies.{Tells, is_of_sends}
use Rattle.user_model.specs.Deeds.{is_serving}
use Rattle.user_model.proofs.AnswerFacts.{LeftFrom}
use Rattle.user_model.proofs.SendLaws.{send-stays, is_entered-next, is_answered-next}
use Rattle.user_model.proofs.SendStanding.{CountsFrom, IsOwn, IsAwaited, FrameStands, ReadyStands, runs_for, Standing}

-- what is known of an entry that wasn't refused
pub record Fits (setup : Setup) (past : Past) (e : Entry) : Type 0 where
  pub unrefused : is_refused e ≡ false
  pub tells : Tells past e.who.0 e.call e.answer
  pub by_answer : is_of_sends e.answer ≡ true → ByRow setup past e.who.0 e.call e.answer
  pub by_call : is_of_clock e.call ≡ false → ByRow setup past e.who.0 e.call e.answer

-- ---- tests and options

pub never : (b : Bool) → (b ≡ true → ⊥) → b ≡ false
never true h = absurd (h refl)
never false h = refl

pub other_number : (m n : ℕ) → (m ≡ n → ⊥) → eqb m n ≡ false
other_number m n h = never (eqb m n) (λ e. h (eqb-true m n e))

pub same_number : (m n : ℕ) → m ≡ n → eqb m n ≡ true
same_number m n h = grind (arith, h)

pub or_left : (a b : Bool) → a ≡ true → (a || b) ≡ true
or_left true b h = refl
or_left false b h = absurd (false≢true h)

pub or_right : (a b : Bool) → b ≡ true → (a || b) ≡ true
or_right true b h = refl
or_right false b h = h

pub or_neither : (a b : Bool) → a ≡ false → b ≡ false → (a || b) ≡ false
or_neither true b h k = absurd (false≢true (sym h))
or_neither false b h k = k

pub not_left : (a b : Bool) → (a || b) ≡ false → a ≡ false
not_left true b h = h
not_left false b h = refl

pub not_right : (a b : Bool) → (a || b) ≡ false → b ≡ false
not_right true b h = absurd (false≢true (sym h))
not_right false b h = h

pub either_true : (a b : Bool) (G : Type 0) → (a || b) ≡ true → (a ≡ true → G) → (b ≡ true → G) → G
either_true true b G h f g = f refl
either_true false b G h f g = g h

pub and_both : (a b : Bool) → (a && b) ≡ true → (a ≡ true) × (b ≡ true)
and_both true b e = (refl, e)
and_both false b e = absurd (false≢true e)

pub not_true : (b : Bool) → not b ≡ true → b ≡ false
not_true true h = absurd (false≢true h)
not_true false h = refl

pub some_true : {A : Type 0} (o : Option A) (a : A) → o ≡ Some a → is_some o ≡ true
some_true (Some b) a h = refl
some_true None a h = absurd cc

pub none_some : {A : Type 0} (o : Option A) → o ≡ None → is_some o ≡ true → ⊥
none_some o h k = false≢true (ap is_some (sym h) ∙ k)

pub same_some : {A : Type 0} (o : Option A) (a b : A) → o ≡ Some a → o ≡ Some b → a ≡ b
same_some o a b h k = cc

pub some_if : {A : Type 0} (b : Bool) (x : A) → is_some (cond b (Some x) None) ≡ b
some_if true x = refl
some_if false x = refl

-- ---- lists

pub first_has : {A : Type 0} (P : A → Type 0) (xs : List A) (x : A) → AllByRecursion P xs → first xs ≡ Some x → P x
first_has P [] x h e = absurd cc
first_has P (y ∷ xs) x h e = let same : y ≡ x = cc in subst P same h.0

pub list_any_append : {A : Type 0} (p : A → Bool) (xs ys : List A) → list_any p (xs ++ ys) ≡ (list_any p xs || list_any p ys)
list_any_append p [] ys = refl
list_any_append p (x ∷ xs) ys = ap (λ b. p x || b) (list_any_append p xs ys) ∙ or_assoc (p x) (list_any p xs) (list_any p ys)
  where
    or_assoc : (a b c : Bool) → (a || (b || c)) ≡ ((a || b) || c)
    or_assoc true b c = refl
    or_assoc false b c = refl

pub none_any : {A : Type 0} (p : A → Bool) (xs : List A) → AllByRecursion (λ x. p x ≡ false) xs → list_any p xs ≡ false
none_any p [] h = refl
none_any p (x ∷ xs) h = or_neither (p x) (list_any p xs) h.0 (none_any p xs h.1)

-- what holds of each holds of each that a test misses, where the test misses all
pub all_missed : {A : Type 0} (P Q : A → Type 0) (p : A → Bool) (xs : List A) → ((x : A) → p x ≡ false → P x → Q x) → list_any p xs ≡ false → AllByRecursion P xs → AllByRecursion Q xs
all_missed P Q p [] f miss h = tt
all_missed P Q p (x ∷ xs) f miss h = (f x (not_left (p x) (list_any p xs) miss) h.0, all_missed P Q p xs f (not_right (p x) (list_any p xs) miss) h.1)

-- ---- the numbers of sends

find_skip : (b : Bool) (x : SentMsg) (o : Option SentMsg) → b ≡ false → o ≡ None → cond b (Some x) o ≡ None
find_skip true x o h k = absurd (false≢true (sym h))
find_skip false x o h k = k

-- no send has a number above the count
pub find_above : (n : ℕ) (xs : List SentMsg) (s : ℕ) → CountsFrom n xs → n + length xs < s → find (λ x. eqb x.number s) xs ≡ None
find_above n [] s c h = refl
find_above n (x ∷ xs) s c h =
    let is : x.number ≡ suc n = c.0 in
    find_skip (eqb x.number s) x (find (λ x. eqb x.number s) xs) (other_number x.number s (λ e. omega arith)) (find_above (suc n) xs s c.1 (omega arith))

-- no send has number 0
pub find_zero : (n : ℕ) (xs : List SentMsg) → CountsFrom n xs → find (λ x. eqb x.number 0) xs ≡ None
find_zero n [] c = refl
find_zero n (x ∷ xs) c =
    let is : x.number ≡ suc n = c.0 in
    find_skip (eqb x.number 0) x (find (λ x. eqb x.number 0) xs) (other_number x.number 0 (λ e. omega arith)) (find_zero (suc n) xs c.1)

pub counts_more : (n : ℕ) (xs : List SentMsg) (x : SentMsg) → CountsFrom n xs → x.number ≡ suc (n + length xs) → CountsFrom n (xs ++ x ∷ [])
counts_more n [] x c h = (omega arith, tt)
counts_more n (y ∷ xs) x c h = (c.0, counts_more (suc n) xs x c.1 (omega arith))

-- ---- frames that an entry pushes and pops

-- what the answer pushes
abbrev pub pushed : Call → Answer → List Frame
pushed call (answers.Enter s proc_no w number wparam lparam) = Entered s ∷ []
pushed call (answers.Inside s proc_no) = InsideFrame s ∷ []
pushed call (answers.Called proc_no) = CalledFrame ∷ []
pushed call (answers.Callback s proc_no w number extra result) = CallbackRun ∷ []
pushed call (answers.Begun s) = cond (waits call) (AwaitFrame s ∷ []) []
pushed call _ = []

-- whether the answer pops the frame on top
abbrev pub pops : Call → Answer → Bool
pops call (answers.Callback s proc_no w number extra result) = leaves call
pops call (answers.Left s) = true
pops call (answers.Done result cause) = true
pops call _ = false

-- what the answer leaves of the frames
abbrev pub remaining : Call → Answer → List Frame → List Frame
remaining call a frames = cond (pops call a) (drop 1 frames) frames

pub stacked_is : (call : Call) (a : Answer) (frames : List Frame) → stacked call a frames ≡ pushed call a ++ remaining call a frames
stacked_is call (answers.Begun s) frames = by (waits call)
  where
    by : (b : Bool) → cond b (AwaitFrame s ∷ frames) frames ≡ cond b (AwaitFrame s ∷ []) [] ++ frames
    by true = refl
    by false = refl
stacked_is call _ frames = refl

-- whether the frame names the send, and its procedure doesn't run in it for the thread's own window
abbrev pub names_outside : ℕ → Frame → Bool
names_outside s (Entered t) = eqb t.0 s
names_outside s (AwaitFrame t) = eqb t.0 s
names_outside s _ = false

timed_out_told : (a : Answer) → is_timed_out a ≡ true → is_of_sends a ≡ true
timed_out_told (answers.Done result cause) h = refl
timed_out_told _ h = absurd (false≢true h)

-- an await that is done, and with what
pub done_parts : (call : Call) (a : Answer) (s : ℕ) → ends_await call a s ≡ true → (result : ℕ) × (cause : Cause) × (a ≡ answers.Done result cause) × (t : ℕ) × (call ≡ Await t) × (t ≡ s)
done_parts (Await t) (answers.Done result cause) s h = (result, cause, refl, t, refl, eqb-true t s h)
done_parts _ _ s h = absurd (false≢true h)

-- whether an entry that answers a send may pop the frame
abbrev NotPopped : Past → Entry → ℕ → Frame → Type 0
NotPopped past e t g = eqb e.who.0 t ≡ true → pops e.call e.answer ≡ true → (top_frame : Frame) → top past e.who.0 ≡ Some top_frame → same_frame top_frame g ≡ true → ⊥

-- the entry pops the frame
abbrev Popped : Past → Entry → ℕ → Frame → Type 0
Popped past e t g = (eqb e.who.0 t ≡ true) × (pops e.call e.answer ≡ true) × (top_frame : Frame) × (top past e.who.0 ≡ Some top_frame) × (same_frame top_frame g ≡ true)

module _ (setup : Setup) (past : Past) (e : Entry) (n : Standing setup past) (f : Fits setup past e) where
  -- ---- numbers

  pub fresh : send past (suc (length (sends past))) ≡ None
  fresh = find_above 0 (sends past) (suc (length (sends past))) n.counted (omega arith)

  pub no_zero : send past 0 ≡ None
  no_zero = find_zero 0 (sends past) n.counted

  pub unmade_entered : (s : ℕ) → send past s ≡ None → is_entered past s ≡ false
  unmade_entered s h = never (is_entered past s) (λ g. none_some (send past s) h (n.entered s g))

  pub unmade_answered : (s : ℕ) → send past (suc s) ≡ None → is_answered past (suc s) ≡ false
  unmade_answered s h = never (is_answered past (suc s)) (λ g. none_some (send past (suc s)) h (n.answered s g))

  pub unmade_handed : (s : ℕ) → send past s ≡ None → was_handed_on past s ≡ false
  unmade_handed s h = never (was_handed_on past s) (λ g. none_some (send past s) h (n.handed s g).0)

  pub top_stands : (t : ℕ) (g : Frame) → top past t ≡ Some g → FrameStands past t g
  top_stands t g h = first_has (FrameStands past t) (stack past t) g (n.frames t) h

  pub head_stands : (t : ℕ) (r : ReadyMsg) → ready_head past t ≡ Some r → ReadyStands past t r
  head_stands t r h = first_has (ReadyStands past t) (ready past t) r (n.waiting t) h

  -- ---- entering

  -- a send that the entry enters was neither entered nor answered
  pub enters_fresh : (s : ℕ) → enters e.answer s ≡ true → (is_entered past s ≡ false) × (is_answered past s ≡ false)
  enters_fresh s h = by e.answer f.tells h
    where
      by : (a : Answer) → Tells past e.who.0 e.call a → enters a s ≡ true → (is_entered past s ≡ false) × (is_answered past s ≡ false)
      by (answers.Inside t proc_no) k h =
          let same : suc (length (sends past)) ≡ s = sym k.made.is_next ∙ eqb-true t.0 s h in
          (subst (λ m. is_entered past m ≡ false) same (unmade_entered _ fresh), subst (λ m. is_answered past m ≡ false) same (unmade_answered _ fresh))
      by (answers.Enter t proc_no w number wparam lparam) k h =
          let r = head_stands e.who.0 (to_enter k.of) k.is_first in
          let same : k.of.number ≡ s = sym k.is_send ∙ eqb-true t.0 s h in
          (subst (λ m. is_entered past m ≡ false) same r.unentered, subst (λ m. is_answered past m ≡ false) same r.unanswered)
      by _ k h = absurd (false≢true h)

  -- ---- what was known stays

  pub entered_stays : (s : ℕ) → is_entered past s ≡ true → is_entered (e ∷ past) s ≡ true
  entered_stays s h = is_entered-next e past s f.unrefused ∙ or_left (is_entered past s) (enters e.answer s) h

  pub entered_now : (s : ℕ) → enters e.answer s ≡ true → is_entered (e ∷ past) s ≡ true
  entered_now s h = is_entered-next e past s f.unrefused ∙ or_right (is_entered past s) (enters e.answer s) h

  pub unentered_stays : (s : ℕ) → is_entered past s ≡ false → enters e.answer s ≡ false → is_entered (e ∷ past) s ≡ false
  unentered_stays s h k = is_entered-next e past s f.unrefused ∙ or_neither (is_entered past s) (enters e.answer s) h k

  pub unanswered_stays : (s : ℕ) → is_answered past s ≡ false → is_some (answers e past s) ≡ false → is_answered (e ∷ past) s ≡ false
  unanswered_stays s h k = is_answered-next e past s f.unrefused ∙ or_neither (is_answered past s) (is_some (answers e past s)) h k

  pub was_handed_on-next : (s : ℕ) → was_handed_on (e ∷ past) s ≡ (was_handed_on past s || hands_on e s)
  was_handed_on-next s = ever-next (λ (e : Entry) (before : Past). hands_on e s) e past f.unrefused

  pub unhanded_stays : (s : ℕ) → was_handed_on past s ≡ false → hands_on e s ≡ false → was_handed_on (e ∷ past) s ≡ false
  unhanded_stays s h k = was_handed_on-next s ∙ or_neither (was_handed_on past s) (hands_on e s) h k

  -- ---- answers

  -- an await that is done stands on top
  pub await_top : (s : ℕ) → e.call ≡ Await s → is_of_sends e.answer ≡ true → (u : SendId) × (top past e.who.0 ≡ Some (AwaitFrame u)) × (u.0 ≡ s)
  await_top s call told = by (top past e.who.0) refl (subst (λ c. is_barred_by c (top past e.who.0) ≡ false) call (f.by_answer told).allowed)
    where
      not_false : (b : Bool) → not b ≡ false → b ≡ true
      not_false true h = refl
      not_false false h = absurd (false≢true (sym h))

      by : (o : Option Frame) → top past e.who.0 ≡ o → is_barred_by (Await s) o ≡ false → (u : SendId) × (top past e.who.0 ≡ Some (AwaitFrame u)) × (u.0 ≡ s)
      by (Some (AwaitFrame u)) is h = (u, is, eqb-true u.0 s (not_false (eqb u.0 s) h))
      by (Some (Entered u)) is h = absurd (false≢true (sym h))
      by (Some (InsideFrame u)) is h = absurd (false≢true (sym h))
      by (Some CalledFrame) is h = absurd (false≢true (sym h))
      by (Some CallbackRun) is h = absurd (false≢true (sym h))
      by None is h = absurd (false≢true (sym h))

  pub inside_number : (u : SendId) (x : SentMsg) → send past u.0 ≡ Some x → x.number ≡ u.0
  inside_number u x h = (n.sent u.0 x h).is_number

  from_runs : (o : Option Frame) (m s : ℕ) → LeftFrom past o m → m ≡ suc s → (g : Frame) × (o ≡ Some g) × (runs_for (suc s) g ≡ true)
  from_runs (Some (Entered u)) m s h k = (Entered u, refl, same_number u.0 (suc s) (sym h ∙ k))
  from_runs (Some (InsideFrame u)) m s (inl h) k = (InsideFrame u, refl, same_number u.0 (suc s) (sym h ∙ k))
  from_runs (Some (InsideFrame u)) m s (inr h) k = (InsideFrame u, refl, same_number u.0 (suc s) (sym (inside_number u h.0 h.1) ∙ sym h.2 ∙ k))
  from_runs (Some CalledFrame) m s h k = absurd (omega (arith, h, k))
  from_runs (Some CallbackRun) m s h k = absurd (omega (arith, h, k))
  from_runs (Some (AwaitFrame u)) m s h k = absurd (omega (arith, h, k))
  from_runs None m s h k = absurd (omega (arith, h, k))

  -- a send that a leave answers has its frame on top, which is popped
  pub left_top : (v s : ℕ) → e.call ≡ Leave v → left_by e.answer (suc s) ≡ true → (g : Frame) × (top past e.who.0 ≡ Some g) × (runs_for (suc s) g ≡ true) × (pops e.call e.answer ≡ true)
  left_top v s call h = by e.answer f.tells h
    where
      is_leave : leaves e.call ≡ true
      is_leave = ap leaves call

      by : (a : Answer) → Tells past e.who.0 e.call a → left_by a (suc s) ≡ true → (g : Frame) × (top past e.who.0 ≡ Some g) × (runs_for (suc s) g ≡ true) × (pops e.call a ≡ true)
      by (answers.Left t) k h =
          let r = from_runs (top past e.who.0) t.0 s k.from (eqb-true t.0 (suc s) h) in
          (r.0, r.1, r.2, refl)
      by (answers.Callback t proc_no w number extra result) (inl k) h = absurd (false≢true (sym (ap is_serving call) ∙ k.serves))
      by (answers.Callback t proc_no w number extra result) (inr k) h = (InsideFrame k.frame, k.is_top, same_number k.frame.0 (suc s) (sym (inside_number k.frame k.of k.found) ∙ sym k.is_send ∙ eqb-true t.0 (suc s) h), is_leave)
      by _ k h = absurd (false≢true h)

  -- ---- answers and frames

  pub loses_made : (s : ℕ) → loses e past s ≡ true → (is_some (send past s) ≡ true) × (is_entered past s ≡ false)
  loses_made s h = by (send past s) refl h
    where
      by : (o : Option SentMsg) → send past s ≡ o → (elim o as (λ _. Bool) [ Some x ↦ drops_window e past x.hwnd && not (is_entered past s) | None ↦ false ]) ≡ true → (is_some (send past s) ≡ true) × (is_entered past s ≡ false)
      by (Some x) is h = (some_true (send past s) x is, not_true (is_entered past s) (and_both (drops_window e past x.hwnd) (not (is_entered past s)) h).1)
      by None is h = absurd (false≢true h)

  pub answers_split : (s : ℕ) → is_some (answers e past s) ≡ true → (loses e past s ≡ true) ⊎ (is_some (answers_in e.call e past s) ≡ true)
  answers_split s h = by (loses e past s) refl h
    where
      by : (b : Bool) → loses e past s ≡ b → is_some (cond b (Some (outcome past 0 Loss)) (answers_in e.call e past s)) ≡ true → (loses e past s ≡ true) ⊎ (is_some (answers_in e.call e past s) ≡ true)
      by true is h = inl is
      by false is h = inr h

  -- a send is answered by its frame, which a leave pops, or by that of its receiver or sender
  pub answered_in : (s : ℕ) → is_some (answers_in e.call e past (suc s)) ≡ true → ((g : Frame) × (top past e.who.0 ≡ Some g) × (runs_for (suc s) g ≡ true) × (pops e.call e.answer ≡ true)) ⊎ ((g : Frame) × (top past e.who.0 ≡ Some g) × (names_outside (suc s) g ≡ true))
  answered_in s h = by e.call refl h
    where
      entered_top : (o : Option Frame) → top past e.who.0 ≡ o → is_entered_frame o (suc s) ≡ true → (g : Frame) × (top past e.who.0 ≡ Some g) × (names_outside (suc s) g ≡ true)
      entered_top (Some (Entered u)) is h = (Entered u, is, h)
      entered_top (Some (InsideFrame u)) is h = absurd (false≢true h)
      entered_top (Some CalledFrame) is h = absurd (false≢true h)
      entered_top (Some CallbackRun) is h = absurd (false≢true h)
      entered_top (Some (AwaitFrame u)) is h = absurd (false≢true h)
      entered_top None is h = absurd (false≢true h)

      by : (c : Call) → e.call ≡ c → is_some (answers_in c e past (suc s)) ≡ true → ((g : Frame) × (top past e.who.0 ≡ Some g) × (runs_for (suc s) g ≡ true) × (pops e.call e.answer ≡ true)) ⊎ ((g : Frame) × (top past e.who.0 ≡ Some g) × (names_outside (suc s) g ≡ true))
      by (Leave v) is h = inl (left_top v s is (sym (some_if (left_by e.answer (suc s)) (outcome past v Proc)) ∙ h))
      by (Reply v) is h =
          let both = and_both (is_one e.answer) (is_entered_frame (top past e.who.0) (suc s)) (sym (some_if (is_one e.answer && is_entered_frame (top past e.who.0) (suc s)) (outcome past v ByReply)) ∙ h) in
          inr (entered_top (top past e.who.0) refl both.1)
      by (Await t) is h =
          let both = and_both (is_timed_out e.answer) (eqb t (suc s)) (sym (some_if (is_timed_out e.answer && eqb t (suc s)) (outcome past 0 ByTimeout)) ∙ h) in
          let r = await_top t is (timed_out_told e.answer both.0) in
          inr (AwaitFrame r.0, r.1, same_number r.0.0 (suc s) (r.2 ∙ eqb-true t (suc s) both.1))
      by _ is h = absurd (false≢true h)

  runs_made : (s : ℕ) (g : Frame) → FrameStands past e.who.0 g → runs_for s g ≡ true → is_some (send past s) ≡ true
  runs_made s (Entered u) k h = subst (λ m. is_some (send past m) ≡ true) (eqb-true u.0 s h) (some_true (send past u.0) k.of k.found)
  runs_made s (InsideFrame u) k h = subst (λ m. is_some (send past m) ≡ true) (eqb-true u.0 s h) (some_true (send past u.0) k.of k.found)
  runs_made s CalledFrame k h = absurd (false≢true h)
  runs_made s CallbackRun k h = absurd (false≢true h)
  runs_made s (AwaitFrame u) k h = absurd (false≢true h)

  outside_made : (s : ℕ) (g : Frame) → FrameStands past e.who.0 g → names_outside s g ≡ true → (x : SentMsg) × (send past s ≡ Some x) × (x.is_inside ≡ false)
  outside_made s (Entered u) k h = (k.of, subst (λ m. send past m ≡ Some k.of) (eqb-true u.0 s h) k.found, k.outside)
  outside_made s (AwaitFrame u) k h = (k.of, subst (λ m. send past m ≡ Some k.of) (eqb-true u.0 s h) k.found, k.outside)
  outside_made s (InsideFrame u) k h = absurd (false≢true h)
  outside_made s CalledFrame k h = absurd (false≢true h)
  outside_made s CallbackRun k h = absurd (false≢true h)

  -- an entry answers only a send that was made
  pub answers_made : (s : ℕ) → is_some (answers e past (suc s)) ≡ true → is_some (send past (suc s)) ≡ true
  answers_made s h = by (answers_split (suc s) h)
    where
      by_frame : ((g : Frame) × (top past e.who.0 ≡ Some g) × (runs_for (suc s) g ≡ true) × (pops e.call e.answer ≡ true)) ⊎ ((g : Frame) × (top past e.who.0 ≡ Some g) × (names_outside (suc s) g ≡ true)) → is_some (send past (suc s)) ≡ true
      by_frame (inl k) = runs_made (suc s) k.0 (top_stands e.who.0 k.0 k.1) k.2
      by_frame (inr k) = let r = outside_made (suc s) k.0 (top_stands e.who.0 k.0 k.1) k.2 in some_true (send past (suc s)) r.0 r.1

      by : (loses e past (suc s) ≡ true) ⊎ (is_some (answers_in e.call e past (suc s)) ≡ true) → is_some (send past (suc s)) ≡ true
      by (inl k) = (loses_made (suc s) k).0
      by (inr k) = by_frame (answered_in s k)

  -- what a frame tells of an own send: which frame it is
  own_top : (t : ℕ) (u : SendId) (g : Frame) → IsOwn past t u.0 → FrameStands past e.who.0 g → runs_for u.0 g ≡ true → (eqb e.who.0 t ≡ true) × (same_frame g (InsideFrame u) ≡ true)
  own_top t u (Entered w) own k h =
      let is : w.0 ≡ u.0 = eqb-true w.0 u.0 h in
      let same : k.of ≡ own.of = same_some (send past u.0) k.of own.of (subst (λ m. send past m ≡ Some k.of) is k.found) own.found in
      absurd (false≢true (sym k.outside ∙ ap (λ (x : SentMsg). x.is_inside) same ∙ own.inside))
  own_top t u (InsideFrame w) own k h =
      let is : w.0 ≡ u.0 = eqb-true w.0 u.0 h in
      let same : k.of ≡ own.of = same_some (send past u.0) k.of own.of (subst (λ m. send past m ≡ Some k.of) is k.found) own.found in
      (same_number e.who.0 t (sym k.to ∙ ap (λ (x : SentMsg). x.to) same ∙ own.to), h)
  own_top t u CalledFrame own k h = absurd (false≢true h)
  own_top t u CallbackRun own k h = absurd (false≢true h)
  own_top t u (AwaitFrame w) own k h = absurd (false≢true h)

  -- an entry that answers an own send pops its frame
  own_answered : (t : ℕ) (u : SendId) → IsOwn past t u.0 → is_some (answers e past u.0) ≡ true → Popped past e t (InsideFrame u)
  own_answered t u own h = by u.0 refl
    where
      outside : (s : ℕ) → u.0 ≡ s → (x : SentMsg) → send past s ≡ Some x → x.is_inside ≡ false → ⊥
      outside s is x found out =
          let same : x ≡ own.of = same_some (send past u.0) x own.of (subst (λ m. send past m ≡ Some x) (sym is) found) own.found in
          false≢true (sym out ∙ ap (λ (x : SentMsg). x.is_inside) same ∙ own.inside)

      by_frame : (s : ℕ) → u.0 ≡ suc s → ((g : Frame) × (top past e.who.0 ≡ Some g) × (runs_for (suc s) g ≡ true) × (pops e.call e.answer ≡ true)) ⊎ ((g : Frame) × (top past e.who.0 ≡ Some g) × (names_outside (suc s) g ≡ true)) → Popped past e t (InsideFrame u)
      by_frame s is (inl k) = let r = own_top t u k.0 own (top_stands e.who.0 k.0 k.1) (subst (λ m. runs_for m k.0 ≡ true) (sym is) k.2) in (r.0, k.3, k.0, k.1, r.1)
      by_frame s is (inr k) = let r = outside_made (suc s) k.0 (top_stands e.who.0 k.0 k.1) k.2 in absurd (outside (suc s) is r.0 r.1 r.2)

      by_split : (s : ℕ) → u.0 ≡ suc s → (loses e past (suc s) ≡ true) ⊎ (is_some (answers_in e.call e past (suc s)) ≡ true) → Popped past e t (InsideFrame u)
      by_split s is (inl k) = absurd (false≢true (sym (loses_made (suc s) k).1 ∙ subst (λ m. is_entered past m ≡ true) is own.entered))
      by_split s is (inr k) = by_frame s is (answered_in s k)

      by : (m : ℕ) → u.0 ≡ m → Popped past e t (InsideFrame u)
      by zero is = let none : send past u.0 ≡ None = subst (λ m. send past m ≡ None) (sym is) no_zero in absurd (none_some (send past u.0) none (some_true (send past u.0) own.of own.found))
      by (suc s) is = by_split s is (answers_split (suc s) (subst (λ m. is_some (answers e past m) ≡ true) is h))

  -- an entry that hands on what a sender waits for pops its frame
  awaited_handed : (t : ℕ) (u : SendId) → IsAwaited past t u.0 → hands_on e u.0 ≡ true → Popped past e t (AwaitFrame u)
  awaited_handed t u h hands = either_true (ends_await e.call e.answer u.0) (calls_back e.answer u.0) (Popped past e t (AwaitFrame u)) hands done called
    where
      done : ends_await e.call e.answer u.0 ≡ true → Popped past e t (AwaitFrame u)
      done k =
          let p = done_parts e.call e.answer u.0 k in
          let r = await_top p.3 p.4 (ap is_of_sends p.2) in
          let is : r.0.0 ≡ u.0 = r.2 ∙ p.5 in
          let frame = top_stands e.who.0 (AwaitFrame r.0) r.1 in
          let same : frame.of ≡ h.of = same_some (send past u.0) frame.of h.of (subst (λ m. send past m ≡ Some frame.of) is frame.found) h.found in
          (same_number e.who.0 t (sym frame.from ∙ ap (λ (x : SentMsg). x.from) same ∙ h.from), ap (pops e.call) p.2, AwaitFrame r.0, r.1, same_number r.0.0 u.0 is)

      by : (a : Answer) → Tells past e.who.0 e.call a → calls_back a u.0 ≡ true → ⊥
      by (answers.Callback s proc_no w number extra result) (inl k) c =
          let r = head_stands e.who.0 (to_call_back k.of proc_no extra k.place) k.is_first in
          let is : k.of.number ≡ u.0 = sym k.is_send ∙ eqb-true s.0 u.0 c in
          let same : k.of ≡ h.of = same_some (send past u.0) k.of h.of (subst (λ m. send past m ≡ Some k.of) is r.found) h.found in
          false≢true (sym h.awaits ∙ ap (λ (x : SentMsg). is_callback_kind x.kind) (sym same) ∙ ap is_callback_kind r.is_kind)
      by (answers.Callback s proc_no w number extra result) (inr k) c =
          let frame = top_stands e.who.0 (InsideFrame k.frame) k.is_top in
          let is : k.frame.0 ≡ u.0 = sym (inside_number k.frame k.of k.found) ∙ sym k.is_send ∙ eqb-true s.0 u.0 c in
          let same : frame.of ≡ h.of = same_some (send past u.0) frame.of h.of (subst (λ m. send past m ≡ Some frame.of) is frame.found) h.found in
          false≢true (sym h.outside ∙ ap (λ (x : SentMsg). x.is_inside) (sym same) ∙ frame.inside)
      by _ k c = false≢true c

      called : calls_back e.answer u.0 ≡ true → Popped past e t (AwaitFrame u)
      called k = absurd (by e.answer f.tells k)

  -- a frame that the entry doesn't pop stands
  pub frame_stays : (t : ℕ) (g : Frame) → FrameStands past t g → NotPopped past e t g → FrameStands (e ∷ past) t g
  frame_stays t (Entered u) h stays = record { of = h.of; found = send-stays e past u.0 h.of h.found; to = h.to; outside = h.outside; entered = entered_stays u.0 h.entered }
  frame_stays t (InsideFrame u) h stays = record {
    of = h.of;
    found = send-stays e past u.0 h.of h.found;
    to = h.to;
    from = h.from;
    inside = h.inside;
    entered = entered_stays u.0 h.entered;
    unanswered = unanswered_stays u.0 h.unanswered (never (is_some (answers e past u.0)) (λ k. let r = own_answered t u h k in stays r.0 r.1 r.2 r.3 r.4));
  }
  frame_stays t (AwaitFrame u) h stays = record {
    of = h.of;
    found = send-stays e past u.0 h.of h.found;
    from = h.from;
    outside = h.outside;
    awaits = h.awaits;
    unhanded = unhanded_stays u.0 h.unhanded (never (hands_on e u.0) (λ k. let r = awaited_handed t u h k in stays r.0 r.1 r.2 r.3 r.4));
  }
  frame_stays t CalledFrame h stays = tt
  frame_stays t CallbackRun h stays = tt

  -- the frames that remain stand
  pub remaining_stand : AllByRecursion (FrameStands (e ∷ past) e.who.0) (remaining e.call e.answer (stack past e.who.0))
  remaining_stand = by (pops e.call e.answer) refl
    where
      popped : (fs : List Frame) → stack past e.who.0 ≡ fs → NamesOnce fs → AllByRecursion (FrameStands past e.who.0) fs → AllByRecursion (FrameStands (e ∷ past) e.who.0) (drop 1 fs)
      popped [] is once h = tt
      popped (g ∷ fs) is once h = all_missed (FrameStands past e.who.0) (FrameStands (e ∷ past) e.who.0) (same_frame g) fs (λ x miss k. frame_stays e.who.0 x k (λ own pop g0 at same. let top_is : g0 ≡ g = same_some (top past e.who.0) g0 g at (ap first is) in false≢true (sym miss ∙ subst (λ y. same_frame y x ≡ true) top_is same))) once.0 h.1

      by : (b : Bool) → pops e.call e.answer ≡ b → AllByRecursion (FrameStands (e ∷ past) e.who.0) (cond b (drop 1 (stack past e.who.0)) (stack past e.who.0))
      by true is = popped (stack past e.who.0) refl (n.once e.who.0) (n.frames e.who.0)
      by false is = all_weaker (FrameStands past e.who.0) (FrameStands (e ∷ past) e.who.0) (λ x k. frame_stays e.who.0 x k (λ own pop g0 at same. false≢true (sym is ∙ pop))) (stack past e.who.0) (n.frames e.who.0)
