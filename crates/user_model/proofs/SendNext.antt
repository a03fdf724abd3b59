-- What stands of sends, one entry later.
use Rattle.std.proofs.Common.{◌≡◌, ℕ, Bool, true, false, not, cond, eqb, List, [], ◌∷◌, ◌++◌, drop, Option, Some, None, refl, ap, ◌∙◌, sym, subst, inl, inr}
use Rattle.std.specs.Prelude.{◌&&◌, ◌||◌, ◌⊎◌, is_some, find, filter}
use Rattle.std.specs.List.{AllByRecursion, list_any, flat_map}
use Rattle.std.proofs.lemmas.Bool.{false≢true, eqb-true}
use Rattle.win_num.specs.declared.send.SendId.{SendId}
use Rattle.win_num.specs.declared.send.Frame.{Frame}
use Rattle.win_num.specs.declared.send.Frame.TheVariants.{Entered, Inside as InsideFrame, Called as CalledFrame, CallbackRun, Await as AwaitFrame}
use Rattle.user_model.specs.declared.call.Call.{Call}
use Rattle.user_model.specs.declared.call.Call.TheVariants.{NewWindow, EndThread}
use Rattle.user_model.specs.declared.entry.Entry.{Entry}
use Rattle.user_model.specs.declared.entry.Answer.{Answer}
use Rattle.user_model.specs.declared.entry.Answer.TheVariants as answers
use Rattle.user_model.specs.declared.entry.Setup.{Setup}
use Rattle.user_model.specs.Past.{Past, first}
use Rattle.user_model.specs.Places.{is_end, ends_thread, has_ended}
use Rattle.user_model.specs.Threads.{is_thread, is_running}
use Rattle.user_model.specs.Windows.{Window, live, window, made_by, drops}
use Rattle.user_model.specs.Stacks.{stack, stacked, top}
use Rattle.user_model.specs.Sends.{SentMsg, send, enters, is_entered, is_callback_kind}
use Rattle.user_model.specs.Ready.{to_enter, result}
use Rattle.user_model.specs.Replies.{is_barred_by}
use Rattle.user_model.specs.SendStories.{NamesOnce, hands_on, same_frame}
use Rattle.user_model.proofs.ListLaws.{all_weaker, all_append}
use Rattle.user_model.proofs.PastLaws.{ever-next}
use Rattle.user_model.proofs.ReplyLaws.{is_of_clock, running_lives}
use Rattle.user_model.proofs.WindowLaws.{live-next}
use Rattle.user_model.proofs.SendReplies.{Tells, is_of_sends}
use Rattle.user_model.proofs.SendLaws.{is_sent, send-stays, stack-next, stack-other, stack-same}
use Rattle.user_model.proofs.SendStanding.{FrameStands, Standing}
use Rattle.user_model.proofs.SendSteps.{Fits, never, other_number, same_number, or_neither, not_right, either_true, and_both, not_true, some_true, none_some, none_any, pushed, pops, remaining, stacked_is, unmade_handed, head_stands, enters_fresh, entered_now, unhanded_stays, frame_stays, remaining_stand}
use Rattle.user_model.proofs.SendMaking.{IsNew, new_send, new_unmade, send_new, new_stays_unanswered, handing}

-- ---- lists

kept_here : {A : Type 0} (P Q : A → Type 0) (p : A → Bool) (x : A) (ys : List A) (b : Bool) → p x ≡ b → (p x ≡ true → P x → Q x) → P x → AllByRecursion Q ys → AllByRecursion Q (cond b (x ∷ ys) ys)
kept_here P Q p x ys true e f h k = (f e h, k)
kept_here P Q p x ys false e f h k = k

-- what follows for each that passes holds of each that a filter keeps
pub all_kept : {A : Type 0} (P Q : A → Type 0) (p : A → Bool) (xs : List A) → ((x : A) → p x ≡ true → P x → Q x) → AllByRecursion P xs → AllByRecursion Q (filter p xs)
all_kept P Q p [] f h = tt
all_kept P Q p (x ∷ xs) f h = kept_here P Q p x (filter p xs) (p x) refl (f x) h.0 (all_kept P Q p xs f h.1)

pub all_flat : {A B : Type 0} (P : A → Type 0) (Q : B → Type 0) (g : A → List B) (xs : List A) → ((x : A) → P x → AllByRecursion Q (g x)) → AllByRecursion P xs → AllByRecursion Q (flat_map g xs)
all_flat P Q g [] f h = tt
all_flat P Q g (x ∷ xs) f h = all_append Q (g x) (flat_map g xs) (f x h.0) (all_flat P Q g xs f h.1)

find_kept_here : {A : Type 0} (b c : Bool) (x y : A) (o q : Option A) → cond b (Some y) o ≡ Some x → (b ≡ true → y ≡ x → c ≡ true) → (o ≡ Some x → q ≡ Some x) → cond c (cond b (Some y) q) q ≡ Some x
find_kept_here true true x y o q h f g = h
find_kept_here true false x y o q h f g = let same : y ≡ x = cc in absurd (false≢true (f refl same))
find_kept_here false true x y o q h f g = g h
find_kept_here false false x y o q h f g = g h

find_through : {A : Type 0} (c b : Bool) (p : A → Bool) (y : A) (ys : List A) → find p (cond c (y ∷ ys) ys) ≡ cond c (cond (p y) (Some y) (find p ys)) (find p ys)
find_through true b p y ys = refl
find_through false b p y ys = refl

-- what is found and kept is found among what is kept
pub find_kept : {A : Type 0} (p q : A → Bool) (xs : List A) (x : A) → find p xs ≡ Some x → q x ≡ true → find p (filter q xs) ≡ Some x
find_kept p q [] x h k = absurd cc
find_kept p q (y ∷ ys) x h k =
    find_through (q y) true p y (filter q ys)
    ∙ find_kept_here (p y) (q y) x y (find p ys) (find p (filter q ys)) h (λ b same. ap q same ∙ k) (λ g. find_kept p q ys x g k)

find_or : {A : Type 0} (b : Bool) (x y : A) (o q : Option A) → (o ≡ Some x → q ≡ Some x) → cond b (Some y) o ≡ Some x → cond b (Some y) q ≡ Some x
find_or true x y o q f h = h
find_or false x y o q f h = f h

pub find_before : {A : Type 0} (p : A → Bool) (xs ys : List A) (x : A) → find p xs ≡ Some x → find p (xs ++ ys) ≡ Some x
find_before p [] ys x h = absurd cc
find_before p (y ∷ xs) ys x h = find_or (p y) x y (find p xs) (find p (xs ++ ys)) (λ g. find_before p xs ys x g) h

plain_stack : (call : Call) (a : Answer) (fs : List Frame) → is_of_sends a ≡ false → stacked call a fs ≡ fs
plain_stack call (answers.Inside s proc_no) fs h = absurd (false≢true (sym h))
plain_stack call (answers.Begun s) fs h = absurd (false≢true (sym h))
plain_stack call (answers.Enter s proc_no w message wparam lparam) fs h = absurd (false≢true (sym h))
plain_stack call (answers.Callback s proc_no w message extra result) fs h = absurd (false≢true (sym h))
plain_stack call (answers.Left s) fs h = absurd (false≢true (sym h))
plain_stack call (answers.Done result cause) fs h = absurd (false≢true (sym h))
plain_stack call (answers.Called proc_no) fs h = absurd (false≢true (sym h))
plain_stack call _ fs h = refl

ended_stack : (o : Option Frame) → is_barred_by EndThread o ≡ false → o ≡ None
ended_stack None h = refl
ended_stack (Some (Entered u)) h = absurd (false≢true (sym h))
ended_stack (Some (InsideFrame u)) h = absurd (false≢true (sym h))
ended_stack (Some CalledFrame) h = absurd (false≢true (sym h))
ended_stack (Some CallbackRun) h = absurd (false≢true (sym h))
ended_stack (Some (AwaitFrame u)) h = absurd (false≢true (sym h))

first_none : {A : Type 0} (xs : List A) → first xs ≡ None → xs ≡ []
first_none [] h = refl
first_none (x ∷ xs) h = absurd cc

pub end_is : (a : Answer) → is_end a ≡ true → a ≡ answers.Ended
end_is answers.Ended h = refl
end_is _ h = absurd (false≢true h)

not_ended : (a b : Bool) → (a && not b) ≡ true → (a ≡ true) × (b ≡ false)
not_ended true true e = absurd (false≢true e)
not_ended true false e = (refl, refl)
not_ended false b e = absurd (false≢true e)

module _ (setup : Setup) (past : Past) (e : Entry) (n : Standing setup past) (f : Fits setup past e) where
  pub own_runs : is_of_sends e.answer ≡ true → is_running setup past e.who.0 ≡ true
  own_runs h = (f.by_answer h).running

  -- ---- frames

  pub own_stack : (t : ℕ) → eqb e.who.0 t ≡ true → stack (e ∷ past) t ≡ pushed e.call e.answer ++ remaining e.call e.answer (stack past t)
  own_stack t own = stack-next e past t f.unrefused own ∙ stacked_is e.call e.answer (stack past t)

  pushed_stand : AllByRecursion (FrameStands (e ∷ past) e.who.0) (pushed e.call e.answer)
  pushed_stand = by_sent (is_sent e.answer) refl
    where
      inside : (x : SentMsg) → IsNew past e x → x.is_inside ≡ true → AllByRecursion (FrameStands (e ∷ past) e.who.0) (pushed e.call e.answer)
      inside x k is = subst (λ fs. AllByRecursion (FrameStands (e ∷ past) e.who.0) fs) (sym (k.runs_inside is)) (
        record {
          of = x;
          found = send_new setup past e n f x k;
          to = eqb-true x.to e.who.0 (k.own ∙ is);
          from = k.from;
          inside = is;
          entered = entered_now setup past e n f x.number (k.entering x.number ∙ ap (λ b. b && eqb x.number x.number) is ∙ same_number x.number x.number refl);
          unanswered = new_stays_unanswered setup past e n f x k;
        },
        tt,
      )

      outside : (x : SentMsg) → IsNew past e x → x.is_inside ≡ false → (pushed e.call e.answer ≡ []) ⊎ (pushed e.call e.answer ≡ AwaitFrame (record { 0 = x.number }) ∷ []) × (is_callback_kind x.kind ≡ false) → AllByRecursion (FrameStands (e ∷ past) e.who.0) (pushed e.call e.answer)
      outside x k is (inl none) = subst (λ fs. AllByRecursion (FrameStands (e ∷ past) e.who.0) fs) (sym none) tt
      outside x k is (inr one) = subst (λ fs. AllByRecursion (FrameStands (e ∷ past) e.who.0) fs) (sym one.0) (
        record {
          of = x;
          found = send_new setup past e n f x k;
          from = k.from;
          outside = is;
          awaits = one.1;
          unhanded = unhanded_stays setup past e n f x.number (unmade_handed setup past e n f x.number (new_unmade setup past e n f x k)) (never (hands_on e x.number) (λ h. none_some (send past x.number) (new_unmade setup past e n f x k) (handing setup past e n f x.number h).made));
        },
        tt,
      )

      by_inside : (x : SentMsg) → IsNew past e x → (b : Bool) → x.is_inside ≡ b → AllByRecursion (FrameStands (e ∷ past) e.who.0) (pushed e.call e.answer)
      by_inside x k true is = inside x k is
      by_inside x k false is = outside x k is (k.waits_outside is)

      by : (a : Answer) → e.answer ≡ a → Tells past e.who.0 e.call a → is_sent a ≡ false → AllByRecursion (FrameStands (e ∷ past) e.who.0) (pushed e.call a)
      by (answers.Inside s proc_no) is k h = absurd (false≢true (sym h))
      by (answers.Begun s) is k h = absurd (false≢true (sym h))
      by (answers.Enter s proc_no w message wparam lparam) is k h =
          let r = head_stands setup past e n f e.who.0 (to_enter k.of) k.is_first in
          let at : k.of.number ≡ s.0 = sym k.is_send in (
            record {
              of = k.of;
              found = send-stays e past s.0 k.of (subst (λ m. send past m ≡ Some k.of) at r.found);
              to = r.to;
              outside = r.outside;
              entered = entered_now setup past e n f s.0 (ap (λ a. enters a s.0) is ∙ same_number s.0 s.0 refl);
            },
            tt,
          )
      by (answers.Callback s proc_no w message extra result) is k h = (tt, tt)
      by (answers.Called proc_no) is k h = (tt, tt)
      by _ is k h = tt

      by_sent : (b : Bool) → is_sent e.answer ≡ b → AllByRecursion (FrameStands (e ∷ past) e.who.0) (pushed e.call e.answer)
      by_sent true is = let k = new_send setup past e n f is in by_inside k.0 k.1 k.0.is_inside refl
      by_sent false is = by e.answer refl f.tells is

  pub frames_next : (t : ℕ) → AllByRecursion (FrameStands (e ∷ past) t) (stack (e ∷ past) t)
  frames_next t = by (eqb e.who.0 t) refl
    where
      own : AllByRecursion (FrameStands (e ∷ past) e.who.0) (stack (e ∷ past) e.who.0)
      own = subst (λ fs. AllByRecursion (FrameStands (e ∷ past) e.who.0) fs) (sym (own_stack e.who.0 (same_number e.who.0 e.who.0 refl))) (all_append (FrameStands (e ∷ past) e.who.0) (pushed e.call e.answer) (remaining e.call e.answer (stack past e.who.0)) pushed_stand (remaining_stand setup past e n f))

      by : (b : Bool) → eqb e.who.0 t ≡ b → AllByRecursion (FrameStands (e ∷ past) t) (stack (e ∷ past) t)
      by true is = subst (λ m. AllByRecursion (FrameStands (e ∷ past) m) (stack (e ∷ past) m)) (eqb-true e.who.0 t is) own
      by false is = subst (λ fs. AllByRecursion (FrameStands (e ∷ past) t) fs) (sym (stack-other e past t is)) (all_weaker (FrameStands past t) (FrameStands (e ∷ past) t) (λ g k. frame_stays setup past e n f t g k (λ mine pop g0 at same. false≢true (sym is ∙ mine))) (stack past t) (n.frames t))

  remaining_past : AllByRecursion (FrameStands past e.who.0) (remaining e.call e.answer (stack past e.who.0))
  remaining_past = by (pops e.call e.answer)
    where
      tail : (fs : List Frame) → AllByRecursion (FrameStands past e.who.0) fs → AllByRecursion (FrameStands past e.who.0) (drop 1 fs)
      tail [] h = tt
      tail (g ∷ fs) h = h.1

      by : (b : Bool) → AllByRecursion (FrameStands past e.who.0) (cond b (drop 1 (stack past e.who.0)) (stack past e.who.0))
      by true = tail (stack past e.who.0) (n.frames e.who.0)
      by false = n.frames e.who.0

  remaining_once : NamesOnce (remaining e.call e.answer (stack past e.who.0))
  remaining_once = by (pops e.call e.answer)
    where
      tail : (fs : List Frame) → NamesOnce fs → NamesOnce (drop 1 fs)
      tail [] h = tt
      tail (g ∷ fs) h = h.1

      by : (b : Bool) → NamesOnce (cond b (drop 1 (stack past e.who.0)) (stack past e.who.0))
      by true = tail (stack past e.who.0) (n.once e.who.0)
      by false = n.once e.who.0

  -- a new frame names a send that no frame of its kind names
  enter_apart : (s : SendId) → is_entered past s.0 ≡ false → (y : Frame) → FrameStands past e.who.0 y → same_frame (Entered s) y ≡ false
  enter_apart s h (Entered u) k = other_number s.0 u.0 (λ is. false≢true (sym h ∙ ap (is_entered past) is ∙ k.entered))
  enter_apart s h (InsideFrame u) k = refl
  enter_apart s h CalledFrame k = refl
  enter_apart s h CallbackRun k = refl
  enter_apart s h (AwaitFrame u) k = refl

  inside_apart : (s : SendId) → send past s.0 ≡ None → (y : Frame) → FrameStands past e.who.0 y → same_frame (InsideFrame s) y ≡ false
  inside_apart s h (InsideFrame u) k = other_number s.0 u.0 (λ is. none_some (send past s.0) h (subst (λ m. is_some (send past m) ≡ true) (sym is) (some_true (send past u.0) k.of k.found)))
  inside_apart s h (Entered u) k = refl
  inside_apart s h CalledFrame k = refl
  inside_apart s h CallbackRun k = refl
  inside_apart s h (AwaitFrame u) k = refl

  await_apart : (s : SendId) → send past s.0 ≡ None → (y : Frame) → FrameStands past e.who.0 y → same_frame (AwaitFrame s) y ≡ false
  await_apart s h (AwaitFrame u) k = other_number s.0 u.0 (λ is. none_some (send past s.0) h (subst (λ m. is_some (send past m) ≡ true) (sym is) (some_true (send past u.0) k.of k.found)))
  await_apart s h (Entered u) k = refl
  await_apart s h (InsideFrame u) k = refl
  await_apart s h CalledFrame k = refl
  await_apart s h CallbackRun k = refl

  apart_all : (g : Frame) → ((y : Frame) → FrameStands past e.who.0 y → same_frame g y ≡ false) → list_any (same_frame g) (remaining e.call e.answer (stack past e.who.0)) ≡ false
  apart_all g h = none_any (same_frame g) (remaining e.call e.answer (stack past e.who.0)) (all_weaker (FrameStands past e.who.0) (λ y. same_frame g y ≡ false) h (remaining e.call e.answer (stack past e.who.0)) remaining_past)

  push_once : (fs : List Frame) → fs ≡ [] → NamesOnce (fs ++ remaining e.call e.answer (stack past e.who.0))
  push_once fs is = subst (λ fs. NamesOnce (fs ++ remaining e.call e.answer (stack past e.who.0))) (sym is) remaining_once

  push_one : (g : Frame) (fs : List Frame) → fs ≡ g ∷ [] → ((y : Frame) → FrameStands past e.who.0 y → same_frame g y ≡ false) → NamesOnce (fs ++ remaining e.call e.answer (stack past e.who.0))
  push_one g fs is h = subst (λ fs. NamesOnce (fs ++ remaining e.call e.answer (stack past e.who.0))) (sym is) (apart_all g h, remaining_once)

  own_once : NamesOnce (pushed e.call e.answer ++ remaining e.call e.answer (stack past e.who.0))
  own_once = by_sent (is_sent e.answer) refl
    where
      outside : (x : SentMsg) → IsNew past e x → (pushed e.call e.answer ≡ []) ⊎ (pushed e.call e.answer ≡ AwaitFrame (record { 0 = x.number }) ∷ []) × (is_callback_kind x.kind ≡ false) → NamesOnce (pushed e.call e.answer ++ remaining e.call e.answer (stack past e.who.0))
      outside x k (inl none) = push_once (pushed e.call e.answer) none
      outside x k (inr one) = push_one (AwaitFrame (record { 0 = x.number })) (pushed e.call e.answer) one.0 (await_apart (record { 0 = x.number }) (new_unmade setup past e n f x k))

      by_inside : (x : SentMsg) → IsNew past e x → (b : Bool) → x.is_inside ≡ b → NamesOnce (pushed e.call e.answer ++ remaining e.call e.answer (stack past e.who.0))
      by_inside x k true is = push_one (InsideFrame (record { 0 = x.number })) (pushed e.call e.answer) (k.runs_inside is) (inside_apart (record { 0 = x.number }) (new_unmade setup past e n f x k))
      by_inside x k false is = outside x k (k.waits_outside is)

      by : (a : Answer) → e.answer ≡ a → is_sent a ≡ false → NamesOnce (pushed e.call e.answer ++ remaining e.call e.answer (stack past e.who.0))
      by (answers.Inside s proc_no) is h = absurd (false≢true (sym h))
      by (answers.Begun s) is h = absurd (false≢true (sym h))
      by (answers.Enter s proc_no w message wparam lparam) is h = push_one (Entered s) (pushed e.call e.answer) (ap (pushed e.call) is) (enter_apart s (enters_fresh setup past e n f s.0 (ap (λ a. enters a s.0) is ∙ same_number s.0 s.0 refl)).0)
      by (answers.Callback s proc_no w message extra result) is h = push_one CallbackRun (pushed e.call e.answer) (ap (pushed e.call) is) (λ y k. refl)
      by (answers.Called proc_no) is h = push_one CalledFrame (pushed e.call e.answer) (ap (pushed e.call) is) (λ y k. refl)
      by _ is h = push_once (pushed e.call e.answer) (ap (pushed e.call) is)

      by_sent : (b : Bool) → is_sent e.answer ≡ b → NamesOnce (pushed e.call e.answer ++ remaining e.call e.answer (stack past e.who.0))
      by_sent true is = let k = new_send setup past e n f is in by_inside k.0 k.1 k.0.is_inside refl
      by_sent false is = by e.answer refl is

  pub once_next : (t : ℕ) → NamesOnce (stack (e ∷ past) t)
  once_next t = by (eqb e.who.0 t) refl
    where
      by : (b : Bool) → eqb e.who.0 t ≡ b → NamesOnce (stack (e ∷ past) t)
      by true is = subst (λ m. NamesOnce (stack (e ∷ past) m)) (eqb-true e.who.0 t is) (subst NamesOnce (sym (own_stack e.who.0 (same_number e.who.0 e.who.0 refl))) own_once)
      by false is = subst NamesOnce (sym (stack-other e past t is)) (n.once t)

  -- ---- ended threads and windows

  ended_more : (t : ℕ) → has_ended (e ∷ past) t ≡ (has_ended past t || ends_thread e t)
  ended_more t = ever-next (λ (e : Entry) (before : Past). ends_thread e t) e past f.unrefused

  pub ended_next : (t : ℕ) → has_ended (e ∷ past) t ≡ true → stack (e ∷ past) t ≡ []
  ended_next t h = either_true (has_ended past t) (ends_thread e t) (stack (e ∷ past) t ≡ []) (sym (ended_more t) ∙ h) before now
    where
      mine : has_ended past t ≡ true → eqb e.who.0 t ≡ true → (b : Bool) → is_of_sends e.answer ≡ b → stack (e ∷ past) t ≡ []
      mine g is true told = absurd (false≢true (sym (running_lives setup past e.who.0 (own_runs told)) ∙ subst (λ m. has_ended past m ≡ true) (sym (eqb-true e.who.0 t is)) g))
      mine g is false told = stack-same e past t (plain_stack e.call e.answer (stack past t) told) ∙ n.ended t g

      by : has_ended past t ≡ true → (b : Bool) → eqb e.who.0 t ≡ b → stack (e ∷ past) t ≡ []
      by g true is = mine g is (is_of_sends e.answer) refl
      by g false is = stack-other e past t is ∙ n.ended t g

      before : has_ended past t ≡ true → stack (e ∷ past) t ≡ []
      before g = by g (eqb e.who.0 t) refl

      ending : e.call ≡ EndThread → is_of_sends e.answer ≡ true → stack past e.who.0 ≡ []
      ending call told = first_none (stack past e.who.0) (ended_stack (top past e.who.0) (subst (λ c. is_barred_by c (top past e.who.0) ≡ false) call (f.by_answer told).allowed))

      now : ends_thread e t ≡ true → stack (e ∷ past) t ≡ []
      now g =
          let both = and_both (is_end e.answer) (eqb e.who.0 t) g in
          let is = end_is e.answer both.0 in
          let call : e.call ≡ EndThread = subst (λ a. Tells past e.who.0 e.call a) is f.tells in
          stack-same e past t (ap (λ a. stacked e.call a (stack past t)) is) ∙ subst (λ m. stack past m ≡ []) (eqb-true e.who.0 t both.1) (ending call (ap is_of_sends is))

  running_next : (t : ℕ) → is_running setup past t ≡ true → ends_thread e t ≡ false → is_running setup (e ∷ past) t ≡ true
  running_next t h k = ap (λ b. is_thread setup t && not b) (ended_more t ∙ or_neither (has_ended past t) (ends_thread e t) (not_ended (is_thread setup t) (has_ended past t) h).1 k) ∙ ap (λ b. b && true) (not_ended (is_thread setup t) (has_ended past t) h).0

  pub windows_next : AllByRecursion (λ w. is_running setup (e ∷ past) w.thread ≡ true) (live (e ∷ past))
  windows_next = subst (λ ws. AllByRecursion (λ w. is_running setup (e ∷ past) w.thread ≡ true) ws) (sym (live-next e past f.unrefused)) (all_append (λ w. is_running setup (e ∷ past) w.thread ≡ true) (filter (λ x. not (drops e (live past) x)) (live past)) (made_by e.who.0 e.answer e.call (live past)) kept (made e.answer e.call refl refl))
    where
      kept : AllByRecursion (λ w. is_running setup (e ∷ past) w.thread ≡ true) (filter (λ x. not (drops e (live past) x)) (live past))
      kept = all_kept (λ w. is_running setup past w.thread ≡ true) (λ w. is_running setup (e ∷ past) w.thread ≡ true) (λ x. not (drops e (live past) x)) (live past) (λ x stays h. running_next x.thread h (not_right _ (ends_thread e x.thread) (not_true (drops e (live past) x) stays))) n.windows

      made : (a : Answer) (c : Call) → e.answer ≡ a → e.call ≡ c → AllByRecursion (λ w. is_running setup (e ∷ past) w.thread ≡ true) (made_by e.who.0 a c (live past))
      made (answers.Window w) (NewWindow class title parent style ex l t r b) is call = (running_next e.who.0 (f.by_call (ap is_of_clock call)).running (ap (λ a. is_end a && eqb e.who.0 e.who.0) is), tt)
      made _ _ is call = tt

  -- a window that the entry doesn't drop stays
  pub window_stays : (w : ℕ) (x : Window) → window past w ≡ Some x → drops e (live past) x ≡ false → window (e ∷ past) w ≡ Some x
  window_stays w x h k =
      ap (λ ws. find (λ y. eqb y.number w) ws) (live-next e past f.unrefused)
      ∙ find_before (λ y. eqb y.number w) (filter (λ y. not (drops e (live past) y)) (live past)) (made_by e.who.0 e.answer e.call (live past)) x (find_kept (λ y. eqb y.number w) (λ y. not (drops e (live past) y)) (live past) x h (ap not k))
