-- The send that an entry makes, and the answer that it hands on.
use Rattle.std.proofs.Common.{◌≡◌, ℕ, suc, ◌<◌, ◌≤◌, Bool, true, false, not, cond, eqb, List, [], ◌∷◌, ◌++◌, length, Option, Some, None, refl, ap, ◌∙◌, sym, subst, inl, inr, arith}
use Rattle.std.specs.Prelude.{◌&&◌, ◌||◌, ◌⊎◌, is_some, find, unwrap_or, option_map}
use Rattle.std.proofs.lemmas.Bool.{false≢true, eqb-true}
use Rattle.win_num.specs.declared.send.SendId.{SendId}
use Rattle.win_num.specs.declared.send.Cause.TheVariants.{Proc, Reply as ByReply, Loss, Timeout as ByTimeout}
use Rattle.win_num.specs.declared.send.Frame.TheVariants.{Inside as InsideFrame, Await as AwaitFrame}
use Rattle.user_model.specs.declared.call.Call.{Call}
use Rattle.user_model.specs.declared.call.Call.TheVariants.{Send, SendTimeout, Await, Leave, Reply, Drop}
use Rattle.user_model.specs.declared.entry.Entry.{Entry}
use Rattle.user_model.specs.declared.entry.Answer.{Answer}
use Rattle.user_model.specs.declared.entry.Answer.TheVariants as answers
use Rattle.user_model.specs.declared.entry.Setup.{Setup}
use Rattle.user_model.specs.Past.{Past, or_else, place_after}
use Rattle.user_model.specs.Places.{clock, is_end, ends_thread}
use Rattle.user_model.specs.Windows.{Window, live, window, is_live, thread_of, drops, drops_kin, drops_window}
use Rattle.user_model.specs.Stacks.{waits, top}
use Rattle.user_model.specs.Sends.{SentMsg, Outcome, outcome, send, sends, sends_by, sent_as, enters, is_entered, is_answered, answer, answers, answers_in, loses, left_by, is_one, is_timed_out, is_entered_frame, is_callback_kind, calls_back}
use Rattle.user_model.specs.Ready.{to_enter, to_call_back}
use Rattle.user_model.specs.Next.{result_of}
use Rattle.user_model.specs.ReplySends.{deadline, has_come}
use Rattle.user_model.specs.SendStories.{ends_await, hands_on, was_handed_on, result_handed}
use Rattle.user_model.proofs.SendReplies.{Tells, is_of_sends}
use Rattle.user_model.specs.Deeds.{SendParts, parts_of}
use Rattle.user_model.proofs.SendLaws.{is_sent, makes_one, makes_none, send-next, send-stays, sends-same, sends-next, is_entered-next, is_answered-next, answer-next, answer-stays}
use Rattle.user_model.proofs.SendStanding.{CountsFrom, Standing}
use Rattle.user_model.proofs.SendSteps.{Fits, never, same_number, or_left, either_true, and_both, some_true, none_some, counts_more, pushed, pops, done_parts, fresh, unmade_answered, top_stands, head_stands, await_top, inside_number, answers_made, was_handed_on-next, loses_made}

-- ---- what drops no window

abbrev pub is_drop : Call → Bool
is_drop (Drop w) = true
is_drop _ = false

pub no_kin : (call : Call) (ws : List Window) (x : Window) → is_drop call ≡ false → drops_kin call ws x ≡ false
no_kin (Drop w) ws x h = absurd (false≢true (sym h))
no_kin _ ws x h = refl

no_end : (a : Answer) (b : Bool) → is_end a ≡ false → (is_end a && b) ≡ false
no_end a b h = ap (λ c. c && b) h

-- an entry that is no drop and ends no thread drops no window
pub drops_none : (e : Entry) (ws : List Window) (x : Window) → is_drop e.call ≡ false → is_end e.answer ≡ false → drops e ws x ≡ false
drops_none e ws x h k = ap (λ b. b || ends_thread e x.thread) (no_kin e.call ws x h) ∙ no_end e.answer (eqb e.who.0 x.thread) k

pub loses_none : (e : Entry) (past : Past) (s : ℕ) → is_drop e.call ≡ false → is_end e.answer ≡ false → loses e past s ≡ false
loses_none e past s h k = by (send past s)
  where
    window_kept : (o : Option Window) → unwrap_or (option_map (drops e (live past)) o) false ≡ false
    window_kept None = refl
    window_kept (Some x) = drops_none e (live past) x h k

    by : (o : Option SentMsg) → (elim o as (λ _. Bool) [ Some x ↦ drops_window e past x.hwnd && not (is_entered past s) | None ↦ false ]) ≡ false
    by (Some x) = ap (λ b. b && not (is_entered past s)) (window_kept (window past x.hwnd))
    by None = refl

-- ---- the send that an entry makes

pub record IsNew (past : Past) (e : Entry) (x : SentMsg) : Type 0 where
  pub makes : sends_by e.call e past ≡ x ∷ []
  pub is_next : x.number ≡ suc (length (sends past))
  pub from : x.from ≡ e.who.0
  pub to : x.to ≡ thread_of past x.hwnd
  pub lives : is_live past x.hwnd ≡ true
  pub own : eqb x.to e.who.0 ≡ x.is_inside
  pub entering : (s : ℕ) → enters e.answer s ≡ (x.is_inside && eqb x.number s)
  pub keeps : pops e.call e.answer ≡ false
  pub no_drop : is_drop e.call ≡ false
  pub no_end : is_end e.answer ≡ false
  pub told : is_of_sends e.answer ≡ true
  pub runs_inside : x.is_inside ≡ true → pushed e.call e.answer ≡ InsideFrame (record { 0 = x.number }) ∷ []
  pub waits_outside : x.is_inside ≡ false → (pushed e.call e.answer ≡ []) ⊎ (pushed e.call e.answer ≡ AwaitFrame (record { 0 = x.number }) ∷ []) × (is_callback_kind x.kind ≡ false)

abbrev calls_back_in : Option SendParts → Bool
calls_back_in (Some of) = is_callback_kind of.kind
calls_back_in None = false

waits_kind : (call : Call) (of : SendParts) → parts_of call ≡ Some of → waits call ≡ true → is_callback_kind of.kind ≡ false
waits_kind (Send w m p q) of h k = sym (ap calls_back_in h)
waits_kind (SendTimeout w m p q flags ms) of h k = sym (ap calls_back_in h)
waits_kind _ of h k = absurd (false≢true k)

parts_drop : (call : Call) (of : SendParts) → parts_of call ≡ Some of → is_drop call ≡ false
parts_drop (Drop w) of h = absurd cc
parts_drop _ of h = refl

await_pushed : (waiting : Bool) (s : SendId) (calls : Bool) → (waiting ≡ true → calls ≡ false) → (cond waiting (AwaitFrame s ∷ []) [] ≡ []) ⊎ (cond waiting (AwaitFrame s ∷ []) [] ≡ AwaitFrame s ∷ []) × (calls ≡ false)
await_pushed true s calls h = inr (refl, h refl)
await_pushed false s calls h = inl refl

module _ (setup : Setup) (past : Past) (e : Entry) (n : Standing setup past) (f : Fits setup past e) where
  pub new_send : is_sent e.answer ≡ true → (x : SentMsg) × IsNew past e x
  new_send h = by e.answer refl f.tells h
    where
      made_as : (a : Answer) → e.answer ≡ a → (of : SendParts) → parts_of e.call ≡ Some of → sends_by e.call e past ≡ sent_as a e past of.hwnd of.message of.wparam of.lparam of.kind
      made_as a is of h = makes_one e past of h ∙ ap (λ a. sent_as a e past of.hwnd of.message of.wparam of.lparam of.kind) is

      by : (a : Answer) → e.answer ≡ a → Tells past e.who.0 e.call a → is_sent a ≡ true → (x : SentMsg) × IsNew past e x
      by (answers.Inside t proc_no) is k h =
          let of = k.made.of in
          let x : SentMsg = record { number = t.0; from = e.who.0; to = thread_of past of.hwnd; hwnd = of.hwnd; message = of.message; wparam = of.wparam; lparam = of.lparam; kind = of.kind; place = place_after past; time = clock past; is_inside = true } in (
            x,
            record {
              makes = made_as (answers.Inside t proc_no) is of k.made.is_call;
              is_next = k.made.is_next;
              from = refl;
              to = refl;
              lives = k.made.lives;
              own = k.made.is_own;
              entering = λ s. ap (λ a. enters a s) is;
              keeps = ap (pops e.call) is;
              no_drop = parts_drop e.call of k.made.is_call;
              no_end = ap is_end is;
              told = ap is_of_sends is;
              runs_inside = λ _. ap (pushed e.call) is;
              waits_outside = λ out. absurd (false≢true (sym out));
            },
          )
      by (answers.Begun t) is k h =
          let of = k.of in
          let x : SentMsg = record { number = t.0; from = e.who.0; to = thread_of past of.hwnd; hwnd = of.hwnd; message = of.message; wparam = of.wparam; lparam = of.lparam; kind = of.kind; place = place_after past; time = clock past; is_inside = false } in (
            x,
            record {
              makes = made_as (answers.Begun t) is of k.is_call;
              is_next = k.is_next;
              from = refl;
              to = refl;
              lives = k.lives;
              own = k.is_own;
              entering = λ s. ap (λ a. enters a s) is;
              keeps = ap (pops e.call) is;
              no_drop = parts_drop e.call of k.is_call;
              no_end = ap is_end is;
              told = ap is_of_sends is;
              runs_inside = λ ins. absurd (false≢true ins);
              waits_outside = λ _. subst (λ a. (pushed e.call a ≡ []) ⊎ (pushed e.call a ≡ AwaitFrame t ∷ []) × (is_callback_kind of.kind ≡ false)) (sym is) (await_pushed (waits e.call) t (is_callback_kind of.kind) (waits_kind e.call of k.is_call));
            },
          )
      by _ is k h = absurd (false≢true h)

  pub new_unmade : (x : SentMsg) → IsNew past e x → send past x.number ≡ None
  new_unmade x k = subst (λ m. send past m ≡ None) (sym k.is_next) (fresh setup past e n f)

  pub send_new : (x : SentMsg) → IsNew past e x → send (e ∷ past) x.number ≡ Some x
  send_new x k =
      send-next e past x.number f.unrefused
      ∙ ap (λ xs. or_else (send past x.number) (find (λ y. eqb y.number x.number) xs)) k.makes
      ∙ ap (λ o. or_else o (cond (eqb x.number x.number) (Some x) None)) (new_unmade x k)
      ∙ ap (λ b. cond b (Some x) None) (same_number x.number x.number refl)

  new_unanswered : (x : SentMsg) → IsNew past e x → is_answered past x.number ≡ false
  new_unanswered x k = subst (λ m. is_answered past m ≡ false) (sym k.is_next) (unmade_answered setup past e n f (length (sends past)) (fresh setup past e n f))

  pub new_unanswering : (x : SentMsg) → IsNew past e x → is_some (answers e past x.number) ≡ false
  new_unanswering x k = subst (λ m. is_some (answers e past m) ≡ false) (sym k.is_next) (never (is_some (answers e past (suc (length (sends past))))) (λ h. none_some (send past (suc (length (sends past)))) (fresh setup past e n f) (answers_made setup past e n f (length (sends past)) h)))

  -- the send that the entry makes has no answer
  pub new_stays_unanswered : (x : SentMsg) → IsNew past e x → is_answered (e ∷ past) x.number ≡ false
  new_stays_unanswered x k = is_answered-next e past x.number f.unrefused ∙ ap (λ b. b || is_some (answers e past x.number)) (new_unanswered x k) ∙ new_unanswering x k

  found_or : (o : Option SentMsg) (s : ℕ) (y x : SentMsg) → or_else o (cond (eqb y.number s) (Some y) None) ≡ Some x → (o ≡ Some x) ⊎ (y ≡ x) × (y.number ≡ s)
  found_or (Some z) s y x h = inl h
  found_or None s y x h = by (eqb y.number s) refl h
    where
      by : (b : Bool) → eqb y.number s ≡ b → cond b (Some y) None ≡ Some x → (None ≡ Some x) ⊎ (y ≡ x) × (y.number ≡ s)
      by true is h = inr (cc, eqb-true y.number s is)
      by false is h = absurd cc

  -- a send was made before, or the entry makes it
  pub send_cases : (s : ℕ) (x : SentMsg) → send (e ∷ past) s ≡ Some x → (send past s ≡ Some x) ⊎ IsNew past e x × (x.number ≡ s)
  send_cases s x h = by (is_sent e.answer) refl
    where
      made : (y : SentMsg) → IsNew past e y → (send past s ≡ Some x) ⊎ (y ≡ x) × (y.number ≡ s) → (send past s ≡ Some x) ⊎ IsNew past e x × (x.number ≡ s)
      made y k (inl g) = inl g
      made y k (inr g) = inr (subst (λ z. IsNew past e z) g.0 k, ap (λ (z : SentMsg). z.number) (sym g.0) ∙ g.1)

      by : (b : Bool) → is_sent e.answer ≡ b → (send past s ≡ Some x) ⊎ IsNew past e x × (x.number ≡ s)
      by true is =
          let k = new_send is in
          made k.0 k.1 (found_or (send past s) s k.0 x (ap (λ xs. or_else (send past s) (find (λ y. eqb y.number s) xs)) (sym k.1.makes) ∙ sym (send-next e past s f.unrefused) ∙ h))
      by false is = inl (ap (λ xs. find (λ y. eqb y.number s) xs) (sym (sends-same e past (makes_none e past is))) ∙ h)

  pub counted_next : CountsFrom 0 (sends (e ∷ past))
  counted_next = by (is_sent e.answer) refl
    where
      by : (b : Bool) → is_sent e.answer ≡ b → CountsFrom 0 (sends (e ∷ past))
      by true is = let k = new_send is in subst (CountsFrom 0) (sym (sends-next e past f.unrefused ∙ ap (λ xs. sends past ++ xs) k.1.makes)) (counts_more 0 (sends past) k.0 n.counted (k.1.is_next ∙ omega arith))
      by false is = subst (CountsFrom 0) (sym (sends-same e past (makes_none e past is))) n.counted

  pub made_stays : (s : ℕ) → is_some (send past s) ≡ true → is_some (send (e ∷ past) s) ≡ true
  made_stays s h = by (send past s) refl h
    where
      by : (o : Option SentMsg) → send past s ≡ o → is_some o ≡ true → is_some (send (e ∷ past) s) ≡ true
      by (Some x) is h = some_true (send (e ∷ past) s) x (send-stays e past s x is)
      by None is h = absurd (false≢true h)

  pub enters_made : (s : ℕ) → enters e.answer s ≡ true → is_some (send (e ∷ past) s) ≡ true
  enters_made s h = by e.answer refl f.tells h
    where
      by : (a : Answer) → e.answer ≡ a → Tells past e.who.0 e.call a → enters a s ≡ true → is_some (send (e ∷ past) s) ≡ true
      by (answers.Inside t proc_no) is k h =
          let x = new_send (ap is_sent is) in
          let at = and_both x.0.is_inside (eqb x.0.number s) (sym (x.1.entering s) ∙ ap (λ a. enters a s) is ∙ h) in
          subst (λ m. is_some (send (e ∷ past) m) ≡ true) (eqb-true x.0.number s at.1) (some_true (send (e ∷ past) x.0.number) x.0 (send_new x.0 x.1))
      by (answers.Enter t proc_no w number wparam lparam) is k h =
          let r = head_stands setup past e n f e.who.0 (to_enter k.of) k.is_first in
          subst (λ m. is_some (send (e ∷ past) m) ≡ true) (sym k.is_send ∙ eqb-true t.0 s h) (made_stays k.of.number (some_true (send past k.of.number) k.of r.found))
      by _ is k h = absurd (false≢true h)

  pub entered_next : (s : ℕ) → is_entered (e ∷ past) s ≡ true → is_some (send (e ∷ past) s) ≡ true
  entered_next s h = either_true (is_entered past s) (enters e.answer s) (is_some (send (e ∷ past) s) ≡ true) (sym (is_entered-next e past s f.unrefused) ∙ h) (λ g. made_stays s (n.entered s g)) (enters_made s)

  pub answered_next : (s : ℕ) → is_answered (e ∷ past) (suc s) ≡ true → is_some (send (e ∷ past) (suc s)) ≡ true
  answered_next s h = either_true (is_answered past (suc s)) (is_some (answers e past (suc s))) (is_some (send (e ∷ past) (suc s)) ≡ true) (sym (is_answered-next e past (suc s) f.unrefused) ∙ h) (λ g. made_stays (suc s) (n.answered s g)) (λ g. made_stays (suc s) (answers_made setup past e n f s g))

  -- ---- places of answers

  place_if : (b : Bool) (v : ℕ) (o : Outcome) (p : Outcome) → p.place ≡ length past → cond b (Some p) None ≡ Some o → o.place ≡ length past
  place_if true v o p h k = let same : p ≡ o = cc in ap (λ (x : Outcome). x.place) (sym same) ∙ h
  place_if false v o p h k = absurd cc

  pub answers_place : (s : ℕ) (o : Outcome) → answers e past s ≡ Some o → o.place ≡ length past
  answers_place s o h = by (loses e past s) h
    where
      by_call : (c : Call) → answers_in c e past s ≡ Some o → o.place ≡ length past
      by_call (Leave v) h = place_if (left_by e.answer s) v o (outcome past v Proc) refl h
      by_call (Reply v) h = place_if (is_one e.answer && is_entered_frame (top past e.who.0) s) v o (outcome past v ByReply) refl h
      by_call (Await t) h = place_if (is_timed_out e.answer && eqb t s) 0 o (outcome past 0 ByTimeout) refl h
      by_call _ h = absurd cc

      by : (b : Bool) → cond b (Some (outcome past 0 Loss)) (answers_in e.call e past s) ≡ Some o → o.place ≡ length past
      by true h = place_if true 0 o (outcome past 0 Loss) refl h
      by false h = by_call e.call h

  pub placed_next : (s : ℕ) (o : Outcome) → answer (e ∷ past) s ≡ Some o → o.place < length (e ∷ past)
  placed_next s o h = by (answer past s) refl (sym (answer-next e past s f.unrefused) ∙ h)
    where
      by : (p : Option Outcome) → answer past s ≡ p → or_else p (answers e past s) ≡ Some o → o.place < suc (length past)
      by (Some q) is h = let old = n.placed s q is in let same : q ≡ o = cc in let at : o.place ≡ q.place = ap (λ (x : Outcome). x.place) (sym same) in omega (arith, old, at)
      by None is h = omega (arith, answers_place s o h)

-- an answer that the entry hands on: it is there, and wasn't handed on before
pub record IsHanding (past : Past) (e : Entry) (s : ℕ) : Type 0 where
  pub made : is_some (send past s) ≡ true
  pub unhanded : was_handed_on past s ≡ false
  pub of : Outcome
  pub answered : answer (e ∷ past) s ≡ Some of
  pub early : of.place ≤ length past
  pub same_result : result_handed e.answer ≡ of.result

none_is : (o : Option Outcome) → is_some o ≡ false → o ≡ None
none_is None h = refl
none_is (Some x) h = absurd (false≢true (sym h))

end_wait : (call : Call) (result : ℕ) (t s : ℕ) → call ≡ Await t → (a : Answer) → ends_await call a s ≡ true → t ≡ s
end_wait call result t s is a h =
    let p = done_parts call a s h in
    let same : Await t ≡ Await p.3 = sym is ∙ p.4 in
    let at : t ≡ p.3 = cc in
    at ∙ p.5

module _ (setup : Setup) (past : Past) (e : Entry) (n : Standing setup past) (f : Fits setup past e) where
  -- an answer as this entry gives it, where there was none
  given : (s : ℕ) (o : Outcome) → answer past s ≡ None → answers e past s ≡ Some o → answer (e ∷ past) s ≡ Some o
  given s o h k = answer-next e past s f.unrefused ∙ ap (λ p. or_else p (answers e past s)) h ∙ k

  handed_by_done : (s : ℕ) → ends_await e.call e.answer s ≡ true → IsHanding past e s
  handed_by_done s h = by e.answer refl f.tells h
    where
      by : (a : Answer) → e.answer ≡ a → Tells past e.who.0 e.call a → ends_await e.call a s ≡ true → IsHanding past e s
      by (answers.Done result cause) is k h =
          let at : k.s ≡ s = end_wait e.call result k.s s k.is_call (answers.Done result cause) h in
          let r = await_top setup past e n f k.s k.is_call (ap is_of_sends is) in
          let frame = top_stands setup past e n f e.who.0 (AwaitFrame r.0) r.1 in
          let made : is_some (send past s) ≡ true = subst (λ m. is_some (send past m) ≡ true) (r.2 ∙ at) (some_true (send past r.0.0) frame.of frame.found) in
          let unhanded : was_handed_on past s ≡ false = subst (λ m. was_handed_on past m ≡ false) (r.2 ∙ at) frame.unhanded in
          how made unhanded at k.is_call k.how
        where
          how : is_some (send past s) ≡ true → was_handed_on past s ≡ false → k.s ≡ s → e.call ≡ Await k.s → ((o : Outcome) × (answer past k.s ≡ Some o) × (result ≡ o.result) × (cause ≡ o.cause)) ⊎ ((answer past k.s ≡ None) × (has_come (deadline past k.s) (clock past) ≡ true) × (result ≡ 0) × (cause ≡ ByTimeout)) → IsHanding past e s
          how made unhanded at call (inl g) =
              let found : answer past s ≡ Some g.0 = subst (λ m. answer past m ≡ Some g.0) at g.1 in
              let place = n.placed s g.0 found in
              record { made = made; unhanded = unhanded; of = g.0; answered = answer-stays e past s g.0 found; early = omega (arith, place); same_result = ap result_handed is ∙ g.2 }
          how made unhanded at call (inr g) =
              let kept : loses e past s ≡ false = loses_none e past s (ap is_drop call) (ap is_end is) in
              let late : is_timed_out e.answer ≡ true = ap is_timed_out is ∙ ap (λ c. is_timed_out (answers.Done result c)) g.3 in
              let in_time : answers e past s ≡ Some (outcome past 0 ByTimeout) =
              ap (λ b. cond b (Some (outcome past 0 Loss)) (answers_in e.call e past s)) kept
              ∙ ap (λ c. answers_in c e past s) call
              ∙ ap (λ b. cond (b && eqb k.s s) (Some (outcome past 0 ByTimeout)) None) late
              ∙ ap (λ b. cond b (Some (outcome past 0 ByTimeout)) None) (same_number k.s s at) in
              record { made = made; unhanded = unhanded; of = outcome past 0 ByTimeout; answered = given s (outcome past 0 ByTimeout) (subst (λ m. answer past m ≡ None) at g.0) in_time; early = omega arith; same_result = ap result_handed is ∙ g.2 }
      by _ is k h = let p = done_parts e.call e.answer s (ap (λ a. ends_await e.call a s) is ∙ h) in absurd cc

  handed_by_callback : (s : ℕ) → calls_back e.answer s ≡ true → IsHanding past e s
  handed_by_callback s h = by e.answer refl f.tells h
    where
      by : (a : Answer) → e.answer ≡ a → Tells past e.who.0 e.call a → calls_back a s ≡ true → IsHanding past e s
      by (answers.Callback t proc_no w number extra result) is (inl k) h =
          let r = head_stands setup past e n f e.who.0 (to_call_back k.of proc_no extra k.place) k.is_first in
          let at : k.of.number ≡ s = sym k.is_send ∙ eqb-true t.0 s h in
          let found : answer past s ≡ Some r.of = subst (λ m. answer past m ≡ Some r.of) at r.answered in
          let place = n.placed s r.of found in
          record {
            made = subst (λ m. is_some (send past m) ≡ true) at (some_true (send past k.of.number) k.of r.found);
            unhanded = subst (λ m. was_handed_on past m ≡ false) at r.unhanded;
            of = r.of;
            answered = answer-stays e past s r.of found;
            early = omega (arith, place);
            same_result = ap result_handed is ∙ k.is_result ∙ ap result_of r.answered;
          }
      by (answers.Callback t proc_no w number extra result) is (inr k) h =
          let frame = top_stands setup past e n f e.who.0 (InsideFrame k.frame) k.is_top in
          let at : k.frame.0 ≡ s = sym (inside_number setup past e n f k.frame k.of k.found) ∙ sym k.is_send ∙ eqb-true t.0 s h in
          let unanswered : is_answered past s ≡ false = subst (λ m. is_answered past m ≡ false) at frame.unanswered in
          let entered : is_entered past s ≡ true = subst (λ m. is_entered past m ≡ true) at frame.entered in
          let kept : loses e past s ≡ false = never (loses e past s) (λ g. false≢true (sym (loses_made setup past e n f s g).1 ∙ entered)) in
          let left : answers e past s ≡ Some (outcome past result Proc) =
          ap (λ b. cond b (Some (outcome past 0 Loss)) (answers_in e.call e past s)) kept
          ∙ ap (λ c. answers_in c e past s) k.is_call
          ∙ ap (λ a. cond (left_by a s) (Some (outcome past result Proc)) None) is
          ∙ ap (λ b. cond b (Some (outcome past result Proc)) None) h in
          record {
            made = subst (λ m. is_some (send past m) ≡ true) at (some_true (send past k.frame.0) frame.of frame.found);
            unhanded = never (was_handed_on past s) (λ g. false≢true (sym unanswered ∙ (n.handed s g).1));
            of = outcome past result Proc;
            answered = given s (outcome past result Proc) (none_is (answer past s) unanswered) left;
            early = omega arith;
            same_result = ap result_handed is;
          }
      by _ is k h = absurd (false≢true h)

  -- what an entry hands on is there, with its result, and wasn't handed on before
  pub handing : (s : ℕ) → hands_on e s ≡ true → IsHanding past e s
  handing s h = either_true (ends_await e.call e.answer s) (calls_back e.answer s) (IsHanding past e s) h (handed_by_done s) (handed_by_callback s)

  pub handed_next : (s : ℕ) → was_handed_on (e ∷ past) s ≡ true → (is_some (send (e ∷ past) s) ≡ true) × (is_answered (e ∷ past) s ≡ true)
  handed_next s h = either_true (was_handed_on past s) (hands_on e s) ((is_some (send (e ∷ past) s) ≡ true) × (is_answered (e ∷ past) s ≡ true)) (sym (was_handed_on-next setup past e n f s) ∙ h)
      (λ g. (made_stays setup past e n f s (n.handed s g).0, is_answered-next e past s f.unrefused ∙ or_left (is_answered past s) (is_some (answers e past s)) (n.handed s g).1))
      (λ g. let k = handing s g in (made_stays setup past e n f s k.made, some_true (answer (e ∷ past) s) k.of k.answered))
