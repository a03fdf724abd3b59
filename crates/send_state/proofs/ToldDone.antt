-- A lawful entry that ends a wait: the parts stand on, whether its send was answered or its time is over.
use Rattle.std.proofs.Common.{◌≡◌, ℕ, Bool, true, false, not, cond, eqb, List, [], ◌∷◌, Option, Some, None, refl, ap, ◌∙◌, sym, subst, inl, inr}
use Rattle.std.specs.Prelude.{◌&&◌, ◌||◌, drop, is_some}
use Rattle.std.specs.List.{AllByRecursion, list_any}
use Rattle.std.proofs.lemmas.Bool.{false≢true, eqb-true}
use Rattle.win_num.specs.declared.send.SendId.{SendId}
use Rattle.win_num.specs.declared.send.Cause.{Cause}
use Rattle.win_num.specs.declared.send.Cause.TheVariants.{Loss, Timeout as ByTimeout}
use Rattle.win_num.specs.declared.send.Frame.{Frame}
use Rattle.win_num.specs.declared.send.Frame.TheVariants.{Entered, Inside, Called, CallbackRun, Await as AwaitFrame}
use Rattle.user_model.specs.declared.call.Call.TheVariants.{Await}
use Rattle.user_model.specs.declared.entry.Entry.{Entry}
use Rattle.user_model.specs.declared.entry.Setup.{Setup}
use Rattle.user_model.specs.declared.entry.Answer.TheVariants as answers
use Rattle.user_model.specs.Past.{Past, first, is_refused}
use Rattle.user_model.specs.Places.{is_end}
use Rattle.user_model.specs.Replies.{is_barred_by}
use Rattle.user_model.specs.Stacks.{stack, stacked, top}
use Rattle.user_model.specs.Sends.{SentMsg, Outcome, answer, answers, answers_in, calls_back, enters, is_answered, is_callback_kind, is_stacked, is_timed_out, names_send, outcome, send, sends_by}
use Rattle.user_model.specs.Legal.{IsLawful}
use Rattle.user_model.proofs.SendLaws.{is_sent, makes_none}
use Rattle.user_model.proofs.SendReplies.{entry_told}
use Rattle.user_model.proofs.AnswerFacts.{IsDone}
use Rattle.user_model.proofs.SendLawful.{lawful_standing}
use Rattle.user_model.proofs.SendStanding.{FrameStands, IsAwaited, Standing}
use Rattle.send_state.specs.Parts.{SendParts, finished, timed_out}
use Rattle.send_state.specs.Standing.{IsOurs, PartsStand}
use Rattle.send_state.proofs.Still.{and-false, is_drop, is_owed-same, loses-none}
use Rattle.send_state.proofs.Serving.{eqb_itself}
use Rattle.send_state.proofs.Finishing.{IsFinishing, stand-finished}
use Rattle.send_state.proofs.Answering.{IsAnswering}
use Rattle.send_state.proofs.TimingOut.{stand-timed_out}
use Rattle.send_state.proofs.Told.{runs}

-- the wait that a thread may end is on top of its stack
top_awaits : (s : ℕ) (o : Option Frame) → is_barred_by (Await s) o ≡ false → (t : SendId) × (o ≡ Some (AwaitFrame t)) × (t.0 ≡ s)
top_awaits s (Some (AwaitFrame t)) h = (t, refl, eqb-true t.0 s (allows (eqb t.0 s) h)) where
  allows : (b : Bool) → not b ≡ false → b ≡ true
  allows true k = refl
  allows false k = sym k
top_awaits s (Some (Entered t)) h = absurd (false≢true (sym h))
top_awaits s (Some (Inside t)) h = absurd (false≢true (sym h))
top_awaits s (Some Called) h = absurd (false≢true (sym h))
top_awaits s (Some CallbackRun) h = absurd (false≢true (sym h))
top_awaits s None h = absurd (false≢true (sym h))

pub split_top : (fs : List Frame) (f : Frame) → first fs ≡ Some f → (gs : List Frame) × (fs ≡ f ∷ gs)
split_top [] f h = absurd cc
split_top (g ∷ gs) f h = (gs, cc)

or_true : (a b : Bool) → a ≡ true → (a || b) ≡ true
or_true true b h = refl
or_true false b h = absurd (false≢true h)

module _ (setup : Setup) (past : Past) (e : Entry) (f : SendId) (value : ℕ) (cause : Cause) (is_call : e.call ≡ Await f.0) (is_answer : e.answer ≡ answers.Done value cause) where
  right : is_refused e ≡ false
  right = ap (λ a. is_refused (record e { answer = a })) is_answer

  running : is_end e.answer ≡ false
  running = ap is_end is_answer

  none_made : sends_by e.call e past ≡ []
  none_made = makes_none e past (ap is_sent is_answer)

  told_here : (q : ℕ) → answers e past q ≡ cond (is_timed_out e.answer && eqb f.0 q) (Some (outcome past 0 ByTimeout)) None
  told_here q =
      ap (λ b. cond b (Some (outcome past 0 Loss)) (answers_in e.call e past q)) (loses-none e past q (ap is_drop is_call) running)
      ∙ ap (λ c. answers_in c e past q) is_call

  tells_other : (q : ℕ) → eqb f.0 q ≡ false → answers e past q ≡ None
  tells_other q differ = told_here q ∙ ap (λ b. cond b (Some (outcome past 0 ByTimeout)) None) (ap (λ b. is_timed_out e.answer && b) differ ∙ and-false (is_timed_out e.answer))

  enters_none : (q : ℕ) → enters e.answer q ≡ false
  enters_none q = ap (λ a. enters a q) is_answer

  hands_none : (q : ℕ) → calls_back e.answer q ≡ false
  hands_none q = ap (λ a. calls_back a q) is_answer

  pops : (l : List Frame) → stacked e.call e.answer l ≡ drop 1 l
  pops l = ap (λ a. stacked e.call a l) is_answer

  is_framed : (x : SentMsg) (fs : List Frame) → x.number ≡ f.0 → x.from ≡ e.who.0 → stack past e.who.0 ≡ AwaitFrame f ∷ fs → is_stacked past x ≡ true
  is_framed x fs number from is_stack =
      or_true (list_any (λ g. names_send g x.number) (stack past x.from)) (list_any (λ g. names_send g x.number) (stack past x.to))
      (ap (λ t. list_any (λ g. names_send g x.number) (stack past t)) from ∙ ap (list_any (λ g. names_send g x.number)) is_stack
      ∙ or_true (eqb f.0 x.number) (list_any (λ g. names_send g x.number) fs) (ap (eqb f.0) number ∙ eqb_itself f.0))

  -- the send was answered
  done_answered : (x : SentMsg) (fs : List Frame) (o : Outcome) (p : SendParts) → IsAwaited past e.who.0 f.0 → send past f.0 ≡ Some x → x.number ≡ f.0 → x.from ≡ e.who.0 → stack past e.who.0 ≡ AwaitFrame f ∷ fs → answer past f.0 ≡ Some o
      → Standing setup past → Standing setup (e ∷ past) → IsOurs setup e.who.0 → PartsStand setup past p → PartsStand setup (e ∷ past) (finished p e.who.0)
  done_answered x fs o p awaited found number from is_stack told before after own h =
      let finishing : IsFinishing past e (AwaitFrame f) f.0 x o = record {
        right = right;
        running = running;
        none_made = none_made;
        tells_other = tells_other;
        enters_none = enters_none;
        hands_none = hands_none;
        answered = told;
        found = found;
        framed = is_framed x fs number from is_stack;
        names = refl;
        names_other = λ q differ. differ;
        below = fs;
        is_stack = is_stack;
        pops = pops;
      } in
      stand-finished setup past e (AwaitFrame f) f.0 x o finishing before p after own h

  -- its time is over
  done_timed_out : (x : SentMsg) (fs : List Frame) (p : SendParts) → IsAwaited past e.who.0 f.0 → send past f.0 ≡ Some x → x.number ≡ f.0 → x.from ≡ e.who.0 → is_callback_kind x.kind ≡ false
      → stack past e.who.0 ≡ AwaitFrame f ∷ fs → answer past f.0 ≡ None → cause ≡ ByTimeout
      → Standing setup past → Standing setup (e ∷ past) → IsOurs setup e.who.0 → PartsStand setup past p → PartsStand setup (e ∷ past) (timed_out p e.who.0 f.0)
  done_timed_out x fs p awaited found number from awaits is_stack told late before after own h =
      let over : is_timed_out e.answer ≡ true = ap is_timed_out (is_answer ∙ ap (answers.Done value) late) in
      let answering : IsAnswering past e f.0 x 0 ByTimeout = record {
        right = right;
        running = running;
        none_made = none_made;
        found = found;
        unanswered = told;
        gives = told_here f.0 ∙ ap (λ b. cond (b && eqb f.0 f.0) (Some (outcome past 0 ByTimeout)) None) over ∙ ap (λ b. cond b (Some (outcome past 0 ByTimeout)) None) (eqb_itself f.0);
        tells_other = tells_other;
        enters_none = enters_none;
        hands_other = λ q differ. hands_none q;
        owed_same = is_owed-same e past x running (hands_none x.number);
      } in
      stand-timed_out setup past e f x answering before awaits p fs after own (is_framed x fs number from is_stack) is_stack pops h

-- a wait ends: by the answer of its send where that has one, else because its time is over
pub told-done : (setup : Setup) (past : Past) (e : Entry) (p : SendParts) (s value : ℕ) (cause : Cause) → IsLawful setup (e ∷ past) → PartsStand setup past p → e.call ≡ Await s → e.answer ≡ answers.Done value cause
    → PartsStand setup (e ∷ past) (cond (is_answered past s) (finished p e.who.0) (timed_out p e.who.0 s))
told-done setup past e p s value cause lawful h is_call is =
    let told = entry_told setup past e.who.0 e.call (answers.Done value cause) (sym lawful.1 ∙ is) refl in
    let before = lawful_standing setup past lawful.0 in
    let after = lawful_standing setup (e ∷ past) lawful in
    let own = (runs setup past e.who.0 told.0.running).0 in
    let done : IsDone past e.who.0 e.call value cause = told.1 in
    let awaits = top_awaits s (top past e.who.0) (ap (λ c. is_barred_by c (top past e.who.0)) (sym is_call) ∙ told.0.allowed) in
    let split = split_top (stack past e.who.0) (AwaitFrame awaits.0) awaits.1 in
    let awaited : IsAwaited past e.who.0 awaits.0.0 = (subst (AllByRecursion (FrameStands past e.who.0)) split.1 (before.frames e.who.0)).0 in
    let number = (before.sent awaits.0.0 awaited.of awaited.found).is_number in
    let call : e.call ≡ Await awaits.0.0 = is_call ∙ ap Await (sym awaits.2) in
    let named : s ≡ done.s = awaited_is s done.s (sym is_call ∙ done.is_call) in
    elim done.how [
      | inl k ↦
          let told_s : answer past s ≡ Some k.0 = ap (answer past) named ∙ k.1 in
          subst (λ b. PartsStand setup (e ∷ past) (cond b (finished p e.who.0) (timed_out p e.who.0 s))) (sym (ap (λ (o : Option Outcome). is_some o) told_s))
          (done_answered setup past e awaits.0 value cause call is awaited.of split.0 k.0 p awaited awaited.found number awaited.from split.1 (ap (answer past) awaits.2 ∙ told_s) before after own h)
      | inr k ↦
          let none_s : answer past s ≡ None = ap (answer past) named ∙ k.0 in
          subst (λ b. PartsStand setup (e ∷ past) (cond b (finished p e.who.0) (timed_out p e.who.0 s))) (sym (ap (λ (o : Option Outcome). is_some o) none_s))
          (subst (λ n. PartsStand setup (e ∷ past) (timed_out p e.who.0 n)) awaits.2
          (done_timed_out setup past e awaits.0 value cause call is awaited.of split.0 p awaited awaited.found number awaited.from awaited.awaits split.1 (ap (answer past) awaits.2 ∙ none_s) k.3 before after own h))
    ]
  where
    awaited_is : (a b : ℕ) → Await a ≡ Await b → a ≡ b
    awaited_is a b k = cc
