-- What an entry adds to the counts of sends.
use Rattle.std.proofs.Common.{◌≡◌, ℕ, suc, ◌+◌, Bool, true, false, not, cond, eqb, List, [], ◌∷◌, length, Option, Some, None, refl, ap, ◌∙◌, sym, arith}
use Rattle.std.specs.Prelude.{◌&&◌, ◌||◌, count_by, filter, is_some, option_map}
use Rattle.std.specs.FinMap as map
use Rattle.std.proofs.lemmas.Bool.{false≢true}
use Rattle.std.proofs.lemmas.List.{take_all}
use Rattle.std.proofs.lemmas.List.Sums.{length-filter}
use Rattle.win_num.specs.declared.message.Hwnd.{Hwnd}
use Rattle.win_num.specs.declared.send.SendId.{SendId}
use Rattle.win_num.specs.declared.send.Cause.{Cause}
use Rattle.win_num.specs.declared.send.Cause.TheVariants as causes
use Rattle.win_num.specs.declared.send.Frame.{Frame}
use Rattle.win_num.specs.declared.send.Frame.TheVariants.{Entered, Inside as InsideFrame, Called as CalledFrame, CallbackRun, Await as AwaitFrame}
use Rattle.user_model.specs.declared.call.Call.{Call}
use Rattle.user_model.specs.declared.call.Call.TheVariants as calls
use Rattle.user_model.specs.declared.entry.Answer.{Answer}
use Rattle.user_model.specs.declared.entry.Answer.TheVariants as answers_of
use Rattle.user_model.specs.declared.entry.Entry.{Entry}
use Rattle.user_model.specs.declared.entry.Setup.{Setup}
use Rattle.user_model.specs.Past.{Past, is_refusal, is_refused, or_else, place_after}
use Rattle.user_model.specs.Windows.{drops_window}
use Rattle.user_model.specs.Stacks.{top}
use Rattle.user_model.specs.Sends.{SentMsg, Outcome, answer, answers, answers_in, enters, is_answered, is_entered, is_entered_frame, is_one, is_owed, is_stacked, is_timed_out, left_by, loses, outcome, send, sends, sends_by, sent_as}
use Rattle.user_model.specs.Counts.{count_of_cause, has_cause, same_cause}
use Rattle.user_model.specs.Ready.{to_enter, ready}
use Rattle.user_model.specs.Legal.{IsLawful}
use Rattle.user_model.proofs.ListLaws.{or-false}
use Rattle.user_model.proofs.ReplyLaws.{by_call, is_of_clock}
use Rattle.user_model.proofs.SendLawful.{lawful_standing}
use Rattle.user_model.proofs.SendLaws.{answer-next, answer-refused, is_entered-next, is_entered-refused, is_sent, makes_none, makes_one, sends-next, sends-refused}
use Rattle.user_model.proofs.SendReplies.{entry_told}
use Rattle.user_model.specs.Deeds.{SendParts as CallParts, parts_of}
use Rattle.user_model.proofs.AnswerFacts.{IsEntry, IsInside, IsMade}
use Rattle.user_model.proofs.SendStanding.{ReadyStands, Standing}
use Rattle.user_model.proofs.SendSteps.{find_above}
use Rattle.send_state.specs.declared.tally.Tally.{Tally}
use Rattle.send_state.specs.Parts.{SendParts, lost_count, lost_to, rank, top_of}
use Rattle.send_state.specs.Standing.{PartsStand, as_told, known_of, row_of}
use Rattle.send_state.specs.Tallies.{enters_one, first_cause, first_of, is_by, is_open, left_send, named_send, one_if, replied_to, tallied, tally_at}
use Rattle.send_state.proofs.Counts.{count_either, count_more, count_never, count_next, count_one, count_same}
use Rattle.send_state.proofs.LostSends.{IsLosing, LostTo, is_newly, losses, lost-stands}
use Rattle.send_state.proofs.Serving.{eqb_itself}
use Rattle.send_state.proofs.Still.{and-false}
use Rattle.send_state.proofs.Told.{of_first, runs}
use Rattle.send_state.proofs.Values.{top-stands}

abbrev tally : ℕ → ℕ → ℕ → ℕ → ℕ → Tally
tally entered by_proc by_reply by_loss by_timeout = record { entered = entered; by_proc = by_proc; by_reply = by_reply; by_loss = by_loss; by_timeout = by_timeout }

same_tally : {a b c d f : ℕ} {t : Tally} → a ≡ t.entered → b ≡ t.by_proc → c ≡ t.by_reply → d ≡ t.by_loss → f ≡ t.by_timeout → tally a b c d f ≡ t
same_tally {a = a} {b = b} {c = c} {d = d} {f = f} {t = t} entered by_proc by_reply by_loss by_timeout =
    ap (λ n. tally n b c d f) entered ∙ ap (λ n. tally t.entered n c d f) by_proc ∙ ap (λ n. tally t.entered t.by_proc n d f) by_reply
    ∙ ap (λ n. tally t.entered t.by_proc t.by_reply n f) by_loss ∙ ap (tally t.entered t.by_proc t.by_reply t.by_loss) by_timeout

-- ---- a send that is made

-- the entry makes one send, of the next number
pub record IsNew (past : Past) (e : Entry) : Type 0 where
  pub of : SentMsg
  pub one : sends_by e.call e past ≡ of ∷ []
  pub next : of.number ≡ suc (length (sends past))
  pub entering : (s : ℕ) → enters e.answer s ≡ (enters_one e.answer && eqb of.number s)
  pub tells_none : (s : ℕ) → answers_in e.call e past s ≡ None

-- a call that sends answers none
sends_tell : (call : Call) (of : CallParts) (e : Entry) (past : Past) (s : ℕ) → parts_of call ≡ Some of → answers_in call e past s ≡ None
sends_tell (calls.Leave v) of e past s is = absurd cc
sends_tell (calls.Reply v) of e past s is = absurd cc
sends_tell (calls.Await t) of e past s is = absurd cc
sends_tell _ of e past s is = refl

pub is_new : (setup : Setup) (past : Past) (e : Entry) (a : Answer) → IsLawful setup (e ∷ past) → e.answer ≡ a → is_sent a ≡ true → IsNew past e
is_new setup past e (answers_of.Inside s n) lawful is h =
    let i : IsInside past e.who.0 e.call s.0 n = (entry_told setup past e.who.0 e.call (answers_of.Inside s n) (sym lawful.1 ∙ is) refl).1 in
    let of = i.made.of in
    record {
      of = _;
      one = makes_one e past of i.made.is_call ∙ ap (λ a. sent_as a e past of.hwnd of.message of.wparam of.lparam of.kind) is;
      next = i.made.is_next;
      entering = λ t. ap (λ a. enters a t) is ∙ sym (ap (λ a. enters_one a && eqb s.0 t) is);
      tells_none = λ t. sends_tell e.call of e past t i.made.is_call;
    }
is_new setup past e (answers_of.Begun s) lawful is h =
    let m : IsMade past e.who.0 e.call s.0 false = (entry_told setup past e.who.0 e.call (answers_of.Begun s) (sym lawful.1 ∙ is) refl).1 in
    record {
      of = _;
      one = makes_one e past m.of m.is_call ∙ ap (λ a. sent_as a e past m.of.hwnd m.of.message m.of.wparam m.of.lparam m.of.kind) is;
      next = m.is_next;
      entering = λ t. ap (λ a. enters a t) is ∙ sym (ap (λ a. enters_one a && eqb s.0 t) is);
      tells_none = λ t. sends_tell e.call m.of e past t m.is_call;
    }
is_new setup past e _ lawful is h = absurd (false≢true h)

not_there : (b : Bool) (o : Option SentMsg) → (b ≡ true → is_some o ≡ true) → o ≡ None → b ≡ false
not_there false o h none = refl
not_there true o h none = absurd (false≢true (sym (ap (λ (p : Option SentMsg). is_some p) none) ∙ h refl))

none_of : (o : Option Outcome) → is_some o ≡ false → o ≡ None
none_of None h = refl
none_of (Some x) h = absurd (false≢true (sym h))

module _ (setup : Setup) (past : Past) (e : Entry) (lawful : IsLawful setup (e ∷ past)) (right : is_refused e ≡ false) where
  standing : Standing setup past
  standing = lawful_standing setup past lawful.0

  module _ (new : IsNew past e) where
    pub none_yet : send past new.of.number ≡ None
    none_yet = find_above 0 (sends past) new.of.number standing.counted (omega (arith, new.next))

    pub unanswered_yet : answer past new.of.number ≡ None
    unanswered_yet = none_of (answer past new.of.number)
        (ap (is_answered past) new.next
        ∙ not_there (is_answered past (suc (length (sends past)))) (send past (suc (length (sends past)))) (standing.answered (length (sends past))) (ap (send past) (sym new.next) ∙ none_yet))

    pub loses_none : loses e past new.of.number ≡ false
    loses_none = ap (λ o. elim o as (λ _. Bool) [ Some y ↦ drops_window e past y.hwnd && not (is_entered past new.of.number) | None ↦ false ]) none_yet

    still_unanswered : answer (e ∷ past) new.of.number ≡ None
    still_unanswered =
        answer-next e past new.of.number right ∙ ap (λ o. or_else o (answers e past new.of.number)) unanswered_yet
        ∙ ap (λ b. cond b (Some (outcome past 0 causes.Loss)) (answers_in e.call e past new.of.number)) loses_none ∙ new.tells_none new.of.number

    pub unentered_yet : is_entered past new.of.number ≡ false
    unentered_yet = not_there (is_entered past new.of.number) (send past new.of.number) (standing.entered new.of.number) none_yet

  -- ---- entering

  abbrev entered_later : SentMsg → Bool
  entered_later x = is_entered (e ∷ past) x.number

  abbrev entered_now : SentMsg → Bool
  entered_now x = is_entered past x.number

  -- those that were there
  entered_old : count_by entered_later (sends past) ≡ count_by entered_now (sends past) + count_by (λ x. not (is_entered past x.number) && enters e.answer x.number) (sends past)
  entered_old =
      count_same entered_later (λ x. is_entered past x.number || enters e.answer x.number) (λ x. is_entered-next e past x.number right) (sends past)
      ∙ count_either entered_now (λ x. enters e.answer x.number) (sends past)

  -- with the one that the entry makes
  entered_all : count_by entered_later (sends (e ∷ past)) ≡ count_by entered_later (sends past) + count_by entered_later (sends_by e.call e past)
  entered_all = ap (count_by entered_later) (sends-next e past right) ∙ count_more entered_later (sends past) (sends_by e.call e past)

  entered_new : IsNew past e → count_by entered_later (sends (e ∷ past)) ≡ count_by entered_now (sends past) + one_if (enters_one e.answer)
  entered_new new =
      let n = new.of.number in
      let one = ap (count_by entered_later) new.one ∙ count_next entered_later new.of [] in
      let here : is_entered (e ∷ past) n ≡ enters_one e.answer = is_entered-next e past n right ∙ ap (λ b. b || enters e.answer n) (unentered_yet new) ∙ new.entering n ∙ ap (λ b. enters_one e.answer && b) (eqb_itself n) ∙ and_last (enters_one e.answer) in
      let head = ap one_if here in
      let others = count_same (λ x. not (is_entered past x.number) && enters e.answer x.number) (λ x. (not (is_entered past x.number) && enters_one e.answer) && eqb n x.number)
      (λ x. ap (λ b. not (is_entered past x.number) && b) (new.entering x.number) ∙ joined (not (is_entered past x.number)) (enters_one e.answer) (eqb n x.number)) (sends past)
      ∙ count_one 0 n (λ k. not (is_entered past k) && enters_one e.answer) (sends past) standing.counted in
      let gone = ap (λ o. one_if (is_some o && (not (is_entered past n) && enters_one e.answer))) (none_yet new) in
      omega (arith, entered_all, entered_old, one, head, others, gone)
    where
      and_last : (b : Bool) → (b && true) ≡ b
      and_last true = refl
      and_last false = refl

      joined : (a b c : Bool) → (a && (b && c)) ≡ ((a && b) && c)
      joined true b c = refl
      joined false b c = refl

  -- a send that waited is entered
  entered_by_entry : (s : SendId) (n : ℕ) (w : Hwnd) (m q r : ℕ) → e.answer ≡ answers_of.Enter s n w m q r → count_by entered_later (sends (e ∷ past)) ≡ count_by entered_now (sends past) + one_if (enters_one e.answer)
  entered_by_entry s n w m q r is =
      let entry : IsEntry past e.who.0 e.call s.0 n w.0 m q r = (entry_told setup past e.who.0 e.call (answers_of.Enter s n w m q r) (sym lawful.1 ∙ is) refl).1 in
      let waits = of_first (ReadyStands past e.who.0) (ready past e.who.0) (to_enter entry.of) (standing.waiting e.who.0) entry.is_first in
      let none = ap (count_by entered_later) (makes_none e past (ap is_sent is)) in
      let named = count_same (λ x. not (is_entered past x.number) && enters e.answer x.number) (λ x. not (is_entered past x.number) && eqb s.0 x.number) (λ x. ap (λ a. not (is_entered past x.number) && enters a x.number) is) (sends past)
      ∙ count_one 0 s.0 (λ k. not (is_entered past k)) (sends past) standing.counted in
      let found = ap (λ k. one_if (is_some (send past k) && not (is_entered past k))) entry.is_send
      ∙ ap (λ o. one_if (is_some o && not (is_entered past entry.of.number))) waits.found ∙ ap (λ b. one_if (not b)) waits.unentered in
      let one = ap (λ a. one_if (enters_one a)) is in
      omega (arith, entered_all, entered_old, none, named, found, one)

  -- any other answer enters none
  entered_still : is_sent e.answer ≡ false → ((s : ℕ) → enters e.answer s ≡ false) → enters_one e.answer ≡ false → count_by entered_later (sends (e ∷ past)) ≡ count_by entered_now (sends past) + one_if (enters_one e.answer)
  entered_still unsent unentered none =
      let made = ap (count_by entered_later) (makes_none e past unsent) in
      let others = count_never (λ x. not (is_entered past x.number) && enters e.answer x.number) (λ x. ap (λ b. not (is_entered past x.number) && b) (unentered x.number) ∙ and-false (not (is_entered past x.number))) (sends past) in
      let one = ap one_if none in
      omega (arith, entered_all, entered_old, made, others, one)

  entered_by : (a : Answer) → e.answer ≡ a → count_by entered_later (sends (e ∷ past)) ≡ count_by entered_now (sends past) + one_if (enters_one e.answer)
  entered_by (answers_of.Inside s n) is = entered_new (is_new setup past e (answers_of.Inside s n) lawful is refl)
  entered_by (answers_of.Begun s) is = entered_new (is_new setup past e (answers_of.Begun s) lawful is refl)
  entered_by (answers_of.Enter s n w m q r) is = entered_by_entry s n w m q r is
  entered_by a is = entered_still (ap is_sent is) (λ s. ap (λ b. enters b s) is) (ap enters_one is)

  entered-counts : count_by entered_later (sends (e ∷ past)) ≡ count_by entered_now (sends past) + one_if (enters_one e.answer)
  entered-counts = entered_by e.answer refl

  -- ---- first answers

  abbrev fresh : Cause → SentMsg → Bool
  fresh c x = not (is_answered past x.number) && has_cause c (answers e past x.number)

  -- where the first answer is by a cause, it was, or this entry gives it
  first-by : (c : Cause) (o a : Option Outcome) → has_cause c (or_else o a) ≡ (has_cause c o || (not (is_some o) && has_cause c a))
  first-by c None a = refl
  first-by c (Some o) a = sym (or-false (has_cause c (Some o)))

  fresh-alone : (c : Cause) (o : Option Outcome) (b : Bool) → (not (has_cause c o) && (not (is_some o) && b)) ≡ (not (is_some o) && b)
  fresh-alone c None b = refl
  fresh-alone c (Some o) b = and-false (not (has_cause c (Some o)))

  cause_old : (c : Cause) → count_by (λ x. has_cause c (answer (e ∷ past) x.number)) (sends past) ≡ count_of_cause past c + count_by (fresh c) (sends past)
  cause_old c =
      count_same (λ x. has_cause c (answer (e ∷ past) x.number)) (λ x. has_cause c (answer past x.number) || fresh c x)
      (λ x. ap (has_cause c) (answer-next e past x.number right) ∙ first-by c (answer past x.number) (answers e past x.number)) (sends past)
      ∙ count_either (λ x. has_cause c (answer past x.number)) (fresh c) (sends past)
      ∙ ap (λ n. count_of_cause past c + n) (count_same (λ x. not (has_cause c (answer past x.number)) && fresh c x) (fresh c) (λ x. fresh-alone c (answer past x.number) (has_cause c (answers e past x.number))) (sends past))

  cause_new : (c : Cause) (b : Bool) → is_sent e.answer ≡ b → count_by (λ x. has_cause c (answer (e ∷ past) x.number)) (sends_by e.call e past) ≡ 0
  cause_new c false k = ap (count_by (λ x. has_cause c (answer (e ∷ past) x.number))) (makes_none e past k)
  cause_new c true k =
      let new = is_new setup past e e.answer lawful refl k in
      let one = ap (count_by (λ x. has_cause c (answer (e ∷ past) x.number))) new.one ∙ count_next (λ x. has_cause c (answer (e ∷ past) x.number)) new.of [] in
      let here = ap (λ o. one_if (has_cause c o)) (still_unanswered new) in
      omega (arith, one, here)

  cause-counts : (c : Cause) → count_of_cause (e ∷ past) c ≡ count_of_cause past c + count_by (fresh c) (sends past)
  cause-counts c =
      let all = ap (count_by (λ x. has_cause c (answer (e ∷ past) x.number))) (sends-next e past right) ∙ count_more (λ x. has_cause c (answer (e ∷ past) x.number)) (sends past) (sends_by e.call e past) in
      omega (arith, all, cause_old c, cause_new c (is_sent e.answer) refl)

  -- ---- an entry by which no window goes

  abbrev is_named : Cause → Option (SendId × Cause) → ℕ → Bool
  is_named c None s = false
  is_named c (Some q) s = eqb q.0.0 s && same_cause q.1 c

  cause_if : (c : Cause) (b : Bool) (o : Outcome) → has_cause c (cond b (Some o) None) ≡ (b && same_cause o.cause c)
  cause_if c true o = refl
  cause_if c false o = refl

  named_left : (c : Cause) (v s : ℕ) (a : Answer) → has_cause c (cond (left_by a s) (Some (outcome past v causes.Proc)) None) ≡ is_named c (left_send a) s
  named_left c v s (answers_of.Left t) = cause_if c (eqb t.0 s) (outcome past v causes.Proc)
  named_left c v s (answers_of.Callback t n w m extra r) = cause_if c (eqb t.0 s) (outcome past v causes.Proc)
  named_left c v s _ = refl

  named_reply : (c : Cause) (v s : ℕ) (o : Option Frame) → has_cause c (cond (is_entered_frame o s) (Some (outcome past v causes.Reply)) None) ≡ is_named c (replied_to o) s
  named_reply c v s (Some (Entered t)) = cause_if c (eqb t.0 s) (outcome past v causes.Reply)
  named_reply c v s (Some (InsideFrame t)) = refl
  named_reply c v s (Some CalledFrame) = refl
  named_reply c v s (Some CallbackRun) = refl
  named_reply c v s (Some (AwaitFrame t)) = refl
  named_reply c v s None = refl

  named_over : (c : Cause) (t s : ℕ) (b : Bool) → has_cause c (cond (b && eqb t s) (Some (outcome past 0 causes.Timeout)) None) ≡ is_named c (cond b (Some (record { 0 = t }, causes.Timeout)) None) s
  named_over c t s true = cause_if c (eqb t s) (outcome past 0 causes.Timeout)
  named_over c t s false = refl

  module _ (p : SendParts) (h : PartsStand setup past p) where
    replied : (c : Cause) (v s : ℕ) (b : Bool) → is_one e.answer ≡ b → e.call ≡ calls.Reply v → has_cause c (cond (b && is_entered_frame (top past e.who.0) s) (Some (outcome past v causes.Reply)) None) ≡ is_named c (cond b (replied_to (top_of p e.who.0)) None) s
    replied c v s false one is = refl
    replied c v s true one is =
        let running = (by_call setup past e.who.0 e.call e.answer (sym lawful.1) (ap is_of_clock is) right).running in
        named_reply c v s (top past e.who.0) ∙ ap (λ o. is_named c (replied_to o) s) (sym (top-stands setup past p e.who.0 (runs setup past e.who.0 running).0 h))

    -- the entry answers the send that it names
    named_by : (c : Cause) (s : ℕ) (call : Call) → e.call ≡ call → has_cause c (answers_in call e past s) ≡ is_named c (named_send p e.who.0 e.answer call) s
    named_by c s (calls.Leave v) is = named_left c v s e.answer
    named_by c s (calls.Reply v) is = replied c v s (is_one e.answer) refl is
    named_by c s (calls.Await t) is = named_over c t s (is_timed_out e.answer)
    named_by c s _ is = refl

    open_as : (b : Bool) (x : SentMsg) (o : Option Outcome) → is_open (cond (not (is_some o) || b) (Some (record { row = row_of x; answer = option_map as_told o; owed = is_owed past x })) None) ≡ not (is_some o)
    open_as b x None = refl
    open_as true x (Some o) = refl
    open_as false x (Some o) = refl

    -- a send is known to be open where it was made and has no answer
    open_is : (t : ℕ) (o : Option SentMsg) → send past t ≡ o → is_open (known_of past o) ≡ (is_some o && not (is_answered past t))
    open_is t None found = refl
    open_is t (Some x) found = open_as (is_stacked past x || is_owed past x) x (answer past x.number) ∙ ap (λ n. not (is_answered past n)) (standing.sent t x found).is_number

    open-stands : (t : ℕ) → is_open (map.get p.book.known t) ≡ (is_some (send past t) && not (is_answered past t))
    open-stands t = ap is_open (h.book.known t) ∙ open_is t (send past t) refl

    first_if : (c : Cause) (b : Bool) (d : Cause) → is_by c (cond b (Some d) None) ≡ (b && same_cause d c)
    first_if c true d = refl
    first_if c false d = refl

    middle : (a b k : Bool) → (a && (b && k)) ≡ ((a && k) && b)
    middle true true k = and_back k
      where
        and_back : (c : Bool) → c ≡ (c && true)
        and_back true = refl
        and_back false = refl
    middle true false k = sym (and-false k)
    middle false b k = refl

    inner : (a b k : Bool) → (a && (b && k)) ≡ ((a && b) && k)
    inner true b k = refl
    inner false b k = refl

    counted : (c : Cause) (o : Option (SendId × Cause)) → count_by (λ x. not (is_answered past x.number) && is_named c o x.number) (sends past) ≡ one_if (is_by c (first_of p o))
    counted c None = count_never (λ x. not (is_answered past x.number) && false) (λ x. and-false (not (is_answered past x.number))) (sends past)
    counted c (Some q) =
        let k = same_cause q.1 c in
        count_same (λ x. not (is_answered past x.number) && (eqb q.0.0 x.number && k)) (λ x. (not (is_answered past x.number) && k) && eqb q.0.0 x.number) (λ x. middle (not (is_answered past x.number)) (eqb q.0.0 x.number) k) (sends past)
        ∙ count_one 0 q.0.0 (λ n. not (is_answered past n) && k) (sends past) standing.counted
        ∙ ap one_if (inner (is_some (send past q.0.0)) (not (is_answered past q.0.0)) k ∙ ap (λ b. b && k) (sym (open-stands q.0.0)) ∙ sym (first_if c (is_open (map.get p.book.known q.0.0)) q.1))

    module _ (kept : (s : ℕ) → loses e past s ≡ false) where
      -- by each cause at most the send that the entry names
      fresh-named : (c : Cause) → count_by (fresh c) (sends past) ≡ one_if (is_by c (first_cause p e.who.0 e.answer e.call))
      fresh-named c =
          count_same (fresh c) (λ x. not (is_answered past x.number) && is_named c (named_send p e.who.0 e.answer e.call) x.number)
          (λ x. ap (λ b. not (is_answered past x.number) && b) (ap (λ b. has_cause c (cond b (Some (outcome past 0 causes.Loss)) (answers_in e.call e past x.number))) (kept x.number) ∙ named_by c x.number e.call refl)) (sends past)
          ∙ counted c (named_send p e.who.0 e.answer e.call)

      none_lost : (b : Bool) (o : Outcome) → same_cause o.cause causes.Loss ≡ false → has_cause causes.Loss (cond b (Some o) None) ≡ false
      none_lost true o k = k
      none_lost false o k = refl

      -- none is lost by a name
      lost_by_name : (s : ℕ) (call : Call) → has_cause causes.Loss (answers_in call e past s) ≡ false
      lost_by_name s (calls.Leave v) = none_lost (left_by e.answer s) (outcome past v causes.Proc) refl
      lost_by_name s (calls.Reply v) = none_lost (is_one e.answer && is_entered_frame (top past e.who.0) s) (outcome past v causes.Reply) refl
      lost_by_name s (calls.Await t) = none_lost (is_timed_out e.answer && eqb t s) (outcome past 0 causes.Timeout) refl
      lost_by_name s _ = refl

      fresh-unlost : count_by (fresh causes.Loss) (sends past) ≡ 0
      fresh-unlost = count_never (fresh causes.Loss) (λ x.
          ap (λ b. not (is_answered past x.number) && b) (ap (λ b. has_cause causes.Loss (cond b (Some (outcome past 0 causes.Loss)) (answers_in e.call e past x.number))) (kept x.number) ∙ lost_by_name x.number e.call)
          ∙ and-false (not (is_answered past x.number))) (sends past)

      -- the counts after an entry by which no window goes
      pub tally-kept : tally_at (e ∷ past) ≡ tallied e.answer (first_cause p e.who.0 e.answer e.call) 0 (tally_at past)
      tally-kept = same_tally entered-counts
          (cause-counts causes.Proc ∙ ap (λ n. count_of_cause past causes.Proc + n) (fresh-named causes.Proc))
          (cause-counts causes.Reply ∙ ap (λ n. count_of_cause past causes.Reply + n) (fresh-named causes.Reply))
          (cause-counts causes.Loss ∙ ap (λ n. count_of_cause past causes.Loss + n) fresh-unlost)
          (cause-counts causes.Timeout ∙ ap (λ n. count_of_cause past causes.Timeout + n) (fresh-named causes.Timeout))

    module _ (losing : IsLosing past e) where
      told_as : (c : Cause) (a l : Bool) → (not a && has_cause c (cond l (Some (outcome past 0 causes.Loss)) None)) ≡ ((is_some (cond l (Some (outcome past 0 causes.Loss)) None) && not a) && same_cause causes.Loss c)
      told_as c true l = sym (ap (λ b. b && same_cause causes.Loss c) (and-false (is_some (cond l (Some (outcome past 0 causes.Loss)) None))))
      told_as c false true = refl
      told_as c false false = refl

      told_lost : (s : ℕ) → answers e past s ≡ cond (loses e past s) (Some (outcome past 0 causes.Loss)) None
      told_lost s = ap (λ o. cond (loses e past s) (Some (outcome past 0 causes.Loss)) o) (losing.tells_none s)

      fresh_as : (c : Cause) (x : SentMsg) → fresh c x ≡ (is_newly e past x.number && same_cause causes.Loss c)
      fresh_as c x =
          ap (λ o. not (is_answered past x.number) && has_cause c o) (told_lost x.number) ∙ told_as c (is_answered past x.number) (loses e past x.number)
          ∙ sym (ap (λ (o : Option Outcome). (is_some o && not (is_answered past x.number)) && same_cause causes.Loss c) (told_lost x.number))

      and_true_last : (b : Bool) → (b && true) ≡ b
      and_true_last true = refl
      and_true_last false = refl

      fresh-lost : count_by (fresh causes.Loss) (sends past) ≡ losses e past (length (sends past))
      fresh-lost =
          count_same (fresh causes.Loss) (λ x. is_newly e past x.number) (λ x. fresh_as causes.Loss x ∙ and_true_last (is_newly e past x.number)) (sends past)
          ∙ sym (ap (λ (l : List SentMsg). length (filter (λ y. is_newly e past y.number) l)) (take_all (length (sends past)) (sends past) (omega arith)) ∙ length-filter (λ y. is_newly e past y.number) (sends past))

      fresh-other : (c : Cause) → same_cause causes.Loss c ≡ false → count_by (fresh c) (sends past) ≡ 0
      fresh-other c k = count_never (fresh c) (λ x. fresh_as c x ∙ ap (λ b. is_newly e past x.number && b) k ∙ and-false (is_newly e past x.number)) (sends past)

      -- the counts after an entry by which windows go
      pub tally-lost : (lost : ℕ) → lost ≡ losses e past (length (sends past)) → first_cause p e.who.0 e.answer e.call ≡ None → tally_at (e ∷ past) ≡ tallied e.answer (first_cause p e.who.0 e.answer e.call) lost (tally_at past)
      tally-lost lost is none = same_tally entered-counts
          (cause-counts causes.Proc ∙ ap (λ n. count_of_cause past causes.Proc + n) (fresh-other causes.Proc refl ∙ sym (ap (λ o. one_if (is_by causes.Proc o)) none)))
          (cause-counts causes.Reply ∙ ap (λ n. count_of_cause past causes.Reply + n) (fresh-other causes.Reply refl ∙ sym (ap (λ o. one_if (is_by causes.Reply o)) none)))
          (cause-counts causes.Loss ∙ ap (λ n. count_of_cause past causes.Loss + n) (fresh-lost ∙ sym is))
          (cause-counts causes.Timeout ∙ ap (λ n. count_of_cause past causes.Timeout + n) (fresh-other causes.Timeout refl ∙ sym (ap (λ o. one_if (is_by causes.Timeout o)) none)))

-- ---- a refused entry

pub no_name : (p : SendParts) (who : ℕ) (a : Answer) (call : Call) → is_refusal a ≡ true → named_send p who a call ≡ None
no_name p who (answers_of.Refused code) (calls.Leave v) h = refl
no_name p who (answers_of.Refused code) (calls.Reply v) h = refl
no_name p who (answers_of.Refused code) (calls.Await t) h = refl
no_name p who (answers_of.Refused code) call h = refl
no_name p who _ call h = absurd (false≢true h)

unentering : (a : Answer) → is_refusal a ≡ true → enters_one a ≡ false
unentering (answers_of.Refused code) h = refl
unentering _ h = absurd (false≢true h)

-- the counts after a refused entry
pub tally-refused : (past : Past) (e : Entry) (p : SendParts) → is_refused e ≡ true → tally_at (e ∷ past) ≡ tallied e.answer (first_cause p e.who.0 e.answer e.call) 0 (tally_at past)
tally-refused past e p right =
    let first : first_cause p e.who.0 e.answer e.call ≡ None = ap (first_of p) (no_name p e.who.0 e.answer e.call right) in
    let by : (c : Cause) → count_of_cause (e ∷ past) c ≡ count_of_cause past c = λ c.
    ap (count_by (λ x. has_cause c (answer (e ∷ past) x.number))) (sends-refused e past right)
    ∙ count_same (λ x. has_cause c (answer (e ∷ past) x.number)) (λ x. has_cause c (answer past x.number)) (λ x. ap (has_cause c) (answer-refused e past x.number right)) (sends past) in
    let none : (c : Cause) → one_if (is_by c (first_cause p e.who.0 e.answer e.call)) ≡ 0 = λ c. ap (λ o. one_if (is_by c o)) first in
    let entered =
    ap (count_by (λ x. is_entered (e ∷ past) x.number)) (sends-refused e past right)
    ∙ count_same (λ x. is_entered (e ∷ past) x.number) (λ x. is_entered past x.number) (λ x. is_entered-refused e past x.number right) (sends past) in
    let unentered = ap one_if (unentering e.answer right) in
    same_tally (omega (arith, entered, unentered)) (omega (arith, by causes.Proc, none causes.Proc)) (omega (arith, by causes.Reply, none causes.Reply)) (omega (arith, by causes.Loss)) (omega (arith, by causes.Timeout, none causes.Timeout))

-- ---- how many are lost

-- the changes of `lose` are counted as the past counts them
pub lost-counted : (setup : Setup) (past : Past) (e : Entry) (p : SendParts) (test : ℕ → Bool) → IsLawful setup past → IsLosing past e → PartsStand setup past p → ((w : ℕ) → test w ≡ drops_window e past w) → lost_count test p (place_after past) ≡ losses e past (length (sends past))
lost-counted setup past e p test lawful losing h same =
    let at : LostTo setup past e p p.book.begun (lost_to test (p, rank (place_after past) 0) p.book.begun) = lost-stands setup past e lawful (lawful_standing setup past lawful) losing p h test same p.book.begun in
    let ranks = at.ranks in
    let all = ap (losses e past) h.book.begun in
    omega (arith, ranks, all)
