-- What an entry adds to the stories of sends.
use Rattle.std.proofs.Common.{◌≡◌, ℕ, ◌+◌, ◌<◌, Bool, true, false, not, cond, eqb, List, [], ◌∷◌, ◌++◌, get_or, length, Option, Some, None, refl, ap, ◌∙◌, sym, subst, arith}
use Rattle.std.specs.Prelude.{◌&&◌, ◌||◌, is_some, option_map}
use Rattle.std.specs.Option.{option_or}
use Rattle.std.proofs.lemmas.Bool.{false≢true}
use Rattle.std.proofs.lemmas.Bool.Decides.{nat_tests}
use Rattle.std.proofs.lemmas.List.{append-nil, get_or_append_left, length-append}
use Rattle.std.proofs.Math.Seq.{get_or-append_seam}
use Rattle.win_num.specs.declared.send.Cause.TheVariants as causes
use Rattle.win_num.specs.declared.send.Frame.{Frame}
use Rattle.win_num.specs.declared.send.Frame.TheVariants.{Entered as EnteredFrame, Inside as InsideFrame, Called as CalledFrame, CallbackRun, Await as AwaitFrame}
use Rattle.user_model.specs.declared.call.Call.{Call}
use Rattle.user_model.specs.declared.call.Call.TheVariants as calls
use Rattle.user_model.specs.declared.entry.Answer.{Answer}
use Rattle.user_model.specs.declared.entry.Answer.TheVariants as answers_of
use Rattle.user_model.specs.declared.entry.Entry.{Entry}
use Rattle.user_model.specs.declared.entry.Setup.{Setup}
use Rattle.user_model.specs.Past.{Past, first, is_refusal, is_refused, or_else, place_after}
use Rattle.user_model.specs.Windows.{drops_window}
use Rattle.user_model.specs.Stacks.{top}
use Rattle.user_model.specs.Sends.{SentMsg, Outcome, answer, answers, answers_in, enters, is_entered, is_entered_frame, is_one, is_owed, is_stacked, is_timed_out, left_by, loses, outcome, send, sends}
use Rattle.user_model.specs.SendStories.{entered_by, entries}
use Rattle.user_model.specs.Legal.{IsLawful}
use Rattle.user_model.proofs.PastLaws.{each_of-next, ever-next, first_way}
use Rattle.user_model.proofs.ReplyLaws.{by_call, is_of_clock}
use Rattle.user_model.proofs.SendLawful.{lawful_standing}
use Rattle.user_model.proofs.SendLaws.{answer-next, answer-refused, is_sent, makes_none, sends-next, sends-refused}
use Rattle.user_model.proofs.SendStanding.{Standing}
use Rattle.send_state.specs.Parts.{SendParts, is_losable, top_of}
use Rattle.send_state.specs.Standing.{PartsStand, as_told, known_of, row_of}
use Rattle.user_model.specs.Stories.{entered_at, no_story, story_of}
use Rattle.send_state.specs.Stories.{EachStory, StoriesStand, with_begun, noted_answer, noted_entering, noted_loss, noted_naming, told, with_answer}
use Rattle.send_state.specs.Tallies.{left_send, named_send, replied_to}
use Rattle.user_model.specs.declared.story.SendStory.{SendStory}
use Rattle.send_state.specs.declared.story.Event.TheVariants.{Entered, Lost}
use Rattle.send_state.proofs.LostSends.{IsLosing}
use Rattle.send_state.proofs.Tallies.{IsNew, is_new, loses_none, no_name, unanswered_yet, unentered_yet}
use Rattle.send_state.proofs.Told.{runs}
use Rattle.send_state.proofs.Values.{top-stands}

-- a story of where a send was entered and how it was answered
abbrev story : Option ℕ → Option Outcome → SendStory
story entered o = record { entered_at = entered; answered_at = option_map (λ a. a.place) o; cause = option_map (λ a. a.cause) o }

-- a story with an answer that may be none
abbrev with_told : Option Outcome → SendStory → SendStory
with_told None x = x
with_told (Some o) x = with_answer o.cause o.place x

or_none : {A : Type 0} (o : Option A) → or_else o None ≡ o
or_none None = refl
or_none (Some a) = refl

or_as : {A : Type 0} (o p : Option A) → or_else o p ≡ option_or o p
or_as None p = refl
or_as (Some a) p = refl

answer_told : (entered : Option ℕ) (o a : Option Outcome) → story entered (or_else o a) ≡ with_told a (story entered o)
answer_told entered None None = refl
answer_told entered None (Some a) = refl
answer_told entered (Some o) None = refl
answer_told entered (Some o) (Some a) = refl

entering_told : (entered : Option ℕ) (o : Option Outcome) (b : Bool) (place : ℕ) → story (or_else entered (cond b (Some place) None)) o ≡ cond b (told Entered place (story entered o)) (story entered o)
entering_told entered o true place = ap (λ n. story n o) (or_as entered (Some place))
entering_told entered o false place = ap (λ n. story n o) (or_none entered)

told_if : (b : Bool) (o : Outcome) (x : SendStory) → with_told (cond b (Some o) None) x ≡ cond b (with_answer o.cause o.place x) x
told_if true o x = refl
told_if false o x = refl

both : (b : Bool) (x : SendStory) → cond b x x ≡ x
both true x = refl
both false x = refl

and_true : (b : Bool) → (b && true) ≡ b
and_true true = refl
and_true false = refl

and_false : (b : Bool) → (b && false) ≡ false
and_false true = refl
and_false false = refl

-- ---- one entry more

-- the place of the entry, where it enters the send
abbrev entered_here : ℕ → Entry → Past → Option ℕ
entered_here s e before = cond (enters e.answer s) (Some (place_after before)) None

first_of_two : (l m : List ℕ) → first (l ++ m) ≡ or_else (first l) (first m)
first_of_two [] m = refl
first_of_two (n ∷ l) m = refl

first_if : (b : Bool) (n : ℕ) → first (cond b (n ∷ []) []) ≡ cond b (Some n) None
first_if true n = refl
first_if false n = refl

entered_at-next : (e : Entry) (past : Past) (s : ℕ) → is_refused e ≡ false → entered_at (e ∷ past) s ≡ or_else (entered_at past s) (entered_here s e past)
entered_at-next e past s right =
    ap (λ (l : List ℕ). first l) (each_of-next (entered_by s) e past right) ∙ first_of_two (entries past s) (entered_by s e past)
    ∙ ap (λ o. or_else (entered_at past s) o) (first_if (enters e.answer s) (place_after past))

entered_at-refused : (e : Entry) (past : Past) (s : ℕ) → is_refused e ≡ true → entered_at (e ∷ past) s ≡ entered_at past s
entered_at-refused e past s refused = ap (λ (l : List ℕ). first l) (first_way (is_refused e) (entries past s) (entries past s ++ entered_by s e past) refused)

story-refused : (e : Entry) (past : Past) (s : ℕ) → is_refused e ≡ true → story_of (e ∷ past) s ≡ story_of past s
story-refused e past s refused = ap (λ n. story n (answer (e ∷ past) s)) (entered_at-refused e past s refused) ∙ ap (story (entered_at past s)) (answer-refused e past s refused)

story-next : (e : Entry) (past : Past) (s : ℕ) → is_refused e ≡ false → story_of (e ∷ past) s ≡ with_told (answers e past s) (noted_entering e.answer (place_after past) s (story_of past s))
story-next e past s right =
    ap (λ n. story n (answer (e ∷ past) s)) (entered_at-next e past s right)
    ∙ ap (story (or_else (entered_at past s) (entered_here s e past))) (answer-next e past s right)
    ∙ answer_told (or_else (entered_at past s) (entered_here s e past)) (answer past s) (answers e past s)
    ∙ ap (with_told (answers e past s)) (entering_told (entered_at past s) (answer past s) (enters e.answer s) (place_after past))

-- a send was entered where there is a place at which it was
entered_both : (past : Past) (s : ℕ) → is_some (entered_at past s) ≡ is_entered past s
entered_both [] s = refl
entered_both (e ∷ past) s = by (entered_both past s) (is_refused e) refl where
  joined : (o : Option ℕ) (b c : Bool) (place : ℕ) → is_some o ≡ c → is_some (or_else o (cond b (Some place) None)) ≡ (c || b)
  joined None true c place h = ap (λ d. d || true) h
  joined None false c place h = ap (λ d. d || false) h
  joined (Some n) b c place h = ap (λ d. d || b) h

  by : is_some (entered_at past s) ≡ is_entered past s → (b : Bool) → is_refused e ≡ b → is_some (entered_at (e ∷ past) s) ≡ is_entered (e ∷ past) s
  by so true h = ap (λ (o : Option ℕ). is_some o) (entered_at-refused e past s h) ∙ so ∙ sym (first_way (is_refused e) (is_entered past s) (elim (is_entered past s) as (λ c. Bool) [ true ↦ true | false ↦ enters e.answer s ]) h)
  by so false h =
      ap (λ (o : Option ℕ). is_some o) (entered_at-next e past s h) ∙ joined (entered_at past s) (enters e.answer s) (is_entered past s) (place_after past) so
      ∙ sym (ever-next (λ (f : Entry) (before : Past). enters f.answer s) e past h)

module _ (setup : Setup) (past : Past) (e : Entry) (lawful : IsLawful setup (e ∷ past)) (right : is_refused e ≡ false) (p : SendParts) (h : PartsStand setup past p) where
  standing : Standing setup past
  standing = lawful_standing setup past lawful.0

  -- ---- the send that the entry names

  named_left : (v s : ℕ) (a : Answer) (x : SendStory) → with_told (cond (left_by a s) (Some (outcome past v causes.Proc)) None) x ≡ noted_naming (left_send a) (place_after past) s x
  named_left v s (answers_of.Left t) x = told_if (eqb t.0 s) (outcome past v causes.Proc) x
  named_left v s (answers_of.Callback t n w m extra r) x = told_if (eqb t.0 s) (outcome past v causes.Proc) x
  named_left v s _ x = refl

  named_reply : (v s : ℕ) (o : Option Frame) (x : SendStory) → with_told (cond (is_entered_frame o s) (Some (outcome past v causes.Reply)) None) x ≡ noted_naming (replied_to o) (place_after past) s x
  named_reply v s (Some (EnteredFrame t)) x = told_if (eqb t.0 s) (outcome past v causes.Reply) x
  named_reply v s (Some (InsideFrame t)) x = refl
  named_reply v s (Some CalledFrame) x = refl
  named_reply v s (Some CallbackRun) x = refl
  named_reply v s (Some (AwaitFrame t)) x = refl
  named_reply v s None x = refl

  replied : (v s : ℕ) (b : Bool) (x : SendStory) → is_one e.answer ≡ b → e.call ≡ calls.Reply v → with_told (cond (b && is_entered_frame (top past e.who.0) s) (Some (outcome past v causes.Reply)) None) x ≡ noted_naming (cond b (replied_to (top_of p e.who.0)) None) (place_after past) s x
  replied v s false x one is = refl
  replied v s true x one is =
      let running = (by_call setup past e.who.0 e.call e.answer (sym lawful.1) (ap is_of_clock is) right).running in
      named_reply v s (top past e.who.0) x ∙ ap (λ o. noted_naming (replied_to o) (place_after past) s x) (sym (top-stands setup past p e.who.0 (runs setup past e.who.0 running).0 h))

  named_over : (t s : ℕ) (b : Bool) (x : SendStory) → with_told (cond (b && eqb t s) (Some (outcome past 0 causes.Timeout)) None) x ≡ noted_naming (cond b (Some (record { 0 = t }, causes.Timeout)) None) (place_after past) s x
  named_over t s true x = told_if (eqb t s) (outcome past 0 causes.Timeout) x
  named_over t s false x = refl

  named_by : (s : ℕ) (call : Call) (x : SendStory) → e.call ≡ call → with_told (answers_in call e past s) x ≡ noted_naming (named_send p e.who.0 e.answer call) (place_after past) s x
  named_by s (calls.Leave v) x is = named_left v s e.answer x
  named_by s (calls.Reply v) x is = replied v s (is_one e.answer) x refl is
  named_by s (calls.Await t) x is = named_over t s (is_timed_out e.answer) x
  named_by s _ x is = refl

  story-kept : (s : ℕ) → loses e past s ≡ false → story_of (e ∷ past) s ≡ noted_answer e.answer (named_send p e.who.0 e.answer e.call) (place_after past) s (story_of past s)
  story-kept s kept =
      let x = noted_entering e.answer (place_after past) s (story_of past s) in
      story-next e past s right ∙ ap (λ b. with_told (cond b (Some (outcome past 0 causes.Loss)) (answers_in e.call e past s)) x) kept ∙ named_by s e.call x refl

  -- ---- a send that is begun

  module _ (new : IsNew past e) where
    fresh : story_of past new.of.number ≡ no_story
    fresh =
        ap (λ n. story n (answer past new.of.number)) (none_at (entered_at past new.of.number) (entered_both past new.of.number ∙ unentered_yet setup past e lawful right new))
        ∙ ap (story None) (unanswered_yet setup past e lawful right new)
      where
        none_at : (o : Option ℕ) → is_some o ≡ false → o ≡ None
        none_at None k = refl
        none_at (Some n) k = absurd (false≢true (sym k))

    story-new : story_of (e ∷ past) new.of.number ≡ noted_answer e.answer (named_send p e.who.0 e.answer e.call) (place_after past) new.of.number no_story
    story-new = story-kept new.of.number (loses_none setup past e lawful right new) ∙ ap (noted_answer e.answer (named_send p e.who.0 e.answer e.call) (place_after past) new.of.number) fresh

  -- ---- a send whose window goes

  module _ (losing : IsLosing past e) (test : ℕ → Bool) (same : (w : ℕ) → test w ≡ drops_window e past w) where
    abbrev lost_if : Bool → Option Outcome
    lost_if b = cond b (Some (outcome past 0 causes.Loss)) None

    told_loss : (entered : Option ℕ) (o : Option Outcome) (d c : Bool) → (o ≡ None → c ≡ d) → with_told (lost_if (d && not (is_some entered))) (story entered o) ≡ cond c (told Lost (place_after past) (story entered o)) (story entered o)
    told_loss None None d c k = ap (λ b. with_told (lost_if b) (story None None)) (and_true d ∙ sym (k refl)) ∙ told_if c (outcome past 0 causes.Loss) (story None None)
    told_loss (Some n) None d c k = ap (λ b. with_told (lost_if b) (story (Some n) None)) (and_false d) ∙ sym (both c (story (Some n) None))
    told_loss None (Some o) d c k = told_if (d && true) (outcome past 0 causes.Loss) (story None (Some o)) ∙ both (d && true) (story None (Some o)) ∙ sym (both c (story None (Some o)))
    told_loss (Some n) (Some o) d c k = ap (λ b. with_told (lost_if b) (story (Some n) (Some o))) (and_false d) ∙ sym (both c (story (Some n) (Some o)))

    -- an unanswered send is known
    known_unanswered : (x : SentMsg) → answer past x.number ≡ None → is_losable test (known_of past (Some x)) ≡ test x.hwnd
    known_unanswered x none =
        ap (λ (o : Option Outcome). is_losable test (cond (not (is_some o) || (is_stacked past x || is_owed past x)) (Some (record { row = row_of x; answer = option_map as_told o; owed = is_owed past x })) None)) none
        ∙ and_true (test x.hwnd)

    loss_by : (s : ℕ) (o : Option SentMsg) → send past s ≡ o → loses e past s ≡ (elim o as (λ _. Bool) [ Some y ↦ drops_window e past y.hwnd && not (is_entered past s) | None ↦ false ]) → with_told (lost_if (loses e past s)) (story_of past s) ≡ cond (is_losable test (known_of past o)) (told Lost (place_after past) (story_of past s)) (story_of past s)
    loss_by s None found is = ap (λ b. with_told (lost_if b) (story_of past s)) is
    loss_by s (Some y) found is =
        let number = (standing.sent s y found).is_number in
        ap (λ b. with_told (lost_if b) (story_of past s)) (is ∙ ap (λ b. drops_window e past y.hwnd && not b) (sym (entered_both past s)))
        ∙ told_loss (entered_at past s) (answer past s) (drops_window e past y.hwnd) (is_losable test (known_of past (Some y)))
        (λ none. known_unanswered y (ap (answer past) number ∙ none) ∙ same y.hwnd)

    unentering : (s : ℕ) (x : SendStory) → noted_entering e.answer (place_after past) s x ≡ x
    unentering s x = ap (λ b. cond b (told Entered (place_after past) x) x) (losing.enters_none s)

    story-lost : (s : ℕ) → named_send p e.who.0 e.answer e.call ≡ None → story_of (e ∷ past) s ≡ noted_answer e.answer (named_send p e.who.0 e.answer e.call) (place_after past) s (noted_loss test p (place_after past) s (story_of past s))
    story-lost s none =
        let lost = noted_loss test p (place_after past) s (story_of past s) in
        story-next e past s right ∙ ap (with_told (answers e past s)) (unentering s (story_of past s))
        ∙ ap (λ o. with_told (cond (loses e past s) (Some (outcome past 0 causes.Loss)) o) (story_of past s)) (losing.tells_none s)
        ∙ loss_by s (send past s) refl refl
        ∙ ap (λ o. cond (is_losable test o) (told Lost (place_after past) (story_of past s)) (story_of past s)) (sym (h.book.known s))
        ∙ sym (ap (λ q. noted_naming q (place_after past) s (noted_entering e.answer (place_after past) s lost)) none ∙ unentering s lost)

-- ---- the stories of all sends

abbrev Noting : Type 0
Noting = ℕ → SendStory → SendStory

module _ (setup : Setup) (past : Past) (e : Entry) (lawful : IsLawful setup (e ∷ past)) (p : SendParts) (h : PartsStand setup past p) (old : List SendStory) (stands : StoriesStand past old) where
  abbrev named : Noting
  named = noted_answer e.answer (named_send p e.who.0 e.answer e.call) (place_after past)

  -- two changes, one after the other
  both_changes : (f g : Noting) (first mid last : List SendStory) → EachStory f first mid → EachStory g mid last → EachStory (λ s x. g s (f s x)) first last
  both_changes f g first mid last one two = record {
    same_length = two.same_length ∙ one.same_length;
    at = λ i d lt. two.at i d (omega (arith, lt, one.same_length)) ∙ ap (g (i + 1)) (one.at i d lt);
  }

  -- where no send is made
  unmade : (f : Noting) (new : List SendStory) → sends (e ∷ past) ≡ sends past → ((s : ℕ) → story_of (e ∷ past) s ≡ f s (story_of past s)) → EachStory f old new → StoriesStand (e ∷ past) new
  unmade f new same step each = record {
    all = each.same_length ∙ stands.all ∙ sym (ap (λ (l : List SentMsg). length l) same);
    at = λ i d lt. let within : i < length old = omega (arith, lt, each.same_length) in each.at i d within ∙ ap (f (i + 1)) (stands.at i d within) ∙ sym (step (i + 1));
  }

  -- where one is made
  made : (new : List SendStory) → is_refused e ≡ false → ((s : ℕ) → loses e past s ≡ false) → IsNew past e → EachStory named (old ++ no_story ∷ []) new → StoriesStand (e ∷ past) new
  made new right kept one each =
      let more = length-append old (no_story ∷ []) in
      let many = ap (λ (l : List SentMsg). length l) (sends-next e past right ∙ ap (λ l. sends past ++ l) one.one) ∙ length-append (sends past) (one.of ∷ []) in
      let counted = stands.all in
      record {
        all = omega (arith, each.same_length, more, many, counted);
        at = λ i d lt. let within : i < length (old ++ no_story ∷ []) = omega (arith, lt, each.same_length) in each.at i d within ∙ by i d within (eqb i (length old)) refl;
      }
    where
      by : (i : ℕ) (d : SendStory) → i < length (old ++ no_story ∷ []) → (b : Bool) → eqb i (length old) ≡ b → named (i + 1) (get_or (old ++ no_story ∷ []) i d) ≡ story_of (e ∷ past) (i + 1)
      by i d lt true is =
          let last : i ≡ length old = grind (arith, nat_tests, is) in
          let number : i + 1 ≡ one.of.number = omega (arith, last, stands.all, one.next) in
          ap (λ n. named (n + 1) (get_or (old ++ no_story ∷ []) n d)) last ∙ ap (named (length old + 1)) (get_or-append_seam old no_story [] d)
          ∙ ap (λ n. named (n + 1) no_story) (sym last) ∙ ap (λ n. named n no_story) number ∙ sym (story-new setup past e lawful right p h one) ∙ ap (story_of (e ∷ past)) (sym number)
      by i d lt false is =
          let more = length-append old (no_story ∷ []) in
          let within : i < length old = grind (arith, nat_tests, is, lt, more) in
          ap (named (i + 1)) (get_or_append_left old (no_story ∷ []) d i within ∙ stands.at i d within) ∙ sym (story-kept setup past e lawful right p h (i + 1) (kept (i + 1)))

  unbegun : (a : Answer) → is_sent a ≡ false → with_begun a old ≡ old
  unbegun (answers_of.Inside s n) k = absurd (false≢true (sym k))
  unbegun (answers_of.Begun s) k = absurd (false≢true (sym k))
  unbegun _ k = refl

  begun : (a : Answer) → is_sent a ≡ true → with_begun a old ≡ old ++ no_story ∷ []
  begun (answers_of.Inside s n) k = refl
  begun (answers_of.Begun s) k = refl
  begun _ k = absurd (false≢true k)

  unsent : (a : Answer) → is_refusal a ≡ true → is_sent a ≡ false
  unsent (answers_of.Refused code) k = refl
  unsent _ k = absurd (false≢true k)

  unentering_refused : (a : Answer) → is_refusal a ≡ true → (s : ℕ) → enters a s ≡ false
  unentering_refused (answers_of.Refused code) k s = refl
  unentering_refused _ k s = absurd (false≢true k)

  -- after a refused entry
  pub stories-refused : (mid new : List SendStory) → is_refused e ≡ true → EachStory (λ s x. x) (with_begun e.answer old) mid → EachStory named mid new → StoriesStand (e ∷ past) new
  stories-refused mid new refused none noted =
      unmade named new (sends-refused e past refused)
      (λ s. story-refused e past s refused ∙ sym (ap (λ q. noted_naming q (place_after past) s (noted_entering e.answer (place_after past) s (story_of past s))) (no_name p e.who.0 e.answer e.call refused)
      ∙ ap (λ b. cond b (told Entered (place_after past) (story_of past s)) (story_of past s)) (unentering_refused e.answer refused s)))
      (subst (λ (l : List SendStory). EachStory named l new) (unbegun e.answer (unsent e.answer refused)) (both_changes (λ s x. x) named (with_begun e.answer old) mid new none noted))

  -- after one by which no window goes
  pub stories-kept : (mid new : List SendStory) → is_refused e ≡ false → ((s : ℕ) → loses e past s ≡ false) → EachStory (λ s x. x) (with_begun e.answer old) mid → EachStory named mid new → StoriesStand (e ∷ past) new
  stories-kept mid new right kept none noted = by (is_sent e.answer) refl
    where
      all : EachStory named (with_begun e.answer old) new
      all = both_changes (λ s x. x) named (with_begun e.answer old) mid new none noted

      by : (b : Bool) → is_sent e.answer ≡ b → StoriesStand (e ∷ past) new
      by true k = made new right kept (is_new setup past e e.answer lawful refl k) (subst (λ (l : List SendStory). EachStory named l new) (begun e.answer k) all)
      by false k =
          unmade named new (sends-next e past right ∙ ap (λ l. sends past ++ l) (makes_none e past k) ∙ append-nil (sends past)) (λ s. story-kept setup past e lawful right p h s (kept s))
          (subst (λ (l : List SendStory). EachStory named l new) (unbegun e.answer k) all)

  -- after one by which windows go
  pub stories-lost : (mid new : List SendStory) (test : ℕ → Bool) → IsLosing past e → ((w : ℕ) → test w ≡ drops_window e past w) → named_send p e.who.0 e.answer e.call ≡ None → is_sent e.answer ≡ false
      → EachStory (noted_loss test p (place_after past)) (with_begun e.answer old) mid → EachStory named mid new → StoriesStand (e ∷ past) new
  stories-lost mid new test losing same none k lost noted =
      unmade (λ s x. named s (noted_loss test p (place_after past) s x)) new
      (sends-next e past losing.right ∙ ap (λ l. sends past ++ l) losing.none_made ∙ append-nil (sends past))
      (λ s. story-lost setup past e lawful losing.right p h losing test same s none)
      (subst (λ (l : List SendStory). EachStory (λ s x. named s (noted_loss test p (place_after past) s x)) l new) (unbegun e.answer k) (both_changes (noted_loss test p (place_after past)) named (with_begun e.answer old) mid new lost noted))
