-- A lawful end of the procedure of a send that was entered: the parts stand on.
use Rattle.std.proofs.Common.{◌≡◌, ℕ, ◌≤◌, Bool, true, false, cond, eqb, List, ◌∷◌, Option, Some, None, refl, ap, ◌∙◌, sym, subst}
use Rattle.std.specs.Prelude.{◌||◌, drop, is_some}
use Rattle.std.specs.List.{AllByRecursion, list_any}
use Rattle.std.specs.FinMap as map
use Rattle.std.proofs.lemmas.Bool.{false≢true}
use Rattle.win_num.specs.declared.send.SendId.{SendId}
use Rattle.win_num.specs.declared.send.Cause.TheVariants.{Loss, Proc}
use Rattle.win_num.specs.declared.send.Frame.{Frame}
use Rattle.win_num.specs.declared.send.Frame.TheVariants.{Entered}
use Rattle.user_model.specs.declared.call.Call.TheVariants.{Leave}
use Rattle.user_model.specs.declared.entry.Entry.{Entry}
use Rattle.user_model.specs.declared.entry.Setup.{Setup}
use Rattle.user_model.specs.declared.entry.Answer.TheVariants as answers
use Rattle.user_model.specs.Past.{Past, is_refused, place_after}
use Rattle.user_model.specs.Places.{is_end}
use Rattle.user_model.specs.Stacks.{stack, stacked, top}
use Rattle.user_model.specs.Sends.{Outcome, answer, answers, answers_in, calls_back, enters, is_answered, is_stacked, left_by, names_send, outcome}
use Rattle.user_model.specs.Legal.{IsLawful}
use Rattle.user_model.proofs.SendLaws.{is_sent, makes_none}
use Rattle.user_model.proofs.SendReplies.{entry_told}
use Rattle.user_model.proofs.AnswerFacts.{IsLeft, LeftFrom}
use Rattle.user_model.proofs.SendLawful.{lawful_standing}
use Rattle.user_model.proofs.SendStanding.{FrameStands, IsReceived, Standing}
use Rattle.send_state.specs.Parts.{SendParts, left}
use Rattle.send_state.specs.Standing.{IsOurs, PartsStand}
use Rattle.send_state.proofs.Still.{is_drop, is_owed-same, loses-none}
use Rattle.send_state.proofs.Serving.{eqb_itself}
use Rattle.send_state.proofs.Answering.{IsAnswering}
use Rattle.send_state.proofs.Finishing.{IsFinishing, stand-left-answered}
use Rattle.send_state.proofs.Leaving.{stand-left}
use Rattle.send_state.proofs.Told.{runs}
use Rattle.send_state.proofs.ToldDone.{split_top}
use Rattle.send_state.proofs.ToldReplied.{none_if_not, unlisted}

pub or_second : (a b : Bool) → b ≡ true → (a || b) ≡ true
or_second true b h = refl
or_second false b h = h

pub or_first : (a b : Bool) → a ≡ true → (a || b) ≡ true
or_first true b h = refl
or_first false b h = absurd (false≢true h)

module _ (setup : Setup) (past : Past) (e : Entry) (p : SendParts) (v : ℕ) (s f : SendId) (lawful : IsLawful setup (e ∷ past)) (h : PartsStand setup past p) (few : map.len p.book.known ≤ 1024) (is_call : e.call ≡ Leave v) (is : e.answer ≡ answers.Left s)
    (is_top : top past e.who.0 ≡ Some (Entered f)) where
  before : Standing setup past
  before = lawful_standing setup past lawful.0

  after : Standing setup (e ∷ past)
  after = lawful_standing setup (e ∷ past) lawful

  own : IsOurs setup e.who.0
  own = (runs setup past e.who.0 (entry_told setup past e.who.0 e.call (answers.Left s) (sym lawful.1 ∙ is) refl).0.running).0

  left_is : IsLeft past e.who.0 e.call s.0
  left_is = (entry_told setup past e.who.0 e.call (answers.Left s) (sym lawful.1 ∙ is) refl).1

  same : s.0 ≡ f.0
  same = subst (λ o. LeftFrom past o s.0) is_top left_is.from

  abbrev fs : List Frame
  fs = (split_top (stack past e.who.0) (Entered f) is_top).0

  is_stack : stack past e.who.0 ≡ Entered f ∷ fs
  is_stack = (split_top (stack past e.who.0) (Entered f) is_top).1

  abbrev received : IsReceived past e.who.0 f.0
  received = (subst (AllByRecursion (FrameStands past e.who.0)) is_stack (before.frames e.who.0)).0

  told_here : (q : ℕ) → answers e past q ≡ cond (eqb f.0 q) (Some (outcome past v Proc)) None
  told_here q =
      ap (λ b. cond b (Some (outcome past 0 Loss)) (answers_in e.call e past q)) (loses-none e past q (ap is_drop is_call) (ap is_end is))
      ∙ ap (λ c. answers_in c e past q) is_call ∙ ap (λ a. cond (left_by a q) (Some (outcome past v Proc)) None) is
      ∙ ap (λ n. cond (eqb n q) (Some (outcome past v Proc)) None) same

  tells_other : (q : ℕ) → eqb f.0 q ≡ false → answers e past q ≡ None
  tells_other q differ = told_here q ∙ ap (λ b. cond b (Some (outcome past v Proc)) None) differ

  pops : (l : List Frame) → stacked e.call e.answer l ≡ drop 1 l
  pops l = ap (λ a. stacked e.call a l) is

  framed : is_stacked past received.of ≡ true
  framed =
      or_second (list_any (λ g. names_send g received.of.number) (stack past received.of.from)) (list_any (λ g. names_send g received.of.number) (stack past received.of.to))
      (ap (λ t. list_any (λ g. names_send g received.of.number) (stack past t)) received.to ∙ ap (list_any (λ g. names_send g received.of.number)) is_stack
      ∙ or_first (eqb f.0 received.of.number) (list_any (λ g. names_send g received.of.number) fs) (ap (eqb f.0) (before.sent f.0 received.of received.found).is_number ∙ eqb_itself f.0))

  answered_before : (o : Option Outcome) → answer past f.0 ≡ o → is_some o ≡ true → PartsStand setup (e ∷ past) (left p e.who.0 v (place_after past))
  answered_before None k t = absurd (false≢true t)
  answered_before (Some o) k t =
      let finishing : IsFinishing past e (Entered f) f.0 received.of o = record {
        right = ap (λ a. is_refused (record e { answer = a })) is;
        running = ap is_end is;
        none_made = makes_none e past (ap is_sent is);
        tells_other = tells_other;
        enters_none = λ q. ap (λ a. enters a q) is;
        hands_none = λ q. ap (λ a. calls_back a q) is;
        answered = k;
        found = received.found;
        framed = framed;
        names = refl;
        names_other = λ q differ. differ;
        below = fs;
        is_stack = is_stack;
        pops = pops;
      } in
      stand-left-answered setup past e (Entered f) f.0 received.of o finishing before p f v refl refl after own h

  by : (b : Bool) → is_answered past f.0 ≡ b → PartsStand setup (e ∷ past) (left p e.who.0 v (place_after past))
  by true k = answered_before (answer past f.0) refl k
  by false k =
      let answering : IsAnswering past e f.0 received.of v Proc = record {
        right = ap (λ a. is_refused (record e { answer = a })) is;
        running = ap is_end is;
        none_made = makes_none e past (ap is_sent is);
        found = received.found;
        unanswered = none_if_not (answer past f.0) k;
        gives = told_here f.0 ∙ ap (λ b. cond b (Some (outcome past v Proc)) None) (eqb_itself f.0);
        tells_other = tells_other;
        enters_none = λ q. ap (λ a. enters a q) is;
        hands_other = λ q differ. ap (λ a. calls_back a q) is;
        owed_same = is_owed-same e past received.of (ap is_end is) (ap (λ a. calls_back a received.of.number) is);
      } in
      stand-left setup past e f received.of v Proc answering before p fs lawful.0 after own few (unlisted setup past f.0 before received.entered k) refl received.to is_stack pops h

  -- the procedure of an entered send is left, whether the send was answered before or not
  pub told-left : PartsStand setup (e ∷ past) (left p e.who.0 v (place_after past))
  told-left = by (is_answered past f.0) refl
