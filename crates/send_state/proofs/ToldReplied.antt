-- A lawful reply to a send, and a lawful end of the procedure of a send that was entered: the parts stand on.
use Rattle.std.proofs.Common.{◌≡◌, ℕ, ◌≤◌, Bool, true, false, cond, eqb, ◌∷◌, Option, Some, None, refl, ap, ◌∙◌, sym, subst}
use Rattle.std.specs.Prelude.{◌&&◌, is_some}
use Rattle.std.specs.List.{AllByRecursion}
use Rattle.std.specs.FinMap as map
use Rattle.std.proofs.lemmas.Bool.{false≢true, eqb-true}
use Rattle.win_num.specs.declared.send.SendId.{SendId}
use Rattle.win_num.specs.declared.send.Cause.TheVariants.{Loss, Reply as ByReply}
use Rattle.win_num.specs.declared.send.Frame.{Frame}
use Rattle.win_num.specs.declared.send.Frame.TheVariants.{Entered, Inside, Called, CallbackRun, Await}
use Rattle.user_model.specs.declared.call.Call.TheVariants.{Reply}
use Rattle.user_model.specs.declared.entry.Entry.{Entry}
use Rattle.user_model.specs.declared.entry.Setup.{Setup}
use Rattle.user_model.specs.declared.entry.Answer.TheVariants as answers
use Rattle.user_model.specs.Past.{Past, is_refused, place_after}
use Rattle.user_model.specs.Places.{is_end}
use Rattle.user_model.specs.ReplySends.{reply_in}
use Rattle.user_model.specs.Stacks.{stack, stacked, top}
use Rattle.user_model.specs.Sends.{Outcome, answer, answers, answers_in, calls_back, enters, is_answered, is_entered, is_entered_frame, is_one, outcome}
use Rattle.user_model.specs.Ready.{ReadyMsg, to_enter, to_call_back, ready}
use Rattle.user_model.specs.Idle.{reply}
use Rattle.user_model.specs.Legal.{IsLawful}
use Rattle.user_model.proofs.ListLaws.{all_weaker}
use Rattle.user_model.proofs.ReplyLaws.{by_call}
use Rattle.user_model.proofs.SendLaws.{is_sent, makes_none}
use Rattle.user_model.proofs.SendLawful.{lawful_standing}
use Rattle.user_model.proofs.SendStanding.{FrameStands, IsReceived, ReadyStands, Standing}
use Rattle.send_state.specs.Parts.{SendParts, replied}
use Rattle.send_state.specs.Standing.{PartsStand}
use Rattle.send_state.proofs.Still.{is_drop, is_owed-same, loses-none}
use Rattle.send_state.proofs.Serving.{about, eqb_itself}
use Rattle.send_state.proofs.Answering.{IsAnswering, IsUnlisted}
use Rattle.send_state.proofs.Leaving.{stand-replied}
use Rattle.send_state.proofs.Told.{runs}
use Rattle.send_state.proofs.ToldDone.{split_top}

pub none_if_not : (o : Option Outcome) → is_some o ≡ false → o ≡ None
none_if_not None h = refl
none_if_not (Some o) h = absurd (false≢true (sym h))

-- nothing ready is about a send that was entered and has no answer
pub unlisted : (setup : Setup) (past : Past) (s : ℕ) → Standing setup past → is_entered past s ≡ true → is_answered past s ≡ false → IsUnlisted past s
unlisted setup past s standing entered unanswered t = all_weaker (ReadyStands past t) (λ r. eqb (about r) s ≡ false) each (ready past t) (standing.waiting t) where
  false_when : (b : Bool) → (b ≡ true → ⊥) → b ≡ false
  false_when true k = absurd (k refl)
  false_when false k = refl

  each : (r : ReadyMsg) → ReadyStands past t r → eqb (about r) s ≡ false
  each (to_enter y) h = false_when (eqb y.number s) (λ k. false≢true (sym h.unentered ∙ ap (λ n. is_entered past n) (eqb-true y.number s k) ∙ entered))
  each (to_call_back y proc_no extra place) h = false_when (eqb y.number s) (λ k.
      false≢true (sym unanswered ∙ ap (λ n. is_answered past n) (sym (eqb-true y.number s k)) ∙ ap (λ (o : Option Outcome). is_some o) h.answered))

-- a reply that is answered by 1 is one to the send that was entered on top, which has no answer
replies_to : (past : Past) (o : Option Frame) → reply_in past o ≡ answers.Value 1 → (s : SendId) × (o ≡ Some (Entered s)) × (is_answered past s.0 ≡ false)
replies_to past (Some (Entered s)) h = (s, refl, by (is_answered past s.0) h) where
  by : (b : Bool) → answers.Value (cond b 0 1) ≡ answers.Value 1 → b ≡ false
  by true k = absurd cc
  by false k = refl
replies_to past (Some (Inside s)) h = absurd cc
replies_to past (Some (Await s)) h = absurd cc
replies_to past (Some Called) h = absurd cc
replies_to past (Some CallbackRun) h = absurd cc
replies_to past None h = absurd cc

-- a reply to a send
pub told-replied : (setup : Setup) (past : Past) (e : Entry) (p : SendParts) (v : ℕ) → IsLawful setup (e ∷ past) → PartsStand setup past p → map.len p.book.known ≤ 1024 → e.call ≡ Reply v → e.answer ≡ answers.Value 1
    → PartsStand setup (e ∷ past) (replied p e.who.0 v (place_after past))
told-replied setup past e p v lawful h few is_call is =
    let by = by_call setup past e.who.0 (Reply v) (answers.Value 1) (ap (λ c. reply setup past e.who.0 c) (sym is_call) ∙ sym lawful.1 ∙ is) refl refl in
    let before = lawful_standing setup past lawful.0 in
    let after = lawful_standing setup (e ∷ past) lawful in
    let own = (runs setup past e.who.0 by.running).0 in
    let on_top = replies_to past (top past e.who.0) by.is_row in
    let s = on_top.0 in
    let split = split_top (stack past e.who.0) (Entered s) on_top.1 in
    let received : IsReceived past e.who.0 s.0 = (subst (AllByRecursion (FrameStands past e.who.0)) split.1 (before.frames e.who.0)).0 in
    let told_here : (q : ℕ) → answers e past q ≡ cond (eqb s.0 q) (Some (outcome past v ByReply)) None = λ q.
    ap (λ b. cond b (Some (outcome past 0 Loss)) (answers_in e.call e past q)) (loses-none e past q (ap is_drop is_call) (ap is_end is))
    ∙ ap (λ c. answers_in c e past q) is_call ∙ ap (λ a. cond (is_one a && is_entered_frame (top past e.who.0) q) (Some (outcome past v ByReply)) None) is
    ∙ ap (λ o. cond (is_entered_frame o q) (Some (outcome past v ByReply)) None) on_top.1 in
    let answering : IsAnswering past e s.0 received.of v ByReply = record {
      right = ap (λ a. is_refused (record e { answer = a })) is;
      running = ap is_end is;
      none_made = makes_none e past (ap is_sent is);
      found = received.found;
      unanswered = none_if_not (answer past s.0) on_top.2;
      gives = told_here s.0 ∙ ap (λ b. cond b (Some (outcome past v ByReply)) None) (eqb_itself s.0);
      tells_other = λ q differ. told_here q ∙ ap (λ b. cond b (Some (outcome past v ByReply)) None) differ;
      enters_none = λ q. ap (λ a. enters a q) is;
      hands_other = λ q differ. ap (λ a. calls_back a q) is;
      owed_same = is_owed-same e past received.of (ap is_end is) (ap (λ a. calls_back a received.of.number) is);
    } in
    stand-replied setup past e s received.of v ByReply answering before p split.0 lawful.0 after own few (unlisted setup past s.0 before received.entered on_top.2) refl split.1 (λ l. ap (λ a. stacked e.call a l) is) h
