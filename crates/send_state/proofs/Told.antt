-- What the answer of a lawful entry tells, and so the parts stand on after it.
use Rattle.std.proofs.Common.{◌≡◌, ℕ, Bool, true, false, not, List, [], ◌∷◌, Some, refl, ap, ◌∙◌, sym, subst, inl, inr}
use Rattle.std.specs.Prelude.{◌&&◌}
use Rattle.std.specs.List.{AllByRecursion}
use Rattle.std.proofs.lemmas.Bool.{false≢true}
use Rattle.win_num.specs.declared.send.SendId.{SendId}
use Rattle.win_num.specs.declared.message.Hwnd.{Hwnd}
use Rattle.user_model.specs.declared.entry.Entry.{Entry}
use Rattle.user_model.specs.declared.entry.Setup.{Setup}
use Rattle.user_model.specs.declared.entry.Answer.TheVariants as answers
use Rattle.user_model.specs.Past.{Past, first}
use Rattle.user_model.specs.Places.{has_ended}
use Rattle.user_model.specs.Threads.{is_running, is_thread}
use Rattle.user_model.specs.Ready.{ReadyMsg, to_enter, to_call_back, ready}
use Rattle.user_model.specs.Legal.{IsLawful}
use Rattle.user_model.proofs.SendReplies.{entry_told}
use Rattle.user_model.specs.Deeds.{is_serving}
use Rattle.user_model.proofs.AnswerFacts.{IsCalled, IsEntry, IsResult}
use Rattle.user_model.proofs.SendLawful.{lawful_standing}
use Rattle.user_model.proofs.SendStanding.{ReadyStands, Standing}
use Rattle.send_state.specs.Parts.{SendParts, dispatched, served}
use Rattle.send_state.specs.Standing.{IsOurs, PartsStand}
use Rattle.send_state.proofs.Still.{IsStill, is_drop, is_still, replies}
use Rattle.send_state.proofs.StandStill.{stand-dispatched}
use Rattle.send_state.proofs.Entering.{IsEntering, stand-entered}
use Rattle.send_state.proofs.CallingBack.{IsCallingBack, stand-called_back}
use Rattle.send_state.proofs.Frames.{is_ours}

and_two : (a b : Bool) → (a && b) ≡ true → (a ≡ true) × (b ≡ true)
and_two true b h = (refl, h)
and_two false b h = absurd (false≢true h)

not_two : (b : Bool) → not b ≡ true → b ≡ false
not_two true h = absurd (false≢true h)
not_two false h = refl

-- a thread that runs is one of the setup's and hasn't ended
pub runs : (setup : Setup) (past : Past) (t : ℕ) → is_running setup past t ≡ true → IsOurs setup t × (has_ended past t ≡ false)
runs setup past t h =
    let two = and_two (is_thread setup t) (not (has_ended past t)) h in
    (is_ours setup t two.0, not_two (has_ended past t) two.1)

-- what is so of each is so of the first
pub of_first : (P : ReadyMsg → Type 0) (rs : List ReadyMsg) (r : ReadyMsg) → AllByRecursion P rs → first rs ≡ Some r → P r
of_first P [] r all e = absurd cc
of_first P (q ∷ rs) r all e = let same : q ≡ r = cc in subst P same all.0

module _ (setup : Setup) (past : Past) (e : Entry) (p : SendParts) (lawful : IsLawful setup (e ∷ past)) (h : PartsStand setup past p) where
  before : Standing setup past
  before = lawful_standing setup past lawful.0

  after : Standing setup (e ∷ past)
  after = lawful_standing setup (e ∷ past) lawful

  -- a send is entered
  pub told-entered : (s : SendId) (proc_no : ℕ) (w : Hwnd) (number wparam lparam : ℕ) → e.answer ≡ answers.Enter s proc_no w number wparam lparam → PartsStand setup (e ∷ past) (served p e.who.0)
  told-entered s proc_no w number wparam lparam is =
      let told = entry_told setup past e.who.0 e.call (answers.Enter s proc_no w number wparam lparam) (sym lawful.1 ∙ is) refl in
      let entry : IsEntry past e.who.0 e.call s.0 proc_no w.0 number wparam lparam = told.1 in
      let awaiting = of_first (ReadyStands past e.who.0) (ready past e.who.0) (to_enter entry.of) (before.waiting e.who.0) entry.is_first in
      let entering : IsEntering past e s entry.of = record {
        proc_no = proc_no;
        hwnd = w;
        number = number;
        wparam = wparam;
        lparam = lparam;
        is_answer = is;
        serves = entry.serves;
        is_first = entry.is_first;
        is_send = entry.is_send;
        unanswered = awaiting.unanswered;
      } in
      stand-entered past e s entry.of entering setup p (runs setup past e.who.0 told.0.running).0 h

  -- a result is handed over
  pub told-called_back : (s : SendId) (proc_no : ℕ) (w : Hwnd) (number extra value : ℕ) → is_serving e.call ≡ true → e.answer ≡ answers.Callback s proc_no w number extra value → PartsStand setup (e ∷ past) (served p e.who.0)
  told-called_back s proc_no w number extra value serves is =
      let told = entry_told setup past e.who.0 e.call (answers.Callback s proc_no w number extra value) (sym lawful.1 ∙ is) refl in
      let alive = runs setup past e.who.0 told.0.running in
      elim told.1 [
        | inl k ↦ by_result k alive.0 alive.1
        | inr k ↦ absurd (false≢true (sym (ap is_serving k.is_call) ∙ serves))
      ] where
        by_result : IsResult past e.who.0 e.call s.0 proc_no w.0 number extra value → IsOurs setup e.who.0 → has_ended past e.who.0 ≡ false → PartsStand setup (e ∷ past) (served p e.who.0)
        by_result k own lives =
            let owed = of_first (ReadyStands past e.who.0) (ready past e.who.0) (to_call_back k.of proc_no extra k.place) (before.waiting e.who.0) k.is_first in
            let calling : IsCallingBack past e s k.of = record {
              proc_no = proc_no;
              hwnd = w;
              number = number;
              extra = extra;
              result = value;
              place = k.place;
              is_answer = is;
              serves = serves;
              is_first = k.is_first;
              is_send = k.is_send;
              owed = owed;
              running = lives;
            } in
            stand-called_back setup past e s k.of calling p before after own h

  -- a dispatched message's procedure is called
  pub told-called : (proc_no : ℕ) → e.answer ≡ answers.Called proc_no → PartsStand setup (e ∷ past) (dispatched p e.who.0)
  told-called proc_no is =
      let told = entry_told setup past e.who.0 e.call (answers.Called proc_no) (sym lawful.1 ∙ is) refl in
      let called : IsCalled past e.who.0 e.call proc_no = told.1 in
      let still : IsStill e = record {
        answer = ap is_still is;
        keeps_windows = ap is_drop called.is_call;
        answers_none = ap (λ c. replies c e.answer) called.is_call;
      } in
      stand-dispatched setup past e p proc_no is still (runs setup past e.who.0 told.0.running).0 h
