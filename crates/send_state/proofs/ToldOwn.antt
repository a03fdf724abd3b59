-- A lawful end of any procedure: the parts stand on.
use Rattle.std.proofs.Common.{◌≡◌, ℕ, ◌≤◌, true, false, not, cond, eqb, List, ◌∷◌, Option, Some, None, refl, ap, ◌∙◌, sym, subst, inl, inr}
use Rattle.std.specs.Prelude.{◌&&◌}
use Rattle.std.specs.List.{AllByRecursion, list_any}
use Rattle.std.specs.FinMap as map
use Rattle.std.proofs.lemmas.Bool.{false≢true}
use Rattle.win_num.specs.declared.send.SendId.{SendId}
use Rattle.win_num.specs.declared.send.Kind.{Kind}
use Rattle.win_num.specs.declared.send.Kind.TheVariants.{Wait, Timeout, Notify, Callback as WithCallback}
use Rattle.win_num.specs.declared.send.Cause.TheVariants.{Loss, Proc}
use Rattle.win_num.specs.declared.send.Frame.{Frame}
use Rattle.win_num.specs.declared.send.Frame.TheVariants.{Entered, Inside, Called, CallbackRun, Await as AwaitFrame}
use Rattle.user_model.specs.declared.call.Call.TheVariants.{Leave}
use Rattle.user_model.specs.declared.entry.Entry.{Entry}
use Rattle.user_model.specs.declared.entry.Setup.{Setup}
use Rattle.user_model.specs.declared.entry.Answer.{Answer}
use Rattle.user_model.specs.declared.entry.Answer.TheVariants as answers
use Rattle.user_model.specs.Past.{Past, is_refused, place_after}
use Rattle.user_model.specs.Places.{has_ended, is_end}
use Rattle.user_model.specs.Replies.{is_barred_by}
use Rattle.user_model.specs.ReplySends.{leave_from, left_inside}
use Rattle.user_model.specs.Stacks.{stack, stacked, top}
use Rattle.user_model.specs.Sends.{SentMsg, answer, answers, answers_in, calls_back, enters, is_callback_kind, is_owed, is_stacked, left_by, names_send, outcome, was_called_back}
use Rattle.user_model.specs.Idle.{reply}
use Rattle.user_model.specs.Legal.{IsLawful}
use Rattle.user_model.proofs.ReplyLaws.{ByRow, by_call}
use Rattle.user_model.proofs.SendLaws.{is_sent, makes_none}
use Rattle.user_model.proofs.SendLawful.{lawful_standing}
use Rattle.user_model.proofs.SendStanding.{FrameStands, IsOwn, Standing}
use Rattle.send_state.specs.Parts.{SendParts, left}
use Rattle.send_state.specs.Standing.{IsOurs, PartsStand}
use Rattle.send_state.proofs.Still.{and-false, is_drop, loses-none}
use Rattle.send_state.proofs.Serving.{eqb_itself}
use Rattle.send_state.proofs.Answering.{IsAnswering}
use Rattle.send_state.proofs.LeavingOwn.{stand-left-own, stand-left-turned}
use Rattle.send_state.proofs.Told.{runs}
use Rattle.send_state.proofs.ToldDone.{split_top}
use Rattle.send_state.proofs.ToldLeft.{or_first, or_second, told-left}
use Rattle.send_state.proofs.ToldPlain.{told-left-plain}
use Rattle.send_state.proofs.ToldReplied.{none_if_not, unlisted}

-- what the answer says where an own send's procedure is left
record IsLeavingOwn (e : Entry) (f : ℕ) : Type 0 where
  right : is_refused e ≡ false
  running : is_end e.answer ≡ false
  makes : is_sent e.answer ≡ false
  names : (q : ℕ) → left_by e.answer q ≡ eqb f q
  enters_none : (q : ℕ) → enters e.answer q ≡ false
  hands_other : (q : ℕ) → eqb f q ≡ false → calls_back e.answer q ≡ false

-- ---- an own send's procedure

module _ (setup : Setup) (past : Past) (e : Entry) (p : SendParts) (v : ℕ) (f : SendId) (lawful : IsLawful setup (e ∷ past)) (h : PartsStand setup past p) (few : map.len p.book.known ≤ 1024) (is_call : e.call ≡ Leave v)
    (is_top : top past e.who.0 ≡ Some (Inside f)) (own : IsOurs setup e.who.0) (answered : e.answer ≡ leave_from past (Some (Inside f)) v) where
  before : Standing setup past
  before = lawful_standing setup past lawful.0

  after : Standing setup (e ∷ past)
  after = lawful_standing setup (e ∷ past) lawful

  abbrev fs : List Frame
  fs = (split_top (stack past e.who.0) (Inside f) is_top).0

  is_stack : stack past e.who.0 ≡ Inside f ∷ fs
  is_stack = (split_top (stack past e.who.0) (Inside f) is_top).1

  abbrev mine : IsOwn past e.who.0 f.0
  mine = (subst (AllByRecursion (FrameStands past e.who.0)) is_stack (before.frames e.who.0)).0

  abbrev x : SentMsg
  x = mine.of

  number : x.number ≡ f.0
  number = (before.sent f.0 x mine.found).is_number

  framed : is_stacked past x ≡ true
  framed =
      or_second (list_any (λ g. names_send g x.number) (stack past x.from)) (list_any (λ g. names_send g x.number) (stack past x.to))
      (ap (λ t. list_any (λ g. names_send g x.number) (stack past t)) mine.to ∙ ap (list_any (λ g. names_send g x.number)) is_stack
      ∙ or_first (eqb f.0 x.number) (list_any (λ g. names_send g x.number) fs) (ap (eqb f.0) number ∙ eqb_itself f.0))

  unowed : (q : Past) → is_owed q x ≡ false
  unowed q = ap (λ b. is_callback_kind x.kind && (not b && (not (has_ended q x.from) && not (was_called_back q x)))) mine.inside ∙ and-false (is_callback_kind x.kind)

  answering : IsLeavingOwn e f.0 → IsAnswering past e f.0 x v Proc
  answering is = record {
    right = is.right;
    running = is.running;
    none_made = makes_none e past is.makes;
    found = mine.found;
    unanswered = none_if_not (answer past f.0) mine.unanswered;
    gives = told_here f.0 ∙ ap (λ b. cond b (Some (outcome past v Proc)) None) (eqb_itself f.0);
    tells_other = λ q differ. told_here q ∙ ap (λ b. cond b (Some (outcome past v Proc)) None) differ;
    enters_none = is.enters_none;
    hands_other = is.hands_other;
    owed_same = unowed (e ∷ past) ∙ sym (unowed past);
  } where
    told_here : (q : ℕ) → answers e past q ≡ cond (eqb f.0 q) (Some (outcome past v Proc)) None
    told_here q =
        ap (λ b. cond b (Some (outcome past 0 Loss)) (answers_in e.call e past q)) (loses-none e past q (ap is_drop is_call) is.running)
        ∙ ap (λ c. answers_in c e past q) is_call ∙ ap (λ b. cond b (Some (outcome past v Proc)) None) (is.names q)

  by_left : is_callback_kind x.kind ≡ false → e.answer ≡ answers.Left (record { 0 = x.number }) → PartsStand setup (e ∷ past) (left p e.who.0 v (place_after past))
  by_left kind is =
      let leaving : IsLeavingOwn e f.0 = record {
        right = ap (λ a. is_refused (record e { answer = a })) is;
        running = ap is_end is;
        makes = ap is_sent is;
        names = λ q. ap (λ a. left_by a q) is ∙ ap (λ n. eqb n q) number;
        enters_none = λ q. ap (λ a. enters a q) is;
        hands_other = λ q differ. ap (λ a. calls_back a q) is;
      } in
      stand-left-own setup past e f x v (answering leaving) before p fs lawful.0 after own few (unlisted setup past f.0 before mine.entered mine.unanswered) framed kind is_stack (λ l. ap (λ a. stacked e.call a l) is) h

  by_callback : (proc_no extra : ℕ) → is_callback_kind x.kind ≡ true → e.answer ≡ answers.Callback (record { 0 = x.number }) proc_no (record { 0 = x.hwnd }) x.message extra v → PartsStand setup (e ∷ past) (left p e.who.0 v (place_after past))
  by_callback proc_no extra kind is =
      let leaving : IsLeavingOwn e f.0 = record {
        right = ap (λ a. is_refused (record e { answer = a })) is;
        running = ap is_end is;
        makes = ap is_sent is;
        names = λ q. ap (λ a. left_by a q) is ∙ ap (λ n. eqb n q) number;
        enters_none = λ q. ap (λ a. enters a q) is;
        hands_other = λ q differ. ap (λ a. calls_back a q) is ∙ ap (λ n. eqb n q) number ∙ differ;
      } in
      stand-left-turned setup past e f x v (answering leaving) before p fs lawful.0 after own few (unlisted setup past f.0 before mine.entered mine.unanswered) framed kind is_stack
      (ap (λ a. stacked e.call a (Inside f ∷ fs)) is ∙ ap (λ c. stacked c (answers.Callback (record { 0 = x.number }) proc_no (record { 0 = x.hwnd }) x.message extra v) (Inside f ∷ fs)) is_call) h

  by_kind : (k : Kind) → x.kind ≡ k → e.answer ≡ left_inside x k v → PartsStand setup (e ∷ past) (left p e.who.0 v (place_after past))
  by_kind Wait k is = by_left (ap is_callback_kind k) is
  by_kind (Timeout flags ms) k is = by_left (ap is_callback_kind k) is
  by_kind Notify k is = by_left (ap is_callback_kind k) is
  by_kind (WithCallback proc_no extra) k is = by_callback proc_no extra (ap is_callback_kind k) is

  -- the procedure of an own send is left
  pub told-left-own : PartsStand setup (e ∷ past) (left p e.who.0 v (place_after past))
  told-left-own = by_kind x.kind refl (answered ∙ ap (λ (o : Option SentMsg). elim o as (λ _. Answer) [ Some y ↦ left_inside y y.kind v | None ↦ answers.Left f ]) mine.found)

-- ---- any procedure

-- whatever procedure is left
pub told-leave : (setup : Setup) (past : Past) (e : Entry) (p : SendParts) (v : ℕ) → IsLawful setup (e ∷ past) → PartsStand setup past p → map.len p.book.known ≤ 1024 → e.call ≡ Leave v → is_refused e ≡ false
    → PartsStand setup (e ∷ past) (left p e.who.0 v (place_after past))
told-leave setup past e p v lawful h few is_call right = by_top (top past e.who.0) refl by.allowed (sym by.is_row) where
  by : ByRow setup past e.who.0 (Leave v) e.answer
  by = by_call setup past e.who.0 (Leave v) e.answer (ap (λ c. reply setup past e.who.0 c) (sym is_call) ∙ sym lawful.1) refl right

  own : IsOurs setup e.who.0
  own = (runs setup past e.who.0 by.running).0

  by_top : (o : Option Frame) → top past e.who.0 ≡ o → is_barred_by (Leave v) o ≡ false → e.answer ≡ leave_from past o v → PartsStand setup (e ∷ past) (left p e.who.0 v (place_after past))
  by_top (Some (Entered f)) k free is = told-left setup past e p v f f lawful h few is_call is k
  by_top (Some (Inside f)) k free is = told-left-own setup past e p v f lawful h few is_call k own is
  by_top (Some Called) k free is = told-left-plain setup past e p v (record { 0 = 0 }) Called lawful h is_call is k (inl refl)
  by_top (Some CallbackRun) k free is = told-left-plain setup past e p v (record { 0 = 0 }) CallbackRun lawful h is_call is k (inr refl)
  by_top (Some (AwaitFrame s)) k free is = absurd (false≢true (sym free))
  by_top None k free is = absurd (false≢true (sym free))
