-- The parts stand on where the wait for an answered send ends, or the procedure of one is left.
use Rattle.std.proofs.Common.{◌≡◌, ◌≢◌, ℕ, Bool, true, false, not, cond, eqb, List, [], ◌∷◌, ◌++◌, length, map as each, Option, Some, None, refl, ap, ◌∙◌, sym, subst, inl, inr}
use Rattle.std.specs.Prelude.{◌&&◌, ◌||◌, drop, filter, find, is_some, option_map}
use Rattle.std.specs.List.{flat_map, list_any, slice_get}
use Rattle.std.specs.FinMap as map
use Rattle.std.proofs.lemmas.Bool.{false≢true, eqb-true, ne_eqb}
use Rattle.std.proofs.lemmas.Bool.Decides.{eqb_tells}
use Rattle.std.proofs.lemmas.List.{append-nil}
use Rattle.win_num.specs.declared.send.SendId.{SendId}
use Rattle.win_num.specs.declared.send.Cause.TheVariants.{Proc}
use Rattle.win_num.specs.declared.send.Frame.{Frame}
use Rattle.win_num.specs.declared.send.Frame.TheVariants.{Entered}
use Rattle.user_model.specs.declared.entry.Entry.{Entry}
use Rattle.user_model.specs.declared.entry.Setup.{Setup}
use Rattle.user_model.specs.Past.{Past, is_refused, place_after}
use Rattle.user_model.specs.Places.{has_ended, is_end}
use Rattle.user_model.specs.Stacks.{stack, stacked}
use Rattle.user_model.specs.Sends.{SentMsg, Outcome, answer, answers, calls_back, enters, is_answered, is_owed, is_stacked, names_send, send, sends, sends_by}
use Rattle.user_model.specs.Ready.{ReadyMsg, to_enter, to_call_back, arrives, begun, departs, is_answered_by, ready, result}
use Rattle.user_model.proofs.ListLaws.{all_weaker, filter_all}
use Rattle.user_model.proofs.SendLaws.{answer-stays, ready-next, sends-same}
use Rattle.user_model.proofs.SendStanding.{ReadyStands, Standing}
use Rattle.send_state.specs.Parts.{SendParts, finished, left, left_from, lists_answered_as, rank}
use Rattle.send_state.specs.Standing.{IsOurs, PartsStand, as_told, item_as, known_as, known_at, known_of, row_of}
use Rattle.send_frames.specs.Book.{answered_as, answered_by, named_by, popped, stack_of}
use Rattle.send_variants.specs.Lists.{list_of}
use Rattle.send_state.proofs.Still.{and-false, answer-same, filter_none, is_owed-same}
use Rattle.send_state.proofs.StandStill.{below_next}
use Rattle.send_state.proofs.Settling.{known-other}
use Rattle.send_state.proofs.Popping.{IsBefore, stand-popped-named}

-- the newest frame is taken away, whose send was answered before
pub record IsFinishing (past : Past) (e : Entry) (g : Frame) (f : ℕ) (x : SentMsg) (o : Outcome) : Type 0 where
  pub right : is_refused e ≡ false
  pub running : is_end e.answer ≡ false
  pub none_made : sends_by e.call e past ≡ []
  pub tells_other : (q : ℕ) → eqb f q ≡ false → answers e past q ≡ None
  pub enters_none : (q : ℕ) → enters e.answer q ≡ false
  pub hands_none : (q : ℕ) → calls_back e.answer q ≡ false
  pub answered : answer past f ≡ Some o
  pub found : send past f ≡ Some x
  pub framed : is_stacked past x ≡ true
  pub names : named_by g ≡ Some f
  pub names_other : (q : ℕ) → eqb f q ≡ false → names_send g q ≡ false
  pub below : List Frame
  pub is_stack : stack past e.who.0 ≡ g ∷ below
  pub pops : (l : List Frame) → stacked e.call e.answer l ≡ drop 1 l

-- nothing arrives where no send gets its first answer
pub arrives-unanswered : (t : ℕ) (e : Entry) (past : Past) → sends_by e.call e past ≡ [] → ((x : SentMsg) → is_answered_by e past x ≡ false) → arrives t e past ≡ []
arrives-unanswered t e past none_made none =
    let test : SentMsg → Bool = λ x. (eqb x.from t) && not (has_ended past t) && is_answered_by e past x in
    let fails : (x : SentMsg) → test x ≡ false = λ x. ap (λ b. (eqb x.from t) && not (has_ended past t) && b) (none x) ∙ and-false (eqb x.from t && not (has_ended past t)) in
    ap (λ l. flat_map begun (filter (λ (x : SentMsg). eqb x.to t) l) ++ flat_map (λ x. result past x) (filter test (sends past))) none_made
    ∙ ap (λ (l : List SentMsg). flat_map (λ x. result past x) l) (filter_none test fails (sends past))

module _ (setup : Setup) (past : Past) (e : Entry) (g : Frame) (f : ℕ) (x : SentMsg) (o : Outcome) (finishing : IsFinishing past e g f x o) (standing : Standing setup past) where
  send-kept : (q : ℕ) → send (e ∷ past) q ≡ send past q
  send-kept q = ap (λ xs. find (λ x. eqb x.number q) xs) (sends-same e past finishing.none_made)

  is_done : (q : ℕ) → eqb f q ≡ true → is_answered past q ≡ true
  is_done q same = ap (λ n. is_answered past n) (sym (eqb-true f q same)) ∙ ap (λ (o : Option Outcome). is_some o) finishing.answered

  first_none : (x : SentMsg) → is_answered_by e past x ≡ false
  first_none x = elim (eqb_tells f x.number) [
    | inl same ↦ ap (λ b. is_some (answers e past x.number) && not b) (is_done x.number same.0) ∙ and-false (is_some (answers e past x.number))
    | inr differ ↦ ap (λ (o : Option Outcome). is_some o && not (is_answered past x.number)) (finishing.tells_other x.number differ.0)
  ]

  answer-kept : (q : ℕ) → answer (e ∷ past) q ≡ answer past q
  answer-kept q = elim (eqb_tells f q) [
    | inl same ↦ let old : answer past q ≡ Some o = ap (answer past) (sym same.1) ∙ finishing.answered in answer-stays e past q o old ∙ sym old
    | inr differ ↦ answer-same e past q (finishing.tells_other q differ.0)
  ]

  untold : (n : ℕ) → is_answered past n ≡ false → answers e past n ≡ None
  untold n none = elim (eqb_tells f n) [
    | inl same ↦ absurd (false≢true (sym none ∙ is_done n same.0))
    | inr differ ↦ finishing.tells_other n differ.0
  ]

  stays : (t : ℕ) (r : ReadyMsg) → ReadyStands past t r → not (departs t e past r) ≡ true
  stays t (to_enter y) h =
      ap (λ b. not ((b && eqb e.who.0 t) || (enters e.answer y.number || is_some (answers e past y.number)))) finishing.running
      ∙ ap (λ b. not (b || is_some (answers e past y.number))) (finishing.enters_none y.number)
      ∙ ap (λ (o : Option Outcome). not (is_some o)) (untold y.number h.unanswered)
  stays t (to_call_back y proc_no extra place) h =
      ap (λ b. not ((b && eqb e.who.0 t) || (calls_back e.answer y.number && eqb e.who.0 y.from))) finishing.running ∙ ap (λ b. not (b && eqb e.who.0 y.from)) (finishing.hands_none y.number)

  ready-kept : (t : ℕ) → ready (e ∷ past) t ≡ ready past t
  ready-kept t =
      ready-next e past t finishing.right ∙ ap (λ l. filter (λ r. not (departs t e past r)) (ready past t) ++ l) (arrives-unanswered t e past finishing.none_made first_none) ∙ append-nil (filter (λ r. not (departs t e past r)) (ready past t))
      ∙ filter_all (λ r. not (departs t e past r)) (ready past t) (all_weaker (ReadyStands past t) (λ r. not (departs t e past r) ≡ true) (stays t) (ready past t) (standing.waiting t))

  abbrev fs : List Frame
  fs = finishing.below

  or_true : (a b : Bool) → (a || (true || b)) ≡ true
  or_true true b = refl
  or_true false b = refl

  known_before : known_at past f ≡ Some (known_as past x)
  known_before =
      ap (known_of past) finishing.found
      ∙ ap (λ b. cond (not (is_answered past x.number) || (b || is_owed past x)) (Some (known_as past x)) None) finishing.framed
      ∙ ap (λ b. cond b (Some (known_as past x)) None) (or_true (not (is_answered past x.number)) (is_owed past x))

  known_later : known_as past x ≡ known_as (e ∷ past) x
  known_later =
      sym (ap (λ (o : Option Outcome). record { row = row_of x; answer = option_map as_told o; owed = is_owed (e ∷ past) x }) (answer-kept x.number)
      ∙ ap (λ b. record { row = row_of x; answer = option_map as_told (answer past x.number); owed = b }) (is_owed-same e past x finishing.running (finishing.hands_none x.number)))

  framed-other : (q : ℕ) → eqb f q ≡ false → list_any (λ k. names_send k q) (stacked e.call e.answer (stack past e.who.0)) ≡ list_any (λ k. names_send k q) (stack past e.who.0)
  framed-other q differ =
      ap (list_any (λ k. names_send k q)) (finishing.pops (stack past e.who.0) ∙ ap (drop 1) finishing.is_stack)
      ∙ sym (ap (list_any (λ k. names_send k q)) finishing.is_stack ∙ ap (λ b. b || list_any (λ k. names_send k q) fs) (finishing.names_other q differ))

  others : (q : ℕ) → q ≢ f → known_at (e ∷ past) q ≡ known_at past q
  others q apart =
      let differ : eqb f q ≡ false = ne_eqb f q (λ same. apart (sym same)) in
      known-other setup e past q standing (send-kept q) (finishing.tells_other q differ) (framed-other q differ) (λ y found. is_owed-same e past y finishing.running (finishing.hands_none y.number))

  -- the frame is taken away, and its send settled
  pub stand-finished : (p : SendParts) → Standing setup (e ∷ past) → IsOurs setup e.who.0 → PartsStand setup past p → PartsStand setup (e ∷ past) (finished p e.who.0)
  stand-finished p after own h =
      let before : IsBefore setup past e p.book g fs = record {
        right = finishing.right;
        own = own;
        begun = h.book.begun;
        makes_none = ap length (sends-same e past finishing.none_made);
        threads = h.book.threads;
        stacks = h.book.stacks;
        is_stack = finishing.is_stack;
        pops = finishing.pops (g ∷ fs);
      } in
      record {
        book = stand-popped-named setup past e p.book g fs before f x finishing.names (send-kept f ∙ finishing.found) after (h.book.known f ∙ known_before ∙ ap Some known_later) (λ q differ. h.book.known q ∙ sym (others q differ));
        lists = record {
          threads = h.lists.threads;
          ready = λ t ours. h.lists.ready t ours ∙ sym (ap (each item_as) (ready-kept t));
          below = λ t. below_next e past (list_of p.lists t) (h.lists.below t);
          sound = h.lists.sound;
        };
      }

  -- the same where a procedure is left whose send was answered before
  pub stand-left-answered : (p : SendParts) (s : SendId) (v : ℕ) → g ≡ Entered s → s.0 ≡ f → Standing setup (e ∷ past) → IsOurs setup e.who.0 → PartsStand setup past p → PartsStand setup (e ∷ past) (left p e.who.0 v (place_after past))
  stand-left-answered p s v is_frame same after own h =
      let has : map.get p.book.known s.0 ≡ Some (record { row = row_of x; answer = Some (as_told o); owed = is_owed past x }) =
      ap (map.get p.book.known) same ∙ h.book.known f ∙ known_before
      ∙ ap (λ (a : Option Outcome). Some (record { row = row_of x; answer = option_map as_told a; owed = is_owed past x })) (ap (answer past) (standing.sent f x finishing.found).is_number ∙ finishing.answered) in
      let book : answered_by p.book s.0 (v, Proc) ≡ p.book = ap (answered_as p.book s.0 (v, Proc)) has in
      let lists : lists_answered_as p.lists s.0 (rank (place_after past) 0) (map.get p.book.known s.0) ≡ p.lists = ap (lists_answered_as p.lists s.0 (rank (place_after past) 0)) has in
      let is_top : slice_get (stack_of p.book e.who.0) 0 ≡ Some (Entered s) = ap (λ l. slice_get l 0) (h.book.stacks e.who.0 own ∙ finishing.is_stack) ∙ ap Some is_frame in
      subst (λ k. PartsStand setup (e ∷ past) (left_from p k e.who.0 v (rank (place_after past) 0))) (sym is_top)
      (subst (λ b. PartsStand setup (e ∷ past) (record p { book = popped b e.who.0; lists = lists_answered_as p.lists s.0 (rank (place_after past) 0) (map.get p.book.known s.0) })) (sym book)
      (subst (λ l. PartsStand setup (e ∷ past) (record p { book = popped p.book e.who.0; lists = l })) (sym lists) (stand-finished p after own h)))
