-- The parts stand on where a thread gets the result of its callback send.
use Rattle.std.proofs.Common.{◌≡◌, ◌≢◌, ℕ, ◌-◌, Bool, true, false, not, cond, eqb, List, [], ◌∷◌, length, Option, Some, None, refl, ap, ◌∙◌, sym, subst}
use Rattle.std.specs.Prelude.{◌&&◌, ◌||◌, drop, is_some, option_map}
use Rattle.std.specs.List.{list_any}
use Rattle.std.specs.FinMap as map
use Rattle.std.proofs.lemmas.Bool.{false≢true, ne_eqb}
use Rattle.std.proofs.lemmas.List.{length-set}
use Rattle.win_num.specs.declared.send.SendId.{SendId}
use Rattle.win_num.specs.declared.send.Frame.{Frame}
use Rattle.win_num.specs.declared.send.Frame.TheVariants.{CallbackRun}
use Rattle.win_num.specs.declared.message.Hwnd.{Hwnd}
use Rattle.user_model.specs.declared.entry.Entry.{Entry}
use Rattle.user_model.specs.declared.entry.Setup.{Setup}
use Rattle.user_model.specs.declared.entry.Answer.TheVariants as answers
use Rattle.user_model.specs.Past.{Past, ever, is_refused}
use Rattle.user_model.specs.Places.{has_ended, is_end}
use Rattle.user_model.specs.Stacks.{stack, stacked}
use Rattle.user_model.specs.Sends.{SentMsg, Outcome, answer, answers, calls_back, enters, is_answered, is_callback_kind, is_owed, is_stacked, is_timed_out, names_send, send, was_called_back}
use Rattle.user_model.specs.SendStories.{ends_await, hands_on, was_handed_on}
use Rattle.user_model.specs.Ready.{ReadyMsg, to_enter, to_call_back, departs, ready_head}
use Rattle.user_model.proofs.PastLaws.{ever-next}
use Rattle.user_model.proofs.SendLaws.{is_sent}
use Rattle.user_model.specs.Deeds.{is_serving}
use Rattle.user_model.proofs.SendStanding.{IsOwedTo, Standing}
use Rattle.send_frames.specs.Book.{Book, KnownSend, forgotten_as, pushed, stack_of, with_send}
use Rattle.send_variants.specs.declared.ready.Ready.TheVariants.{Result as ReadyResult}
use Rattle.send_state.specs.Parts.{SendParts, book_served, head_of, served, without_head}
use Rattle.send_state.specs.Standing.{IsOurs, PartsStand, as_told, known_as, known_at, known_of, ready_as, row_of}
use Rattle.send_state.proofs.Still.{and-false, answer-same, is_owed-same}
use Rattle.send_state.proofs.StandStill.{stacks-changed}
use Rattle.send_state.proofs.Serving.{IsQuiet, Leaves, about, count-quiet, eqb_itself, head_of-stands, lists-served, send-quiet}
use Rattle.send_state.proofs.Entering.{answers-serving, eqb_apart, leaves-serving, record_id}
use Rattle.send_state.proofs.Frames.{stacked-counted}
use Rattle.send_state.proofs.Settling.{known-other, with_send-stands}

-- the first that is ready is the result of a callback send, which is handed over
pub record IsCallingBack (past : Past) (e : Entry) (s : SendId) (x : SentMsg) : Type 0 where
  pub proc_no : ℕ
  pub hwnd : Hwnd
  pub number : ℕ
  pub extra : ℕ
  pub result : ℕ
  pub place : ℕ
  pub is_answer : e.answer ≡ answers.Callback s proc_no hwnd number extra result
  pub serves : is_serving e.call ≡ true
  pub is_first : ready_head past e.who.0 ≡ Some (to_call_back x proc_no extra place)
  pub is_send : s.0 ≡ x.number
  pub owed : IsOwedTo past e.who.0 x proc_no extra place
  pub running : has_ended past e.who.0 ≡ false

-- what never happened is no case of what never happened
ever-none : (f g : Entry → Past → Bool) → ((e : Entry) (before : Past) → f e before ≡ false → g e before ≡ false) → (past : Past) → ever f past ≡ false → ever g past ≡ false
ever-none f g weaker [] h = refl
ever-none f g weaker (e ∷ past) h = go (is_refused e) (ever f past) (ever-none f g weaker past) (ever g past) h (weaker e past)
  where
    go : (r old : Bool) → (old ≡ false → (ever g past) ≡ false) → (gold : Bool) → (elim r as (λ c. Bool) [ true ↦ old | false ↦ elim old as (λ c. Bool) [ true ↦ true | false ↦ f e past ] ]) ≡ false
        → (f e past ≡ false → g e past ≡ false) → (elim r as (λ c. Bool) [ true ↦ ever g past | false ↦ elim (ever g past) as (λ c. Bool) [ true ↦ true | false ↦ g e past ] ]) ≡ false
    go true old before gold k now = before k
    go false true before gold k now = absurd (false≢true (sym k))
    go false false before gold k now = ap (λ b. elim b as (λ c. Bool) [ true ↦ true | false ↦ g e past ]) (before refl) ∙ now k

or_second : (a b : Bool) → (a || b) ≡ false → b ≡ false
or_second true b h = absurd (false≢true (sym h))
or_second false b h = h

-- a result that wasn't handed on wasn't handed over
pub not_called_back : (past : Past) (x : SentMsg) → was_handed_on past x.number ≡ false → was_called_back past x ≡ false
not_called_back past x =
    ever-none (λ e before. hands_on e x.number) (λ e before. calls_back e.answer x.number && eqb e.who.0 x.from)
    (λ e before h. ap (λ b. b && eqb e.who.0 x.from) (or_second (ends_await e.call e.answer x.number) (calls_back e.answer x.number) h)) past

module _ (setup : Setup) (past : Past) (e : Entry) (s : SendId) (x : SentMsg) (calling : IsCallingBack past e s x) where
  pub quiet-calling : IsQuiet e past
  quiet-calling = record {
    right = ap (λ a. is_refused (record e { answer = a })) calling.is_answer;
    makes = ap is_sent calling.is_answer;
    running = ap is_end calling.is_answer;
    tells = λ q. answers-serving e past q calling.serves (ap is_end calling.is_answer) (ap is_timed_out calling.is_answer);
  }

  handed_here : (calls_back e.answer x.number && eqb e.who.0 x.from) ≡ true
  handed_here =
      ap (λ a. calls_back a x.number && eqb e.who.0 x.from) calling.is_answer
      ∙ ap (λ b. b && eqb e.who.0 x.from) (ap (λ n. eqb n x.number) calling.is_send ∙ eqb_itself x.number)
      ∙ ap (eqb e.who.0) calling.owed.from ∙ eqb_itself e.who.0

  leaves-calling : Leaves e past (to_call_back x calling.proc_no calling.extra calling.place)
  leaves-calling = (goes, stays) where
    goes : departs e.who.0 e past (to_call_back x calling.proc_no calling.extra calling.place) ≡ true
    goes = ap (λ a. (is_end a && eqb e.who.0 e.who.0) || (calls_back e.answer x.number && eqb e.who.0 x.from)) calling.is_answer ∙ handed_here

    stays : (t : ℕ) (q : ReadyMsg) → eqb (about q) x.number ≡ false → departs t e past q ≡ false
    stays t (to_enter y) h =
        ap (λ a. (is_end a && eqb e.who.0 t) || (enters a y.number || is_some (answers e past y.number))) calling.is_answer
        ∙ ap (λ (o : Option Outcome). is_some o) (quiet-calling.tells y.number)
    stays t (to_call_back y proc_no extra place) h =
        ap (λ a. (is_end a && eqb e.who.0 t) || (calls_back a y.number && eqb e.who.0 y.from)) calling.is_answer
        ∙ ap (λ b. b && eqb e.who.0 y.from) (eqb_apart y.number x.number s.0 h calling.is_send)

  framed : (fs : List Frame) → stacked e.call e.answer fs ≡ CallbackRun ∷ fs
  framed fs = ap (λ a. stacked e.call a fs) calling.is_answer ∙ ap (λ b. CallbackRun ∷ cond b (drop 1 fs) fs) (leaves-serving e.call calling.serves)

  found : send past s.0 ≡ Some x
  found = ap (send past) calling.is_send ∙ calling.owed.found

  found_later : send (e ∷ past) s.0 ≡ Some x
  found_later = send-quiet e past s.0 quiet-calling ∙ found

  was_owed : is_owed past x ≡ true
  was_owed =
      ap (λ k. is_callback_kind k && (not x.is_inside && (not (has_ended past x.from) && not (was_called_back past x)))) calling.owed.is_kind
      ∙ ap (λ b. not b && (not (has_ended past x.from) && not (was_called_back past x))) calling.owed.outside
      ∙ ap (λ b. not b && not (was_called_back past x)) (ap (has_ended past) calling.owed.from ∙ calling.running)
      ∙ ap not (not_called_back past x calling.owed.unhanded)

  or_true : (a b : Bool) → (a || (b || true)) ≡ true
  or_true true b = refl
  or_true false true = refl
  or_true false false = refl

  known_before : known_at past s.0 ≡ Some (known_as past x)
  known_before =
      ap (known_of past) found
      ∙ ap (λ b. cond (not (is_answered past x.number) || (is_stacked past x || b)) (Some (known_as past x)) None) was_owed
      ∙ ap (λ b. cond b (Some (known_as past x)) None) (or_true (not (is_answered past x.number)) (is_stacked past x))

  owed_later : is_owed (e ∷ past) x ≡ false
  owed_later =
      ap (λ b. is_callback_kind x.kind && (not x.is_inside && (not (has_ended (e ∷ past) x.from) && not b)))
      (ever-next (λ e before. calls_back e.answer x.number && eqb e.who.0 x.from) e past quiet-calling.right ∙ ap (λ b. was_called_back past x || b) handed_here ∙ or_last (was_called_back past x))
      ∙ ap (λ b. is_callback_kind x.kind && (not x.is_inside && b)) (and-false (not (has_ended (e ∷ past) x.from)))
      ∙ ap (λ b. is_callback_kind x.kind && b) (and-false (not x.is_inside)) ∙ and-false (is_callback_kind x.kind)
    where
      or_last : (a : Bool) → (a || true) ≡ true
      or_last true = refl
      or_last false = refl

  without_debt : KnownSend → KnownSend
  without_debt k = record k { owed = false }

  known_later : record { row = row_of x; answer = option_map as_told (answer past x.number); owed = false } ≡ known_as (e ∷ past) x
  known_later =
      sym (ap (λ (o : Option Outcome). record { row = row_of x; answer = option_map as_told o; owed = is_owed (e ∷ past) x }) (answer-same e past x.number (quiet-calling.tells x.number))
      ∙ ap (λ b. record { row = row_of x; answer = option_map as_told (answer past x.number); owed = b }) owed_later)

  others : Standing setup past → (q : ℕ) → q ≢ s.0 → known_at (e ∷ past) q ≡ known_at past q
  others standing q differ =
      known-other setup e past q standing (send-quiet e past q quiet-calling) (quiet-calling.tells q) (ap (list_any (λ f. names_send f q)) (framed (stack past e.who.0)))
      (λ y is. is_owed-same e past y quiet-calling.running (ap (λ a. calls_back a y.number) calling.is_answer ∙ ne_eqb s.0 y.number (λ same. differ (sym (same ∙ (standing.sent q y is).is_number)))))

  -- the thread's head is taken, its callback's frame stands, and its result is owed no more
  pub stand-called_back : (p : SendParts) → Standing setup past → Standing setup (e ∷ past) → IsOurs setup e.who.0 → PartsStand setup past p → PartsStand setup (e ∷ past) (served p e.who.0)
  stand-called_back p standing after own h =
      let b : Book = pushed p.book e.who.0 CallbackRun in
      let head : head_of p e.who.0 ≡ Some (ReadyResult s) = head_of-stands setup past p e.who.0 own h ∙ ap (option_map ready_as) calling.is_first ∙ ap (λ n. Some (ReadyResult (record_id n))) (sym calling.is_send) in
      let as_many : length b.stacks ≡ setup.threads = length-set p.book.stacks (e.who.0 - 1) (CallbackRun ∷ stack_of p.book e.who.0) ∙ h.book.threads in
      let stacks : (t : ℕ) → IsOurs setup t → stack_of b t ≡ stack (e ∷ past) t =
      stacks-changed setup past e p.book (CallbackRun ∷ stack_of p.book e.who.0) h.book.threads own h.book.stacks quiet-calling.right
      (ap (λ fs. CallbackRun ∷ fs) (h.book.stacks e.who.0 own) ∙ sym (framed (stack past e.who.0))) in
      let stands : PartsStand setup (e ∷ past) (record p { book = with_send b s.0 (known_as (e ∷ past) x); lists = without_head p.lists e.who.0 }) = record {
        book = record {
          begun = h.book.begun ∙ sym (count-quiet e past quiet-calling);
          threads = as_many;
          stacks = stacks;
          known = with_send-stands (e ∷ past) b s.0 x found_later (stacked-counted setup (e ∷ past) b s.0 x after as_many stacks found_later) (λ q differ. h.book.known q ∙ sym (others standing q differ));
        };
        lists = lists-served setup e past p.lists (to_call_back x calling.proc_no calling.extra calling.place) quiet-calling own calling.is_first leaves-calling h.lists;
      } in
      let is : forgotten_as b s.0 (map.get p.book.known s.0) ≡ with_send b s.0 (known_as (e ∷ past) x) =
      ap (forgotten_as b s.0) (h.book.known s.0 ∙ known_before) ∙ ap (with_send b s.0) known_later in
      subst (λ r. PartsStand setup (e ∷ past) (record p { book = book_served p.book e.who.0 r; lists = without_head p.lists e.who.0 })) (sym head)
      (subst (λ c. PartsStand setup (e ∷ past) (record p { book = c; lists = without_head p.lists e.who.0 })) (sym is) stands)
