-- The parts stand on where a thread enters a send.
use Rattle.std.proofs.Common.{◌≡◌, ℕ, ◌-◌, true, false, not, cond, eqb, List, ◌∷◌, Option, Some, None, refl, ap, ◌∙◌, sym, subst, inl, inr, arith}
use Rattle.std.specs.Prelude.{◌&&◌, ◌||◌, ◌⊎◌, is_some, option_map}
use Rattle.std.specs.List.{list_any}
use Rattle.std.proofs.lemmas.Bool.{false≢true}
use Rattle.std.proofs.lemmas.Bool.Decides.{eqb_tells, nat_tests}
use Rattle.std.proofs.lemmas.List.{length-set}
use Rattle.win_num.specs.declared.send.SendId.{SendId}
use Rattle.win_num.specs.declared.send.Cause.TheVariants.{Loss, Timeout as ByTimeout}
use Rattle.win_num.specs.declared.send.Frame.{Frame}
use Rattle.win_num.specs.declared.send.Frame.TheVariants.{Entered}
use Rattle.win_num.specs.declared.message.Hwnd.{Hwnd}
use Rattle.user_model.specs.declared.call.Call.{Call}
use Rattle.user_model.specs.declared.call.Call.TheVariants.{Drop, Leave, Reply, Await}
use Rattle.user_model.specs.declared.entry.Entry.{Entry}
use Rattle.user_model.specs.declared.entry.Setup.{Setup}
use Rattle.user_model.specs.declared.entry.Answer.{Answer}
use Rattle.user_model.specs.declared.entry.Answer.TheVariants as answers
use Rattle.user_model.specs.Past.{Past, is_refused}
use Rattle.user_model.specs.Places.{is_end}
use Rattle.user_model.specs.Stacks.{leaves, stack, stacked}
use Rattle.user_model.specs.Sends.{SentMsg, Outcome, answer, answers, answers_in, calls_back, enters, is_answered, is_owed, is_stacked, is_timed_out, names_send, outcome, send}
use Rattle.user_model.specs.Ready.{ReadyMsg, to_enter, to_call_back, departs, ready_head}
use Rattle.user_model.proofs.SendLaws.{is_sent}
use Rattle.user_model.specs.Deeds.{is_serving}
use Rattle.send_frames.specs.Book.{pushed, stack_of}
use Rattle.send_variants.specs.declared.ready.Ready.TheVariants.{Send as ReadySend}
use Rattle.send_state.specs.Parts.{SendParts, book_served, head_of, served, without_head}
use Rattle.send_state.specs.Standing.{IsOurs, PartsStand, as_told, known_as, known_at, known_of, ready_as, row_of}
use Rattle.send_state.proofs.Still.{answer-same, is_drop, is_owed-same, loses-none}
use Rattle.send_state.proofs.StandStill.{any-framed, stacks-changed}
use Rattle.send_state.proofs.Serving.{IsQuiet, Leaves, about, count-quiet, eqb_itself, head_of-stands, lists-served, send-quiet}

-- ---- calls that serve

pub keeps-serving : (call : Call) → is_serving call ≡ true → is_drop call ≡ false
keeps-serving (Drop v) h = absurd (false≢true h)
keeps-serving _ h = refl

pub leaves-serving : (call : Call) → is_serving call ≡ true → leaves call ≡ false
leaves-serving (Leave v) h = absurd (false≢true h)
leaves-serving _ h = refl

pub answers_in-serving : (call : Call) (e : Entry) (past : Past) (s : ℕ) → is_serving call ≡ true → is_timed_out e.answer ≡ false → answers_in call e past s ≡ None
answers_in-serving (Leave v) e past s h t = absurd (false≢true h)
answers_in-serving (Reply v) e past s h t = absurd (false≢true h)
answers_in-serving (Await q) e past s h t = ap (λ b. cond (b && eqb q s) (Some (outcome past 0 ByTimeout)) None) t
answers_in-serving _ e past s h t = refl

pub answers-serving : (e : Entry) (past : Past) (s : ℕ) → is_serving e.call ≡ true → is_end e.answer ≡ false → is_timed_out e.answer ≡ false → answers e past s ≡ None
answers-serving e past s h running t =
    ap (λ b. cond b (Some (outcome past 0 Loss)) (answers_in e.call e past s)) (loses-none e past s (keeps-serving e.call h) running) ∙ answers_in-serving e.call e past s h t

-- ---- what is known of a send that has no answer, or whose frames stay

pub known_of-fresh : (past : Past) (x : SentMsg) → is_answered past x.number ≡ false → known_of past (Some x) ≡ Some (known_as past x)
known_of-fresh past x h = ap (λ b. cond (not b || (is_stacked past x || is_owed past x)) (Some (known_as past x)) None) h

pub known_of-kept : (past later : Past) (x : SentMsg) → answer later x.number ≡ answer past x.number → is_owed later x ≡ is_owed past x → (is_stacked later x ≡ is_stacked past x) ⊎ (is_answered past x.number ≡ false)
    → known_of later (Some x) ≡ known_of past (Some x)
known_of-kept past later x told owed how = elim how [ inl same ↦ by_frames same | inr none ↦ by_answer none ] where
  by_frames : is_stacked later x ≡ is_stacked past x → known_of later (Some x) ≡ known_of past (Some x)
  by_frames same =
      ap (λ (o : Option Outcome). cond (not (is_some o) || (is_stacked later x || is_owed later x)) (Some (record { row = row_of x; answer = option_map as_told o; owed = is_owed later x })) None) told
      ∙ ap (λ b. cond (not (is_answered past x.number) || (b || is_owed later x)) (Some (record { row = row_of x; answer = option_map as_told (answer past x.number); owed = is_owed later x })) None) same
      ∙ ap (λ b. cond (not (is_answered past x.number) || (is_stacked past x || b)) (Some (record { row = row_of x; answer = option_map as_told (answer past x.number); owed = b })) None) owed

  by_answer : is_answered past x.number ≡ false → known_of later (Some x) ≡ known_of past (Some x)
  by_answer none =
      let none_later : is_answered later x.number ≡ false = ap (λ (o : Option Outcome). is_some o) told ∙ none in
      known_of-fresh later x none_later
      ∙ ap (λ (o : Option Outcome). Some (record { row = row_of x; answer = option_map as_told o; owed = is_owed later x })) told
      ∙ ap (λ b. Some (record { row = row_of x; answer = option_map as_told (answer past x.number); owed = b })) owed
      ∙ sym (known_of-fresh past x none)

-- ---- entering

-- the first that is ready is entered
pub record IsEntering (past : Past) (e : Entry) (s : SendId) (x : SentMsg) : Type 0 where
  pub proc_no : ℕ
  pub hwnd : Hwnd
  pub number : ℕ
  pub wparam : ℕ
  pub lparam : ℕ
  pub is_answer : e.answer ≡ answers.Enter s proc_no hwnd number wparam lparam
  pub serves : is_serving e.call ≡ true
  pub is_first : ready_head past e.who.0 ≡ Some (to_enter x)
  pub is_send : s.0 ≡ x.number
  pub unanswered : is_answered past x.number ≡ false

-- the number as a send's
abbrev pub record_id : ℕ → SendId
record_id n = record { 0 = n }

pub eqb_apart : (a b c : ℕ) → eqb a b ≡ false → c ≡ b → eqb c a ≡ false
eqb_apart a b c h e = grind (arith, nat_tests)

module _ (past : Past) (e : Entry) (s : SendId) (x : SentMsg) (entering : IsEntering past e s x) where
  abbrev the_answer : Answer
  the_answer = answers.Enter s entering.proc_no entering.hwnd entering.number entering.wparam entering.lparam

  pub quiet-entering : IsQuiet e past
  quiet-entering = record {
    right = ap (λ a. is_refused (record e { answer = a })) entering.is_answer;
    makes = ap is_sent entering.is_answer;
    running = ap is_end entering.is_answer;
    tells = λ q. answers-serving e past q entering.serves (ap is_end entering.is_answer) (ap is_timed_out entering.is_answer);
  }

  leaves-entering : Leaves e past (to_enter x)
  leaves-entering = (goes, stays) where
    goes : departs e.who.0 e past (to_enter x) ≡ true
    goes =
        ap (λ a. (is_end a && eqb e.who.0 e.who.0) || (enters a x.number || is_some (answers e past x.number))) entering.is_answer
        ∙ ap (λ b. b || is_some (answers e past x.number)) (ap (λ n. eqb n x.number) entering.is_send ∙ eqb_itself x.number)

    stays : (t : ℕ) (q : ReadyMsg) → eqb (about q) x.number ≡ false → departs t e past q ≡ false
    stays t (to_enter y) h =
        ap (λ a. (is_end a && eqb e.who.0 t) || (enters a y.number || is_some (answers e past y.number))) entering.is_answer
        ∙ ap (λ b. b || is_some (answers e past y.number)) (eqb_apart y.number x.number s.0 h entering.is_send)
        ∙ ap (λ (o : Option Outcome). is_some o) (quiet-entering.tells y.number)
    stays t (to_call_back y proc_no extra place) h = ap (λ a. (is_end a && eqb e.who.0 t) || (calls_back a y.number && eqb e.who.0 y.from)) entering.is_answer

  framed : (fs : List Frame) → stacked e.call e.answer fs ≡ Entered s ∷ fs
  framed fs = ap (λ a. stacked e.call a fs) entering.is_answer

  any-other : (q : ℕ) → eqb s.0 q ≡ false → (fs : List Frame) → list_any (λ f. names_send f q) (stacked e.call e.answer fs) ≡ list_any (λ f. names_send f q) fs
  any-other q differ fs = ap (list_any (λ f. names_send f q)) (framed fs) ∙ ap (λ b. b || list_any (λ f. names_send f q) fs) differ

  stacked-other : (y : SentMsg) → eqb s.0 y.number ≡ false → is_stacked (e ∷ past) y ≡ is_stacked past y
  stacked-other y differ =
      ap (λ b. b || list_any (λ f. names_send f y.number) (stack (e ∷ past) y.to)) (any-framed e past y.from y.number (any-other y.number differ))
      ∙ ap (λ b. list_any (λ f. names_send f y.number) (stack past y.from) || b) (any-framed e past y.to y.number (any-other y.number differ))

  known-one : (y : SentMsg) → known_of (e ∷ past) (Some y) ≡ known_of past (Some y)
  known-one y =
      known_of-kept past (e ∷ past) y (answer-same e past y.number (quiet-entering.tells y.number))
      (is_owed-same e past y quiet-entering.running (ap (λ a. calls_back a y.number) entering.is_answer))
      (elim (eqb_tells s.0 y.number) [
        | inl same ↦ inr (ap (is_answered past) (sym same.1 ∙ entering.is_send) ∙ entering.unanswered)
        | inr differ ↦ inl (stacked-other y differ.0)
      ])

  known-entering : (q : ℕ) → known_at (e ∷ past) q ≡ known_at past q
  known-entering q = ap (known_of (e ∷ past)) (send-quiet e past q quiet-entering) ∙ each_one (send past q) where
    each_one : (o : Option SentMsg) → known_of (e ∷ past) o ≡ known_of past o
    each_one None = refl
    each_one (Some y) = known-one y

  same_id : record_id x.number ≡ s
  same_id = ap record_id (sym entering.is_send)

  -- the thread's head is taken, and its frame stands
  pub stand-entered : (setup : Setup) (p : SendParts) → IsOurs setup e.who.0 → PartsStand setup past p → PartsStand setup (e ∷ past) (served p e.who.0)
  stand-entered setup p own h =
      let head : head_of p e.who.0 ≡ Some (ReadySend s) = head_of-stands setup past p e.who.0 own h ∙ ap (option_map ready_as) entering.is_first ∙ ap (λ i. Some (ReadySend i)) same_id in
      let stands : PartsStand setup (e ∷ past) (record p { book = pushed p.book e.who.0 (Entered s); lists = without_head p.lists e.who.0 }) = record {
        book = record {
          begun = h.book.begun ∙ sym (count-quiet e past quiet-entering);
          threads = length-set p.book.stacks (e.who.0 - 1) (Entered s ∷ stack_of p.book e.who.0) ∙ h.book.threads;
          stacks = stacks-changed setup past e p.book (Entered s ∷ stack_of p.book e.who.0) h.book.threads own h.book.stacks quiet-entering.right
              (ap (λ fs. Entered s ∷ fs) (h.book.stacks e.who.0 own) ∙ sym (framed (stack past e.who.0)));
          known = λ q. h.book.known q ∙ sym (known-entering q);
        };
        lists = lists-served setup e past p.lists (to_enter x) quiet-entering own entering.is_first leaves-entering h.lists;
      } in
      subst (λ r. PartsStand setup (e ∷ past) (record p { book = book_served p.book e.who.0 r; lists = without_head p.lists e.who.0 })) (sym head) stands
