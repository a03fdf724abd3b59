-- What the state tells is what the definitions say of the past.
use Rattle.std.proofs.Common.{◌≡◌, ℕ, true, cond, List, [], ◌∷◌, length, Option, Some, None, nat_lt, refl, ap, ◌∙◌, sym}
use Rattle.std.specs.Prelude.{option_map, option_and_then}
use Rattle.std.specs.List.{slice_get}
use Rattle.std.specs.FinMap as map
use Rattle.win_num.specs.declared.send.Cause.{Cause}
use Rattle.win_num.specs.declared.send.Frame.{Frame}
use Rattle.user_model.specs.declared.entry.Setup.{Setup}
use Rattle.user_model.specs.declared.entry.Answer.{Answer}
use Rattle.user_model.specs.declared.entry.Answer.TheVariants.{Callback}
use Rattle.user_model.specs.Past.{Past, first}
use Rattle.user_model.specs.Classes.{proc_of}
use Rattle.user_model.specs.Stacks.{has_room, stack, top}
use Rattle.user_model.specs.Sends.{SentMsg, Outcome, answer, is_unfinished, send}
use Rattle.user_model.specs.Ready.{ReadyMsg, to_enter, to_call_back, ready, ready_head}
use Rattle.user_model.specs.Next.{next_ready, result_of, run_for}
use Rattle.user_model.specs.Legal.{IsLawful}
use Rattle.user_model.proofs.ReadyLaws.{IsPending, ready_pending}
use Rattle.user_model.proofs.SendLawful.{lawful_standing}
use Rattle.user_model.proofs.SendStanding.{ReadyStands}
use Rattle.send_frames.specs.Book.{KnownSend, stack_of}
use Rattle.send_state.specs.Parts.{SendParts, callback_in, enter_as, has_depth, head_of, next_answer, run_as, top_of}
use Rattle.send_state.specs.Standing.{IsOurs, PartsStand, as_told, known_as, known_of, ready_as}
use Rattle.send_state.proofs.Serving.{about, head_of-stands}
use Rattle.send_state.proofs.Entering.{record_id}
use Rattle.send_state.proofs.Joining.{of_about}
use Rattle.send_state.proofs.Told.{of_first}

-- the answer that hands over a result
abbrev called_back : SentMsg → ℕ → ℕ → ℕ → Answer
called_back x pn extra value = Callback (record_id x.number) pn (record { 0 = x.hwnd }) x.message extra value

first_is : (fs : List Frame) → slice_get fs 0 ≡ first fs
first_is [] = refl
first_is (f ∷ fs) = refl

-- the newest frame
pub top-stands : (setup : Setup) (past : Past) (p : SendParts) (t : ℕ) → IsOurs setup t → PartsStand setup past p → top_of p t ≡ top past t
top-stands setup past p t ours h = first_is (stack_of p.book t) ∙ ap first (h.book.stacks t ours)

-- how many frames a thread has, and whether there is room for one more
pub depth-stands : (setup : Setup) (past : Past) (p : SendParts) (t : ℕ) → IsOurs setup t → PartsStand setup past p → length (stack_of p.book t) ≡ length (stack past t)
depth-stands setup past p t ours h = ap length (h.book.stacks t ours)

pub room-stands : (setup : Setup) (past : Past) (p : SendParts) (t : ℕ) → IsOurs setup t → PartsStand setup past p → has_depth p.book t ≡ has_room past t
room-stands setup past p t ours h = ap (λ (l : List Frame). nat_lt (length l) 64) (h.book.stacks t ours)

-- what is known of an unfinished send
pub known-stands : (setup : Setup) (past : Past) (p : SendParts) (s : ℕ) (x : SentMsg) → PartsStand setup past p → send past s ≡ Some x → is_unfinished past x ≡ true → map.get p.book.known s ≡ Some (known_as past x)
known-stands setup past p s x h found unfinished = h.book.known s ∙ ap (known_of past) found ∙ ap (λ b. cond b (Some (known_as past x)) None) unfinished

-- the answer of an unfinished send
pub answered-stands : (setup : Setup) (past : Past) (p : SendParts) (s : ℕ) (x : SentMsg) → PartsStand setup past p → send past s ≡ Some x → is_unfinished past x ≡ true
    → option_and_then (λ (k : KnownSend). k.answer) (map.get p.book.known s) ≡ option_map as_told (answer past x.number)
answered-stands setup past p s x h found unfinished = ap (option_and_then (λ (k : KnownSend). k.answer)) (known-stands setup past p s x h found unfinished)

module _ (setup : Setup) (past : Past) (p : SendParts) (t proc_no : ℕ) (lawful : IsLawful setup past) (h : PartsStand setup past p) (ours : IsOurs setup t)
    (is_proc : (x : SentMsg) → ready_head past t ≡ Some (to_enter x) → proc_no ≡ proc_of past x.hwnd) where
  -- the first that is ready is of an unfinished send
  known-first : (r : ReadyMsg) (x : SentMsg) → ready_head past t ≡ Some r → about r ≡ x.number → send past x.number ≡ Some x → map.get p.book.known x.number ≡ Some (known_as past x)
  known-first r x is same found =
      let pending = of_first (IsPending past) (ready past t) r (ready_pending setup past t lawful) is in
      let number = sym (of_about past r pending) ∙ same in
      let both : Some pending.of ≡ Some x = sym pending.found ∙ ap (send past) number ∙ found in
      let one : pending.of ≡ x = cc in
      known-stands setup past p x.number x h found (ap (is_unfinished past) (sym one) ∙ pending.unfinished)

  runs-first : (o : Option ReadyMsg) → ready_head past t ≡ o → option_and_then (run_as p.book proc_no) (option_map ready_as o) ≡ option_map (run_for past) o
  runs-first None is = refl
  runs-first (Some (to_enter x)) is =
      let stands = of_first (ReadyStands past t) (ready past t) (to_enter x) ((lawful_standing setup past lawful).waiting t) is in
      ap (option_map (enter_as proc_no (record_id x.number))) (known-first (to_enter x) x is refl stands.found)
      ∙ ap (λ n. Some (enter_as n (record_id x.number) (known_as past x))) (is_proc x is)
  runs-first (Some (to_call_back x pn extra place)) is =
      let stands = of_first (ReadyStands past t) (ready past t) (to_call_back x pn extra place) ((lawful_standing setup past lawful).waiting t) is in
      ap (option_and_then (λ (k : KnownSend). callback_in (record_id x.number) k k.row.kind)) (known-first (to_call_back x pn extra place) x is refl stands.found)
      ∙ ap (callback_in (record_id x.number) (known_as past x)) stands.is_kind
      ∙ ap (λ (o : Option Outcome). option_map (λ (a : ℕ × Cause). called_back x pn extra a.0) (option_map as_told o)) stands.answered
      ∙ sym (ap (λ (o : Option Outcome). Some (called_back x pn extra (result_of o))) stands.answered)

  -- the answer that runs what is ready
  pub next-stands : next_answer p t proc_no ≡ next_ready past t
  next-stands =
      ap (λ b. cond b (option_and_then (run_as p.book proc_no) (head_of p t)) None) (room-stands setup past p t ours h)
      ∙ ap (λ o. cond (has_room past t) o None) (ap (option_and_then (run_as p.book proc_no)) (head_of-stands setup past p t ours h) ∙ runs-first (ready_head past t) refl)
