-- What a thread has ready, told by the parts.
use Rattle.std.proofs.Common.{◌≡◌, ℕ, Bool, true, false, cond, Option, Some, None, refl, ap, ◌∙◌, sym, inl, inr}
use Rattle.std.specs.Prelude.{option_and_then, option_map}
use Rattle.win_num.specs.declared.message.Hwnd.{Hwnd}
use Rattle.user_model.specs.declared.entry.Setup.{Setup}
use Rattle.user_model.specs.Past.{Past}
use Rattle.user_model.specs.Classes.{proc_of}
use Rattle.user_model.specs.Stacks.{has_room}
use Rattle.user_model.specs.Sends.{SentMsg}
use Rattle.user_model.specs.Ready.{ReadyMsg, to_enter, ready, ready_head}
use Rattle.user_model.specs.Next.{next_ready, run_for}
use Rattle.user_model.specs.Legal.{IsLawful}
use Rattle.user_model.proofs.ReadyLaws.{IsPending, ready_pending}
use Rattle.send_frames.specs.Book.{KnownSend}
use Rattle.send_state.specs.Parts.{SendParts, head_of, next_window, window_of}
use Rattle.send_state.specs.Standing.{IsOurs, PartsStand, ready_as}
use Rattle.send_state.proofs.Serving.{head_of-stands}
use Rattle.send_state.proofs.Told.{of_first}
use Rattle.send_state.proofs.Values.{known-stands, room-stands}

-- the window of what is ready
pending_window : (setup : Setup) (past : Past) (p : SendParts) (r : ReadyMsg) (k : IsPending past r) → PartsStand setup past p → window_of p.book (ready_as r) ≡ Some (record { 0 = k.of.hwnd })
pending_window setup past p r k h =
    let known = ap (option_map (λ (d : KnownSend). d.row.hwnd)) (known-stands setup past p k.of.number k.of h k.found k.unfinished) in
    elim k.about [
      | inl e ↦ ap (λ q. window_of p.book (ready_as q)) e ∙ known
      | inr e ↦ ap (λ q. window_of p.book (ready_as q)) e.2 ∙ known
    ]

-- the window of what is first ready, where the stack has room
window_is : (setup : Setup) (past : Past) (p : SendParts) (t : ℕ) → IsOurs setup t → PartsStand setup past p → next_window p t ≡ cond (has_room past t) (option_and_then (window_of p.book) (option_map ready_as (ready_head past t))) None
window_is setup past p t ours h =
    ap (λ b. cond b (option_and_then (window_of p.book) (head_of p t)) None) (room-stands setup past p t ours h)
    ∙ ap (λ o. cond (has_room past t) (option_and_then (window_of p.book) o) None) (head_of-stands setup past p t ours h)

-- where there is no window nothing is run
pub none_runs : (setup : Setup) (past : Past) (p : SendParts) (t : ℕ) → IsLawful setup past → IsOurs setup t → PartsStand setup past p → next_window p t ≡ None → next_ready past t ≡ None
none_runs setup past p t lawful ours h none = by (has_room past t) (ready_head past t) refl (sym (window_is setup past p t ours h) ∙ none)
  where
    by : (b : Bool) (o : Option ReadyMsg) → ready_head past t ≡ o → cond b (option_and_then (window_of p.book) (option_map ready_as o)) None ≡ None → cond b (option_map (run_for past) o) None ≡ None
    by false o is e = refl
    by true None is e = refl
    by true (Some r) is e =
        let pending = of_first (IsPending past) (ready past t) r (ready_pending setup past t lawful) is in
        let clash = sym (pending_window setup past p r pending h) ∙ e in
        absurd cc

-- the send that is first ready is to that window
pub first_proc : (setup : Setup) (past : Past) (p : SendParts) (t : ℕ) (w : Hwnd) → IsLawful setup past → IsOurs setup t → PartsStand setup past p → next_window p t ≡ Some w → (x : SentMsg) → ready_head past t ≡ Some (to_enter x) → proc_of past w.0 ≡ proc_of past x.hwnd
first_proc setup past p t w lawful ours h found x is = by (has_room past t) (sym (window_is setup past p t ours h ∙ ap (λ o. cond (has_room past t) (option_and_then (window_of p.book) (option_map ready_as o)) None) is) ∙ found)
  where
    pending : IsPending past (to_enter x)
    pending = of_first (IsPending past) (ready past t) (to_enter x) (ready_pending setup past t lawful) is

    same_send : pending.of ≡ x
    same_send = elim pending.about [ inl e ↦ cc | inr e ↦ absurd (let clash = e.2 in cc) ]

    by : (b : Bool) → cond b (option_and_then (window_of p.book) (Some (ready_as (to_enter x)))) None ≡ Some w → proc_of past w.0 ≡ proc_of past x.hwnd
    by false e = absurd cc
    by true e =
        let both : Some (record { 0 = pending.of.hwnd }) ≡ Some w = sym (pending_window setup past p (to_enter x) pending h) ∙ e in
        let one : record { 0 = pending.of.hwnd } ≡ w = cc in
        ap (λ (k : Hwnd). proc_of past k.0) (sym one) ∙ ap (λ (y : SentMsg). proc_of past y.hwnd) same_send
