-- What leaving, replying and serving need of the parts.
use Rattle.std.proofs.Common.{◌≡◌, ℕ, ◌≤◌, Bool, true, false, cond, List, [], ◌∷◌, Option, Some, None, refl, ap, ◌∙◌, sym, subst, inl}
use Rattle.std.specs.Prelude.{is_none, is_some, option_map}
use Rattle.std.specs.List.{AllByRecursion, slice_get}
use Rattle.std.specs.FinMap as map
use Rattle.std.proofs.lemmas.Bool.{false≢true}
use Rattle.win_num.specs.declared.send.Frame.{Frame}
use Rattle.win_num.specs.declared.send.Frame.TheVariants.{Entered, Inside, Called, CallbackRun, Await}
use Rattle.user_model.specs.declared.entry.Setup.{Setup}
use Rattle.user_model.specs.Past.{Past, place_after}
use Rattle.user_model.specs.Stacks.{stack}
use Rattle.user_model.specs.Sends.{SentMsg, Outcome, answer, is_answered, is_entered, is_owed, is_unfinished, send}
use Rattle.user_model.specs.Legal.{IsLawful}
use Rattle.user_model.proofs.SendLawful.{lawful_standing}
use Rattle.user_model.proofs.SendStanding.{FrameStands, Standing}
use Rattle.send_frames.specs.Book.{KnownSend}
use Rattle.send_state.specs.Parts.{CanAnswer, CanAnswerAs, CanLeaveFrom, CanReplyIn, SendParts, rank, top_of}
use Rattle.send_state.specs.Standing.{IsOurs, PartsStand, as_told, known_as, known_of}
use Rattle.send_state.proofs.Frames.{is_ours}
use Rattle.send_state.proofs.Joining.{can-join}
use Rattle.send_state.proofs.Owing.{and_true}
use Rattle.send_state.proofs.ToldReplied.{unlisted}

module _ (setup : Setup) (past : Past) (p : SendParts) (lawful : IsLawful setup past) (h : PartsStand setup past p) (few : map.len p.book.known ≤ 1024) where
  standing : Standing setup past
  standing = lawful_standing setup past lawful

  none_told : (o : Option Outcome) → is_none (option_map as_told o) ≡ true → is_some o ≡ false
  none_told None k = refl
  none_told (Some a) k = absurd (false≢true k)

  -- a send that was entered can be answered
  pub can-answer-entered : (s : ℕ) → is_entered past s ≡ true → CanAnswer p s (rank (place_after past) 0)
  can-answer-entered s entered = by (send past s) refl where
    joins : (x : SentMsg) → send past s ≡ Some x → (u : Bool) → map.get p.book.known s ≡ cond u (Some (known_as past x)) None → CanAnswer p s (rank (place_after past) 0)
    joins x found false k = subst (CanAnswerAs p.lists s (rank (place_after past) 0)) (sym k) tt
    joins x found true k = subst (CanAnswerAs p.lists s (rank (place_after past) 0)) (sym k) (λ due.
        let unanswered : is_answered past s ≡ false = ap (λ n. is_answered past n) (sym (standing.sent s x found).is_number) ∙ none_told (answer past x.number) (and_true (is_none (option_map as_told (answer past x.number))) (is_owed past x) due).0 in
        can-join setup past p x.from s lawful h (is_ours setup x.from (standing.sent s x found).from_thread) few (inl (ap (λ (o : Option KnownSend). is_some o) k)) (unlisted setup past s standing entered unanswered))

    by : (o : Option SentMsg) → send past s ≡ o → CanAnswer p s (rank (place_after past) 0)
    by None found = subst (CanAnswerAs p.lists s (rank (place_after past) 0)) (sym (h.book.known s ∙ ap (known_of past) found)) tt
    by (Some x) found = joins x found (is_unfinished past x) (h.book.known s ∙ ap (known_of past) found)

  leave_top : (t : ℕ) (fs : List Frame) → AllByRecursion (FrameStands past t) fs → CanLeaveFrom p (rank (place_after past) 0) (slice_get fs 0)
  leave_top t [] all = tt
  leave_top t (Entered s ∷ fs) all = can-answer-entered s.0 all.0.entered
  leave_top t (Inside s ∷ fs) all = can-answer-entered s.0 all.0.entered
  leave_top t (Called ∷ fs) all = tt
  leave_top t (CallbackRun ∷ fs) all = tt
  leave_top t (Await s ∷ fs) all = tt

  -- what leaving a procedure needs
  pub can-leave-stands : (t : ℕ) → IsOurs setup t → CanLeaveFrom p (rank (place_after past) 0) (top_of p t)
  can-leave-stands t ours = subst (λ l. CanLeaveFrom p (rank (place_after past) 0) (slice_get l 0)) (sym (h.book.stacks t ours)) (leave_top t (stack past t) (standing.frames t))

  reply_top : (t : ℕ) (fs : List Frame) → AllByRecursion (FrameStands past t) fs → CanReplyIn p (rank (place_after past) 0) (slice_get fs 0)
  reply_top t [] all = tt
  reply_top t (Entered s ∷ fs) all = can-answer-entered s.0 all.0.entered
  reply_top t (Inside s ∷ fs) all = tt
  reply_top t (Called ∷ fs) all = tt
  reply_top t (CallbackRun ∷ fs) all = tt
  reply_top t (Await s ∷ fs) all = tt

  -- what a reply needs
  pub can-reply-stands : (t : ℕ) → IsOurs setup t → CanReplyIn p (rank (place_after past) 0) (top_of p t)
  can-reply-stands t ours = subst (λ l. CanReplyIn p (rank (place_after past) 0) (slice_get l 0)) (sym (h.book.stacks t ours)) (reply_top t (stack past t) (standing.frames t))
