-- The windows of a table that an entry drops.
use Rattle.std.proofs.Common.{◌≡◌, ℕ, eqb, List, ◌∷◌, map, Option, Some, None, false, refl, ap, ◌∙◌, sym}
use Rattle.std.specs.Prelude.{◌||◌, ◌&&◌, option_map, unwrap_or, is_some}
use Rattle.win_rows.specs.declared.window.Window.{Window as KeptWindow}
use Rattle.win_tree.specs.Kin as kept_kin
use Rattle.user_model.specs.declared.call.Call.TheVariants as calls
use Rattle.user_model.specs.declared.entry.Answer.TheVariants as answers
use Rattle.user_model.specs.declared.entry.Entry.{Entry}
use Rattle.user_model.specs.declared.entry.Setup.{Setup}
use Rattle.user_model.specs.Past.{Past}
use Rattle.user_model.specs.Places.{ends_thread, is_end}
use Rattle.user_model.specs.Windows.{Window, drops, drops_kin, drops_window, is_kin, is_live, live, window}
use Rattle.user_model.specs.Legal.{IsLawful}
use Rattle.user_model.proofs.DeliveryReplies.{end_told}
use Rattle.user_model.proofs.PostLaws.{drops_window-drop}
use Rattle.user_model.proofs.ReplyLaws.{by_row}
use Rattle.window_state.specs.Trees.{thread_in}
use Rattle.thread_queues.specs.Deliveries.{goes_with}
use Rattle.core_state.specs.Sendings.{is_of}
use Rattle.window_state.specs.Trees.{as_made}
use Rattle.window_state.proofs.Bridges.{kin_made}
use Rattle.core_state.proofs.Deliveries.{is_live-is, thread_in-is}
use Rattle.thread_queues.proofs.QueueLists.{same_number}

-- a drop of v drops the windows that go with v
pub dropped_goes : (past : Past) (e : Entry) (ws : List KeptWindow) (v w : ℕ) → map as_made ws ≡ live past → e.call ≡ calls.Drop v → e.answer ≡ answers.Okay → goes_with ws v w ≡ drops_window e past w
dropped_goes past e ws v w at is_call is =
    ap (λ b. b && kept_kin.is_kin ws v w) (is_live-is past ws w at)
    ∙ ap (λ b. is_live past w && b) (sym (kin_made ws v w) ∙ ap (λ (us : List Window). is_kin us v w) at)
    ∙ sym (drops_window-drop e past v w is_call (ap is_end is))

ended_with : (past : Past) (e : Entry) (o : Option Window) → e.call ≡ calls.EndThread → e.answer ≡ answers.Ended → (is_some o && eqb (unwrap_or (option_map (λ (x : Window). x.thread) o) 0) e.who.0) ≡ unwrap_or (option_map (drops e (live past)) o) false
ended_with past e None is_call is = refl
ended_with past e (Some x) is_call is =
    same_number x.thread e.who.0
    ∙ sym (ap (λ c. drops_kin c (live past) x || ends_thread e x.thread) is_call ∙ ap (λ a. is_end a && eqb e.who.0 x.thread) is)

-- a thread ends by its own call
pub ending_call : (setup : Setup) (past : Past) (e : Entry) → IsLawful setup (e ∷ past) → e.answer ≡ answers.Ended → e.call ≡ calls.EndThread
ending_call setup past e lawful is = end_told setup past e.who.0 e.call (by_row setup past e.who.0 e.call answers.Ended (sym lawful.1 ∙ is) refl).is_row

-- the end of a thread drops its windows
pub ended_goes : (setup : Setup) (past : Past) (e : Entry) (ws : List KeptWindow) (w : ℕ) → IsLawful setup (e ∷ past) → map as_made ws ≡ live past → e.answer ≡ answers.Ended → is_of ws e.who.0 w ≡ drops_window e past w
ended_goes setup past e ws w lawful at is =
    ap (λ b. b && eqb (thread_in ws w) e.who.0) (is_live-is past ws w at)
    ∙ ap (λ n. is_live past w && eqb n e.who.0) (thread_in-is past ws w at)
    ∙ ended_with past e (window past w) (ending_call setup past e lawful is) is
