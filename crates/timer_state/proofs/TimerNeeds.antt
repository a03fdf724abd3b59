-- What an entry's change of the timers needs, at a lawful past.
use Rattle.std.proofs.Common.{◌≡◌, ℕ, Bool, true, false, not, eqb, length, Option, Some, None, refl, ap, sym, ◌∙◌}
use Rattle.std.specs.Prelude.{◌&&◌, ◌||◌, is_none, is_some, IsTrue}
use Rattle.std.proofs.Math.Dec.{leb}
use Rattle.win_num.specs.declared.message.Thread.{Thread}
use Rattle.win_rows.specs.Windows as rows
use Rattle.win_rows.specs.Windows.{Windows}
use Rattle.user_model.specs.declared.call.Call.{Call}
use Rattle.user_model.specs.declared.call.Call.TheVariants as calls
use Rattle.user_model.specs.declared.entry.Answer.{Answer}
use Rattle.user_model.specs.declared.entry.Answer.TheVariants as answers
use Rattle.user_model.specs.declared.entry.Setup.{Setup}
use Rattle.user_model.specs.Past.{Past}
use Rattle.user_model.specs.Windows.{is_live, find_window, thread_of}
use Rattle.user_model.specs.Timers.{timer, timers, timers_of}
use Rattle.user_model.specs.Idle.{reply}
use Rattle.user_model.proofs.TimerReplies.{set_told, kill_told}
use Rattle.user_model.proofs.WindowReplies.{drop_told}
use Rattle.timer_source.specs.Settings.{has_no_room, of_thread}
use Rattle.window_state.specs.Trees.{IsTreeAt}
use Rattle.window_state.proofs.Bridges.{live_made}
use Rattle.timer_state.specs.Changes.{FitsAddedTimers, FitsSetting, FitsFollowing, FitsCarrying}
use Rattle.timer_state.specs.TimerLists.{kept, timers_at}
use Rattle.timer_state.proofs.Kept.{is_set_for-kept, of_thread-kept, length_mapped}

-- a live window is in the table
pub in_table : (past : Past) (t : Windows) (w : ℕ) → IsTreeAt past t → is_live past w ≡ true → rows.is_live t.live w ≡ true
in_table past t w at lives = sym (live_made t.live w) ∙ ap (λ ws. is_some (find_window ws w)) at.windows ∙ lives

there_or_none : (w : ℕ) (b : Bool) → b ≡ true → IsTrue (eqb w 0 || b)
there_or_none w b is = rw is (second (eqb w 0))
  where
    second : (a : Bool) → IsTrue (a || true)
    second true = refl
    second false = refl

none_or_some : {A : Type 0} (o : Option A) → not (is_some o) ≡ is_none o
none_or_some None = refl
none_or_some (Some a) = refl

-- whether there is no room, as the kept timers tell it
pub no_room-kept : (past : Past) (who : Thread) (w id : ℕ) → eqb (thread_of past w) who.0 ≡ true → has_no_room who (record { 0 = w }) id (timers_at past) ≡ (is_none (timer past w id) && leb 256 (length (timers_of past who.0)))
no_room-kept past who w id own =
    ap (λ b. not b && leb 256 (length (of_thread who (timers_at past)))) (is_set_for-kept past who (record { 0 = w }) id (timers past) own)
    ∙ ap (λ b. b && leb 256 (length (of_thread who (timers_at past)))) (none_or_some (timer past w id))
    ∙ ap (λ n. is_none (timer past w id) && leb 256 n) (ap length (of_thread-kept past who (timers past)) ∙ length_mapped (kept past) (timers_of past who.0))

adding : (setup : Setup) (past : Past) (t : Windows) (who : Thread) (call : Call) → IsTreeAt past t → answers.Okay ≡ reply setup past who.0 call → FitsSetting t.live who (timers_at past) call
adding setup past t who (calls.SetTimer w id ms) at right =
    let told = set_told setup past who.0 w id ms (sym right) in
    (there_or_none w (rows.is_live t.live w) (in_table past t w at told.own.is_live), no_room-kept past who w id told.own.own ∙ told.room)
adding setup past t who _ at right = tt

-- what a timer that is set needs
pub fits_adding : (setup : Setup) (past : Past) (t : Windows) (who : Thread) (a : Answer) (call : Call) → IsTreeAt past t → a ≡ reply setup past who.0 call → FitsAddedTimers t.live who (timers_at past) a call
fits_adding setup past t who answers.Okay call at right = adding setup past t who call at right
fits_adding setup past t who _ call at right = tt

carrying : (setup : Setup) (past : Past) (t : Windows) (who : Thread) (call : Call) → IsTreeAt past t → answers.Okay ≡ reply setup past who.0 call → FitsCarrying t.live call
carrying setup past t who (calls.KillTimer w id) at right = there_or_none w (rows.is_live t.live w) (in_table past t w at (kill_told setup past who.0 w id (sym right)).is_live)
carrying setup past t who (calls.Drop w) at right = there_or_none w (rows.is_live t.live w) (in_table past t w at (drop_told setup past who.0 w (sym right)).0.is_live)
carrying setup past t who _ at right = tt

-- what the other changes need
pub fits_following : (setup : Setup) (past : Past) (t : Windows) (who : Thread) (a : Answer) (call : Call) → IsTreeAt past t → a ≡ reply setup past who.0 call → FitsFollowing t.live a call
fits_following setup past t who answers.Okay call at right = carrying setup past t who call at right
fits_following setup past t who _ call at right = tt
