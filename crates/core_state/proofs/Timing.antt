-- The timers after an entry, where they change beside the table of windows.
use Rattle.std.proofs.Common.{◌≡◌, ℕ, List, ◌∷◌, refl, ap, sym, ◌∙◌, subst}
use Rattle.win_num.specs.declared.message.Thread.{Thread}
use Rattle.win_rows.specs.Windows.{Windows}
use Rattle.timer_source.specs.declared.setting.Setting.{Setting}
use Rattle.user_model.specs.declared.call.Call.{Call}
use Rattle.user_model.specs.declared.entry.Answer.{Answer}
use Rattle.user_model.specs.declared.entry.Answer.TheVariants as answers
use Rattle.user_model.specs.declared.entry.Entry.{Entry}
use Rattle.user_model.specs.declared.entry.Setup.{Setup}
use Rattle.user_model.specs.Past.{Past}
use Rattle.user_model.specs.Places.{clock}
use Rattle.user_model.specs.Idle.{reply}
use Rattle.window_state.specs.Effects.{IsAddedBy}
use Rattle.timer_state.specs.Changes.{FitsFollowing, added_timers, followed}
use Rattle.timer_state.specs.TimerLists.{timers_at}
use Rattle.timer_state.proofs.TimerSteps.{timers_after}
use Rattle.core_state.specs.States.{Parts, Stands}

-- what is needed of the table, after what was added to it
pub still_fits : (old new : Windows) (who : ℕ) (a : Answer) (call : Call) → IsAddedBy who a call old new → FitsFollowing old.live a call → FitsFollowing new.live a call
still_fits old new who (answers.Window w) call made fits = fits
still_fits old new who a call made fits = subst (λ (t : Windows). FitsFollowing t.live a call) (sym made) fits

-- a window more changes nothing of it
same_followed : (old new : Windows) (who : Thread) (time : ℕ) (a : Answer) (call : Call) (l : List Setting) → IsAddedBy who.0 a call old new → followed new.live who time a call l ≡ followed old.live who time a call l
same_followed old new who time (answers.Window w) call l made = refl
same_followed old new who time a call l made = ap (λ (t : Windows). followed t.live who time a call l) made

-- the timers that were brought up to date are those of the past with the entry
pub timers_step : (setup : Setup) (past : Past) (p : Parts) (e : Entry) (tree : Windows) (added left : List Setting) → Stands setup past p → e.answer ≡ reply setup past e.who.0 e.call → IsAddedBy e.who.0 e.answer e.call p.tree tree → added ≡ added_timers e.who p.time e.answer e.call p.timers → left ≡ followed tree.live e.who p.time e.answer e.call added → left ≡ timers_at (e ∷ past)
timers_step setup past p e tree added left st right made grown is =
    is ∙ same_followed p.tree tree e.who p.time e.answer e.call added made
    ∙ ap (followed p.tree.live e.who p.time e.answer e.call) grown
    ∙ ap (λ n. followed p.tree.live e.who n e.answer e.call (added_timers e.who n e.answer e.call p.timers)) st.clock
    ∙ ap (λ l. followed p.tree.live e.who (clock past) e.answer e.call (added_timers e.who (clock past) e.answer e.call l)) st.timers
    ∙ timers_after setup past p.tree e st.lawful st.tree right
