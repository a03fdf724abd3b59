-- WM_TIMER of the timer that is due first.
use Rattle.std.proofs.Common.{◌≡◌, Option, Some, None, refl, ap}
use Rattle.std.specs.Prelude.{option_map}
use Rattle.win_num.specs.declared.names.TheConstants.{WM_TIMER}
use Rattle.timer_source.specs.declared.timer.Timer.{Timer}
use Rattle.user_model.specs.declared.entry.Answer.{Answer}
use Rattle.user_model.specs.declared.entry.Answer.TheVariants.{Got}
use Rattle.user_model.specs.declared.entry.Origin.TheVariants.{Timer as FromTimer}
use Rattle.user_model.specs.Past.{Past}
use Rattle.user_model.specs.Places.{clock, cursor}
use Rattle.user_model.specs.Posts.{message}
use Rattle.user_model.specs.Next.{got_timer}
use Rattle.user_model.specs.Timers.{WinTimer}
use Rattle.timer_state.specs.TimerLists.{as_due}

-- the message of a timer, as a retrieval hands it out
abbrev pub handed_out : Past → Timer → Answer
handed_out past x = Got FromTimer 0 (message x.hwnd.0 WM_TIMER x.id 0 (clock past) (cursor past))

-- the one that is found is the one that is due
pub timer_handed : (past : Past) (o : Option WinTimer) (x : Timer) → Some x ≡ option_map (as_due past) o → Some (handed_out past x) ≡ option_map (got_timer past) o
timer_handed past None x e = absurd cc
timer_handed past (Some y) x e = let same : x ≡ as_due past y = cc in ap (λ (z : Timer). Some (handed_out past z)) same

pub none_handed : (past : Past) (o : Option WinTimer) → None ≡ option_map (as_due past) o → None ≡ option_map (got_timer past) o
none_handed past None e = refl
none_handed past (Some y) e = absurd cc
