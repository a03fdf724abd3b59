-- Timers at a past with one entry more.
use Rattle.std.proofs.Common.{◌≡◌, true, false, not, ◌∷◌, ◌++◌, ap}
use Rattle.std.specs.Prelude.{◌||◌, filter, unwrap_or}
use Rattle.user_model.specs.declared.entry.Entry.{Entry}
use Rattle.user_model.specs.Past.{Past, is_refused}
use Rattle.user_model.specs.Windows.{drops_window}
use Rattle.user_model.specs.Timers.{WinTimer, timers, timers_set, ends_timer, base, base_told}
use Rattle.user_model.proofs.PastLaws.{first_way, standing-next}
use Rattle.user_model.proofs.DirtyLaws.{last_says, last_refused}

-- the timers after an entry that wasn't refused
pub timers-next : (e : Entry) (past : Past) → is_refused e ≡ false → timers (e ∷ past) ≡ filter (λ x. not (ends_timer e.call x || drops_window e past x.hwnd)) (timers past) ++ timers_set e.call
timers-next e past h = standing-next (λ e before. timers_set e.call) (λ e before x. ends_timer e.call x || drops_window e before x.hwnd) e past h

-- and after one that was
pub timers-refused : (e : Entry) (past : Past) → is_refused e ≡ true → timers (e ∷ past) ≡ timers past
timers-refused e past h = first_way (is_refused e) (timers past) (filter (λ x. not (ends_timer e.call x || drops_window e past x.hwnd)) (timers past) ++ timers_set e.call) h

-- when a timer's period began last, after an entry that wasn't refused
pub base-next : (e : Entry) (past : Past) (x : WinTimer) → is_refused e ≡ false → base (e ∷ past) x ≡ unwrap_or (base_told x.hwnd x.id e past) (base past x)
base-next e past x h = last_says (base_told x.hwnd x.id) e past 0 h

-- and after one that was
pub base-refused : (e : Entry) (past : Past) (x : WinTimer) → is_refused e ≡ true → base (e ∷ past) x ≡ base past x
base-refused e past x h = ap (λ o. unwrap_or o 0) (last_refused (base_told x.hwnd x.id) e past h)
