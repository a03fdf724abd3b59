-- Attached threads, what is set for a group, and the foreground thread, at a past with one entry more.
use Rattle.std.proofs.Common.{◌≡◌, ℕ, Bool, true, false, not, ◌∷◌, ◌++◌, ap}
use Rattle.std.specs.Prelude.{filter, unwrap_or}
use Rattle.user_model.specs.declared.entry.Entry.{Entry}
use Rattle.user_model.specs.Past.{Past, is_refused}
use Rattle.user_model.specs.Groups.{attached, attaches, unlinks}
use Rattle.user_model.specs.Focus.{Slot, activates, foreground, if_among, last_set, set_among, set_in}
use Rattle.user_model.proofs.PastLaws.{first_way, standing-next}
use Rattle.user_model.proofs.DirtyLaws.{last_says, last_refused}

-- the links after an entry that wasn't refused
pub attached-next : (e : Entry) (past : Past) → is_refused e ≡ false → attached (e ∷ past) ≡ filter (λ x. not (unlinks e x)) (attached past) ++ attaches e.call
attached-next e past h = standing-next (λ e before. attaches e.call) (λ e before x. unlinks e x) e past h

-- and after one that was
pub attached-refused : (e : Entry) (past : Past) → is_refused e ≡ true → attached (e ∷ past) ≡ attached past
attached-refused e past h = first_way (is_refused e) (attached past) (filter (λ x. not (unlinks e x)) (attached past) ++ attaches e.call) h

-- what was set last, after an entry that wasn't refused
pub last_set-next : (among : ℕ → Bool) (slot : Slot) (e : Entry) (past : Past) → is_refused e ≡ false → last_set among slot (e ∷ past) ≡ unwrap_or (if_among among e.who.0 (set_in slot e.call)) (last_set among slot past)
last_set-next among slot e past h = last_says (set_among among slot) e past 0 h

-- and after one that was
pub last_set-refused : (among : ℕ → Bool) (slot : Slot) (e : Entry) (past : Past) → is_refused e ≡ true → last_set among slot (e ∷ past) ≡ last_set among slot past
last_set-refused among slot e past h = ap (λ o. unwrap_or o 0) (last_refused (set_among among slot) e past h)

-- the foreground thread after an entry that wasn't refused
pub foreground-next : (e : Entry) (past : Past) → is_refused e ≡ false → foreground (e ∷ past) ≡ unwrap_or (activates e.who.0 e.call) (foreground past)
foreground-next e past h = last_says (λ e before. activates e.who.0 e.call) e past 0 h

-- and after one that was
pub foreground-refused : (e : Entry) (past : Past) → is_refused e ≡ true → foreground (e ∷ past) ≡ foreground past
foreground-refused e past h = ap (λ o. unwrap_or o 0) (last_refused (λ e before. activates e.who.0 e.call) e past h)
