-- Dirty pixels, erase flags and begun painting at a past with one entry more.
use Rattle.std.proofs.Common.{◌≡◌, ℕ, Bool, true, false, not, ◌∷◌, Option, Some, None, refl, ap, ◌∙◌}
use Rattle.std.specs.Prelude.{◌&&◌, ◌||◌, unwrap_or}
use Rattle.win_num.specs.declared.shapes.Point.{Point}
use Rattle.user_model.specs.declared.entry.Entry.{Entry}
use Rattle.user_model.specs.declared.entry.Setup.{Setup}
use Rattle.user_model.specs.Past.{Past, is_refused, last_of}
use Rattle.user_model.specs.Dirty.{owns, came_from, carries, exposes, invalidates, cleans, stays_dirty, is_dirty, flags_erase, must_erase}
use Rattle.user_model.specs.Painting.{painting_told, is_painting}

-- what the last entry says, where the newest wasn't refused
pub last_says : {A : Type 0} (says : Entry → Past → Option A) (e : Entry) (past : Past) (d : A) → is_refused e ≡ false → unwrap_or (last_of says (e ∷ past)) d ≡ unwrap_or (says e past) (unwrap_or (last_of says past) d)
last_says {A = A} says e past d h = ap (λ b. unwrap_or (elim b as (λ c. Option A) [ true ↦ last_of says past | false ↦ elim (says e past) as (λ c. Option A) [ Some a ↦ Some a | None ↦ last_of says past ] ]) d) h ∙ pick (says e past)
  where
    pick : (o : Option A) → unwrap_or (elim o as (λ c. Option A) [ Some a ↦ Some a | None ↦ last_of says past ]) d ≡ unwrap_or o (unwrap_or (last_of says past) d)
    pick (Some a) = refl
    pick None = refl

-- and where it was
pub last_refused : {A : Type 0} (says : Entry → Past → Option A) (e : Entry) (past : Past) → is_refused e ≡ true → last_of says (e ∷ past) ≡ last_of says past
last_refused {A = A} says e past h = ap (λ b. elim b as (λ c. Option A) [ true ↦ last_of says past | false ↦ elim (says e past) as (λ c. Option A) [ Some a ↦ Some a | None ↦ last_of says past ] ]) h

-- the pixels that are dirty for w after an entry that wasn't refused
pub dirty-next : (setup : Setup) (e : Entry) (past : Past) (w : ℕ) (p : Point) → is_refused e ≡ false
    → is_dirty setup (e ∷ past) w p ≡ (owns setup (e ∷ past) w p && ((exposes setup e past w p || invalidates setup e.call past w p) || (not (carries setup e past w p || cleans e.call past w p) && is_dirty setup past w p)))
dirty-next setup e past w p h = ap (λ b. elim b as (λ c. Bool) [ true ↦ is_dirty setup past w p | false ↦ stays_dirty (is_dirty setup past w (came_from e past w p)) (is_dirty setup past w p) setup e past w p ]) h

-- and after one that was
pub dirty-refused : (setup : Setup) (e : Entry) (past : Past) (w : ℕ) (p : Point) → is_refused e ≡ true → is_dirty setup (e ∷ past) w p ≡ is_dirty setup past w p
dirty-refused setup e past w p h = ap (λ b. elim b as (λ c. Bool) [ true ↦ is_dirty setup past w p | false ↦ stays_dirty (is_dirty setup past w (came_from e past w p)) (is_dirty setup past w p) setup e past w p ]) h

-- the erase flag of w after an entry that wasn't refused
pub flag-next : (setup : Setup) (e : Entry) (past : Past) (w : ℕ) → is_refused e ≡ false → must_erase setup (e ∷ past) w ≡ unwrap_or (flags_erase setup w e past) (must_erase setup past w)
flag-next setup e past w h = last_says (flags_erase setup w) e past false h

-- and after one that was
pub flag-refused : (setup : Setup) (e : Entry) (past : Past) (w : ℕ) → is_refused e ≡ true → must_erase setup (e ∷ past) w ≡ must_erase setup past w
flag-refused setup e past w h = ap (λ o. unwrap_or o false) (last_refused (flags_erase setup w) e past h)

-- whether w is being painted after an entry that wasn't refused
pub painting-next : (e : Entry) (past : Past) (w : ℕ) → is_refused e ≡ false → is_painting (e ∷ past) w ≡ unwrap_or (painting_told e.call w) (is_painting past w)
painting-next e past w h = last_says (λ e before. painting_told e.call w) e past false h

-- and after one that was
pub painting-refused : (e : Entry) (past : Past) (w : ℕ) → is_refused e ≡ true → is_painting (e ∷ past) w ≡ is_painting past w
painting-refused e past w h = ap (λ o. unwrap_or o false) (last_refused (λ e before. painting_told e.call w) e past h)
