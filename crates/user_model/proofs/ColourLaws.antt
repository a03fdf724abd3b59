-- Colours and frames at a past with one entry more.
use Rattle.std.proofs.Common.{◌≡◌, ℕ, Bool, true, false, not, eqb, cond, ◌∷◌, ◌++◌, [], Option, Some, None, refl, ap, sym, ◌∙◌}
use Rattle.std.specs.Prelude.{if◌then◌else◌, ◌&&◌, unwrap_or}
use Rattle.std.proofs.lemmas.Bool.{and_parts, eq-eqb, eqb-true, not-true}
use Rattle.win_num.specs.declared.message.Hwnd.{Hwnd}
use Rattle.win_num.specs.declared.shapes.Point.{Point}
use Rattle.user_model.specs.declared.entry.Entry.{Entry}
use Rattle.user_model.specs.declared.entry.Setup.{Setup}
use Rattle.user_model.specs.Past.{Past, is_refused}
use Rattle.user_model.specs.Pixels.{owner}
use Rattle.user_model.specs.Colours.{session_told, session, paints_in, paints, colour, snaps, snapped}
use Rattle.user_model.specs.Dirty.{owns, moves, copies_bits, came_from, carries, is_dirty}
use Rattle.user_model.proofs.PastLaws.{each_of-next}
use Rattle.user_model.proofs.DirtyLaws.{last_says, last_refused}
use Rattle.user_model.proofs.OwnersKept.{owner-refused}

-- the colour of a pixel after an entry that wasn't refused
pub colour-next : (setup : Setup) (e : Entry) (past : Past) (p : Point) → is_refused e ≡ false
    → colour setup (e ∷ past) p ≡ unwrap_or (paints (colour setup past (came_from e past (owner setup (e ∷ past) p).0 p)) setup p e past) (colour setup past p)
colour-next setup e past p h = ap (λ b. elim b as (λ c. ℕ) [ true ↦ colour setup past p | false ↦ unwrap_or (paints (colour setup past (came_from e past (owner setup (e ∷ past) p).0 p)) setup p e past) (colour setup past p) ]) h

-- and after one that was
pub colour-refused : (setup : Setup) (e : Entry) (past : Past) (p : Point) → is_refused e ≡ true → colour setup (e ∷ past) p ≡ colour setup past p
colour-refused setup e past p h = ap (λ b. elim b as (λ c. ℕ) [ true ↦ colour setup past p | false ↦ unwrap_or (paints (colour setup past (came_from e past (owner setup (e ∷ past) p).0 p)) setup p e past) (colour setup past p) ]) h

-- the past before painting of w began, after an entry that wasn't refused
pub session-next : (e : Entry) (past : Past) (w : ℕ) → is_refused e ≡ false → session (e ∷ past) w ≡ unwrap_or (session_told w e.call past) (session past w)
session-next e past w h = last_says (λ e before. session_told w e.call before) e past None h

-- and after one that was
pub session-refused : (e : Entry) (past : Past) (w : ℕ) → is_refused e ≡ true → session (e ∷ past) w ≡ session past w
session-refused e past w h = ap (λ o. unwrap_or o None) (last_refused (λ e before. session_told w e.call before) e past h)

-- the pasts of frames after an entry that wasn't refused
pub snapped-next : (e : Entry) (past : Past) → is_refused e ≡ false → snapped (e ∷ past) ≡ snapped past ++ snaps e.call past
snapped-next e past h = each_of-next (λ e before. snaps e.call before) e past h

-- what an entry paints goes by whether no window owns the pixel after it, and whether it carries it
picked : (bare carried : Bool) (brought old : ℕ) (told : Option ℕ) → unwrap_or (cond bare (Some 0) (cond carried (Some brought) told)) old ≡ cond bare 0 (cond carried brought (unwrap_or told old))
picked true carried brought old told = refl
picked false true brought old told = refl
picked false false brought old told = refl

-- the colour by cases: 0 where no window owns the pixel after it, the colour that it had where it came from where the entry carries it, else
-- what the call gives it, or as before
pub colour-cases : (setup : Setup) (e : Entry) (past : Past) (p : Point) → is_refused e ≡ false
    → colour setup (e ∷ past) p ≡ cond (eqb (owner setup (e ∷ past) p).0 0) 0 (cond (carries setup e past (owner setup (e ∷ past) p).0 p) (colour setup past (came_from e past (owner setup (e ∷ past) p).0 p)) (unwrap_or (paints_in setup p e.call past) (colour setup past p)))
colour-cases setup e past p h =
    colour-next setup e past p h
    ∙ picked (eqb (owner setup (e ∷ past) p).0 0) (carries setup e past (owner setup (e ∷ past) p).0 p) (colour setup past (came_from e past (owner setup (e ∷ past) p).0 p)) (colour setup past p) (paints_in setup p e.call past)

-- where no window owns the pixel after it, the colour is 0 then
pub colour-bare : (setup : Setup) (e : Entry) (past : Past) (p : Point) → is_refused e ≡ false → (owner setup (e ∷ past) p).0 ≡ 0 → colour setup (e ∷ past) p ≡ 0
colour-bare setup e past p h none =
    let some = (if carries setup e past (owner setup (e ∷ past) p).0 p then colour setup past (came_from e past (owner setup (e ∷ past) p).0 p) else unwrap_or (paints_in setup p e.call past) (colour setup past p)) in
    colour-cases setup e past p h ∙ ap (λ b. cond b 0 some) (eq-eqb (owner setup (e ∷ past) p).0 0 none)

-- where the entry carries it, the colour that it had where it came from
pub colour-carried : (setup : Setup) (e : Entry) (past : Past) (p : Point) (w : ℕ) → is_refused e ≡ false → carries setup e past w p ≡ true → colour setup (e ∷ past) p ≡ colour setup past (came_from e past w p)
colour-carried setup e past p w h carried =
    let own = (and_parts (owns setup (e ∷ past) w p) _ (and_parts (copies_bits e.call && moves e past w) _ carried).1).0 in
    let parts = and_parts (not (eqb w 0)) _ own in
    let is : (owner setup (e ∷ past) p).0 ≡ w = eqb-true (owner setup (e ∷ past) p).0 w parts.1 in
    let some : eqb w 0 ≡ false = not-true (eqb w 0) parts.0 in
    colour-cases setup e past p h
    ∙ ap (λ (v : ℕ). cond (eqb v 0) 0 (cond (carries setup e past v p) (colour setup past (came_from e past v p)) (unwrap_or (paints_in setup p e.call past) (colour setup past p)))) is
    ∙ ap (λ b. cond b 0 (cond (carries setup e past w p) (colour setup past (came_from e past w p)) (unwrap_or (paints_in setup p e.call past) (colour setup past p)))) some
    ∙ ap (λ b. cond b (colour setup past (came_from e past w p)) (unwrap_or (paints_in setup p e.call past) (colour setup past p))) carried

-- an entry of another call than place carries no pixel
pub carries_none : (setup : Setup) (e : Entry) (past : Past) (w : ℕ) (p : Point) → copies_bits e.call ≡ false → carries setup e past w p ≡ false
carries_none setup e past w p h = ap (λ b. (b && moves e past w) && (owns setup (e ∷ past) w p && (owns setup past w (came_from e past w p) && not (is_dirty setup past w (came_from e past w p))))) h

-- else it is what the call gives it, or as before
pub colour-owned : (setup : Setup) (e : Entry) (past : Past) (p : Point) → is_refused e ≡ false → eqb (owner setup (e ∷ past) p).0 0 ≡ false → carries setup e past (owner setup (e ∷ past) p).0 p ≡ false → colour setup (e ∷ past) p ≡ unwrap_or (paints_in setup p e.call past) (colour setup past p)
colour-owned setup e past p h some still =
    colour-cases setup e past p h
    ∙ ap (λ b. cond b 0 (cond (carries setup e past (owner setup (e ∷ past) p).0 p) (colour setup past (came_from e past (owner setup (e ∷ past) p).0 p)) (unwrap_or (paints_in setup p e.call past) (colour setup past p)))) some
    ∙ ap (λ b. cond b (colour setup past (came_from e past (owner setup (e ∷ past) p).0 p)) (unwrap_or (paints_in setup p e.call past) (colour setup past p))) still

-- a pixel that no window owns has colour 0
pub bare_is_0 : (setup : Setup) (past : Past) (p : Point) → (owner setup past p).0 ≡ 0 → colour setup past p ≡ 0
bare_is_0 setup [] p none = refl
bare_is_0 setup (e ∷ past) p none = by_refusal (bare_is_0 setup past p) (is_refused e) refl
  where
    by_refusal : ((owner setup past p).0 ≡ 0 → colour setup past p ≡ 0) → (refused : Bool) → is_refused e ≡ refused → colour setup (e ∷ past) p ≡ 0
    by_refusal before true is = colour-refused setup e past p is ∙ before (ap (λ (w : Hwnd). w.0) (sym (owner-refused setup e past p is)) ∙ none)
    by_refusal before false is = colour-bare setup e past p is none
