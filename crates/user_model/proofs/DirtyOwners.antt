-- A dirty pixel is owned by the window that it is dirty for.
use Rattle.std.proofs.Common.{◌≡◌, ◌∙◌, ℕ, Bool, true, false, not, eqb, [], ◌∷◌, refl, ap, sym}
use Rattle.std.specs.Prelude.{◌&&◌}
use Rattle.std.proofs.lemmas.Bool.{false≢true}
use Rattle.win_num.specs.declared.message.Hwnd.{Hwnd}
use Rattle.win_num.specs.declared.shapes.Point.{Point}
use Rattle.win_order.proofs.Booleans.{and_left}
use Rattle.user_model.specs.declared.entry.Setup.{Setup}
use Rattle.user_model.specs.Past.{Past, is_refused}
use Rattle.user_model.specs.Dirty.{is_dirty, owns}
use Rattle.user_model.proofs.DirtyLaws.{dirty-next, dirty-refused}
use Rattle.user_model.proofs.OwnersKept.{owner-refused}

pub dirty_owned : (setup : Setup) (past : Past) (w : ℕ) (p : Point) → is_dirty setup past w p ≡ true → owns setup past w p ≡ true
dirty_owned setup [] w p is = absurd (false≢true is)
dirty_owned setup (e ∷ past) w p is = by (dirty_owned setup past w p) (is_refused e) refl
  where
    by : (is_dirty setup past w p ≡ true → owns setup past w p ≡ true) → (b : Bool) → is_refused e ≡ b → owns setup (e ∷ past) w p ≡ true
    by before true h = ap (λ (v : Hwnd). not (eqb w 0) && eqb v.0 w) (owner-refused setup e past p h) ∙ before (sym (dirty-refused setup e past w p h) ∙ is)
    by before false h = and_left (owns setup (e ∷ past) w p) _ (sym (dirty-next setup e past w p h) ∙ is)
