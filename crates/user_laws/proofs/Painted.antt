-- Who owns a pixel is a live window.
use Rattle.std.proofs.Common.{◌≡◌, ◌≢◌, ◌∙◌, ℕ, Bool, true, false, not, eqb, refl, sym, ap}
use Rattle.std.specs.Prelude.{◌&&◌}
use Rattle.std.proofs.lemmas.Bool.{false≢true, eqb-true, eq-eqb}
use Rattle.win_num.specs.declared.shapes.Point.{Point}
use Rattle.user_model.specs.declared.entry.Setup.{Setup}
use Rattle.user_model.specs.Past.{Past}
use Rattle.user_model.specs.Legal.{IsLawful}
use Rattle.user_model.specs.Pixels.{owner}
use Rattle.user_model.specs.Windows.{is_live}
use Rattle.user_model.specs.Dirty.{owns}
use Rattle.window_state.proofs.PixelLaws.{owner_has}

left_true : (a b : Bool) → (a && b) ≡ true → a ≡ true
left_true true b h = refl
left_true false b h = h

right_true : (a b : Bool) → (a && b) ≡ true → b ≡ true
right_true true b h = h
right_true false b h = absurd (false≢true h)

-- who owns a pixel is live
pub owner_lives : (setup : Setup) (past : Past) (w : ℕ) (p : Point) → IsLawful setup past → owns setup past w p ≡ true → is_live past w ≡ true
owner_lives setup past w p lawful owned =
    let of : (owner setup past p).0 ≡ w = eqb-true (owner setup past p).0 w (right_true (not (eqb w 0)) _ owned) in
    let some : (owner setup past p).0 ≢ 0 = λ z. false≢true (ap not (sym (eq-eqb w 0 (sym of ∙ z))) ∙ left_true (not (eqb w 0)) _ owned) in
    ap (is_live past) (sym of) ∙ (owner_has setup past p lawful some).0.0
