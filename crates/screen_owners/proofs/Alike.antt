-- Windows and rectangles that compare as equal are the same.
use Rattle.std.proofs.Common.{◌≡◌, Bool, true, false, eqb, List, [], ◌∷◌, refl}
use Rattle.std.specs.Prelude.{◌&&◌}
use Rattle.std.specs.Ordering.{int_eq}
use Rattle.std.proofs.lemmas.Bool.{eqb-true, false≢true}
use Rattle.std.proofs.lemmas.Bool.Decides.{Decides-int_eq}
use lib.Pointwise.{pointwise}
use Rattle.win_num.specs.declared.message.Hwnd.{Hwnd}
use Rattle.win_num.specs.declared.shapes.Rect.{Rect}
use Rattle.band_region.proofs.Unique.{rect_same}
use Rattle.screen_owners.proofs.Cuts.{same_window}

both : (a b : Bool) → (a && b) ≡ true → (a ≡ true) × (b ≡ true)
both true b h = (refl, h)
both false b h = absurd (false≢true h)

pub rect_alike : (r s : Rect) → (int_eq r.l s.l && (int_eq r.t s.t && (int_eq r.r s.r && int_eq r.b s.b))) ≡ true → r ≡ s
rect_alike r s h =
    let l = both (int_eq r.l s.l) (int_eq r.t s.t && (int_eq r.r s.r && int_eq r.b s.b)) h in
    let t = both (int_eq r.t s.t) (int_eq r.r s.r && int_eq r.b s.b) l.1 in
    let e = both (int_eq r.r s.r) (int_eq r.b s.b) t.1 in
    rect_same r s ((Decides-int_eq r.l s.l).0 l.0) ((Decides-int_eq r.t s.t).0 t.0) ((Decides-int_eq r.r s.r).0 e.0) ((Decides-int_eq r.b s.b).0 e.1)

cons_same : (x y : Hwnd) (xs ys : List Hwnd) → x ≡ y → xs ≡ ys → x ∷ xs ≡ y ∷ ys
cons_same x y xs ys e f = cc

pub windows_alike : (xs ys : List Hwnd) → pointwise (λ (a b : Hwnd). eqb a.0 b.0) xs ys ≡ true → xs ≡ ys
windows_alike [] [] h = refl
windows_alike [] (y ∷ ys) h = absurd (false≢true h)
windows_alike (x ∷ xs) [] h = absurd (false≢true h)
windows_alike (x ∷ xs) (y ∷ ys) h =
    let b = both (eqb x.0 y.0) (pointwise (λ (a b : Hwnd). eqb a.0 b.0) xs ys) h in
    cons_same x y xs ys (same_window x y (eqb-true x.0 y.0 b.0)) (windows_alike xs ys b.1)
