-- The order of a screen's points.
use Rattle.std.proofs.Common.{◌<◌, ℕ, zero, suc, List, [], ◌∷◌, ◌++◌, refl, sym, subst, inl, inr, append_assoc, append-nil, arith}
use Rattle.std.specs.Prelude.{pos, ◌<ℤ◌}
use Rattle.std.specs.List.{AllPairs}
use Rattle.std.proofs.lemmas.Int.{ints}
use Rattle.std.proofs.lemmas.List.Elements.{All-append}
use Rattle.win_num.specs.declared.shapes.Point.{Point}
use Rattle.band_region.proofs.Lists.{pairs-nil, pairs-push}
use Rattle.region_box.specs.Screens.{row_points, screen_points, IsEarlier}
use Rattle.region_box.proofs.Points.{point, row_all, screen_all}

below : (a b : ℕ) → a < b → pos a <ℤ pos b
below a b h = omega (arith, ints)

row_order : (width y n : ℕ) → AllPairs IsEarlier (screen_points width y) → AllPairs IsEarlier (screen_points width y ++ row_points (pos y) n)
unfolding row_points
row_order width y zero h = subst (λ (ps : List Point). AllPairs IsEarlier ps) (sym (append-nil (screen_points width y))) h
row_order width y (suc n) h =
    subst (λ (ps : List Point). AllPairs IsEarlier ps) (append_assoc (screen_points width y) (row_points (pos y) n) (point n y ∷ []))
    (pairs-push IsEarlier (screen_points width y ++ row_points (pos y) n) (point n y) (row_order width y n h)
    (All-append (λ p. IsEarlier p (point n y)) (screen_points width y) (row_points (pos y) n)
    (screen_all (λ p. IsEarlier p (point n y)) width y (λ a b i j. inl (below b y j)))
    (row_all (λ p. IsEarlier p (point n y)) y n (λ a i. inr (refl, below a n i)))))

pub points_order : (width height : ℕ) → AllPairs IsEarlier (screen_points width height)
unfolding screen_points
points_order width zero = pairs-nil IsEarlier
points_order width (suc y) = row_order width y width (points_order width y)
