-- Whether some pixel of the screen passes a test.
use Rattle.std.proofs.Common.{◌≡◌, ◌∙◌, Bool, true, false, cond, List, [], ◌∷◌, refl, sym, ap}
use Rattle.std.specs.Prelude.{filter}
use Rattle.std.proofs.lemmas.Bool.{and_from, false≢true, false_from_ne_true}
use Rattle.win_num.specs.declared.shapes.Point.{Point}
use Rattle.win_num.specs.PixelSets.{has_pixel, kind_of}
use Rattle.region_box.proofs.Listed.{kind_tells}
use Rattle.user_model.specs.declared.entry.Setup.{Setup}
use Rattle.user_model.specs.Pixels.{screen}
use Rattle.user_model.specs.Dirty.{has_some, pixels_of}

-- a point that is listed passes
pub some_passes : (test : Point → Bool) (ps : List Point) → has_some (filter test ps) ≡ true → (p : Point) × (test p ≡ true)
some_passes test [] h = absurd (false≢true h)
some_passes test (q ∷ ps) h = by (some_passes test ps) (test q) refl h
  where
    by : (has_some (filter test ps) ≡ true → (p : Point) × (test p ≡ true)) → (b : Bool) → test q ≡ b → has_some (cond b (q ∷ filter test ps) (filter test ps)) ≡ true → (p : Point) × (test p ≡ true)
    by rest true k h = (q, k)
    by rest false k h = rest h

-- where no point passes, none is listed
pub none_passes : (test : Point → Bool) (ps : List Point) → ((p : Point) → test p ≡ false) → has_some (filter test ps) ≡ false
none_passes test ps none = false_from_ne_true (has_some (filter test ps)) (λ some. let q = some_passes test ps some in false≢true (sym (none q.0) ∙ q.1))

-- where a pixel of the screen passes, there is one
pub some_listed : (setup : Setup) (test : Point → Bool) (p : Point) → has_pixel (screen setup) p ≡ true → test p ≡ true → has_some (pixels_of setup test) ≡ true
some_listed setup test p on t = by (pixels_of setup test) refl
  where
    by : (ps : List Point) → pixels_of setup test ≡ ps → has_some ps ≡ true
    by [] k = let none = (kind_tells setup.width setup.height test).empty.0 (ap kind_of k) p in absurd (false≢true (sym none ∙ and_from (has_pixel (screen setup) p) (test p) on t))
    by (q ∷ ps) k = refl
