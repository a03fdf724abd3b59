use Rattle.std.proofs.Common.{◌≡◌, ◌∙◌, ap, inl, inr, arith}
use Rattle.std.proofs.lemmas.Int.{ints}
use Rattle.win_num.specs.declared.shapes.Point.{Point}
use Rattle.win_num.specs.PixelSets.{has_pixel}
use Rattle.win_num.specs.Rects.{box_in}
use Rattle.band_region.specs.Regions.{region_has, IsBanded}
use Rattle.band_region.proofs.Shapes.{one_at, none_at}
use Rattle.band_region.proofs.region.Region.of_rect.Goals as goal
use Rattle.band_region.proofs.region.Region.of_rect.Goals.{then-l-r+then-t-b+in_ok-push, else-l-r, else-l-r-via-then-l-r+else-t-b, else-l-r-via-else-l-r}

-- the list is in bands and has the pixels
made : (c : goal.Joined-l-r) → IsBanded c.if-l-r.rects.items × ((p : Point) → region_has c.if-l-r.rects.items p ≡ has_pixel (box_in c.args.r) p)
made c =
    elim c.if-l-r.branch [
      | then-l-r+then-t-b+in_ok-push w ↦ one_at _ _ _ (ap (λ v. v.items) w.rects-is ∙ w.in_ok-push.ensures.items) c.new-rects.ensures.items (omega (arith, ints)) (omega (arith, ints))
      | else-l-r w ↦ elim w.else-l-r.branch [
        | else-l-r-via-then-l-r+else-t-b v ↦ none_at c.args.r _ (ap (λ v. v.items) w.rects-is ∙ c.new-rects.ensures.items) (inr (omega (arith, ints)))
        | else-l-r-via-else-l-r v ↦ none_at c.args.r _ (ap (λ v. v.items) w.rects-is ∙ c.new-rects.ensures.items) (inl (omega (arith, ints)))
      ]
    ]

pub invariant_of-result : goal.invariant_of-result
invariant_of-result c = (made c).0

pub returns : goal.returns
returns c = (made c).1
