-- The answers of the calls that draw.
use Rattle.std.specs.Prelude.{if◌then◌else◌, ℕ, suc, nat_lt, nat_le, length, Bool, not, ◌&&◌, ◌||◌, ℤ, ◌-ℤ◌, List, [], ◌∷◌}
use Rattle.win_num.specs.declared.shapes.Point.{Point}
use Rattle.win_num.specs.PixelSets.{Box, bounds, box, kind_of}
use Rattle.user_model.specs.declared.entry.Setup.{Setup}
use Rattle.user_model.specs.declared.entry.Answer.{Answer}
use Rattle.user_model.specs.declared.entry.Answer.TheVariants.{Okay, Update, Painting, Snap}
use Rattle.win_num.specs.declared.code.Code.TheVariants.{Full}
use Rattle.user_model.specs.Past.{Past}
use Rattle.user_model.specs.Windows.{is_live}
use Rattle.user_model.specs.Pixels.{origin}
use Rattle.user_model.specs.Dirty.{dirty_pixels, must_erase}
use Rattle.user_model.specs.Painting.{is_painting}
use Rattle.user_model.specs.Colours.{snapped}
use Rattle.user_model.specs.Refusals.{refuse, if_live, if_own, is_no_rect, invalid_parameter}

-- a rectangle is made dirty
abbrev pub invalidate_reply : Past → ℕ → ℤ → ℤ → ℤ → ℤ → ℕ → Answer
invalidate_reply past w l t r b erase = refuse (is_no_rect l t r b || nat_lt 1 erase) invalid_parameter (if_live past w Okay)

-- a rectangle is made clean
abbrev pub validate_reply : Past → ℕ → ℤ → ℤ → ℤ → ℤ → Answer
validate_reply past w l t r b = refuse (is_no_rect l t r b) invalid_parameter (if_live past w Okay)

-- the least rectangle around pixels, from a corner, or 0 0 0 0
abbrev pub bounds_from : Point → List Point → Box
bounds_from o [] = bounds []
bounds_from o (p ∷ ps) = let b = bounds (p ∷ ps) in box (b.left -ℤ o.x) (b.top -ℤ o.y) (b.right -ℤ o.x) (b.bottom -ℤ o.y)

-- a kind and a rectangle as an answer
abbrev pub update_told : ℕ → Box → Answer
update_told kind b = Update kind b.left b.top b.right b.bottom

-- the kind and the least rectangle of the window's dirty pixels, from its own left top corner
abbrev pub update_rect_reply : Setup → Past → ℕ → Answer
update_rect_reply setup past w = if_live past w (update_told (kind_of (dirty_pixels setup past w)) (bounds_from (origin past w) (dirty_pixels setup past w)))

-- a flag, as 1 or 0, and a rectangle as an answer
abbrev pub painting_begun : Bool → Box → Answer
painting_begun erases b = Painting (if erases then 1 else 0) b.left b.top b.right b.bottom

-- painting of an own window begins, which isn't being painted
abbrev pub begin_paint_reply : Setup → Past → ℕ → ℕ → Answer
begin_paint_reply setup past who w = refuse (is_live past w && is_painting past w) invalid_parameter (if_own past who w (painting_begun (must_erase setup past w) (bounds_from (origin past w) (dirty_pixels setup past w))))

-- painting of an own window ends
abbrev pub end_paint_reply : Past → ℕ → ℕ → Answer
end_paint_reply past who w = refuse (is_live past w && not (is_painting past w)) invalid_parameter (if_own past who w Okay)

-- a rectangle of an own window is painted
abbrev pub fill_reply : Past → ℕ → ℕ → ℤ → ℤ → ℤ → ℤ → ℕ → Answer
fill_reply past who w l t r b colour = refuse (is_no_rect l t r b || nat_lt 15 colour) invalid_parameter (if_own past who w Okay)

-- an own window is painted with the colour of its class
abbrev pub erase_reply : Past → ℕ → ℕ → Answer
erase_reply past who w = if_own past who w Okay

-- the colours of the screen are kept, where fewer than 256 frames are
abbrev pub snap_reply : Past → Answer
snap_reply past = refuse (nat_le 256 (length (snapped past))) Full (Snap (suc (length (snapped past))))
