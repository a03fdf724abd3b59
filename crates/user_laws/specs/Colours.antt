-- What a call makes of the colour of a pixel.
use Rattle.std.specs.Prelude.{if◌then◌else◌, ℕ, ◌&&◌}
use Rattle.win_num.specs.declared.shapes.Point.{Point}
use Rattle.user_model.specs.declared.call.Call.{Call}
use Rattle.user_model.specs.declared.call.Call.TheVariants.{Fill, Erase}
use Rattle.user_model.specs.declared.entry.Setup.{Setup}
use Rattle.user_model.specs.Past.{Past}
use Rattle.user_model.specs.Classes.{colour_of}
use Rattle.user_model.specs.Colours.{is_in_clip}
use Rattle.user_model.specs.Dirty.{owns, is_in_client}

-- the colour that a call leaves a pixel which had this one before
abbrev pub colour_after : Setup → Point → Call → Past → ℕ → ℕ
colour_after setup p (Fill w l t r b colour) past before = if is_in_client past w l t r b p && (owns setup past w p && is_in_clip setup past w p) then colour else before
colour_after setup p (Erase w) past before = if owns setup past w p && is_in_clip setup past w p then colour_of past w else before
colour_after setup p _ past before = before
