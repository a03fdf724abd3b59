use Rattle.std.proofs.Common.{refl}
use Rattle.user_model.proofs.ColourLaws.{colour-carried}
use Rattle.user_laws.proofs.Carried.{clean, flagged, unflagged}
use Rattle.user_laws.proofs.painting.windows_take_pixels_along.Goals as goal

pub returns : goal.returns
returns c = record {
  carried = λ setup past e w p. refl;
  clean = λ setup past e w p fine is. clean setup past e w p fine is;
  coloured = λ setup past e w p fine is. colour-carried setup e past p w fine is;
  exposed = λ setup past e w p. refl;
  flagged = λ setup past e w fine some. flagged setup past e w fine some;
  unflagged = λ setup past e w fine copies none. unflagged setup past e w fine copies none;
}
