use Rattle.window_state.proofs.PixelLaws.{owner_has, pixel_owned}
use Rattle.user_laws.proofs.ranks.owners_have_their_pixels.Goals as goal

pub returns : goal.returns
returns c = record {
  live = λ setup past p lawful some. (owner_has setup past p lawful some).0.0;
  covers = λ setup past p lawful some. (owner_has setup past p lawful some).0.1;
  on_screen = λ setup past p lawful some. (owner_has setup past p lawful some).1;
  some = pixel_owned;
}
