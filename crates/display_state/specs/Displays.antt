-- The screen and its colours at a past, with the frames that were kept.
use Rattle.std.specs.Prelude.{◌≡◌, ℕ, ◌*◌, ◌<◌, Bool, true, false, List, [], ◌∷◌, ◌++◌, length, map, Option, Some, None}
use Rattle.win_num.specs.declared.shapes.Rect.{Rect}
use Rattle.win_class.specs.ClassTable.{ClassTable}
use Rattle.win_rows.specs.Windows.{Windows}
use Rattle.win_order.specs.Layers.{Layers}
use Rattle.band_region.specs.Regions.{region_has}
use Rattle.screen_buf.specs.Pictures.{Picture, IsCarried, IsPainted, LiesOn, colour_at, pixel}
use Rattle.user_model.specs.declared.call.Call.{Call}
use Rattle.user_model.specs.declared.call.Call.TheVariants.{Fill, Erase, Snap}
use Rattle.user_model.specs.declared.entry.Answer.{Answer}
use Rattle.user_model.specs.declared.entry.Answer.TheVariants.{Okay, Snap as SnapOf}
use Rattle.user_model.specs.declared.entry.Entry.{Entry}
use Rattle.user_model.specs.declared.entry.Setup.{Setup}
use Rattle.user_model.specs.Past.{Past}
use Rattle.user_model.specs.Classes.{colour_of}
use Rattle.user_model.specs.Colours.{colour, frame, snapped}
use Rattle.user_model.specs.Idle.{reply}
use Rattle.user_model.specs.Legal.{IsLawful}
use Rattle.window_state.specs.ClassTables.{classes_at}
use Rattle.window_state.specs.Orders.{IsOrderAt}
use Rattle.window_state.specs.Trees.{IsTreeAt}
use Rattle.screen_owners.specs.Owners.{region_in}
use Rattle.screen_state.specs.Screens.{Change, DrawsScreen, IsScreenAt, Kept, replaced}

-- what is kept of the screen, the colours of its pixels, and the frames, each a list of colours
pub record Shown : Type 0 where
  pub screen : Kept
  pub colours : Picture
  pub frames : List (List ℕ)

-- the screen, the colour of each of its pixels, and the frames are those of the past
pub record IsDisplayAt (setup : Setup) (past : Past) (d : Shown) : Type 0 where
  pub screen : IsScreenAt setup past d.screen
  pub width : d.colours.width ≡ setup.width
  pub height : d.colours.height ≡ setup.height
  pub colours : (x y : ℕ) → x < setup.width → y < setup.height → colour_at d.colours x y ≡ colour setup past (pixel x y)
  pub frames : d.frames ≡ map (frame setup) (snapped past)

-- the pixels that a change carries lie on the display's screen, and so do those that they come from
abbrev pub FitsDisplay : Option Change → Shown → Type 0
FitsDisplay None d = Unit {0}
FitsDisplay (Some c) d = LiesOn d.colours.width d.colours.height (λ p. region_has c.carried p) c.dx c.dy

-- the pixels that a change carries get the colours that they had where they came from, and then the pixels that no window owns get colour 0
pub record IsMoved (c : Change) (old new : Picture) : Type 0 where
  pub mid : Picture
  pub carried : IsCarried old (λ p. region_has c.carried p) c.dx c.dy mid
  pub bared : IsPainted mid (λ p. region_has (region_in c.owners 0) p) 0 new

-- where other owners have come, the colours move with the pixels that are carried, and the pixels that no window owns then get colour 0
abbrev pub IsRecoloured : Option Change → Picture → Picture → Type 0
IsRecoloured None old new = new ≡ old
IsRecoloured (Some c) old new = IsMoved c old new

-- owners and dirty pixels exchanged, where others have come, and the colours with them
pub record IsShown (o : Option Change) (old new : Shown) : Type 0 where
  pub screen : new.screen ≡ replaced o old.screen
  pub colours : IsRecoloured o old.colours new.colours
  pub frames : new.frames ≡ old.frames

-- where the old display is that of a past that has made this table and this order, one that took over what has come is that with the entry
abbrev pub FollowsDisplay : Setup → Windows → Layers → Option Change → Entry → Shown → Type 0
FollowsDisplay setup t z o e old = (past : Past) (new : Shown) → IsShown o old new → IsLawful setup past → IsTreeAt past t → IsOrderAt past z → e.answer ≡ reply setup past e.who.0 e.call → IsDisplayAt setup past old → IsDisplayAt setup (e ∷ past) new

-- the entry comes next after a lawful past that has made this table and these classes
pub record IsPainting (t : Windows) (c : ClassTable) (e : Entry) : Type 0 where
  pub setup : Setup
  pub past : Past
  pub lawful : IsLawful setup past
  pub tree : IsTreeAt past t
  pub classes : c ≡ classes_at past
  pub right : e.answer ≡ reply setup past e.who.0 e.call

-- where the old display is that of a past that has made this table and these classes, the new one is that with the entry
abbrev pub DrawsDisplay : Windows → ClassTable → Entry → Shown → Shown → Type 0
DrawsDisplay t c e old new = (setup : Setup) (past : Past) → IsLawful setup past → IsTreeAt past t → c ≡ classes_at past → e.answer ≡ reply setup past e.who.0 e.call → IsDisplayAt setup past old → IsDisplayAt setup (e ∷ past) new

-- whether an answered call gives colours, or keeps them
abbrev pub recolours : Call → Answer → Bool
recolours (Fill w l t r b k) Okay = true
recolours (Erase w) Okay = true
recolours Snap (SnapOf k) = true
recolours _ _ = false

-- the colour is that of w's class at each past that has made this table and these classes
abbrev pub IsColourOf : Windows → ClassTable → ℕ → ℕ → Type 0
IsColourOf t c w colour = (past : Past) → IsTreeAt past t → c ≡ classes_at past → colour ≡ colour_of past w

-- the screen is that with the entry, and the pixels of a region have the colour
pub record IsFilled (t : Windows) (e : Entry) (rs : List Rect) (colour : ℕ) (old new : Shown) : Type 0 where
  pub screen : DrawsScreen t e old.screen new.screen
  pub colours : IsPainted old.colours (λ p. region_has rs p) colour new.colours
  pub frames : new.frames ≡ old.frames

-- the screen is that with the entry, and its colours are one frame more
pub record IsSnapped (t : Windows) (e : Entry) (old new : Shown) : Type 0 where
  pub screen : DrawsScreen t e old.screen new.screen
  pub colours : new.colours ≡ old.colours
  pub frames : new.frames ≡ old.frames ++ old.colours.colours ∷ []
  pub size : length old.colours.colours ≡ old.colours.height * old.colours.width

-- the pixels that no window owns have colour 0, and all else is as before
pub record IsBaring (old new : Shown) : Type 0 where
  pub screen : new.screen ≡ old.screen
  pub colours : IsPainted old.colours (λ p. region_has (region_in old.screen.owners 0) p) 0 new.colours
  pub frames : new.frames ≡ old.frames

-- the pixels that a change carries have the colours that they had where they came from, and all else is as before
pub record IsCarrying (c : Change) (old new : Shown) : Type 0 where
  pub screen : new.screen ≡ old.screen
  pub colours : IsCarried old.colours (λ p. region_has c.carried p) c.dx c.dy new.colours
  pub frames : new.frames ≡ old.frames
