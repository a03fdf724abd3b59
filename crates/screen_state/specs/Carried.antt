-- The pixels that are carried, as what is kept of the screen tells them.
use Rattle.std.specs.Prelude.{◌≡◌, false, List, Option, Some, None}
use Rattle.win_num.specs.declared.message.Hwnd.{Hwnd}
use Rattle.win_num.specs.declared.shapes.Point.{Point}
use Rattle.band_region.specs.Regions.{region_has}
use Rattle.user_model.specs.declared.entry.Setup.{Setup}
use Rattle.screen_owners.specs.declared.owners.Owned.{Owned}
use Rattle.screen_owners.specs.declared.screen.Screen.{Screen}
use Rattle.dirty_windows.specs.declared.carry.Shift.{Shift}
use Rattle.dirty_windows.specs.Carrying.{brings_any}
use Rattle.screen_state.specs.declared.carry.Carried.{Carried}
use Rattle.screen_state.specs.Screens.{Kept}

-- the screen of a machine of this setup
abbrev pub screen_in : Setup → Screen
screen_in setup = record { width = setup.width; height = setup.height }

-- the pixels that a move brings for one of the windows, or none where there is no move
abbrev pub IsCarriedBy : Setup → Kept → List Owned → List Hwnd → Option Shift → Carried → Type 0
IsCarriedBy setup old os moved None c = (p : Point) → region_has c.region p ≡ false
IsCarriedBy setup old os moved (Some s) c = (c.shift ≡ s) × ((p : Point) → region_has c.region p ≡ brings_any old.dirty old.owners os (screen_in setup) s moved p)
