-- Regions that stay outside of a part and are computed anew in it.
use Rattle.std.specs.Prelude.{◌≡◌, ◌<◌, true, List, [], ◌∷◌, ◌++◌, All, AllPairs}
use Rattle.win_num.specs.declared.message.Hwnd.{Hwnd}
use Rattle.win_num.specs.declared.shapes.Point.{Point}
use Rattle.win_num.specs.declared.shapes.Rect.{Rect}
use Rattle.band_region.specs.Regions.{region_has}
use Rattle.screen_owners.specs.declared.owners.Owned.{Owned}
use Rattle.screen_owners.specs.Owners.{joined_has, region_in, IsBefore}
use Rattle.screen_owners.specs.Shares.{is_one_of}

-- the entries are of these windows alone, by rising number, and each of the windows has the pixels of its old region outside of the part
-- and those of its new one
pub record AreJoined (part : List Rect) (old new : List Owned) (hs : List Hwnd) (es : List Owned) : Type 0 where
  pub rising : AllPairs IsBefore es
  pub among : All (λ o. is_one_of hs o.window ≡ true) es
  pub regions : (v : Hwnd) (p : Point) → is_one_of hs v ≡ true → region_has (region_in es v.0) p ≡ joined_has part old new v.0 p

-- the entries are also those of a window with a number above all others
abbrev pub IsJoined : List Rect → List Owned → List Owned → Hwnd → List Owned → List Owned → Type 0
IsJoined part old new w es fs = (hs : List Hwnd) → ((u : Hwnd) → is_one_of hs u ≡ true → u.0 < w.0) → AreJoined part old new hs es → AreJoined part old new (hs ++ w ∷ []) fs
