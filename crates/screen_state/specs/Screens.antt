-- What is kept of the screen at a past: who owns each pixel, which pixels are dirty, and which windows are being painted.
use Rattle.std.specs.Prelude.{◌≡◌, ◌≢◌, ℕ, ◌==◌, Bool, true, false, not, ◌&&◌, ◌||◌, ℤ, List, [], ◌∷◌, Option, Some, None}
use Rattle.std.specs.List.{list_all}
use Rattle.win_num.specs.declared.shapes.Point.{Point}
use Rattle.win_rows.specs.Windows.{Windows}
use Rattle.win_order.specs.Layers.{Layers}
use Rattle.win_num.specs.declared.shapes.Rect.{Rect}
use Rattle.band_region.specs.Regions.{IsEmpty, region_has}
use Rattle.user_model.specs.declared.call.Call.{Call}
use Rattle.user_model.specs.declared.call.Call.TheVariants.{Invalidate, Validate, BeginPaint, EndPaint, Fill, Erase, Snap}
use Rattle.user_model.specs.declared.entry.Answer.{Answer}
use Rattle.user_model.specs.declared.entry.Answer.TheVariants.{Okay, Painting, Snap as SnapOf}
use Rattle.user_model.specs.declared.entry.Entry.{Entry}
use Rattle.user_model.specs.declared.entry.Setup.{Setup}
use Rattle.user_model.specs.Past.{Past, is_refused}
use Rattle.user_model.specs.Idle.{reply}
use Rattle.user_model.specs.Legal.{IsLawful}
use Rattle.user_model.specs.Windows.{is_live}
use Rattle.user_model.specs.Colours.{is_in_clip, reaches}
use Rattle.user_model.specs.Dirty.{carries, is_dirty, is_in_client, must_erase}
use Rattle.user_model.specs.Painting.{is_painting}
use Rattle.window_state.specs.Orders.{IsOrderAt}
use Rattle.window_state.specs.Trees.{IsTreeAt}
use Rattle.screen_owners.specs.declared.owners.Owned.{Owned}
use Rattle.screen_owners.specs.Owners.{region_in}
use Rattle.dirty_windows.specs.declared.entries.DirtyWindow.{DirtyWindow}
use Rattle.dirty_windows.specs.LookUps.{area_in, erases_in, update_in}
use Rattle.paint_sessions.specs.declared.sessions.Session.{Session}
use Rattle.paint_sessions.specs.LookUps.{clip_in, is_begun}
use Rattle.screen_state.specs.Carrying.{IsCarriedAt, IsOnScreen}
use Rattle.screen_state.specs.Owned.{AreOwnersAt}
use Rattle.screen_state.specs.Parts.{IsClientPart}
use Rattle.screen_state.specs.Shown.{changes_owners, shows}

-- what is kept of the screen
pub record Kept : Type 0 where
  pub owners : List Owned
  pub dirty : List DirtyWindow
  pub sessions : List Session

-- the owners and the dirty pixels that come in the place of those that are there, and the pixels that come from another place, so far to
-- the right and down
pub record Change : Type 0 where
  pub owners : List Owned
  pub dirty : List DirtyWindow
  pub carried : List Rect
  pub dx : ℤ
  pub dy : ℤ

-- whether a clip, if there is one, has the pixel
abbrev pub clip_has : Option (List Rect) → Point → Bool
clip_has o p = elim o [ None ↦ true | Some c ↦ region_has c p ]

-- whether painting in w may change the pixel, by the clip of its session: any pixel where it has none
abbrev pub lets_through : List Session → ℕ → Point → Bool
lets_through ss w p = clip_has (clip_in ss w) p

-- the owners of pixels, the dirty pixels, the erase flags of the live windows, of which alone one is set, the begun painting and the clips
-- are those of the past
pub record IsScreenAt (setup : Setup) (past : Past) (s : Kept) : Type 0 where
  pub owners : AreOwnersAt setup past s.owners
  pub dirty : (w : ℕ) (p : Point) → region_has (area_in s.dirty w) p ≡ is_dirty setup past w p
  pub erases : (w : ℕ) → is_live past w ≡ true → erases_in s.dirty w ≡ must_erase setup past w
  pub gone : (w : ℕ) → is_live past w ≡ false → erases_in s.dirty w ≡ false
  pub painting : (w : ℕ) → is_begun s.sessions w ≡ is_painting past w
  pub clips : (w : ℕ) (p : Point) → lets_through s.sessions w p ≡ is_in_clip setup past w p

-- where the screen is that of a past, the region has the pixels that painting in w reaches
abbrev pub IsReached : Kept → ℕ → List Rect → Type 0
IsReached s w rs = (setup : Setup) (past : Past) → IsLawful setup past → IsScreenAt setup past s → is_live past w ≡ true → (p : Point) → region_has rs p ≡ reaches setup past w p

-- and where the past has made the table, those of them that are pixels of the rectangle that is given from w's left top corner
abbrev pub IsReachedPart : Windows → Kept → ℕ → ℤ → ℤ → ℤ → ℤ → List Rect → Type 0
IsReachedPart t s w l top r b rs = (setup : Setup) (past : Past) → IsLawful setup past → IsTreeAt past t → IsScreenAt setup past s → is_live past w ≡ true → (p : Point) → region_has rs p ≡ (is_in_client past w l top r b p && reaches setup past w p)

-- whether an answered call draws: it changes dirty pixels, begun painting, colours or frames, and no window
abbrev pub draws : Call → Answer → Bool
draws (Invalidate w l t r b erase) Okay = true
draws (Validate w l t r b) Okay = true
draws (EndPaint w) Okay = true
draws (BeginPaint w) (Painting erase l t r b) = true
draws (Fill w l t r b colour) Okay = true
draws (Erase w) Okay = true
draws Snap (SnapOf k) = true
draws _ _ = false

-- owners and dirty pixels exchanged, where others have come; the painting stays
abbrev pub replaced : Option Change → Kept → Kept
replaced None s = s
replaced (Some c) s = record { owners = c.owners; dirty = c.dirty; sessions = s.sessions }

-- where the old screen is that of a past that has made this table and this order, the new one is that with the entry
abbrev pub FollowsScreen : Setup → Windows → Layers → Entry → Kept → Kept → Type 0
FollowsScreen setup t z e old new = (past : Past) → IsLawful setup past → IsTreeAt past t → IsOrderAt past z → e.answer ≡ reply setup past e.who.0 e.call → IsScreenAt setup past old → IsScreenAt setup (e ∷ past) new

-- where the old screen is that of a past that has made the table t and the order z, and an entry that draws nothing and isn't refused makes
-- the table t2 and the order z2, the new one is that with the entry
abbrev pub LeavesScreen : Setup → Windows → Layers → Windows → Layers → Entry → Kept → Kept → Type 0
LeavesScreen setup t z t2 z2 e old new = (past : Past) → IsLawful setup (e ∷ past) → IsTreeAt past t → IsOrderAt past z → IsTreeAt (e ∷ past) t2 → IsOrderAt (e ∷ past) z2 → is_refused e ≡ false → draws e.call e.answer ≡ false → IsScreenAt setup past old → IsScreenAt setup (e ∷ past) new

-- the pixels of a change, if there is one, are those that the entry carries
abbrev pub IsChangeAt : Setup → Entry → Past → Option Change → Type 0
IsChangeAt setup e past None = (w : ℕ) (p : Point) → carries setup e past w p ≡ false
IsChangeAt setup e past (Some c) = IsCarriedAt setup e past c.carried c.dx c.dy

-- so where the screen is that of a past that has made this table and this order
abbrev pub FollowsCarried : Setup → Windows → Layers → Entry → Kept → Option Change → Type 0
FollowsCarried setup t z e old o = (past : Past) → IsLawful setup past → IsTreeAt past t → IsOrderAt past z → e.answer ≡ reply setup past e.who.0 e.call → IsScreenAt setup past old → IsChangeAt setup e past o

-- and where the entry makes the table t2 and the order z2
abbrev pub LeavesCarried : Setup → Windows → Layers → Windows → Layers → Entry → Kept → Option Change → Type 0
LeavesCarried setup t z t2 z2 e old o = (past : Past) → IsLawful setup (e ∷ past) → IsTreeAt past t → IsOrderAt past z → IsTreeAt (e ∷ past) t2 → IsOrderAt (e ∷ past) z2 → is_refused e ≡ false → IsScreenAt setup past old → IsChangeAt setup e past o

-- the pixels of a change are on the screen, and so are those that come there
abbrev pub IsChangeOn : Setup → Change → Type 0
IsChangeOn setup c = IsOnScreen setup c.carried c.dx c.dy

-- the entry comes next after a lawful past that has made this table
pub record IsDrawn (t : Windows) (e : Entry) : Type 0 where
  pub setup : Setup
  pub past : Past
  pub lawful : IsLawful setup past
  pub tree : IsTreeAt past t
  pub right : e.answer ≡ reply setup past e.who.0 e.call

-- where the old screen is that of a past that has made this table, the new one is that with the entry
abbrev pub DrawsScreen : Windows → Entry → Kept → Kept → Type 0
DrawsScreen t e old new = (setup : Setup) (past : Past) → IsLawful setup past → IsTreeAt past t → e.answer ≡ reply setup past e.who.0 e.call → IsScreenAt setup past old → IsScreenAt setup (e ∷ past) new

-- the pixels of a rectangle, given from w's left top corner, are dirty that w owns, and w's flag is set where `erase` is true
pub record IsInvalidated (t : Windows) (w : ℕ) (l top r b : ℤ) (erase : Bool) (old new : Kept) : Type 0 where
  pub part : List Rect
  pub client : IsClientPart t w l top r b part
  pub owners : new.owners ≡ old.owners
  pub sessions : new.sessions ≡ old.sessions
  pub area : (v : ℕ) (p : Point) → region_has (area_in new.dirty v) p ≡ (region_has (area_in old.dirty v) p || ((w == v) && (region_has part p && region_has (region_in old.owners v) p)))
  pub erases : (v : ℕ) → erases_in new.dirty v ≡ (erases_in old.dirty v || ((w == v) && erase))

-- they are clean for w, and w's flag is clear where no pixel is dirty
pub record IsValidated (t : Windows) (w : ℕ) (l top r b : ℤ) (old new : Kept) : Type 0 where
  pub part : List Rect
  pub client : IsClientPart t w l top r b part
  pub owners : new.owners ≡ old.owners
  pub sessions : new.sessions ≡ old.sessions
  pub area : (v : ℕ) (p : Point) → region_has (area_in new.dirty v) p ≡ (region_has (area_in old.dirty v) p && not ((w == v) && region_has part p))
  pub cleared : IsEmpty (area_in new.dirty w) → erases_in new.dirty w ≡ false
  pub kept : (IsEmpty (area_in new.dirty w) → ⊥) → erases_in new.dirty w ≡ erases_in old.dirty w
  pub others : (v : ℕ) → v ≢ w → erases_in new.dirty v ≡ erases_in old.dirty v

-- w isn't being painted any more
pub record IsEnded (w : ℕ) (old new : Kept) : Type 0 where
  pub owners : new.owners ≡ old.owners
  pub dirty : new.dirty ≡ old.dirty
  pub begun : (v : ℕ) → is_begun new.sessions v ≡ (is_begun old.sessions v && not (w == v))
  pub clips : (v : ℕ) → v ≢ w → clip_in new.sessions v ≡ clip_in old.sessions v

-- all dirty pixels of w are taken, with its flag, and it is being painted with them as its clip; other windows are as before
pub record IsTaken (w : ℕ) (old new : Kept) : Type 0 where
  pub owners : new.owners ≡ old.owners
  pub area : area_in new.dirty w ≡ []
  pub erases : erases_in new.dirty w ≡ false
  pub others : (v : ℕ) → v ≢ w → update_in new.dirty v ≡ update_in old.dirty v
  pub begun : (v : ℕ) → is_begun new.sessions v ≡ (is_begun old.sessions v || (w == v))
  pub clip : clip_in new.sessions w ≡ Some (area_in old.dirty w)
  pub clips : (v : ℕ) → v ≢ w → clip_in new.sessions v ≡ clip_in old.sessions v

-- whether there is no entry
abbrev pub is_none_dirty : List DirtyWindow → Bool
is_none_dirty [] = true
is_none_dirty (d ∷ ds) = false

-- whether owners and dirty pixels surely stay: an entry can't change them, or no window has a region, a dirty pixel or a flag and the entry
-- shows none
abbrev pub keeps_screen : Call → Answer → Kept → Bool
keeps_screen call a s = not (changes_owners call a) || (not (shows call a) && (list_all (λ o. o.window.0 == 0) s.owners && is_none_dirty s.dirty))
