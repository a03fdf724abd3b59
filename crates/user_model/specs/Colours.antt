-- The colour of each pixel of the screen, and the frames that were kept of it.
use Rattle.std.specs.Prelude.{if◌then◌else◌, ℕ, zero, suc, ◌==◌, Bool, true, false, ◌&&◌, List, [], ◌∷◌, map, Option, Some, None, option_map, unwrap_or}
use Rattle.win_num.specs.declared.shapes.Point.{Point}
use Rattle.region_box.specs.Screens.{screen_points}
use Rattle.user_model.specs.declared.call.Call.{Call}
use Rattle.user_model.specs.declared.call.Call.TheVariants.{BeginPaint, EndPaint, Fill, Erase, Snap}
use Rattle.user_model.specs.declared.entry.Entry.{Entry}
use Rattle.user_model.specs.declared.entry.Setup.{Setup}
use Rattle.user_model.specs.Past.{Past, is_refused, last_of, each_of}
use Rattle.user_model.specs.Classes.{colour_of}
use Rattle.user_model.specs.Pixels.{owner}
use Rattle.user_model.specs.Dirty.{owns, came_from, carries, is_dirty, is_in_client}

-- that painting of w begins, with the past before it, or that it ends
abbrev pub session_told : ℕ → Call → Past → Option (Option Past)
session_told w (BeginPaint v) before = if v == w then Some (Some before) else None
session_told w (EndPaint v) before = if v == w then Some None else None
session_told w _ before = None

-- the past before painting of w began, where it hasn't ended since
abbrev pub session : Past → ℕ → Option Past
session past w = unwrap_or (last_of (λ e before. session_told w e.call before) past) None

-- whether painting in w may change the pixel: while w is being painted, those alone that were dirty before
abbrev pub is_in_clip : Setup → Past → ℕ → Point → Bool
is_in_clip setup past w p = elim (session past w) [ Some before ↦ is_dirty setup before w p | None ↦ true ]

-- whether painting in w reaches the pixel
abbrev pub reaches : Setup → Past → ℕ → Point → Bool
reaches setup past w p = owns setup past w p && is_in_clip setup past w p

-- the colour that a call gives the pixel
abbrev pub paints_in : Setup → Point → Call → Past → Option ℕ
paints_in setup p (Fill w l t r b colour) past = if is_in_client past w l t r b p && reaches setup past w p then Some colour else None
paints_in setup p (Erase w) past = if reaches setup past w p then Some (colour_of past w) else None
paints_in setup p _ past = None

-- the colour that an entry gives the pixel: 0 where no window owns it afterwards, and where the entry carries it for the window that owns
-- it, the colour that it had before where it came from, which is called brought
abbrev pub paints : ℕ → Setup → Point → Entry → Past → Option ℕ
paints brought setup p e past =
    let w = (owner setup (e ∷ past) p).0 in
    if w == 0 then Some 0 else (if carries setup e past w p then Some brought else paints_in setup p e.call past)

-- the colour of the pixel: that of the last entry that painted it, else 0
abbrev pub colour : Setup → Past → Point → ℕ
colour setup [] p = 0
colour setup (e ∷ past) p = elim (is_refused e) [ true ↦ colour setup past p | false ↦ unwrap_or (paints (colour setup past (came_from e past (owner setup (e ∷ past) p).0 p)) setup p e past) (colour setup past p) ]

-- the colours of the screen, row after row
abbrev pub frame : Setup → Past → List ℕ
frame setup past = map (colour setup past) (screen_points setup.width setup.height)

-- the past of a frame that is kept
abbrev pub snaps : Call → Past → List Past
snaps Snap before = before ∷ []
snaps _ before = []

-- the pasts before which frames were kept, in order
abbrev pub snapped : Past → List Past
snapped past = each_of (λ e before. snaps e.call before) past

-- the past of this place in a list, counted from 0
abbrev pub past_at : List Past → ℕ → Option Past
past_at [] n = None
past_at (past ∷ pasts) zero = Some past
past_at (past ∷ pasts) (suc n) = past_at pasts n

-- the frame of a number, counted from 1
abbrev pub frame_of : Setup → Past → ℕ → Option (List ℕ)
frame_of setup past zero = None
frame_of setup past (suc n) = option_map (frame setup) (past_at (snapped past) n)
