-- Where the session of a window stands, or would stand.
use Rattle.std.specs.Prelude.{◌≡◌, ◌≢◌, ℕ, ◌<◌, ◌≤◌, List, length, slice_index_or, Option}
use Rattle.win_num.specs.declared.shapes.Rect.{Rect}
use Rattle.paint_sessions.specs.declared.sessions.Session.{Session}
use Rattle.paint_sessions.specs.LookUps.{clip_in, RisesFrom}

-- the session there is the window's
pub record IsAt (ss : List Session) (w : ℕ) (i : ℕ) : Type 0 where
  pub within : i < length ss
  pub window : (s : Session) → (slice_index_or ss i s).window.0 ≡ w

-- the window has no session, and one would have to stand there
pub record IsMissingAt (ss : List Session) (w : ℕ) (i : ℕ) : Type 0 where
  pub within : i ≤ length ss
  pub below : (k : ℕ) (s : Session) → k < i → (slice_index_or ss k s).window.0 < w
  pub above : (s : Session) → i < length ss → w < (slice_index_or ss i s).window.0

-- the clip is now the window's, or it has no session, and other windows are as before
pub record IsPut (w : ℕ) (clip : Option (List Rect)) (old new : List Session) : Type 0 where
  pub rising : RisesFrom 0 new
  pub same : clip_in new w ≡ clip
  pub others : (v : ℕ) → v ≢ w → clip_in new v ≡ clip_in old v
