-- What is kept of a clipboard, and what one entry makes of it.
use Rattle.std.specs.Prelude.{◌≡◌, ℕ, ◌+◌, ◌==◌, Bool, true, false, if◌then◌else◌, Option, Some, None, is_some}
use Rattle.std.specs.Ordering.{nat_cmp}
use Rattle.std.specs.BTreeMap.{get, btree_map_len}
use Rattle.std.specs.BTreeSet.{contains}
use Rattle.win_num.specs.declared.message.Thread.{Thread}
use Rattle.clip_board.specs.declared.entry.ClipCall.{ClipCall}
use Rattle.clip_board.specs.declared.entry.ClipAnswer.{ClipAnswer}
use Rattle.clip_board.specs.declared.entry.ClipEntry.{ClipEntry}
use Rattle.clip_board.specs.declared.entry.Kept.{Kept}
use Rattle.clip_board.specs.declared.board.Board.{Board}
use Rattle.clip_board.specs.Clipboards.{ClipPast, format_of, opened, owner, kept, formats, is_asked, opened_after, owner_after, kept_after, formats_after, asked_after}

-- what is kept of a format
abbrev pub kept_on : Board → ℕ → Option Kept
kept_on b f = get nat_cmp b.kept f

-- whether a format is asked for
abbrev pub is_asked_on : Board → ℕ → Bool
is_asked_on b f = contains nat_cmp b.asks f

-- the board says what the past says
pub record StandsAt (past : ClipPast) (b : Board) : Type 0 where
  pub opened : b.opened ≡ opened past
  pub owner : b.owner ≡ owner past
  pub kept : (f : ℕ) → kept_on b f ≡ kept f past
  pub formats : btree_map_len b.kept ≡ formats past
  pub asked : (f : ℕ) → is_asked_on b f ≡ is_asked f past

-- both say the same
pub record IsSame (old new : Board) : Type 0 where
  pub opened : new.opened ≡ old.opened
  pub owner : new.owner ≡ old.owner
  pub kept : new.kept.entries ≡ old.kept.entries
  pub asked : new.asks.keys ≡ old.asks.keys

-- the new board says what a call with that answer makes of the old one
pub record Follows (who : Thread) (call : ClipCall) (answer : ClipAnswer) (old new : Board) : Type 0 where
  pub opened : new.opened ≡ opened_after who call old.opened
  pub owner : new.owner ≡ owner_after who call old.opened old.owner
  pub kept : (f : ℕ) → kept_on new f ≡ kept_after f call (kept_on old f)
  pub formats : btree_map_len new.kept ≡ formats_after call (kept_on old (format_of call)) (btree_map_len old.kept)
  pub asked : (f : ℕ) → is_asked_on new f ≡ asked_after f call answer (is_asked_on old f)

-- the format is kept so, and nobody is asked for it any more
pub record Keeps (f : ℕ) (k : Kept) (old new : Board) : Type 0 where
  pub opened : new.opened ≡ old.opened
  pub owner : new.owner ≡ old.owner
  pub kept : (g : ℕ) → kept_on new g ≡ (if f == g then Some k else kept_on old g)
  pub formats : btree_map_len new.kept ≡ (if is_some (kept_on old f) then btree_map_len old.kept else btree_map_len old.kept + 1)
  pub asked : (g : ℕ) → is_asked_on new g ≡ (if f == g then false else is_asked_on old g)

-- the format is asked for
pub record Asks (f : ℕ) (old new : Board) : Type 0 where
  pub opened : new.opened ≡ old.opened
  pub owner : new.owner ≡ old.owner
  pub kept : new.kept.entries ≡ old.kept.entries
  pub asked : (g : ℕ) → is_asked_on new g ≡ (if f == g then true else is_asked_on old g)
