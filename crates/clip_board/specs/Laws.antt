-- What a get that comes after an ask may answer.
use Rattle.std.specs.Prelude.{◌≡◌, ◌<◌, ℕ, ◌==◌, ◌&&◌, Bool, true, false, not, if◌then◌else◌, nat_lt, List, [], ◌∷◌, length, Option, Some, None, ◌⊎◌}
use Rattle.win_num.specs.declared.message.Thread.{Thread}
use Rattle.win_num.specs.declared.message.Hwnd.{Hwnd}
use Rattle.clip_board.specs.declared.entry.ClipCall.{ClipCall}
use Rattle.clip_board.specs.declared.entry.ClipCall.TheVariants.{Empty, Set, Get, Close}
use Rattle.clip_board.specs.declared.entry.ClipAnswer.{ClipAnswer}
use Rattle.clip_board.specs.declared.entry.ClipAnswer.TheVariants.{Done, Value, Ask}
use Rattle.clip_board.specs.declared.entry.ClipEntry.{ClipEntry}
use Rattle.clip_board.specs.declared.entry.Holder.{Holder}
use Rattle.clip_board.specs.Clipboards.{ClipPast, is_refused, clip_entry, owner}

-- the entry at a place: so many entries stand before it
abbrev pub entry_at : ClipPast → ℕ → Option ClipEntry
entry_at [] k = None
entry_at (e ∷ past) k = if length past == k then Some e else entry_at past k

-- the past of the first k entries
abbrev pub before : ClipPast → ℕ → ClipPast
before [] k = []
before (e ∷ past) k = if nat_lt (length past) k then e ∷ past else before past k

-- the format of a `Get` that was told to ask for it
abbrev pub asks : ClipCall → ClipAnswer → Option ℕ
asks (Get f) (Ask w) = Some f
asks call a = None

-- the format of a `Get` that was told the data
abbrev pub gets : ClipCall → ClipAnswer → Option ℕ
gets (Get f) (Value v) = Some f
gets call a = None

-- the one format of both, where it is one and the thread is one
abbrev pub one_format : Option ℕ → Option ℕ → Bool → Option ℕ
one_format (Some f) (Some g) same = if (f == g) && same then Some f else None
one_format f g same = None

-- the format that one thread was told to ask for, and was told the data of then
abbrev pub format_told : ClipEntry → ClipEntry → Option ℕ
format_told a g = one_format (asks a.call a.answer) (gets g.call g.answer) (a.who.0 == g.who.0)

-- the same of entries that may be there, and come in that order
abbrev pub told_at : Option ClipEntry → Option ClipEntry → Bool → Option ℕ
told_at (Some a) (Some g) true = format_told a g
told_at a g ordered = None

-- whether a call sets the format f
abbrev pub sets_it : ℕ → ClipCall → Bool
sets_it f (Set g v) = g == f
sets_it f call = false

-- whether an entry sets the format f
abbrev pub sets : ℕ → ClipEntry → Bool
sets f e = not (is_refused e) && sets_it f e.call

-- whether a call takes the clipboard out of the caller's hands
abbrev pub ends_it : ClipCall → Bool
ends_it Empty = true
ends_it Close = true
ends_it call = false

-- whether an entry is an `Empty` or a `Close` that wasn't refused
abbrev pub ends : ClipEntry → Bool
ends e = not (is_refused e) && ends_it e.call

-- the place of the last `Set` of the format f that wasn't refused
abbrev pub last_set : ℕ → ClipPast → Option ℕ
last_set f [] = None
last_set f (e ∷ past) = if sets f e then Some (length past) else last_set f past

-- At that place a thread set the format f to v, and it is the last `Set` of it before the end that wasn't refused.
pub record IsLastSet (past : ClipPast) (f v end place : ℕ) (setter : Thread) : Type 0 where
  pub set : entry_at past place ≡ Some (clip_entry setter (Set f v) Done)
  pub last : last_set f (before past end) ≡ Some place
  pub below : place < end

-- At these two places one thread got one format: first it was told to ask for it, and then it was told the value.
pub record GetsAfterAsk (past : ClipPast) (first second : ℕ) : Type 0 where
  pub who : Thread
  pub format : ℕ
  pub window : Hwnd
  pub value : ℕ
  pub asked : entry_at past first ≡ Some (clip_entry who (Get format) (Ask window))
  pub got : entry_at past second ≡ Some (clip_entry who (Get format) (Value value))
  pub below : first < second

-- an `Empty` or a `Close` that wasn't refused stands between these two places
pub record HasEnded (past : ClipPast) (first place : ℕ) : Type 0 where
  pub between : ℕ
  pub entry : ClipEntry
  pub stands : entry_at past between ≡ Some entry
  pub ends_there : ends entry ≡ true
  pub above : first < between
  pub below : between < place

-- Who may have set the format at that place for a thread that was told at the first to ask: the owner's thread as it was at the first, the thread itself, or anyone after an `Empty` or a `Close` in between.
pub data MayHaveSet (past : ClipPast) (first place : ℕ) (who setter : Thread) : Type 0 where
  by_owner : (h : Holder) → owner (before past first) ≡ Some h → setter ≡ h.who → MayHaveSet past first place who setter
  by_itself : setter ≡ who → MayHaveSet past first place who setter
  after_end : HasEnded past first place → MayHaveSet past first place who setter

-- The value that is told at the second place was set at this place, between the two, by one who may have.
pub record WasSet (past : ClipPast) (first second place : ℕ) : Type 0 where
  pub gets : GetsAfterAsk past first second
  pub setter : Thread
  pub set : IsLastSet past gets.format gets.value second place setter
  pub above : first < place
  pub allowed : MayHaveSet past first place gets.who setter

-- the value v of the format f was set by the last `Set` of it before the end
abbrev pub WasLastSet : ClipPast → ℕ → ℕ → ℕ → Type 0
WasLastSet past f v end = (place : ℕ) × (setter : Thread) × IsLastSet past f v end place setter
