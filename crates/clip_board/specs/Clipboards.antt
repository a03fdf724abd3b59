-- The clipboard by its history alone. A past is a history with the newest entry first.
use Rattle.std.specs.Prelude.{◌≡◌, ◌≤◌, ◌<◌, ℕ, ◌+◌, ◌==◌, ◌&&◌, ◌||◌, Bool, true, false, not, if◌then◌else◌, nat_le, List, [], ◌∷◌, length, Option, Some, None, is_some}
use Rattle.win_num.specs.declared.message.Thread.{Thread}
use Rattle.win_num.specs.declared.message.Hwnd.{Hwnd}
use Rattle.win_num.specs.declared.code.Code.{Code}
use Rattle.win_num.specs.declared.code.Code.TheVariants.{Win, Full}
use Rattle.clip_board.specs.declared.entry.ClipCall.{ClipCall}
use Rattle.clip_board.specs.declared.entry.ClipCall.TheVariants.{Open, Empty, Set, Delay, Get, Close}
use Rattle.clip_board.specs.declared.entry.ClipAnswer.{ClipAnswer}
use Rattle.clip_board.specs.declared.entry.ClipAnswer.TheVariants.{Done, Was, Value, Ask, Nothing, Refused}
use Rattle.clip_board.specs.declared.entry.ClipEntry.{ClipEntry}
use Rattle.clip_board.specs.declared.entry.Holder.{Holder}
use Rattle.clip_board.specs.declared.entry.Kept.{Kept}
use Rattle.clip_board.specs.declared.entry.Kept.TheVariants.{Data, Delayed}
use Rattle.clip_board.specs.declared.answers.Standing.{Standing}

-- entries, the newest first
abbrev pub ClipPast : Type 0
ClipPast = List ClipEntry

-- the format that a call speaks of, or 0
abbrev pub format_of : ClipCall → ℕ
format_of (Set f v) = f
format_of (Delay f) = f
format_of (Get f) = f
format_of _ = 0

-- whether the answer is a refusal
abbrev pub is_refusal : ClipAnswer → Bool
is_refusal (Refused code) = true
is_refusal _ = false

-- whether the entry was refused: then it did nothing
abbrev pub is_refused : ClipEntry → Bool
is_refused e = is_refusal e.answer

-- an entry from its parts
abbrev pub clip_entry : Thread → ClipCall → ClipAnswer → ClipEntry
clip_entry who call answer = record { who = who; call = call; answer = answer }

-- a thread with its window
abbrev pub holder : Thread → Hwnd → Holder
holder who w = record { who = who; hwnd = w }

-- no window
abbrev pub no_window : Hwnd
no_window = record { 0 = 0 }

-- the window of that thread, or none
abbrev pub window_of : Option Holder → Hwnd
window_of (Some h) = h.hwnd
window_of None = no_window

-- whether it is that thread
abbrev pub is_by : Thread → Option Holder → Bool
is_by who (Some h) = h.who.0 == who.0
is_by who None = false

-- who has it open after a call: an `Open` opens it, a `Close` closes it
abbrev pub opened_after : Thread → ClipCall → Option Holder → Option Holder
opened_after who (Open w) o = Some (holder who w)
opened_after who Close o = None
opened_after who call o = o

-- who has it open, and with which window
abbrev pub opened : ClipPast → Option Holder
opened [] = None
opened (e ∷ past) = if is_refused e then opened past else opened_after e.who e.call (opened past)

-- whom a call makes the owner: who empties it, with the window that it was opened with
abbrev pub owner_after : Thread → ClipCall → Option Holder → Option Holder → Option Holder
owner_after who Empty o former = Some (holder who (window_of o))
owner_after who call o former = former

-- the owner: who emptied it last
abbrev pub owner : ClipPast → Option Holder
owner [] = None
owner (e ∷ past) = if is_refused e then owner past else owner_after e.who e.call (opened past) (owner past)

-- what a call leaves of the format f: `Set` and `Delay` of it say it anew, and `Empty` takes it away
abbrev pub kept_after : ℕ → ClipCall → Option Kept → Option Kept
kept_after f (Set g v) k = if g == f then Some (Data v) else k
kept_after f (Delay g) k = if g == f then Some Delayed else k
kept_after f Empty k = None
kept_after f call k = k

-- what is kept of the format f: what the last `Set` or `Delay` of it since the last `Empty` says
abbrev pub kept : ℕ → ClipPast → Option Kept
kept f [] = None
kept f (e ∷ past) = if is_refused e then kept f past else kept_after f e.call (kept f past)

-- how many formats are there after a call, where k is what was kept of its format
abbrev pub formats_after : ClipCall → Option Kept → ℕ → ℕ
formats_after (Set f v) k n = if is_some k then n else n + 1
formats_after (Delay f) k n = if is_some k then n else n + 1
formats_after Empty k n = 0
formats_after call k n = n

-- how many formats are there: each that is new is one more
abbrev pub formats : ClipPast → ℕ
formats [] = 0
formats (e ∷ past) = if is_refused e then formats past else formats_after e.call (kept (format_of e.call) past) (formats past)

-- whether an ask of the format f stands after a call with that answer: a `Get` of it that answered `Ask` asks, and `Set` or `Delay` of it, `Empty` and `Close` end that
abbrev pub asked_after : ℕ → ClipCall → ClipAnswer → Bool → Bool
asked_after f (Get g) (Ask w) b = if g == f then true else b
asked_after f (Set g v) a b = if g == f then false else b
asked_after f (Delay g) a b = if g == f then false else b
asked_after f Empty a b = false
asked_after f Close a b = false
asked_after f call a b = b

-- whether an ask of the format f stands
abbrev pub is_asked : ℕ → ClipPast → Bool
is_asked f [] = false
is_asked f (e ∷ past) = if is_refused e then is_asked f past else asked_after f e.call e.answer (is_asked f past)

-- how the clipboard stands for a call that speaks of the format f
abbrev pub standing : ClipPast → ℕ → Standing
standing past f = record { opened = opened past; owner = owner past; kept = kept f past; asked = is_asked f past; formats = formats past }

-- refused with an error of Windows
abbrev pub error : ℕ → ClipAnswer
error n = Refused (Win n)

-- whether it is a format
abbrev pub is_format : ℕ → Bool
is_format f = nat_le 1 f && nat_le f 65535

-- whether that thread has it open
abbrev pub has_open : Thread → Standing → Bool
has_open who s = is_by who s.opened

-- whether an ask of the format stands, and that thread is the owner's
abbrev pub renders : Thread → Standing → Bool
renders who s = s.asked && is_by who s.owner

-- the answer to `Open`
abbrev pub answer_to_open : Standing → ClipAnswer
answer_to_open s = if is_some s.opened then error 5 else Done

-- the answer to `Set` and `Delay`, which the owner's thread may also make while it is asked for the format
abbrev pub answer_to_set : Thread → ℕ → Standing → ClipAnswer
answer_to_set who f s =
    if not (is_format f) then error 87 else
    if not (has_open who s) && not (renders who s) then error 1418 else
    if s.asked && not (is_by who s.owner) then error 5 else
    if not (is_some s.kept) && nat_le 64 s.formats then Refused Full else Done

-- the data that is kept, or the owner who is to be asked for it
abbrev pub answer_from : Option Kept → Option Holder → ClipAnswer
answer_from (Some (Data v)) o = Value v
answer_from (Some Delayed) (Some h) = Ask h.hwnd
answer_from (Some Delayed) None = Nothing
answer_from None o = Nothing

-- the answer to `Get`
abbrev pub answer_to_get : Thread → ℕ → Standing → ClipAnswer
answer_to_get who f s = if not (is_format f) then error 87 else if has_open who s then answer_from s.kept s.owner else error 1418

-- the answer to a call, a line for each
abbrev pub answer_of : Thread → ClipCall → Standing → ClipAnswer
answer_of who (Open w) s = answer_to_open s
answer_of who Empty s = if has_open who s then Was (window_of s.owner) else error 1418
answer_of who (Set f v) s = answer_to_set who f s
answer_of who (Delay f) s = answer_to_set who f s
answer_of who (Get f) s = answer_to_get who f s
answer_of who Close s = if has_open who s then Done else error 1418

-- a history has at most 2,097,152 entries
abbrev pub is_full : ClipPast → Bool
is_full past = nat_le 2097152 (length past)

-- what a call of that thread is answered after this past
abbrev pub clip_reply : ClipPast → Thread → ClipCall → ClipAnswer
clip_reply past who call = if is_full past then Refused Full else answer_of who call (standing past (format_of call))

-- the past after a call: one entry more, or where it is full as before
abbrev pub clip_after : ClipPast → Thread → ClipCall → ClipPast
clip_after past who call = if is_full past then past else clip_entry who call (clip_reply past who call) ∷ past

-- each answer is the reply at what was before it; so no entry is one too many
abbrev pub IsLawful : ClipPast → Type 0
IsLawful [] = Unit {0}
IsLawful (e ∷ past) = IsLawful past × (length past < 2097152) × (e.answer ≡ clip_reply past e.who e.call)
