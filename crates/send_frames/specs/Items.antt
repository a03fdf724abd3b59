-- What the table of sends keeps.
use Rattle.std.specs.Prelude.{◌≡◌, ℕ, ◌+◌, ◌-◌, ◌≤◌, Bool, ◌||◌, nat_lt, if◌then◌else◌, List, [], length, map as each, slice_index_or, Option, Some, None, is_none, IsTrue, false}
use Rattle.std.specs.Ordering.{nat_cmp}
use Rattle.std.specs.FinMap as map
use Rattle.win_num.specs.declared.send.Cause.{Cause}
use Rattle.win_num.specs.declared.send.Frame.{Frame}
use Rattle.send_frames.specs.declared.table.Item.{Item}
use Rattle.send_frames.specs.declared.row.SendRow.{SendRow}
use Rattle.send_frames.specs.Book.{KnownSend, names, count_on, pushes_at_begin, is_owed_at_begin}

-- the items of all known sends, by number
abbrev pub Items : Type 0
Items = map.FinMap nat_cmp Item

-- whether a send is still known: it has no answer, or its result is owed, or a frame names it
abbrev pub is_kept : Item → Bool
is_kept i = is_none i.answer || i.owed || nat_lt 0 i.frames

-- an item is changed, and taken out where nothing keeps its send known
abbrev pub changed : Items → ℕ → Item → Items
changed m s i = if is_kept i then map.insert m s i else map.remove m s

-- one more frame names a send
abbrev pub counted_up_as : Items → ℕ → Option Item → Items
counted_up_as m s None = m
counted_up_as m s (Some i) = changed m s (record i { frames = i.frames + 1 })

abbrev pub counted_up : Items → Option ℕ → Items
counted_up m None = m
counted_up m (Some s) = counted_up_as m s (map.get m s)

-- one frame less names a send
abbrev pub counted_down_as : Items → ℕ → Option Item → Items
counted_down_as m s None = m
counted_down_as m s (Some i) = changed m s (record i { frames = i.frames - 1 })

abbrev pub counted_down : Items → Option ℕ → Items
counted_down m None = m
counted_down m (Some s) = counted_down_as m s (map.get m s)

-- a first answer is kept
abbrev pub with_answer_as : Items → ℕ → ℕ × Cause → Option Item → Items
with_answer_as m s a None = m
with_answer_as m s a (Some i) = if is_none i.answer then changed m s (record i { answer = Some a }) else m

abbrev pub with_answer : Items → ℕ → ℕ × Cause → Items
with_answer m s a = with_answer_as m s a (map.get m s)

-- a result is owed to nobody
abbrev pub without_debt_as : Items → ℕ → Option Item → Items
without_debt_as m s None = m
without_debt_as m s (Some i) = changed m s (record i { owed = false })

abbrev pub without_debt : Items → ℕ → Items
without_debt m s = without_debt_as m s (map.get m s)

-- what is known of a send, without the count of frames
abbrev pub known_of : Item → KnownSend
known_of i = record { row = i.row; answer = i.answer; owed = i.owed }

-- the known sends that a table shows
abbrev pub known_in : Items → map.FinMap nat_cmp KnownSend
known_in m = map.from_entries (each (λ e. (e.0, known_of e.1)) (map.entries m))

-- an item of send s counts the frames that name it, and is wanted; where there is none, no frame names s
abbrev pub IsRightItem : ℕ → List (List Frame) → ℕ → Option Item → Type 0
IsRightItem begun stacks s None = count_on (names s) stacks ≡ 0
IsRightItem begun stacks s (Some i) = (1 ≤ s) × (s ≤ begun) × (i.frames ≡ count_on (names s) stacks) × IsTrue (is_kept i)

-- the parts of `Sends` agree
pub record Agrees (begun : ℕ) (stacks : List (List Frame)) (m : Items) : Type 0 where
  pub threads : (1 ≤ length stacks) × (length stacks ≤ 15)
  pub depth : (i : ℕ) → length (slice_index_or stacks i []) ≤ 64
  pub items : (s : ℕ) → IsRightItem begun stacks s (map.get m s)
  pub few : map.len m ≤ 1024

-- a send is known and has no answer yet
abbrev pub is_unanswered : Option Item → Bool
is_unanswered None = false
is_unanswered (Some i) = is_none i.answer

-- a send as the table has it from its beginning
abbrev pub new_item : SendRow → Item
new_item r = record { row = r; answer = None; owed = is_owed_at_begin r; frames = if pushes_at_begin r then 1 else 0 }
