-- What each thread set last, and what its group has.
use Rattle.std.specs.Prelude.{if◌then◌else◌, ℕ, zero, suc, ◌+◌, ◌*◌, nat_lt, Bool, false, ◌&&◌, List, slice_index, slice_index_or, slice_set, replicate}
use Rattle.win_num.specs.declared.message.Hwnd.{Hwnd}
use Rattle.win_num.specs.declared.message.Thread.{Thread}
use Rattle.input_state.specs.declared.state.Slot.{Slot}
use Rattle.input_state.specs.declared.state.Slot.TheVariants.{Focus, Active, Capture}
use Rattle.input_state.specs.Groups.{has_bit}

-- the tables: a row for each slot or key, a column for each thread; the order of a cell is one above the place of its last setting, or 0
pub record State : Type 0 where
  pub threads : ℕ
  pub links : List ℕ
  pub groups : List ℕ
  pub windows : List Hwnd
  pub window_orders : List ℕ
  pub downs : List Bool
  pub key_orders : List ℕ
  pub next_place : ℕ

-- the row of a slot
abbrev pub row_number : Slot → ℕ
row_number Focus = 0
row_number Active = 1
row_number Capture = 2

-- the cell of a row and a thread
abbrev pub cell : ℕ → ℕ → ℕ
cell row t = 16 * row + t

-- of the best so far and thread n the one with the later setting, where n is of the group
abbrev pub later : ℕ → List ℕ → ℕ → ℕ → ℕ → ℕ
later group orders row n best = if has_bit group n && nat_lt (slice_index orders (cell row best)) (slice_index orders (cell row n)) then n else best

-- the member of the group below n with the latest setting in the row, or 0
unfoldable pub latest_below : ℕ → List ℕ → ℕ → ℕ → ℕ
latest_below group orders row zero = 0
latest_below group orders row (suc n) = later group orders row n (latest_below group orders row n)

-- the group of a thread
abbrev pub group_of : State → Thread → ℕ
group_of s t = slice_index s.groups t.0

-- the member of the thread's group that set the slot last
abbrev pub slot_setter : State → Thread → Slot → ℕ
slot_setter s t slot = latest_below (group_of s t) s.window_orders (row_number slot) 16

-- the window that the group of a thread has in the slot
abbrev pub window_of : State → Thread → Slot → Hwnd
window_of s t slot = slice_index_or s.windows (cell (row_number slot) (slot_setter s t slot)) (record { 0 = 0 })

-- the member of the thread's group that set the key last
abbrev pub key_setter : State → Thread → ℕ → ℕ
key_setter s t key = latest_below (group_of s t) s.key_orders key 16

-- whether the key is down for the group of a thread
abbrev pub is_down : State → Thread → ℕ → Bool
is_down s t key = slice_index_or s.downs (cell key (key_setter s t key)) false

-- the tables after a thread set the slot at the place
abbrev pub with_window : State → Thread → Slot → Hwnd → ℕ → State
with_window s t slot w place = record s { windows = slice_set s.windows (cell (row_number slot) t.0) w; window_orders = slice_set s.window_orders (cell (row_number slot) t.0) (place + 1); next_place = place + 1 }

-- the tables after a thread set the key at the place
abbrev pub with_key : State → Thread → ℕ → Bool → ℕ → State
with_key s t key down place = record s { downs = slice_set s.downs (cell key t.0) down; key_orders = slice_set s.key_orders (cell key t.0) (place + 1); next_place = place + 1 }

-- the tables before any setting, with these groups
abbrev pub fresh : ℕ → List ℕ → State
fresh threads groups = record { threads = threads; links = replicate 16 0; groups = groups; windows = replicate 48 (record { 0 = 0 }); window_orders = replicate 48 0; downs = replicate 4096 false; key_orders = replicate 4096 0; next_place = 0 }

-- the state with other links and their groups
abbrev pub with_links : State → List ℕ → List ℕ → State
with_links s links groups = record s { links = links; groups = groups }
