-- What is kept of groups, and when it is what a past says.
use Rattle.std.specs.Prelude.{if◌then◌else◌, ◌≡◌, ℕ, ◌==◌, ◌+◌, ◌<◌, ◌≤◌, false, length, Option, slice_index, slice_index_or, unwrap_or, option_map}
use Rattle.input_state.specs.declared.state.Slot.{Slot}
use Rattle.input_state.specs.declared.state.Slot.TheVariants.{Focus, Active, Capture}
use Rattle.input_state.specs.Groups.{link_at}
use Rattle.input_state.specs.State.{State, cell, row_number}
use Rattle.user_model.specs.declared.entry.Entry.{Entry}
use Rattle.user_model.specs.declared.entry.Setup.{Setup}
use Rattle.user_model.specs.Past.{Past, last_of}
use Rattle.user_model.specs.Focus as shared
use Rattle.user_model.specs.Focus.{last_set, set_among, foreground}
use Rattle.user_model.specs.Groups.{are_attached}
use Rattle.user_model.specs.Keys.{down_told, last_down}
use Rattle.user_model.specs.ZOrder.{hwnd}

-- the links, what each thread set last, and which keys went down or up last by the input that it took; the foreground thread, or 0
pub record Kept : Type 0 where
  pub inputs : State
  pub foreground : ℕ

-- a slot as the definitions name it
abbrev pub named : Slot → shared.Slot
named Focus = shared.focus
named Active = shared.active
named Capture = shared.capture

-- where an entry says something: one above its own place
abbrev pub place_told : {A : Type 0} → (Entry → Past → Option A) → Entry → Past → Option ℕ
place_told says e before = option_map (λ a. length before + 1) (says e before)

-- one above the place of the last entry of t that sets the slot, or 0 where there is none
abbrev pub order_of : ℕ → shared.Slot → Past → ℕ
order_of t slot past = unwrap_or (last_of (place_told (set_among (λ u. u == t) slot)) past) 0

-- the same of the last entry of t that takes an input by which the key goes down or up
abbrev pub key_order_of : ℕ → ℕ → Past → ℕ
key_order_of t key past = unwrap_or (last_of (place_told (down_told (λ u. u == t) key)) past) 0

-- the tables have what t set last for the slot, and when
pub record HasSetting (past : Past) (s : State) (slot : Slot) (t : ℕ) : Type 0 where
  pub window : slice_index_or s.windows (cell (row_number slot) t) (hwnd 0) ≡ hwnd (last_set (λ u. u == t) (named slot) past)
  pub order : slice_index s.window_orders (cell (row_number slot) t) ≡ order_of t (named slot) past

-- the tables have whether the key is down by the last input of it that t took, and when
pub record HasKey (past : Past) (s : State) (key t : ℕ) : Type 0 where
  pub down : slice_index_or s.downs (cell key t) false ≡ last_down (λ u. u == t) key past
  pub order : slice_index s.key_orders (cell key t) ≡ key_order_of t key past

-- the links, the settings, the keys and the foreground thread are those of the past
pub record IsGroupsAt (setup : Setup) (past : Past) (g : Kept) : Type 0 where
  pub threads : g.inputs.threads ≡ setup.threads
  pub few : setup.threads ≤ 15
  pub links : (t u : ℕ) → t < 16 → u < 16 → link_at g.inputs.links t u ≡ (if are_attached past t u then 1 else 0)
  pub windows : length g.inputs.windows ≡ 48
  pub orders : length g.inputs.window_orders ≡ 48
  pub downs : length g.inputs.downs ≡ 4096
  pub key_orders : length g.inputs.key_orders ≡ 4096
  pub settings : (slot : Slot) (t : ℕ) → t < 16 → HasSetting past g.inputs slot t
  pub keys : (key t : ℕ) → key < 256 → t < 16 → HasKey past g.inputs key t
  pub places : g.inputs.next_place ≤ length past
  pub foreground : g.foreground ≡ foreground past
