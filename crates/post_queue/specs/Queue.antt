-- Posted messages in posted order.
use Rattle.std.specs.Prelude.{◌≡◌, ◌≤◌, ℕ, suc, ◌+◌, ◌==◌, nat_lt, Bool, true, false, not, ◌&&◌, List, [], ◌∷◌, length, take, filter, count_by, find, All, Option, Some, None, option_map, slice_get}
use Rattle.win_num.specs.declared.message.Msg.{Msg}

-- a posted message with its number
pub record Posted : Type 0 where
  pub number : ℕ
  pub msg : Msg

-- the most messages that the queue may hold, and those that it holds, in posted order
pub record Queue : Type 0 where
  pub limit : ℕ
  pub posted : List Posted

-- a message with its number
abbrev pub post_of : ℕ → Msg → Posted
post_of number msg = record { number = number; msg = msg }

-- the number and the message as a pair
abbrev pub pair_of : Posted → ℕ × Msg
pair_of p = (p.number, p.msg)

-- a queue from its parts
abbrev pub queue : ℕ → List Posted → Queue
queue limit posted = record { limit = limit; posted = posted }

-- whether the message is for the window
abbrev pub is_for : ℕ → Posted → Bool
is_for w p = p.msg.hwnd.0 == w

-- the message of a number
abbrev pub message_of : List Posted → ℕ → Option Msg
message_of ps number = option_map (λ p. p.msg) (find (λ p. p.number == number) ps)

-- without the message of a number
abbrev pub without_number : List Posted → ℕ → List Posted
without_number ps number = filter (λ p. not (p.number == number)) ps

-- without the messages for a window
abbrev pub without_window : List Posted → ℕ → List Posted
without_window ps w = filter (λ p. not (is_for w p)) ps

-- the numbers rise, and none is less than this
abbrev pub Rises : ℕ → List Posted → Type 0
Rises from [] = Unit {0}
Rises from (p ∷ ps) = (from ≤ p.number) × Rises (suc p.number) ps

-- how many are for a window
abbrev pub count_for : List Posted → ℕ → ℕ
count_for ps w = count_by (is_for w) ps

-- how many are for a window and have a number above another
abbrev pub count_above : List Posted → ℕ → ℕ → ℕ
count_above ps w look = count_by (λ p. is_for w p && nat_lt look p.number) ps

-- this message stands at the place and passes, and no message before it passes
pub record IsFirst (passes : Msg → Bool → Type 0) (ps : List Posted) (place : ℕ) (p : Posted) : Type 0 where
  pub here : slice_get ps place ≡ Some p
  pub passing : passes p.msg true
  pub earlier : All (λ q. passes q.msg false) (take place ps)

-- what a search from the front answers, and how many steps it takes: one for each message up to the
-- first that passes, or for each where none does
abbrev pub FindsFirst : (Msg → Bool → Type 0) → List Posted → Option (ℕ × Msg) → ℕ → ℕ → Type 0
FindsFirst passes ps None before after = All (λ p. passes p.msg false) ps × (after ≡ before + length ps)
FindsFirst passes ps (Some found) before after = (place : ℕ) × IsFirst passes ps place (post_of found.0 found.1) × (after ≡ before + (place + 1))
