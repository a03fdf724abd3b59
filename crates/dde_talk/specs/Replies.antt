-- What a server answers.
use Rattle.std.specs.Prelude.{if◌then◌else◌, ◌≡◌, ℕ, ◌==◌, nat_eq, Bool, false, List, Option, Some, None, is_some, option_map, slice_get}
use Rattle.std.specs.List.{list_any, IsDistinct}
use Rattle.std.specs.List.Sorted.{IsSortedByKey}
use Rattle.std.specs.Ordering.{nat_cmp}
use Rattle.std.specs.Map.{lookup, keys_of}
use Rattle.dde_talk.specs.declared.message.Ask.{Ask}
use Rattle.dde_talk.specs.declared.message.Ask.TheVariants.{Request, Poke, Execute}
use Rattle.dde_talk.specs.declared.message.Reply.{Reply}
use Rattle.dde_talk.specs.declared.message.Reply.TheVariants.{Value, Ack}

-- items with their values
abbrev pub Items : Type 0
Items = List (ℕ × ℕ)

-- the value of an item, or none where there is no such item
abbrev pub value_of : Items → ℕ → Option ℕ
value_of items item = lookup (nat_eq item) items

-- no item is named twice
abbrev pub AreApart : Items → Type 0
AreApart items = IsDistinct nat_eq (keys_of items)

-- no item stands behind a greater one
abbrev pub AreRising : Items → Type 0
AreRising items = IsSortedByKey (λ x. x.0) nat_cmp items

-- whether a command is one of these
abbrev pub is_listed : List ℕ → ℕ → Bool
is_listed commands command = list_any (nat_eq command) commands

-- the item that an ask and its reply name; for a command its number
abbrev pub item_of : Ask → ℕ
item_of (Request item) = item
item_of (Poke item value) = item
item_of (Execute command) = command

-- the right reply to an ask whose item has this value, or none
abbrev pub reply_by : Option ℕ → List ℕ → Ask → Reply
reply_by (Some value) commands (Request item) = Value item value
reply_by None commands (Request item) = Ack item false
reply_by value commands (Poke item new) = Ack item (is_some value)
reply_by value commands (Execute command) = Ack command (is_listed commands command)

-- the value of an item where one item, if it is there, gets another value
abbrev pub with_value : ℕ → ℕ → ℕ → Option ℕ → Option ℕ
with_value item new i value = if i == item then option_map (λ _. new) value else value

-- the value of an item after an ask, where it had this one before: a poke changes the item that it names
abbrev pub value_after : Ask → ℕ → Option ℕ → Option ℕ
value_after (Poke item new) i value = with_value item new i value
value_after _ i value = value

-- whether a reply suits an ask: it names the ask's item, a value answers a request, and a good acknowledgement none
abbrev pub suits : Ask → Reply → Bool
suits (Request item) (Value i value) = i == item
suits (Request item) (Ack i good) = if good then false else i == item
suits (Poke item new) (Ack i good) = i == item
suits (Execute command) (Ack i good) = i == command
suits _ (Value i value) = false

-- the item stands at this place with some value, or it stands nowhere
abbrev pub IsPlaceOf : Items → ℕ → Option ℕ → Type 0
IsPlaceOf items item None = value_of items item ≡ None
IsPlaceOf items item (Some at) = (value : ℕ) × (slice_get items at ≡ Some (item, value))
