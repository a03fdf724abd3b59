-- How a message of a conversation is packed into a post.
use Rattle.std.specs.Prelude.{if◌then◌else◌, ℕ, ◌+◌, ◌*◌, ◌/◌, ◌%◌, ◌^◌, ◌<◌, ◌==◌, Bool, Option, Some, None}
use Rattle.win_num.specs.declared.message.Hwnd.{Hwnd}
use Rattle.dde_talk.specs.declared.message.Ask.TheVariants.{Request, Poke, Execute}
use Rattle.dde_talk.specs.declared.message.Reply.TheVariants.{Value, Ack}
use Rattle.dde_talk.specs.declared.message.Message.{Message}
use Rattle.dde_talk.specs.declared.message.Message.TheVariants.{Asks, Replies, Terminate}
use Rattle.dde_talk.specs.declared.message.Post.{Post}
use Rattle.dde_talk.specs.declared.names.TheConstants.{WM_DDE_ACK, WM_DDE_DATA, WM_DDE_EXECUTE, WM_DDE_POKE, WM_DDE_REQUEST, WM_DDE_TERMINATE}

-- an lParam: a word, 65536 times the item, and 4294967296 times the value
abbrev pub lparam_of : ℕ → ℕ → ℕ → ℕ
lparam_of word item value = word + 65536 * item + 4294967296 * value

-- the word of an acknowledgement
abbrev pub word_of : Bool → ℕ
word_of good = if good then 32768 else 0

-- the number of a message
abbrev pub number_in : Message → ℕ
number_in (Asks (Request item)) = WM_DDE_REQUEST
number_in (Asks (Poke item value)) = WM_DDE_POKE
number_in (Asks (Execute command)) = WM_DDE_EXECUTE
number_in (Replies (Value item value)) = WM_DDE_DATA
number_in (Replies (Ack item good)) = WM_DDE_ACK
number_in Terminate = WM_DDE_TERMINATE

-- the lParam of a message
abbrev pub lparam_in : Message → ℕ
lparam_in (Asks (Request item)) = lparam_of 1 item 0
lparam_in (Asks (Poke item value)) = lparam_of 1 item value
lparam_in (Asks (Execute command)) = lparam_of 0 command 0
lparam_in (Replies (Value item value)) = lparam_of 1 item value
lparam_in (Replies (Ack item good)) = lparam_of (word_of good) item 0
lparam_in Terminate = 0

-- the post by which a window tells a message
abbrev pub packed : Hwnd → Message → Post
packed sender m = record { number = number_in m; wparam = sender.0; lparam = lparam_in m }

-- the item and the value of an lParam
abbrev pub item_part : ℕ → ℕ
item_part lparam = lparam / 65536 % 65536

abbrev pub value_part : ℕ → ℕ
value_part lparam = lparam / 4294967296

-- the one message that a post of this number and this lParam can tell
abbrev pub guessed : ℕ → ℕ → Option Message
guessed number lparam =
    if number == WM_DDE_TERMINATE then Some Terminate
    else if number == WM_DDE_ACK then Some (Replies (Ack (item_part lparam) (lparam % 65536 == 32768)))
    else if number == WM_DDE_DATA then Some (Replies (Value (item_part lparam) (value_part lparam)))
    else if number == WM_DDE_REQUEST then Some (Asks (Request (item_part lparam)))
    else if number == WM_DDE_POKE then Some (Asks (Poke (item_part lparam) (value_part lparam)))
    else if number == WM_DDE_EXECUTE then Some (Asks (Execute (item_part lparam)))
    else None

-- it tells it where that message is packed so
abbrev pub if_packed_so : ℕ → Option Message → Option Message
if_packed_so lparam None = None
if_packed_so lparam (Some m) = if lparam_in m == lparam then Some m else None

-- the message that a post tells, or none
abbrev pub unpacked : Post → Option Message
unpacked p = if_packed_so p.lparam (guessed p.number p.lparam)

-- items and commands have 16 bits, and values 32
abbrev pub Fits : Message → Type 0
Fits (Asks (Request item)) = item < 2 ^ 16
Fits (Asks (Poke item value)) = (item < 2 ^ 16) × (value < 2 ^ 32)
Fits (Asks (Execute command)) = command < 2 ^ 16
Fits (Replies (Value item value)) = (item < 2 ^ 16) × (value < 2 ^ 32)
Fits (Replies (Ack item good)) = item < 2 ^ 16
Fits Terminate = Unit {0}
