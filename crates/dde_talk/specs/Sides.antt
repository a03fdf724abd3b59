-- The two sides of a conversation: what each is, and what its calls make of it.
use Rattle.std.specs.Prelude.{if◌then◌else◌, ◌≡◌, ℕ, ◌==◌, nat_le, Bool, true, false, not, ◌&&◌, ◌||◌, List, [], ◌∷◌, ◌++◌, length, drop, Option, Some, None}
use Rattle.win_num.specs.declared.code.Code.{Code}
use Rattle.win_num.specs.declared.code.Code.TheVariants.{Full, NotNow}
use Rattle.win_num.specs.declared.code.Fault.{Fault}
use Rattle.win_num.specs.declared.code.Fault.TheVariants.{Refused, Memory}
use Rattle.win_num.specs.declared.message.Hwnd.{Hwnd}
use Rattle.dde_talk.specs.declared.message.Ask.{Ask}
use Rattle.dde_talk.specs.declared.message.Event.{Event}
use Rattle.dde_talk.specs.declared.message.Event.TheVariants.{Answered, Served, Ending, Ignored}
use Rattle.dde_talk.specs.declared.message.Message.{Message}
use Rattle.dde_talk.specs.declared.message.Message.TheVariants.{Asks, Replies, Terminate}
use Rattle.dde_talk.specs.declared.message.Post.{Post}
use Rattle.dde_talk.specs.declared.names.TheConstants.{WM_DDE_TERMINATE}
use Rattle.dde_talk.specs.Packing.{Fits, packed, unpacked}
use Rattle.dde_talk.specs.Replies.{Items, item_of, reply_by, suits, value_after, value_of}

-- what both sides have
pub record Talk : Type 0 where
  -- its own window, and the other side's
  pub own : Hwnd
  pub peer : Hwnd
  -- the posts that aren't posted yet, the oldest first
  pub out : List Post
  -- whether its TERMINATE came into these
  pub ending : Bool
  -- whether its TERMINATE was posted
  pub said : Bool
  -- whether the other side's TERMINATE was taken
  pub heard : Bool

-- a client, with the asks that have no answer yet, the oldest first
pub record ClientSide : Type 0 where
  pub talk : Talk
  pub asked : List Ask

-- a server, with its items and its commands
pub record ServerSide : Type 0 where
  pub talk : Talk
  pub items : Items
  pub commands : List ℕ

-- a side that has told and taken nothing
abbrev pub fresh : Hwnd → Hwnd → Talk
fresh own peer = record { own = own; peer = peer; out = []; ending = false; said = false; heard = false }

-- it tells a message
abbrev pub telling : Talk → Message → Talk
telling t m = record t { out = t.out ++ packed t.own m ∷ [] }

-- it ends the conversation, where it hasn't yet
abbrev pub ended : Talk → Talk
ended t = if t.ending then t else record (telling t Terminate) { ending = true }

-- it has taken the other side's TERMINATE
abbrev pub hearing_end : Talk → Talk
hearing_end t = record (ended t) { heard = true }

-- the oldest of these
abbrev pub first_of : List Post → Option Post
first_of [] = None
first_of (p ∷ ps) = Some p

-- whether the oldest of these is a TERMINATE
abbrev pub begins_with_end : List Post → Bool
begins_with_end [] = false
begins_with_end (p ∷ ps) = p.number == WM_DDE_TERMINATE

-- its oldest post was posted
abbrev pub posted : Talk → Talk
posted t = record t { out = drop 1 t.out; said = t.said || begins_with_end t.out }

-- why a `terminate` is refused, if it is
abbrev pub end_refusal : Talk → Option Code
end_refusal t = if t.ending then Some NotNow else None

-- why an `ask` is refused, if it is
abbrev pub ask_refusal : ClientSide → Option Code
ask_refusal c = if c.talk.ending then Some NotNow else if nat_le 64 (length c.asked) then Some Full else None

-- a fault is this refusal; where there is none it is want of memory
abbrev pub IsFaultFor : Option Code → Fault → Type 0
IsFaultFor None fault = fault ≡ Memory
IsFaultFor (Some code) fault = fault ≡ Refused code

-- a client that has asked
abbrev pub with_ask : ClientSide → Ask → ClientSide
with_ask c a = record { talk = telling c.talk (Asks a); asked = c.asked ++ a ∷ [] }

-- whether a post means nothing to a side: another window posted it; the side is ending and it is no TERMINATE; the other side's TERMINATE was taken before; or the side can't meet its message
abbrev pub is_ignored : Talk → Bool → Post → Bool
is_ignored t can_meet p = not (p.wparam == t.peer.0) || (t.ending && not (p.number == WM_DDE_TERMINATE)) || t.heard || not can_meet

-- whether a client can meet a message, where these asks have no answer: a TERMINATE, or a reply that suits the oldest
abbrev pub client_meets : List Ask → Option Message → Bool
client_meets asked (Some Terminate) = true
client_meets (a ∷ asked) (Some (Replies r)) = suits a r
client_meets asked _ = false

-- whether a server can meet a message: a TERMINATE or an ask
abbrev pub server_meets : Option Message → Bool
server_meets (Some Terminate) = true
server_meets (Some (Asks a)) = true
server_meets _ = false

-- whether a side ignores a post
abbrev pub client_ignores : ClientSide → Post → Bool
client_ignores c p = is_ignored c.talk (client_meets c.asked (unpacked p)) p

abbrev pub server_ignores : ServerSide → Post → Bool
server_ignores s p = is_ignored s.talk (server_meets (unpacked p)) p

-- the message that a side takes of a post, or none where it ignores the post
abbrev pub client_hears : ClientSide → Post → Option Message
client_hears c p = if client_ignores c p then None else unpacked p

abbrev pub server_hears : ServerSide → Post → Option Message
server_hears s p = if server_ignores s p then None else unpacked p

-- what taking it comes to
abbrev pub client_event : Option Message → Event
client_event (Some Terminate) = Ending
client_event (Some (Replies r)) = Answered r
client_event _ = Ignored

abbrev pub server_event : Option Message → Event
server_event (Some Terminate) = Ending
server_event (Some (Asks a)) = Served
server_event _ = Ignored

-- the client afterwards: an answered ask is no longer among those without an answer
abbrev pub client_after : ClientSide → Option Message → ClientSide
client_after c (Some Terminate) = record c { talk = hearing_end c.talk }
client_after c (Some (Replies r)) = record c { asked = drop 1 c.asked }
client_after c _ = c

-- what the server tells and has told afterwards: the right reply by its items
abbrev pub server_talk_after : ServerSide → Option Message → Talk
server_talk_after s (Some Terminate) = hearing_end s.talk
server_talk_after s (Some (Asks a)) = telling s.talk (Replies (reply_by (value_of s.items (item_of a)) s.commands a))
server_talk_after s _ = s.talk

-- the value of an item afterwards
abbrev pub value_then : Option Message → ℕ → Option ℕ → Option ℕ
value_then (Some (Asks a)) i value = value_after a i value
value_then _ i value = value

-- items, commands and values of the reply that is told are within their ranges
abbrev pub IsFitting : ServerSide → Option Message → Type 0
IsFitting s (Some (Asks a)) = Fits (Replies (reply_by (value_of s.items (item_of a)) s.commands a))
IsFitting s _ = Unit {0}

-- the server afterwards
pub record ServerAfter (old : ServerSide) (heard : Option Message) (new : ServerSide) : Type 0 where
  pub talk : new.talk ≡ server_talk_after old heard
  pub items : (i : ℕ) → value_of new.items i ≡ value_then heard i (value_of old.items i)
  pub commands : new.commands ≡ old.commands
  pub fits : IsFitting old heard
