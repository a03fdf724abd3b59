-- A conversation with what is on the way: a client, a server and two links, and what each event makes of them.
use Rattle.std.specs.Prelude.{◌≡◌, ℕ, Bool, true, false, ◌&&◌, List, [], ◌∷◌, ◌++◌, Option, Some, None}
use Rattle.win_num.specs.declared.code.Code.{Code}
use Rattle.dde_talk.specs.declared.event.Act.{Act}
use Rattle.dde_talk.specs.declared.event.Act.TheVariants as acts
use Rattle.dde_talk.specs.declared.event.Happened.{Happened}
use Rattle.dde_talk.specs.declared.event.Happened.TheVariants.{Asked, Ending, Sent, Took, Refused, Nothing}
use Rattle.dde_talk.specs.declared.event.Side.TheVariants as sides
use Rattle.dde_talk.specs.declared.message.Ask.{Ask}
use Rattle.dde_talk.specs.declared.message.Message.{Message}
use Rattle.dde_talk.specs.declared.message.Message.TheVariants.{Asks, Replies}
use Rattle.dde_talk.specs.declared.message.Post.{Post}
use Rattle.dde_talk.specs.declared.message.Reply.{Reply}
use Rattle.dde_talk.specs.declared.names.TheConstants.{WM_DDE_TERMINATE}
use Rattle.dde_talk.specs.Packing.{Fits}
use Rattle.dde_talk.specs.Replies.{Items, item_of, reply_by, value_after, value_of}
use Rattle.dde_talk.specs.Sides.{ClientSide, ServerAfter, ServerSide, Talk, ask_refusal, client_after, client_event, client_hears, end_refusal, ended, first_of, fresh, posted, server_event, server_hears, with_ask}

-- the two sides, the posts on the way to each, the oldest first, the server's items and commands at the opening, and, the oldest first, the asks that the client accepted and the replies that it was answered
pub record Talking : Type 0 where
  pub client : ClientSide
  pub server : ServerSide
  pub to_server : List Post
  pub to_client : List Post
  pub items : Items
  pub commands : List ℕ
  pub asks : List Ask
  pub answered : List Reply

-- the value of each item after asks, the oldest first, where the items had these values before
abbrev pub values_after : (ℕ → Option ℕ) → List Ask → ℕ → Option ℕ
values_after values [] = values
values_after values (a ∷ later) = values_after (λ i. value_after a i (values i)) later

-- the right replies to asks, the oldest first: each by the values after the asks before it
abbrev pub right_replies : (ℕ → Option ℕ) → List ℕ → List Ask → List Reply
right_replies values commands [] = []
right_replies values commands (a ∷ later) = reply_by (values (item_of a)) commands a ∷ right_replies (λ i. value_after a i (values i)) commands later

-- the right replies to asks of this conversation from its opening on
abbrev pub replies_to : Talking → List Ask → List Reply
replies_to w asks = right_replies (value_of w.items) w.commands asks

-- a side ends the conversation
abbrev pub client_ending : Talking → Talking
client_ending w = record w { client = record w.client { talk = ended w.client.talk } }

abbrev pub server_ending : Talking → Talking
server_ending w = record w { server = record w.server { talk = ended w.server.talk } }

-- a side's oldest post goes to the end of its link
abbrev pub client_sending : Talking → Post → Talking
client_sending w p = record w { client = record w.client { talk = posted w.client.talk }; to_server = w.to_server ++ p ∷ [] }

abbrev pub server_sending : Talking → Post → Talking
server_sending w p = record w { server = record w.server { talk = posted w.server.talk }; to_client = w.to_client ++ p ∷ [] }

-- the reply that a message of the server answers with
abbrev pub answered_by : Option Message → List Reply
answered_by (Some (Replies r)) = r ∷ []
answered_by _ = []

-- the client takes the first post of its link
abbrev pub client_taking : Talking → Option Message → List Post → Talking
client_taking w heard rest = record w { client = client_after w.client heard; to_client = rest; answered = w.answered ++ answered_by heard }

-- a refused call changes nothing, any other makes this of the world and is told so
abbrev pub Calls : Option Code → Talking → Talking → Happened → Happened → Talking → Type 0
Calls (Some code) old then done h new = (h ≡ Refused code) × (new ≡ old)
Calls None old then done h new = (h ≡ done) × (new ≡ then)

-- without a post nothing is sent
abbrev pub Sends : Option Post → (Post → Talking) → Talking → Happened → Talking → Type 0
Sends None then old h new = (h ≡ Nothing) × (new ≡ old)
Sends (Some p) then old h new = (h ≡ Sent) × (new ≡ then p)

-- from an empty link nothing is taken
abbrev pub ClientTakes : List Post → Talking → Happened → Talking → Type 0
ClientTakes [] old h new = (h ≡ Nothing) × (new ≡ old)
ClientTakes (p ∷ rest) old h new = (h ≡ Took (client_event (client_hears old.client p))) × (new ≡ client_taking old (client_hears old.client p) rest)

abbrev pub ServerTakes : List Post → Talking → Happened → Talking → Type 0
ServerTakes [] old h new = (h ≡ Nothing) × (new ≡ old)
ServerTakes (p ∷ rest) old h new = (h ≡ Took (server_event (server_hears old.server p))) × ServerAfter old.server (server_hears old.server p) new.server × (new ≡ record old { server = new.server; to_server = rest })

-- What an event comes to, and what it makes of the world.
abbrev pub Happens : Talking → Act → Happened → Talking → Type 0
Happens old (acts.Ask a) h new = Calls (ask_refusal old.client) old (record old { client = with_ask old.client a; asks = old.asks ++ a ∷ [] }) Asked h new
Happens old (acts.Terminate sides.Client) h new = Calls (end_refusal old.client.talk) old (client_ending old) Ending h new
Happens old (acts.Terminate sides.Server) h new = Calls (end_refusal old.server.talk) old (server_ending old) Ending h new
Happens old (acts.Send sides.Client) h new = Sends (first_of old.client.talk.out) (client_sending old) old h new
Happens old (acts.Send sides.Server) h new = Sends (first_of old.server.talk.out) (server_sending old) old h new
Happens old (acts.Take sides.Client) h new = ClientTakes old.to_client old h new
Happens old (acts.Take sides.Server) h new = ServerTakes old.to_server old h new

-- item, command and value of what is asked are within their ranges
abbrev pub AskFits : Act → Type 0
AskFits (acts.Ask a) = Fits (Asks a)
AskFits _ = Unit {0}

-- none of these posts stands behind a TERMINATE
abbrev pub EndsLast : List Post → Type 0
EndsLast posts = (before after : List Post) (p : Post) → p.number ≡ WM_DDE_TERMINATE → posts ≡ before ++ p ∷ after → after ≡ []

-- both outputs and both links are empty
abbrev pub IsStill : Talking → Type 0
IsStill w = (w.client.talk.out ≡ []) × (w.to_server ≡ []) × (w.server.talk.out ≡ []) × (w.to_client ≡ [])

-- whether a side's TERMINATE was posted and the other's was taken
abbrev pub is_closed : Talk → Bool
is_closed t = t.said && t.heard

-- What holds of a conversation at every moment.
pub record Holds (w : Talking) : Type 0 where
  -- the replies that the client was answered are the right replies to its first asks, in order, each once
  pub first : List Ask
  pub later : List Ask
  pub asks : w.asks ≡ first ++ later
  pub answered : w.answered ≡ replies_to w first
  -- and to all of them, where no side has ended and nothing is on the way
  pub all : w.client.talk.ending ≡ false → w.server.talk.ending ≡ false → IsStill w → w.answered ≡ replies_to w w.asks
  -- no side tells anything behind its TERMINATE
  pub client_end : EndsLast (w.to_server ++ w.client.talk.out)
  pub server_end : EndsLast (w.to_client ++ w.server.talk.out)
  -- nor once that was taken
  pub client_over : w.server.talk.heard ≡ true → w.to_server ++ w.client.talk.out ≡ []
  pub server_over : w.client.talk.heard ≡ true → w.to_client ++ w.server.talk.out ≡ []
  -- where both sides are closed nothing is on the way
  pub closed : is_closed w.client.talk ≡ true → is_closed w.server.talk ≡ true → IsStill w

-- the beginning: these sides, and nothing on the way
abbrev pub beginning : ClientSide → ServerSide → Talking
beginning c s = record { client = c; server = s; to_server = []; to_client = []; items = s.items; commands = s.commands; asks = []; answered = [] }

-- these have told and taken nothing
abbrev pub IsNewClient : ClientSide → Type 0
IsNewClient c = c ≡ record { talk = fresh c.talk.own c.talk.peer; asked = [] }

abbrev pub IsNewServer : ServerSide → Type 0
IsNewServer s = s.talk ≡ fresh s.talk.own s.talk.peer

-- each side's window is the one that the other names
abbrev pub NameEachOther : Talk → Talk → Type 0
NameEachOther a b = (a.own ≡ b.peer) × (a.peer ≡ b.own)
