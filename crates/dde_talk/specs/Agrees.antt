-- Why a conversation holds: what is on the way belongs to what was asked and what was answered.
use Rattle.std.specs.Prelude.{◌≡◌, ℕ, Bool, true, false, not, ◌&&◌, List, [], ◌∷◌, ◌++◌, map}
use Rattle.win_num.specs.declared.message.Hwnd.{Hwnd}
use Rattle.dde_talk.specs.declared.message.Ask.{Ask}
use Rattle.dde_talk.specs.declared.message.Message.{Message}
use Rattle.dde_talk.specs.declared.message.Message.TheVariants.{Asks, Replies, Terminate}
use Rattle.dde_talk.specs.declared.message.Post.{Post}
use Rattle.dde_talk.specs.declared.message.Reply.{Reply}
use Rattle.dde_talk.specs.Packing.{Fits, packed}
use Rattle.dde_talk.specs.Replies.{value_of}
use Rattle.dde_talk.specs.Sides.{Talk}
use Rattle.dde_talk.specs.Worlds.{Talking, replies_to, right_replies, values_after}

-- the posts by which a window tells messages, with a TERMINATE behind them or not
abbrev pub speech : Hwnd → List Message → Bool → List Post
speech w [] false = []
speech w [] true = packed w Terminate ∷ []
speech w (m ∷ ms) ends = packed w m ∷ speech w ms ends

-- each of these is within its range
abbrev pub AllFit : List Message → Type 0
AllFit [] = Unit {0}
AllFit (m ∷ ms) = Fits m × AllFit ms

-- The posts of a side on its link and in its output tell these messages, and then its TERMINATE, where it has ended and the other side hasn't taken that.
pub record Tells (from to : Talk) (link : List Post) (ms : List Message) : Type 0 where
  pub names : from.own ≡ to.peer
  pub is : link ++ from.out ≡ speech from.own ms (from.ending && not to.heard)
  pub fits : AllFit ms
  -- once the other side has taken its TERMINATE it has ended and has nothing more to tell
  pub ended : to.heard ≡ true → from.ending ≡ true
  pub over : to.heard ≡ true → ms ≡ []

-- The accepted asks are those that were answered, those that were served and await their answers, and the rest. What is on the way are
-- the rest, until the server has ended, and the replies that are awaited, until the client has.
pub record Agrees (w : Talking) : Type 0 where
  pub done : List Ask
  pub awaited : List Ask
  pub rest : List Ask
  pub asks : w.asks ≡ done ++ (awaited ++ rest)
  pub asked : w.client.asked ≡ awaited ++ rest
  pub answered : w.answered ≡ replies_to w done
  pub unserved : List Ask
  pub asking : Tells w.client.talk w.server.talk w.to_server (map (λ a. Asks a) unserved)
  pub are_rest : w.server.talk.ending ≡ false → unserved ≡ rest
  pub coming : List Reply
  pub replying : Tells w.server.talk w.client.talk w.to_client (map (λ r. Replies r) coming)
  pub are_awaited : w.client.talk.ending ≡ false → coming ≡ right_replies (values_after (value_of w.items) done) w.commands awaited
  pub items : (i : ℕ) → value_of w.server.items i ≡ values_after (value_of w.items) (done ++ awaited) i
  pub commands : w.server.commands ≡ w.commands
