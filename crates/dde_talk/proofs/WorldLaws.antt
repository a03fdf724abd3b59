-- What is on the way belongs to what was asked and answered, through each event.
use Rattle.std.proofs.Common.{◌≡◌, ℕ, List, [], ◌∷◌, ◌++◌, map, drop, length, true, false, cond, not, ◌&&◌, Option, Some, None, Result, Ok, Err, refl, sym, ap, ◌∙◌, subst, append_assoc}
use Rattle.std.specs.Prelude.{nat_le, IfOk, OnErr}
use Rattle.std.specs.declared.alloc.AllocError.{AllocError}
use Rattle.win_num.specs.declared.code.Code.{Code}
use Rattle.win_num.specs.declared.code.Code.TheVariants.{Full, NotNow}
use Rattle.dde_talk.specs.declared.event.Act.{Act}
use Rattle.dde_talk.specs.declared.event.Act.TheVariants as acts
use Rattle.dde_talk.specs.declared.event.Side.TheVariants as sides
use Rattle.dde_talk.specs.declared.event.Happened.{Happened}
use Rattle.dde_talk.specs.declared.message.Ask.{Ask}
use Rattle.dde_talk.specs.declared.message.Message.{Message}
use Rattle.dde_talk.specs.declared.message.Message.TheVariants.{Asks, Replies, Terminate}
use Rattle.dde_talk.specs.declared.message.Post.{Post}
use Rattle.dde_talk.specs.declared.message.Reply.{Reply}
use Rattle.dde_talk.specs.Agrees.{Agrees, Tells, speech}
use Rattle.dde_talk.specs.Packing.{Fits, packed}
use Rattle.dde_talk.specs.Replies.{item_of, reply_by, suits, value_after, value_of}
use Rattle.dde_talk.specs.Sides.{ClientSide, ServerAfter, ServerSide, Talk, ask_refusal, client_hears, end_refusal, ended, first_of, hearing_end, posted, server_hears, telling, with_ask}
use Rattle.dde_talk.specs.Worlds.{Talking, AskFits, Calls, ClientTakes, Happens, Sends, ServerTakes, beginning, client_ending, client_sending, client_taking, right_replies, server_ending, server_sending, values_after, IsNewClient, IsNewServer, NameEachOther}
use Rattle.dde_talk.proofs.HearingLaws.{client_deaf, client_hears_end, client_hears_reply, ended_keeps, server_deaf, server_hears_ask, server_hears_end}
use Rattle.dde_talk.proofs.ReplyLaws.{replies_more, right_suits, values_more, values_on}
use Rattle.dde_talk.proofs.TellsLaws.{by_bool, not_both, tells_end, tells_end_too, tells_ended, tells_more, tells_nothing, tells_on, tells_other, tells_taken}

-- one element more
map_more : {X Y : Type 0} (f : X → Y) (xs : List X) (x : X) → map f (xs ++ x ∷ []) ≡ map f xs ++ f x ∷ []
map_more f [] x = refl
map_more f (y ∷ xs) x = ap (λ ys. f y ∷ ys) (map_more f xs x)

append_nil : {X : Type 0} (xs : List X) → xs ++ [] ≡ xs
append_nil [] = refl
append_nil (x ∷ xs) = ap (λ ys. x ∷ ys) (append_nil xs)

-- before anything is told
tells_new : (from to : Talk) → from.own ≡ to.peer → from.out ≡ [] → from.ending ≡ false → to.heard ≡ false → Tells from to [] []
tells_new from to names empty live quiet = record {
  names = names;
  is = empty ∙ sym (ap (λ b. speech from.own [] (b && not to.heard)) live);
  fits = tt;
  ended = λ h. absurd (not_both to.heard h quiet);
  over = λ h. refl;
}

pub begins : (c : ClientSide) (s : ServerSide) → IsNewClient c → IsNewServer s → NameEachOther c.talk s.talk → Agrees (beginning c s)
begins c s cn sn names = record {
  done = [];
  awaited = [];
  rest = [];
  asks = refl;
  asked = ap (λ (x : ClientSide). x.asked) cn;
  answered = refl;
  unserved = [];
  asking = tells_new c.talk s.talk names.0 (ap (λ (x : ClientSide). x.talk.out) cn) (ap (λ (x : ClientSide). x.talk.ending) cn) (ap (λ (t : Talk). t.heard) sn);
  are_rest = λ e. refl;
  coming = [];
  replying = tells_new s.talk c.talk (sym names.1) (ap (λ (t : Talk). t.out) sn) (ap (λ (t : Talk). t.ending) sn) (ap (λ (x : ClientSide). x.talk.heard) cn);
  are_awaited = λ e. refl;
  items = λ i. refl;
  commands = refl;
}

-- the client has asked
asking_kept : (w : Talking) (a : Ask) → w.client.talk.ending ≡ false → Fits (Asks a) → Agrees w → Agrees (record w { client = with_ask w.client a; asks = w.asks ++ a ∷ [] })
asking_kept w a live fits g = record {
  done = g.done;
  awaited = g.awaited;
  rest = g.rest ++ a ∷ [];
  asks = ap (λ xs. xs ++ a ∷ []) g.asks ∙ (append_assoc g.done (g.awaited ++ g.rest) (a ∷ []) ∙ ap (λ xs. g.done ++ xs) (append_assoc g.awaited g.rest (a ∷ [])));
  asked = ap (λ xs. xs ++ a ∷ []) g.asked ∙ append_assoc g.awaited g.rest (a ∷ []);
  answered = g.answered;
  unserved = g.unserved ++ a ∷ [];
  asking = subst (λ ms. Tells (telling w.client.talk (Asks a)) w.server.talk w.to_server ms) (sym (map_more (λ x. Asks x) g.unserved a)) (tells_more w.client.talk w.server.talk w.to_server (map (λ x. Asks x) g.unserved) (Asks a) g.asking live fits);
  are_rest = λ e. ap (λ xs. xs ++ a ∷ []) (g.are_rest e);
  coming = g.coming;
  replying = tells_other w.server.talk w.client.talk (telling w.client.talk (Asks a)) w.to_client (map (λ r. Replies r) g.coming) g.replying refl refl;
  are_awaited = g.are_awaited;
  items = g.items;
  commands = g.commands;
}

-- a side has ended
client_end_kept : (w : Talking) → Agrees w → Agrees (client_ending w)
client_end_kept w g = let k = ended_keeps w.client.talk in record {
  done = g.done;
  awaited = g.awaited;
  rest = g.rest;
  asks = g.asks;
  asked = g.asked;
  answered = g.answered;
  unserved = g.unserved;
  asking = tells_end w.client.talk w.server.talk w.to_server (map (λ a. Asks a) g.unserved) g.asking;
  are_rest = g.are_rest;
  coming = g.coming;
  replying = tells_other w.server.talk w.client.talk (ended w.client.talk) w.to_client (map (λ r. Replies r) g.coming) g.replying (sym k.1) (sym k.2);
  are_awaited = λ e. absurd (not_both _ k.3 e);
  items = g.items;
  commands = g.commands;
}

server_end_kept : (w : Talking) → Agrees w → Agrees (server_ending w)
server_end_kept w g = let k = ended_keeps w.server.talk in record {
  done = g.done;
  awaited = g.awaited;
  rest = g.rest;
  asks = g.asks;
  asked = g.asked;
  answered = g.answered;
  unserved = g.unserved;
  asking = tells_other w.client.talk w.server.talk (ended w.server.talk) w.to_server (map (λ a. Asks a) g.unserved) g.asking (sym k.1) (sym k.2);
  are_rest = λ e. absurd (not_both _ k.3 e);
  coming = g.coming;
  replying = tells_end w.server.talk w.client.talk w.to_client (map (λ r. Replies r) g.coming) g.replying;
  are_awaited = g.are_awaited;
  items = g.items;
  commands = g.commands;
}

-- a side's oldest post is on its link
client_send_kept : (w : Talking) (p : Post) → first_of w.client.talk.out ≡ Some p → Agrees w → Agrees (client_sending w p)
client_send_kept w p first g = record {
  done = g.done;
  awaited = g.awaited;
  rest = g.rest;
  asks = g.asks;
  asked = g.asked;
  answered = g.answered;
  unserved = g.unserved;
  asking = tells_on w.client.talk w.server.talk w.to_server (map (λ a. Asks a) g.unserved) p g.asking first;
  are_rest = g.are_rest;
  coming = g.coming;
  replying = tells_other w.server.talk w.client.talk (posted w.client.talk) w.to_client (map (λ r. Replies r) g.coming) g.replying refl refl;
  are_awaited = g.are_awaited;
  items = g.items;
  commands = g.commands;
}

server_send_kept : (w : Talking) (p : Post) → first_of w.server.talk.out ≡ Some p → Agrees w → Agrees (server_sending w p)
server_send_kept w p first g = record {
  done = g.done;
  awaited = g.awaited;
  rest = g.rest;
  asks = g.asks;
  asked = g.asked;
  answered = g.answered;
  unserved = g.unserved;
  asking = tells_other w.client.talk w.server.talk (posted w.server.talk) w.to_server (map (λ a. Asks a) g.unserved) g.asking refl refl;
  are_rest = g.are_rest;
  coming = g.coming;
  replying = tells_on w.server.talk w.client.talk w.to_client (map (λ r. Replies r) g.coming) p g.replying first;
  are_awaited = g.are_awaited;
  items = g.items;
  commands = g.commands;
}

-- the server takes the client's end
server_hears_kept : (w : Talking) (rest : List Post) (s : ServerSide) → ServerAfter w.server (Some Terminate) s → w.client.talk.ending ≡ true → rest ++ w.client.talk.out ≡ [] → Agrees w → Agrees (record w { server = s; to_server = rest })
server_hears_kept w rest s after ending empty g =
    let k = ended_keeps w.server.talk in
    let peer : s.talk.peer ≡ w.server.talk.peer = ap (λ (t : Talk). t.peer) after.talk ∙ k.1 in
    let heard : s.talk.heard ≡ true = ap (λ (t : Talk). t.heard) after.talk in
    let ends : s.talk.ending ≡ true = ap (λ (t : Talk). t.ending) after.talk ∙ k.3 in
    record {
      done = g.done;
      awaited = g.awaited;
      rest = g.rest;
      asks = g.asks;
      asked = g.asked;
      answered = g.answered;
      unserved = [];
      asking = tells_nothing w.client.talk w.server.talk s.talk rest (g.asking.names ∙ sym peer) ending heard empty;
      are_rest = λ e. absurd (not_both s.talk.ending ends e);
      coming = g.coming;
      replying = subst (λ (t : Talk). Tells t w.client.talk w.to_client (map (λ r. Replies r) g.coming)) (sym after.talk) (tells_end_too w.server.talk w.client.talk w.to_client (map (λ r. Replies r) g.coming) g.replying);
      are_awaited = g.are_awaited;
      items = λ i. after.items i ∙ g.items i;
      commands = after.commands ∙ g.commands;
    }

-- the server ignores what it takes
server_ignores_kept : (w : Talking) (rest : List Post) (s : ServerSide) (us : List Ask) → ServerAfter w.server None s → w.server.talk.ending ≡ true → Tells w.client.talk w.server.talk rest (map (λ a. Asks a) us) → Agrees w → Agrees (record w { server = s; to_server = rest })
server_ignores_kept w rest s us after ending tells g = record {
  done = g.done;
  awaited = g.awaited;
  rest = g.rest;
  asks = g.asks;
  asked = g.asked;
  answered = g.answered;
  unserved = us;
  asking = subst (λ (t : Talk). Tells w.client.talk t rest (map (λ a. Asks a) us)) (sym after.talk) tells;
  are_rest = λ e. absurd (not_both w.server.talk.ending ending (sym (ap (λ (t : Talk). t.ending) after.talk) ∙ e));
  coming = g.coming;
  replying = subst (λ (t : Talk). Tells t w.client.talk w.to_client (map (λ r. Replies r) g.coming)) (sym after.talk) g.replying;
  are_awaited = g.are_awaited;
  items = λ i. after.items i ∙ g.items i;
  commands = after.commands ∙ g.commands;
}

-- the server serves an ask
server_serves_kept : (w : Talking) (rest : List Post) (s : ServerSide) (a : Ask) (us : List Ask) → ServerAfter w.server (Some (Asks a)) s → w.server.talk.ending ≡ false → Tells w.client.talk w.server.talk rest (map (λ x. Asks x) us) → (g : Agrees w) → a ∷ us ≡ g.rest → Agrees (record w { server = s; to_server = rest })
server_serves_kept w rest s a us after live tells g are =
    let f = values_after (value_of w.items) g.done in
    let r : Reply = reply_by (value_of w.server.items (item_of a)) w.server.commands a in
    let asked : g.awaited ++ g.rest ≡ (g.awaited ++ a ∷ []) ++ us = ap (λ xs. g.awaited ++ xs) (sym are) ∙ sym (append_assoc g.awaited (a ∷ []) us) in
    let right : r ≡ reply_by (values_after f g.awaited (item_of a)) w.commands a = ap (λ cs. reply_by (value_of w.server.items (item_of a)) cs a) g.commands ∙ ap (λ o. reply_by o w.commands a) (g.items (item_of a) ∙ ap (λ (v : ℕ → Option ℕ). v (item_of a)) (values_on (value_of w.items) g.done g.awaited)) in
    record {
      done = g.done;
      awaited = g.awaited ++ a ∷ [];
      rest = us;
      asks = g.asks ∙ ap (λ xs. g.done ++ xs) asked;
      asked = g.asked ∙ asked;
      answered = g.answered;
      unserved = us;
      asking = subst (λ (t : Talk). Tells w.client.talk t rest (map (λ x. Asks x) us)) (sym after.talk) (tells_other w.client.talk w.server.talk (telling w.server.talk (Replies r)) rest (map (λ x. Asks x) us) tells refl refl);
      are_rest = λ e. refl;
      coming = g.coming ++ r ∷ [];
      replying = subst (λ (t : Talk). Tells t w.client.talk w.to_client (map (λ x. Replies x) (g.coming ++ r ∷ []))) (sym after.talk) (subst (λ ms. Tells (telling w.server.talk (Replies r)) w.client.talk w.to_client ms) (sym (map_more (λ x. Replies x) g.coming r)) (tells_more w.server.talk w.client.talk w.to_client (map (λ x. Replies x) g.coming) (Replies r) g.replying live after.fits));
      are_awaited = λ e. ap (λ rs. rs ++ r ∷ []) (g.are_awaited e) ∙ (ap (λ x. right_replies f w.commands g.awaited ++ x ∷ []) right ∙ sym (replies_more f w.commands g.awaited a));
      items = λ i. after.items i ∙ (ap (value_after a i) (g.items i) ∙ (sym (ap (λ (v : ℕ → Option ℕ). v i) (values_more (value_of w.items) (g.done ++ g.awaited) a)) ∙ ap (λ xs. values_after (value_of w.items) xs i) (append_assoc g.done g.awaited (a ∷ []))));
      commands = after.commands ∙ g.commands;
    }

server_take_kept : (w : Talking) (p : Post) (rest : List Post) (s : ServerSide) → w.to_server ≡ p ∷ rest → ServerAfter w.server (server_hears w.server p) s → Agrees w → Agrees (record w { server = s; to_server = rest })
server_take_kept w p rest s link after g = by g.unserved (subst (λ (l : List Post). Tells w.client.talk w.server.talk l (map (λ a. Asks a) g.unserved)) link g.asking) g.are_rest
  where
    by : (us : List Ask) → Tells w.client.talk w.server.talk (p ∷ rest) (map (λ a. Asks a) us) → (w.server.talk.ending ≡ false → us ≡ g.rest) → Agrees (record w { server = s; to_server = rest })
    by [] tells are =
        let t = tells_ended w.client.talk w.server.talk rest p tells in
        let hears : server_hears w.server p ≡ Some Terminate = ap (server_hears w.server) t.0 ∙ server_hears_end w.server w.client.talk.own g.asking.names t.2 in
        server_hears_kept w rest s (subst (λ o. ServerAfter w.server o s) hears after) t.1 t.3 g
    by (a ∷ us) tells are =
        let t = tells_taken w.client.talk w.server.talk rest (Asks a) (map (λ x. Asks x) us) p tells in
        by_bool w.server.talk.ending (Agrees (record w { server = s; to_server = rest }))
        (λ ending.
        let hears : server_hears w.server p ≡ None = ap (server_hears w.server) t.0 ∙ server_deaf w.server w.client.talk.own a ending in
        server_ignores_kept w rest s us (subst (λ o. ServerAfter w.server o s) hears after) ending t.2 g)
        (λ live.
        let hears : server_hears w.server p ≡ Some (Asks a) = ap (server_hears w.server) t.0 ∙ server_hears_ask w.server w.client.talk.own a tells.fits.0 g.asking.names live t.1 in
        server_serves_kept w rest s a us (subst (λ o. ServerAfter w.server o s) hears after) live t.2 g (are live))

-- the client takes the server's end
client_hears_kept : (w : Talking) (rest : List Post) → w.server.talk.ending ≡ true → rest ++ w.server.talk.out ≡ [] → Agrees w → Agrees (client_taking w (Some Terminate) rest)
client_hears_kept w rest ending empty g =
    let k = ended_keeps w.client.talk in
    record {
      done = g.done;
      awaited = g.awaited;
      rest = g.rest;
      asks = g.asks;
      asked = g.asked;
      answered = append_nil w.answered ∙ g.answered;
      unserved = g.unserved;
      asking = tells_end_too w.client.talk w.server.talk w.to_server (map (λ a. Asks a) g.unserved) g.asking;
      are_rest = g.are_rest;
      coming = [];
      replying = tells_nothing w.server.talk w.client.talk (hearing_end w.client.talk) rest (g.replying.names ∙ sym k.1) ending refl empty;
      are_awaited = λ e. absurd (not_both (ended w.client.talk).ending k.3 e);
      items = g.items;
      commands = g.commands;
    }

-- the client ignores what it takes
client_ignores_kept : (w : Talking) (rest : List Post) (rs : List Reply) → w.client.talk.ending ≡ true → Tells w.server.talk w.client.talk rest (map (λ r. Replies r) rs) → Agrees w → Agrees (client_taking w None rest)
client_ignores_kept w rest rs ending tells g = record {
  done = g.done;
  awaited = g.awaited;
  rest = g.rest;
  asks = g.asks;
  asked = g.asked;
  answered = append_nil w.answered ∙ g.answered;
  unserved = g.unserved;
  asking = g.asking;
  are_rest = g.are_rest;
  coming = rs;
  replying = tells;
  are_awaited = λ e. absurd (not_both w.client.talk.ending ending e);
  items = g.items;
  commands = g.commands;
}

-- the client is answered
client_answered_kept : (w : Talking) (rest : List Post) (a : Ask) (aw : List Ask) (rs : List Reply) → (g : Agrees w) → g.awaited ≡ a ∷ aw → rs ≡ right_replies (λ i. value_after a i (values_after (value_of w.items) g.done i)) w.commands aw → Tells w.server.talk w.client.talk rest (map (λ r. Replies r) rs) → Agrees (client_taking w (Some (Replies (reply_by (values_after (value_of w.items) g.done (item_of a)) w.commands a))) rest)
client_answered_kept w rest a aw rs g are right tells =
    let list : g.done ++ g.awaited ≡ (g.done ++ a ∷ []) ++ aw = ap (λ xs. g.done ++ xs) are ∙ sym (append_assoc g.done (a ∷ []) aw) in
    record {
      done = g.done ++ a ∷ [];
      awaited = aw;
      rest = g.rest;
      asks = g.asks ∙ (ap (λ xs. g.done ++ (xs ++ g.rest)) are ∙ sym (append_assoc g.done (a ∷ []) (aw ++ g.rest)));
      asked = ap (drop 1) (g.asked ∙ ap (λ xs. xs ++ g.rest) are);
      answered = ap (λ xs. xs ++ reply_by (values_after (value_of w.items) g.done (item_of a)) w.commands a ∷ []) g.answered ∙ sym (replies_more (value_of w.items) w.commands g.done a);
      unserved = g.unserved;
      asking = g.asking;
      are_rest = g.are_rest;
      coming = rs;
      replying = tells;
      are_awaited = λ e. right ∙ ap (λ (v : ℕ → Option ℕ). right_replies v w.commands aw) (sym (values_more (value_of w.items) g.done a));
      items = λ i. g.items i ∙ ap (λ xs. values_after (value_of w.items) xs i) list;
      commands = g.commands;
    }

client_take_kept : (w : Talking) (p : Post) (rest : List Post) → w.to_client ≡ p ∷ rest → Agrees w → Agrees (client_taking w (client_hears w.client p) rest)
client_take_kept w p rest link g = by g.coming (subst (λ (l : List Post). Tells w.server.talk w.client.talk l (map (λ r. Replies r) g.coming)) link g.replying) g.are_awaited
  where
    result : Option Message → Type 0
    result o = Agrees (client_taking w o rest)

    answered : (r : Reply) (rs : List Reply) → (p ≡ packed w.server.talk.own (Replies r)) × (w.client.talk.heard ≡ false) × Tells w.server.talk w.client.talk rest (map (λ x. Replies x) rs) → Fits (Replies r) → w.client.talk.ending ≡ false → (aw : List Ask) → g.awaited ≡ aw → r ∷ rs ≡ right_replies (values_after (value_of w.items) g.done) w.commands aw → result (client_hears w.client p)
    answered r rs t fits live [] are right = absurd (filled right)
      where
        filled : r ∷ rs ≡ [] → ⊥
        filled e = cc
    answered r rs t fits live (a ∷ aw) are right =
        let one : r ≡ reply_by (values_after (value_of w.items) g.done (item_of a)) w.commands a = cc (right) in
        let others : rs ≡ right_replies (λ i. value_after a i (values_after (value_of w.items) g.done i)) w.commands aw = cc (right) in
        let suit = subst (λ x. suits a x ≡ true) (sym one) (right_suits (values_after (value_of w.items) g.done (item_of a)) w.commands a) in
        let oldest : w.client.asked ≡ a ∷ (aw ++ g.rest) = g.asked ∙ ap (λ xs. xs ++ g.rest) are in
        let hears : client_hears w.client p ≡ Some (Replies r) = ap (client_hears w.client) t.0 ∙ client_hears_reply w.client w.server.talk.own a (aw ++ g.rest) r oldest suit fits g.replying.names live t.1 in
        subst result (sym (hears ∙ ap (λ x. Some (Replies x)) one)) (client_answered_kept w rest a aw rs g are others t.2)

    by : (rs : List Reply) → Tells w.server.talk w.client.talk (p ∷ rest) (map (λ r. Replies r) rs) → (w.client.talk.ending ≡ false → rs ≡ right_replies (values_after (value_of w.items) g.done) w.commands g.awaited) → result (client_hears w.client p)
    by [] tells are =
        let t = tells_ended w.server.talk w.client.talk rest p tells in
        let hears : client_hears w.client p ≡ Some Terminate = ap (client_hears w.client) t.0 ∙ client_hears_end w.client w.server.talk.own g.replying.names t.2 in
        subst result (sym hears) (client_hears_kept w rest t.1 t.3 g)
    by (r ∷ rs) tells are =
        let t = tells_taken w.server.talk w.client.talk rest (Replies r) (map (λ x. Replies x) rs) p tells in
        by_bool w.client.talk.ending (result (client_hears w.client p))
        (λ ending.
        let hears : client_hears w.client p ≡ None = ap (client_hears w.client) t.0 ∙ client_deaf w.client w.server.talk.own r ending in
        subst result (sym hears) (client_ignores_kept w rest rs ending t.2 g))
        (λ live. answered r rs t tells.fits.0 live g.awaited refl (are live))

-- a call, a sending and a taking
call_kept : (o : Option Code) (old then : Talking) (done h : Happened) (new : Talking) → Calls o old then done h new → (o ≡ None → Agrees then) → Agrees old → Agrees new
call_kept (Some code) old then done h new calls goes g = subst (λ (x : Talking). Agrees x) (sym calls.1) g
call_kept None old then done h new calls goes g = subst (λ (x : Talking). Agrees x) (sym calls.1) (goes refl)

send_kept : (o : Option Post) (then : Post → Talking) (old : Talking) (h : Happened) (new : Talking) → Sends o then old h new → ((p : Post) → o ≡ Some p → Agrees (then p)) → Agrees old → Agrees new
send_kept None then old h new sends goes g = subst (λ (x : Talking). Agrees x) (sym sends.1) g
send_kept (Some p) then old h new sends goes g = subst (λ (x : Talking). Agrees x) (sym sends.1) (goes p refl)

client_takes_kept : (link : List Post) (old : Talking) (h : Happened) (new : Talking) → old.to_client ≡ link → ClientTakes link old h new → Agrees old → Agrees new
client_takes_kept [] old h new is takes g = subst (λ (x : Talking). Agrees x) (sym takes.1) g
client_takes_kept (p ∷ rest) old h new is takes g = subst (λ (x : Talking). Agrees x) (sym takes.1) (client_take_kept old p rest is g)

server_takes_kept : (link : List Post) (old : Talking) (h : Happened) (new : Talking) → old.to_server ≡ link → ServerTakes link old h new → Agrees old → Agrees new
server_takes_kept [] old h new is takes g = subst (λ (x : Talking). Agrees x) (sym takes.1) g
server_takes_kept (p ∷ rest) old h new is takes g = subst (λ (x : Talking). Agrees x) (sym takes.2) (server_take_kept old p rest new.server is takes.1 g)

can_ask : (c : ClientSide) → ask_refusal c ≡ None → c.talk.ending ≡ false
can_ask c h = by_bool c.talk.ending (c.talk.ending ≡ false) (λ e. absurd (refused (sym (ap (λ b. cond b (Some NotNow) (cond (nat_le 64 (length c.asked)) (Some Full) None)) e) ∙ h))) (λ e. e)
  where
    refused : Some NotNow ≡ None → ⊥
    refused e = cc

pub kept : (w : Talking) (a : Act) (h : Happened) (v : Talking) → AskFits a → Happens w a h v → Agrees w → Agrees v
kept w (acts.Ask a) h v fits happens g = call_kept (ask_refusal w.client) w _ _ h v happens (λ o. asking_kept w a (can_ask w.client o) fits g) g
kept w (acts.Terminate sides.Client) h v fits happens g = call_kept (end_refusal w.client.talk) w _ _ h v happens (λ o. client_end_kept w g) g
kept w (acts.Terminate sides.Server) h v fits happens g = call_kept (end_refusal w.server.talk) w _ _ h v happens (λ o. server_end_kept w g) g
kept w (acts.Send sides.Client) h v fits happens g = send_kept (first_of w.client.talk.out) (client_sending w) w h v happens (λ p first. client_send_kept w p first g) g
kept w (acts.Send sides.Server) h v fits happens g = send_kept (first_of w.server.talk.out) (server_sending w) w h v happens (λ p first. server_send_kept w p first g) g
kept w (acts.Take sides.Client) h v fits happens g = client_takes_kept w.to_client w h v refl happens g
kept w (acts.Take sides.Server) h v fits happens g = server_takes_kept w.to_server w h v refl happens g

-- what a call of the conversation leaves
pub after_act : (r : Result Happened AllocError) (w : Talking) (a : Act) (v : Talking) → AskFits a → IfOk r (λ h. Happens w a h v) → OnErr r (v ≡ w) → Agrees w → Agrees v
after_act (Ok h) w a v fits ok err g = kept w a h v fits ok g
after_act (Err e) w a v fits ok err g = subst (λ (x : Talking). Agrees x) (sym err) g
