-- What holds of a conversation whose posts belong to what was asked and answered.
use Rattle.std.proofs.Common.{◌≡◌, ℕ, List, [], ◌∷◌, ◌++◌, map, Bool, true, false, eqb, not, ◌&&◌, Option, refl, sym, ap, ◌∙◌, subst, eq-eqb}
use Rattle.std.proofs.lemmas.Bool.{false≢true}
use Rattle.win_num.specs.declared.message.Hwnd.{Hwnd}
use Rattle.dde_talk.specs.declared.message.Ask.{Ask}
use Rattle.dde_talk.specs.declared.message.Message.{Message}
use Rattle.dde_talk.specs.declared.message.Message.TheVariants.{Asks, Replies}
use Rattle.dde_talk.specs.declared.message.Post.{Post}
use Rattle.dde_talk.specs.declared.message.Reply.{Reply}
use Rattle.dde_talk.specs.Agrees.{Agrees, Tells, speech}
use Rattle.dde_talk.specs.Packing.{number_in, packed}
use Rattle.dde_talk.specs.Replies.{value_of}
use Rattle.dde_talk.specs.Sides.{Talk}
use Rattle.dde_talk.specs.Worlds.{EndsLast, Holds, IsStill, Talking, is_closed, replies_to, right_replies, values_after}
use Rattle.dde_talk.proofs.HearingLaws.{no_end_ask, no_end_reply}
use Rattle.dde_talk.proofs.TellsLaws.{not_both}

-- none of these is an end
abbrev NoEnds : List Message → Type 0
NoEnds [] = Unit {0}
NoEnds (m ∷ ms) = (eqb (number_in m) 993 ≡ false) × NoEnds ms

asks_no_ends : (asks : List Ask) → NoEnds (map (λ a. Asks a) asks)
asks_no_ends [] = tt
asks_no_ends (a ∷ asks) = (no_end_ask a, asks_no_ends asks)

replies_no_ends : (rs : List Reply) → NoEnds (map (λ r. Replies r) rs)
replies_no_ends [] = tt
replies_no_ends (r ∷ rs) = (no_end_reply r, replies_no_ends rs)

none_there : (before after : List Post) (p : Post) → [] ≡ before ++ p ∷ after → ⊥
none_there [] after p e = cc
none_there (x ∷ before) after p e = cc

ends_last : (w : Hwnd) (ms : List Message) (b : Bool) → NoEnds ms → EndsLast (speech w ms b)
ends_last w [] false none before after p h e = absurd (none_there before after p e)
ends_last w [] true none [] after p h e = cc
ends_last w [] true none (x ∷ before) after p h e = let inner : [] ≡ before ++ p ∷ after = cc in absurd (none_there before after p inner)
ends_last w (m ∷ ms) b none [] after p h e =
    let same : packed w m ≡ p = cc in
    let number : number_in m ≡ 993 = ap (λ (q : Post). q.number) same ∙ h in
    absurd (not_both (eqb (number_in m) 993) (eq-eqb (number_in m) 993 number) none.0)
ends_last w (m ∷ ms) b none (x ∷ before) after p h e = let inner : speech w ms b ≡ before ++ p ∷ after = cc in ends_last w ms b none.1 before after p h inner

tells_last : (from to : Talk) (link : List Post) (ms : List Message) → Tells from to link ms → NoEnds ms → EndsLast (link ++ from.out)
tells_last from to link ms t none = subst EndsLast (sym t.is) (ends_last from.own ms (from.ending && not to.heard) none)

-- nothing is told once the end was taken
tells_over : (from to : Talk) (link : List Post) (ms : List Message) → Tells from to link ms → to.heard ≡ true → link ++ from.out ≡ []
tells_over from to link ms t h = t.is ∙ (ap (λ x. speech from.own x (from.ending && not to.heard)) (t.over h) ∙ (ap (λ b. speech from.own [] (b && not to.heard)) (t.ended h) ∙ ap (λ b. speech from.own [] (not b)) h))

-- nothing is on the way where nothing is told
silent : (w : Hwnd) (ms : List Message) (b : Bool) → [] ≡ speech w ms b → ms ≡ []
silent w [] b e = refl
silent w (m ∷ ms) b e = cc

still : (from to : Talk) (link : List Post) (ms : List Message) → Tells from to link ms → link ≡ [] → from.out ≡ [] → ms ≡ []
still from to link ms t l o = silent from.own ms (from.ending && not to.heard) (sym (ap (λ (x : List Post). x ++ from.out) l ∙ o) ∙ t.is)

no_asks : (asks : List Ask) → map (λ a. Asks a) asks ≡ [] → asks ≡ []
no_asks [] e = refl
no_asks (a ∷ asks) e = cc

no_replies : (rs : List Reply) → map (λ r. Replies r) rs ≡ [] → rs ≡ []
no_replies [] e = refl
no_replies (r ∷ rs) e = cc

none_replied : (f : ℕ → Option ℕ) (commands : List ℕ) (asks : List Ask) → right_replies f commands asks ≡ [] → asks ≡ []
none_replied f commands [] e = refl
none_replied f commands (a ∷ asks) e = cc

append_nil : {X : Type 0} (xs : List X) → xs ++ [] ≡ xs
append_nil [] = refl
append_nil (x ∷ xs) = ap (λ ys. x ∷ ys) (append_nil xs)

both_empty : {X : Type 0} (xs ys : List X) → xs ++ ys ≡ [] → (xs ≡ []) × (ys ≡ [])
both_empty [] ys e = (refl, e)
both_empty (x ∷ xs) ys e = (cc, cc)

all_answered : (w : Talking) (g : Agrees w) → w.client.talk.ending ≡ false → w.server.talk.ending ≡ false → IsStill w → w.answered ≡ replies_to w w.asks
all_answered w g c s quiet =
    let coming = no_replies g.coming (still w.server.talk w.client.talk w.to_client (map (λ r. Replies r) g.coming) g.replying quiet.3 quiet.2) in
    let unserved = no_asks g.unserved (still w.client.talk w.server.talk w.to_server (map (λ a. Asks a) g.unserved) g.asking quiet.1 quiet.0) in
    let awaited = none_replied (values_after (value_of w.items) g.done) w.commands g.awaited (sym (g.are_awaited c) ∙ coming) in
    let rest : g.rest ≡ [] = sym (g.are_rest s) ∙ unserved in
    let asks : w.asks ≡ g.done = g.asks ∙ (ap (λ xs. g.done ++ (xs ++ g.rest)) awaited ∙ (ap (λ xs. g.done ++ xs) rest ∙ append_nil g.done)) in
    g.answered ∙ ap (replies_to w) (sym asks)

and_right : (a b : Bool) → (a && b) ≡ true → b ≡ true
and_right true b e = e
and_right false b e = absurd (false≢true e)

nothing_left : (w : Talking) → Agrees w → is_closed w.client.talk ≡ true → is_closed w.server.talk ≡ true → IsStill w
nothing_left w g c s =
    let asking = both_empty w.to_server w.client.talk.out (tells_over w.client.talk w.server.talk w.to_server (map (λ a. Asks a) g.unserved) g.asking (and_right w.server.talk.said w.server.talk.heard s)) in
    let replying = both_empty w.to_client w.server.talk.out (tells_over w.server.talk w.client.talk w.to_client (map (λ r. Replies r) g.coming) g.replying (and_right w.client.talk.said w.client.talk.heard c)) in
    (asking.1, asking.0, replying.1, replying.0)

pub holds : (w : Talking) → Agrees w → Holds w
holds w g = record {
  first = g.done;
  later = g.awaited ++ g.rest;
  asks = g.asks;
  answered = g.answered;
  all = all_answered w g;
  client_end = tells_last w.client.talk w.server.talk w.to_server (map (λ a. Asks a) g.unserved) g.asking (asks_no_ends g.unserved);
  server_end = tells_last w.server.talk w.client.talk w.to_client (map (λ r. Replies r) g.coming) g.replying (replies_no_ends g.coming);
  client_over = tells_over w.client.talk w.server.talk w.to_server (map (λ a. Asks a) g.unserved) g.asking;
  server_over = tells_over w.server.talk w.client.talk w.to_client (map (λ r. Replies r) g.coming) g.replying;
  closed = nothing_left w g;
}
