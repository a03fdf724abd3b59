-- What a side hears of the other one's posts.
use Rattle.std.proofs.Common.{◌≡◌, List, ◌∷◌, Bool, true, false, not, ◌&&◌, ◌||◌, cond, eqb, Some, None, refl, sym, ap, ◌∙◌, subst, eq-eqb}
use Rattle.win_num.specs.declared.message.Hwnd.{Hwnd}
use Rattle.dde_talk.specs.declared.message.Ask.{Ask}
use Rattle.dde_talk.specs.declared.message.Ask.TheVariants.{Request, Poke, Execute}
use Rattle.dde_talk.specs.declared.message.Message.TheVariants.{Asks, Replies, Terminate}
use Rattle.dde_talk.specs.declared.message.Reply.{Reply}
use Rattle.dde_talk.specs.declared.message.Reply.TheVariants.{Value, Ack}
use Rattle.dde_talk.specs.Packing.{Fits, number_in, packed, unpacked}
use Rattle.dde_talk.specs.Replies.{suits}
use Rattle.dde_talk.specs.Sides.{ClientSide, ServerSide, Talk, client_hears, client_meets, ended, server_hears, server_meets, telling}
use Rattle.dde_talk.proofs.PackingLaws.{unpacked-packed}

-- a test as it comes to: not from another window, not ending or an end, the other's end not taken, a message that can be met
passes : (same ending end heard meets : Bool) → same ≡ true → ending ≡ false → heard ≡ false → meets ≡ true → (not same || (ending && not end) || heard || not meets) ≡ false
passes same ending end heard meets s e h m = subst (λ b. (not b || (ending && not end) || heard || not meets) ≡ false) (sym s) (subst (λ b. ((b && not end) || heard || not meets) ≡ false) (sym e) (subst (λ b. (b || not meets) ≡ false) (sym h) (ap not m)))

end_passes : (same ending heard : Bool) → same ≡ true → heard ≡ false → (not same || (ending && false) || heard || false) ≡ false
end_passes same ending heard s h = subst (λ b. (not b || (ending && false) || heard || false) ≡ false) (sym s) (subst (λ b. ((ending && false) || b || false) ≡ false) (sym h) (never ending))
  where
    never : (b : Bool) → ((b && false) || false || false) ≡ false
    never true = refl
    never false = refl

stops : (same end heard meets ending : Bool) → end ≡ false → ending ≡ true → (not same || (ending && not end) || heard || not meets) ≡ true
stops same end heard meets ending n e = subst (λ b. (not same || (b && not end) || heard || not meets) ≡ true) (sym e) (subst (λ b. (not same || not b || heard || not meets) ≡ true) (sym n) (at same heard meets))
  where
    at : (same heard meets : Bool) → (not same || true || heard || not meets) ≡ true
    at true heard meets = refl
    at false heard meets = refl

-- no ask and no reply is an end
pub no_end_ask : (a : Ask) → eqb (number_in (Asks a)) 993 ≡ false
no_end_ask (Request item) = refl
no_end_ask (Poke item value) = refl
no_end_ask (Execute command) = refl

pub no_end_reply : (r : Reply) → eqb (number_in (Replies r)) 993 ≡ false
no_end_reply (Value item value) = refl
no_end_reply (Ack item good) = refl

named : (w v : Hwnd) → w ≡ v → eqb w.0 v.0 ≡ true
named w v e = eq-eqb w.0 v.0 (ap (λ (h : Hwnd). h.0) e)

-- a server hears an end, and an ask while it hasn't ended
pub server_hears_end : (s : ServerSide) (w : Hwnd) → w ≡ s.talk.peer → s.talk.heard ≡ false → server_hears s (packed w Terminate) ≡ Some Terminate
server_hears_end s w same quiet = ap (λ b. cond b None (Some Terminate)) (end_passes (eqb w.0 s.talk.peer.0) s.talk.ending s.talk.heard (named w s.talk.peer same) quiet)

pub server_hears_ask : (s : ServerSide) (w : Hwnd) (a : Ask) → Fits (Asks a) → w ≡ s.talk.peer → s.talk.ending ≡ false → s.talk.heard ≡ false → server_hears s (packed w (Asks a)) ≡ Some (Asks a)
server_hears_ask s w a fits same live quiet =
    let m : unpacked (packed w (Asks a)) ≡ Some (Asks a) = unpacked-packed w (Asks a) fits in
    subst (λ o. cond (not (eqb w.0 s.talk.peer.0) || (s.talk.ending && not (eqb (number_in (Asks a)) 993)) || s.talk.heard || not (server_meets o)) None o ≡ Some (Asks a)) (sym m) (ap (λ b. cond b None (Some (Asks a))) (passes (eqb w.0 s.talk.peer.0) s.talk.ending (eqb (number_in (Asks a)) 993) s.talk.heard true (named w s.talk.peer same) live quiet refl))

pub server_deaf : (s : ServerSide) (w : Hwnd) (a : Ask) → s.talk.ending ≡ true → server_hears s (packed w (Asks a)) ≡ None
server_deaf s w a ending =
    let o = unpacked (packed w (Asks a)) in
    ap (λ b. cond b None o) (stops (eqb w.0 s.talk.peer.0) (eqb (number_in (Asks a)) 993) s.talk.heard (server_meets o) s.talk.ending (no_end_ask a) ending)

-- a client hears an end, and the reply that suits its oldest ask while it hasn't ended
pub client_hears_end : (c : ClientSide) (w : Hwnd) → w ≡ c.talk.peer → c.talk.heard ≡ false → client_hears c (packed w Terminate) ≡ Some Terminate
client_hears_end c w same quiet = at c.asked
  where
    at : (asked : List Ask) → client_hears (record c { asked = asked }) (packed w Terminate) ≡ Some Terminate
    at asked = ap (λ b. cond b None (Some Terminate)) (end_passes (eqb w.0 c.talk.peer.0) c.talk.ending c.talk.heard (named w c.talk.peer same) quiet)

pub client_hears_reply : (c : ClientSide) (w : Hwnd) (a : Ask) (asked : List Ask) (r : Reply) → c.asked ≡ a ∷ asked → suits a r ≡ true → Fits (Replies r) → w ≡ c.talk.peer → c.talk.ending ≡ false → c.talk.heard ≡ false → client_hears c (packed w (Replies r)) ≡ Some (Replies r)
client_hears_reply c w a asked r oldest suit fits same live quiet =
    let m : unpacked (packed w (Replies r)) ≡ Some (Replies r) = unpacked-packed w (Replies r) fits in
    subst (λ o. cond (not (eqb w.0 c.talk.peer.0) || (c.talk.ending && not (eqb (number_in (Replies r)) 993)) || c.talk.heard || not (client_meets c.asked o)) None o ≡ Some (Replies r)) (sym m) (ap (λ b. cond b None (Some (Replies r))) (passes (eqb w.0 c.talk.peer.0) c.talk.ending (eqb (number_in (Replies r)) 993) c.talk.heard (client_meets c.asked (Some (Replies r))) (named w c.talk.peer same) live quiet (ap (λ l. client_meets l (Some (Replies r))) oldest ∙ suit)))

pub client_deaf : (c : ClientSide) (w : Hwnd) (r : Reply) → c.talk.ending ≡ true → client_hears c (packed w (Replies r)) ≡ None
client_deaf c w r ending =
    let o = unpacked (packed w (Replies r)) in
    ap (λ b. cond b None o) (stops (eqb w.0 c.talk.peer.0) (eqb (number_in (Replies r)) 993) c.talk.heard (client_meets c.asked o) c.talk.ending (no_end_reply r) ending)

-- what an end leaves of a side
pub ended_keeps : (t : Talk) → ((ended t).own ≡ t.own) × ((ended t).peer ≡ t.peer) × ((ended t).heard ≡ t.heard) × ((ended t).ending ≡ true)
ended_keeps t = by t.ending refl
  where
    after : Bool → Talk
    after b = cond b t (record (telling t Terminate) { ending = true })

    by : (b : Bool) → t.ending ≡ b → ((after b).own ≡ t.own) × ((after b).peer ≡ t.peer) × ((after b).heard ≡ t.heard) × ((after b).ending ≡ true)
    by true e = (refl, refl, refl, e)
    by false e = (refl, refl, refl, refl)
