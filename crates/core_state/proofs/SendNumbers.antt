-- There are at most as many sends as entries.
use Rattle.std.proofs.Common.{◌≡◌, ℕ, ◌<◌, ◌≤◌, ◌^◌, Bool, true, false, List, [], ◌∷◌, length, refl, ap, ◌∙◌, arith, length-append}
use Rattle.std.proofs.lemmas.Bool.Decides.{nat_tests}
use Rattle.win_num.specs.declared.send.Kind.{Kind}
use Rattle.win_num.specs.declared.send.Kind.TheVariants.{Wait as WaitKind, Timeout as WithTimeout, Notify, Callback as WithCallback}
use Rattle.user_model.specs.declared.call.Call.{Call}
use Rattle.user_model.specs.declared.call.Call.TheVariants.{Send, SendTimeout, SendNotify, SendCallback}
use Rattle.user_model.specs.declared.entry.Answer.{Answer}
use Rattle.user_model.specs.declared.entry.Answer.TheVariants.{Inside, Begun}
use Rattle.user_model.specs.declared.entry.Entry.{Entry}
use Rattle.user_model.specs.Past.{Past, is_full, is_refused, place_after}
use Rattle.user_model.specs.Sends.{SentMsg, sends, sends_by, sent_as}
use Rattle.user_model.proofs.SendLaws.{sends-next, sends-refused}

as_few : (a : Answer) (e : Entry) (past : Past) (w m p q : ℕ) (k : Kind) → length (sent_as a e past w m p q k) ≤ 1
as_few (Inside s n) e past w m p q k = omega arith
as_few (Begun s) e past w m p q k = omega arith
as_few _ e past w m p q k = omega arith

by_few : (call : Call) (e : Entry) (past : Past) → length (sends_by call e past) ≤ 1
by_few (Send w m p q) e past = as_few e.answer e past w m p q WaitKind
by_few (SendTimeout w m p q flags ms) e past = as_few e.answer e past w m p q (WithTimeout flags ms)
by_few (SendNotify w m p q) e past = as_few e.answer e past w m p q Notify
by_few (SendCallback w m p q n extra) e past = as_few e.answer e past w m p q (WithCallback n extra)
by_few _ e past = omega arith

-- a history that isn't full has a place
pub early : (past : Past) → is_full past ≡ false → place_after past < 2 ^ 21
early past room = grind (arith, nat_tests, room)

-- an entry makes one send at most
pub sends_bound : (past : Past) → length (sends past) ≤ length past
sends_bound [] = omega arith
sends_bound (e ∷ past) = by (is_refused e) refl (sends_bound past)
  where
    by : (b : Bool) → is_refused e ≡ b → length (sends past) ≤ length past → length (sends (e ∷ past)) ≤ length (e ∷ past)
    by true k before = let same = ap (λ (xs : List SentMsg). length xs) (sends-refused e past k) in omega (arith, same, before)
    by false k before =
        let same = ap (λ (xs : List SentMsg). length xs) (sends-next e past k) ∙ length-append (sends past) (sends_by e.call e past) in
        omega (arith, same, before, by_few e.call e past)
