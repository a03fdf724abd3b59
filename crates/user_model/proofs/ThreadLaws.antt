-- Ended and idle threads.
use Rattle.std.proofs.Common.{◌≡◌, ℕ, eqb, Bool, true, false, not, cond, [], ◌∷◌, Option, Some, None, refl, ap, ◌∙◌, sym, subst}
use Rattle.std.specs.Prelude.{◌&&◌, ◌||◌}
use Rattle.std.proofs.lemmas.Bool.{eqb-true, false≢true}
use Rattle.win_num.specs.declared.code.Code.TheVariants.{NotNow, Full}
use Rattle.user_model.specs.declared.entry.Answer.{Answer}
use Rattle.user_model.specs.declared.entry.Answer.TheVariants as answers
use Rattle.user_model.specs.declared.entry.Entry.{Entry}
use Rattle.user_model.specs.declared.entry.Setup.{Setup}
use Rattle.user_model.specs.Past.{Past, is_refused, is_full}
use Rattle.user_model.specs.Places.{has_ended, ends_thread, is_end}
use Rattle.user_model.specs.Refusals.{refuse}
use Rattle.user_model.specs.Replies.{stack_reply}
use Rattle.user_model.specs.Threads.{is_thread}
use Rattle.user_model.specs.Idle.{reply, is_wait, is_idle, still_waits, last_entry}
use Rattle.user_model.specs.Legal.{IsLawful}
use Rattle.user_model.proofs.ReplyLaws.{by_row}

no_end : (refused ended by : Bool) → (elim refused as (λ c. Bool) [ true ↦ ended | false ↦ elim ended as (λ c. Bool) [ true ↦ true | false ↦ false && by ] ]) ≡ ended
no_end true ended by = refl
no_end false true by = refl
no_end false false by = refl

-- an answer that ends nothing leaves the ended threads
pub has_ended-same : (e : Entry) (past : Past) (t : ℕ) → is_end e.answer ≡ false → has_ended (e ∷ past) t ≡ has_ended past t
has_ended-same e past t h = ap (λ b. elim (is_refused e) as (λ c. Bool) [ true ↦ has_ended past t | false ↦ elim (has_ended past t) as (λ c. Bool) [ true ↦ true | false ↦ b && eqb e.who.0 t ] ]) h ∙ no_end (is_refused e) (has_ended past t) (eqb e.who.0 t)

one_end : (ended by : Bool) → (elim ended as (λ c. Bool) [ true ↦ true | false ↦ by ]) ≡ (by || ended)
one_end true true = refl
one_end true false = refl
one_end false true = refl
one_end false false = refl

-- the end of a thread ends it
pub has_ended-end : (e : Entry) (past : Past) (t : ℕ) → e.answer ≡ answers.Ended → has_ended (e ∷ past) t ≡ (eqb e.who.0 t || has_ended past t)
has_ended-end e past t a = rw a (one_end (has_ended past t) (eqb e.who.0 t))

pub end_is : (a : Answer) → is_end a ≡ true → a ≡ answers.Ended
end_is answers.Ended h = refl
end_is _ h = absurd (false≢true h)

and_both : (a b : Bool) → (a && b) ≡ true → (a ≡ true) × (b ≡ true)
and_both true b e = (refl, e)
and_both false b e = absurd (false≢true e)

ended_pick : (refused ended by : Bool) → (elim refused as (λ c. Bool) [ true ↦ ended | false ↦ elim ended as (λ c. Bool) [ true ↦ true | false ↦ by ] ]) ≡ true → (ended ≡ false) → (by ≡ true)
ended_pick true true by e f = absurd (false≢true (sym f))
ended_pick true false by e f = absurd (false≢true e)
ended_pick false true by e f = absurd (false≢true (sym f))
ended_pick false false by e f = e

ended_here : (setup : Setup) (past : Past) (t : ℕ) (e : Entry) → e.answer ≡ reply setup past e.who.0 e.call → (has_ended past t ≡ true → is_thread setup t ≡ true) → has_ended (e ∷ past) t ≡ true → is_thread setup t ≡ true
ended_here setup past t entry right before ended = known (has_ended past t) refl
  where
    known : (b : Bool) → has_ended past t ≡ b → is_thread setup t ≡ true
    known true h = before h
    known false h =
        let both = and_both (is_end entry.answer) (eqb entry.who.0 t) (ended_pick (is_refused entry) (has_ended past t) (ends_thread entry t) ended h) in
        let by = by_row setup past entry.who.0 entry.call answers.Ended (sym right ∙ end_is entry.answer both.0) refl in
        subst (λ n. is_thread setup n ≡ true) (eqb-true entry.who.0 t both.1) (and_both (is_thread setup entry.who.0) (not (has_ended past entry.who.0)) by.running).0

-- a number that has ended is a thread's
pub ended_is_thread : (setup : Setup) (past : Past) (t : ℕ) → IsLawful setup past → has_ended past t ≡ true → is_thread setup t ≡ true
ended_is_thread setup [] t lawful e = absurd (false≢true e)
ended_is_thread setup (entry ∷ past) t lawful e = ended_here setup past t entry lawful.1 (λ h. ended_is_thread setup past t lawful.0 h) e

never_waits : (full : Bool) (a : Answer) → is_wait (refuse full Full (refuse true NotNow a)) ≡ false
never_waits true a = refl
never_waits false a = refl

no_thread_waits : (setup : Setup) (past : Past) (t : ℕ) (o : Option Entry) → is_thread setup t ≡ false → still_waits setup past t o ≡ false
no_thread_waits setup past t None h = refl
no_thread_waits setup past t (Some e) h =
    ap (λ b. cond (is_wait e.answer) (is_wait (refuse (is_full past) Full (refuse (not (b && not (has_ended past t))) NotNow (stack_reply setup past t e.call)))) false) h
    ∙ pick (is_wait e.answer)
  where
    pick : (b : Bool) → cond b (is_wait (refuse (is_full past) Full (refuse true NotNow (stack_reply setup past t e.call)))) false ≡ false
    pick true = never_waits (is_full past) (stack_reply setup past t e.call)
    pick false = refl

-- a number that is no thread's isn't idle
pub no_thread_idle : (setup : Setup) (past : Past) (t : ℕ) → IsLawful setup past → is_thread setup t ≡ false → is_idle setup past t ≡ false
no_thread_idle setup past t lawful h = known (has_ended past t) refl
  where
    known : (b : Bool) → has_ended past t ≡ b → is_idle setup past t ≡ false
    known true e = absurd (false≢true (sym h ∙ ended_is_thread setup past t lawful e))
    known false e = ap (λ b. cond b true (still_waits setup past t (last_entry past t))) e ∙ no_thread_waits setup past t (last_entry past t) h
