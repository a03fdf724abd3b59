-- Laws of what was said, and of the past in which it was said.
use Rattle.std.proofs.Common.{◌≡◌, ◌≤◌, ◌<◌, ◌+◌, ℕ, Bool, true, false, List, [], ◌∷◌, ◌++◌, length, map, reverse, refl, sym, ap, ◌∙◌, subst, arith}
use Rattle.std.specs.Prelude.{if◌then◌else◌, Result, Ok, Err, IfOk, OnOk, OnErr, MatchBool}
use Rattle.std.specs.declared.alloc.AllocError.{AllocError}
use Rattle.std.proofs.lemmas.List.{map-append, reverse-append, reverse-reverse}
use Rattle.win_num.specs.declared.message.Thread.{Thread}
use Rattle.clip_board.specs.declared.entry.ClipCall.{ClipCall}
use Rattle.clip_board.specs.declared.entry.ClipAnswer.{ClipAnswer}
use Rattle.clip_board.specs.declared.entry.ClipEntry.{ClipEntry}
use Rattle.clip_board.specs.Clipboards.{ClipPast, clip_entry, clip_reply, clip_after, is_full, IsLawful}
use Rattle.clip_board.specs.Journal.{Said, entry, said, past_of, said_in, is_full_of, reply_after, IsLawfulLog}
use Rattle.clip_board.proofs.Steps.{has_room}

-- entries say what they are
entries-said : (past : ClipPast) → map entry (map said past) ≡ past
entries-said [] = refl
entries-said (e ∷ past) = ap (λ (l : ClipPast). e ∷ l) (entries-said past)

-- what was said in a past was said in just that past
pub past-said : (past : ClipPast) → past_of (said_in past) ≡ past
past-said past = ap (λ (l : ClipPast). reverse l) (entries-said (reverse past)) ∙ reverse-reverse past

-- what is said in one more entry comes last
said-next : (e : ClipEntry) (past : ClipPast) → said_in (e ∷ past) ≡ said_in past ++ said e ∷ []
said-next e past = ap (λ (l : ClipPast). map said l) (reverse-append (e ∷ []) past) ∙ map-append said (reverse past) (e ∷ [])

-- whether a log is full
pub full-said : (past : ClipPast) → is_full past ≡ is_full_of (said_in past)
full-said past = sym (ap is_full (past-said past))

-- a step from a lawful past leaves a lawful one
lawful_step : (past : ClipPast) (who : Thread) (call : ClipCall) → IsLawful past → IsLawful (clip_after past who call)
lawful_step past who call lawful = by_room (is_full past) refl
  where
    at : Bool → ClipPast
    at full = if full then past else clip_entry who call (clip_reply past who call) ∷ past

    by_room : (full : Bool) → is_full past ≡ full → IsLawful (at (is_full past))
    by_room true is = subst (λ f. IsLawful (at f)) (sym is) lawful
    by_room false is = subst (λ f. IsLawful (at f)) (sym is) (lawful, has_room past is, refl)

-- whatever a step answers, a lawful log stays lawful
pub lawful_after : (past now : ClipPast) (who : Thread) (call : ClipCall) (r : Result ClipAnswer AllocError) → OnOk r (now ≡ clip_after past who call) → OnErr r (now ≡ past) → IsLawfulLog (said_in past) → IsLawfulLog (said_in now)
lawful_after past now who call (Ok a) step none lawful = subst IsLawful (sym (past-said now)) (subst IsLawful (sym step) (lawful_step past who call (subst IsLawful (past-said past) lawful)))
lawful_after past now who call (Err e) step none lawful = subst (λ p. IsLawfulLog (said_in p)) (sym none) lawful

-- what a step's answer says of the log
step_answered : (past now : ClipPast) (who : Thread) (call : ClipCall) (a : ClipAnswer) → a ≡ clip_reply past who call → now ≡ clip_after past who call
    → MatchBool (is_full_of (said_in past)) ((said_in now ≡ said_in past) × (a ≡ reply_after (said_in past) (who, call))) (said_in now ≡ said_in past ++ ((who, call), a) ∷ [])
step_answered past now who call a answer step = by_room (is_full past) refl
  where
    Answered : Bool → Type 0
    Answered full = MatchBool full ((said_in now ≡ said_in past) × (a ≡ reply_after (said_in past) (who, call))) (said_in now ≡ said_in past ++ ((who, call), a) ∷ [])

    at : Bool → ClipPast
    at full = if full then past else clip_entry who call (clip_reply past who call) ∷ past

    by_room : (full : Bool) → is_full past ≡ full → Answered (is_full_of (said_in past))
    by_room true is = subst Answered (sym (sym (full-said past) ∙ is)) (ap said_in (step ∙ ap at is), answer ∙ ap (λ p. clip_reply p who call) (sym (past-said past)))
    by_room false is =
        subst Answered (sym (sym (full-said past) ∙ is)) (ap said_in (step ∙ ap at is) ∙ said-next (clip_entry who call (clip_reply past who call)) past ∙ ap (λ (b : ClipAnswer). said_in past ++ ((who, call), b) ∷ []) (sym answer))

-- and where it has an answer
pub if_answered : (past now : ClipPast) (who : Thread) (call : ClipCall) (r : Result ClipAnswer AllocError) → IfOk r (λ a. a ≡ clip_reply past who call) → OnOk r (now ≡ clip_after past who call)
    → IfOk r (λ a. MatchBool (is_full_of (said_in past)) ((said_in now ≡ said_in past) × (a ≡ reply_after (said_in past) (who, call))) (said_in now ≡ said_in past ++ ((who, call), a) ∷ []))
if_answered past now who call (Ok a) answer step = step_answered past now who call a answer step
if_answered past now who call (Err e) answer step = tt
