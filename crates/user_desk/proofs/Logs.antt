-- Laws of what was said, and of the past in which it was said.
use Rattle.std.proofs.Common.{◌≡◌, ◌≤◌, ◌<◌, ◌+◌, ℕ, Bool, true, false, List, [], ◌∷◌, ◌++◌, length, map, reverse, refl, sym, ap, ◌∙◌, subst, arith}
use Rattle.std.specs.Prelude.{nat_le, if◌then◌else◌, Result, Ok, Err, IfOk, OnOk, OnErr, MatchBool}
use Rattle.std.specs.declared.alloc.AllocError.{AllocError}
use Rattle.std.proofs.lemmas.Bool.Decides.{nat_tests}
use Rattle.std.proofs.lemmas.List.{length-reverse, map-append, reverse-append, reverse-reverse}
use Rattle.win_num.specs.declared.message.Thread.{Thread}
use Rattle.user_model.specs.declared.call.Call.{Call}
use Rattle.user_model.specs.declared.entry.Answer.{Answer}
use Rattle.user_model.specs.declared.entry.Entry.{Entry}
use Rattle.user_model.specs.declared.entry.Setup.{Setup}
use Rattle.user_model.specs.Past.{Past, is_full}
use Rattle.user_model.specs.Idle.{reply}
use Rattle.user_model.specs.Legal.{IsLawful, IsLegal}
use Rattle.user_model.specs.Machines.{after, entry_by}
use Rattle.user_desk.specs.Journal.{Said, entry, said, past_of, said_in, is_full_of, reply_after, IsLegalLog}

-- entries say what they are
pub entries-said : (past : Past) → map entry (map said past) ≡ past
entries-said [] = refl
entries-said (e ∷ past) = ap (λ (l : Past). e ∷ l) (entries-said past)

-- what is an entry says that
pub said-entries : (log : List Said) → map said (map entry log) ≡ log
said-entries [] = refl
said-entries (x ∷ log) = ap (λ (l : List Said). x ∷ l) (said-entries log)

-- what was said in a past was said in just that past
pub past-said : (past : Past) → past_of (said_in past) ≡ past
past-said past = ap (λ (l : Past). reverse l) (entries-said (reverse past)) ∙ reverse-reverse past

-- and the past in which so much was said says just that
pub said-past : (log : List Said) → said_in (past_of log) ≡ log
said-past log = ap (λ (l : List Entry). map said l) (reverse-reverse (map entry log)) ∙ said-entries log

-- what is said in one more entry comes last
pub said-next : (e : Entry) (past : Past) → said_in (e ∷ past) ≡ said_in past ++ said e ∷ []
said-next e past = ap (λ (l : Past). map said l) (reverse-append (e ∷ []) past) ∙ map-append said (reverse past) (e ∷ [])

above : (m k : ℕ) → nat_le m k ≡ false → k < m
above m k is = grind (arith, nat_tests, is)

-- what isn't full has room for one more
has_room : (n : ℕ) → nat_le 2097152 n ≡ false → n + 1 ≤ 2097152
has_room n is = let below = above 2097152 n is in omega (arith, below)

-- a legal past is one whose log is legal
pub legal_log : (setup : Setup) (past : Past) → length past ≤ 2097152 → IsLawful setup past → IsLegalLog setup (said_in past)
legal_log setup past short lawful =
    let same : map entry (said_in past) ≡ reverse past = entries-said (reverse past) in
    subst (IsLegal setup) (sym same) (omega (arith, short, length-reverse past), subst (IsLawful setup) (sym (reverse-reverse past)) lawful)

-- and the other way round
pub legal_past : (setup : Setup) (past : Past) → IsLegalLog setup (said_in past) → (length past ≤ 2097152) × IsLawful setup past
legal_past setup past legal =
    let same : map entry (said_in past) ≡ reverse past = entries-said (reverse past) in
    let there : IsLegal setup (reverse past) = subst (IsLegal setup) same legal in
    (omega (arith, there.0, length-reverse past), subst (IsLawful setup) (reverse-reverse past) there.1)

-- a step from a legal history leaves a legal one
pub legal_step : (setup : Setup) (past : Past) (who : Thread) (call : Call) → IsLegalLog setup (said_in past) → IsLegalLog setup (said_in (after setup past who call))
legal_step setup past who call legal = by_room (is_full past) refl
  where
    before : (length past ≤ 2097152) × IsLawful setup past
    before = legal_past setup past legal

    at : Bool → Past
    at full = if full then past else entry_by setup past who call ∷ past

    by_room : (full : Bool) → is_full past ≡ full → IsLegalLog setup (said_in (after setup past who call))
    by_room true is = subst (λ f. IsLegalLog setup (said_in (at f))) (sym is) legal
    by_room false is = subst (λ f. IsLegalLog setup (said_in (at f))) (sym is) (legal_log setup (entry_by setup past who call ∷ past) (omega (arith, has_room (length past) is)) (before.1, refl))

-- what a step's answer says of the log
pub step_answered : (setup : Setup) (past now : Past) (who : Thread) (call : Call) (a : Answer) → a ≡ reply setup past who.0 call → now ≡ after setup past who call
    → MatchBool (is_full_of (said_in past)) ((said_in now ≡ said_in past) × (a ≡ reply_after setup (said_in past) (who, call))) (said_in now ≡ said_in past ++ ((who, call), a) ∷ [])
step_answered setup past now who call a answer step = by_room (is_full past) refl
  where
    Answered : Bool → Type 0
    Answered full = MatchBool full ((said_in now ≡ said_in past) × (a ≡ reply_after setup (said_in past) (who, call))) (said_in now ≡ said_in past ++ ((who, call), a) ∷ [])

    at : Bool → Past
    at full = if full then past else entry_by setup past who call ∷ past

    same : is_full_of (said_in past) ≡ is_full past
    same = ap is_full (past-said past)

    by_room : (full : Bool) → is_full past ≡ full → Answered (is_full_of (said_in past))
    by_room true is = subst Answered (sym (same ∙ is)) (ap said_in (step ∙ ap at is), answer ∙ ap (λ p. reply setup p who.0 call) (sym (past-said past)))
    by_room false is =
        subst Answered (sym (same ∙ is)) (ap said_in (step ∙ ap at is) ∙ said-next (entry_by setup past who call) past ∙ ap (λ (b : Answer). said_in past ++ ((who, call), b) ∷ []) (sym answer))

-- and where it has an answer
pub if_answered : (setup : Setup) (past now : Past) (who : Thread) (call : Call) (r : Result Answer AllocError) → IfOk r (λ a. a ≡ reply setup past who.0 call) → OnOk r (now ≡ after setup past who call)
    → IfOk r (λ a. MatchBool (is_full_of (said_in past)) ((said_in now ≡ said_in past) × (a ≡ reply_after setup (said_in past) (who, call))) (said_in now ≡ said_in past ++ ((who, call), a) ∷ []))
if_answered setup past now who call (Ok a) answer step = step_answered setup past now who call a answer step
if_answered setup past now who call (Err e) answer step = tt

-- whatever a step answers, a legal history stays legal
pub legal_after : (setup setup_now : Setup) (past now : Past) (who : Thread) (call : Call) (r : Result Answer AllocError) → OnOk r (now ≡ after setup past who call) → OnErr r (now ≡ past) → setup_now ≡ setup
    → IsLegalLog setup (said_in past) → IsLegalLog setup_now (said_in now)
legal_after setup setup_now past now who call (Ok a) step none ruled legal = subst (λ x. IsLegalLog x (said_in now)) (sym ruled) (subst (λ x. IsLegalLog setup (said_in x)) (sym step) (legal_step setup past who call legal))
legal_after setup setup_now past now who call (Err e) step none ruled legal = subst (λ x. IsLegalLog x (said_in now)) (sym ruled) (subst (λ x. IsLegalLog setup (said_in x)) (sym none) legal)
