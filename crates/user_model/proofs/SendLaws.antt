-- Stacks, sends, their answers and what is ready, at a past with one entry more.
use Rattle.std.proofs.Common.{◌≡◌, ℕ, Bool, true, false, not, cond, eqb, List, [], ◌∷◌, ◌++◌, Option, Some, None, refl, ap, ◌∙◌, sym}
use Rattle.std.specs.Prelude.{◌||◌, filter, find, is_some}
use Rattle.std.proofs.lemmas.Bool.{false≢true}
use Rattle.win_num.specs.declared.send.Frame.{Frame}
use Rattle.user_model.specs.declared.entry.Answer.{Answer}
use Rattle.user_model.specs.declared.entry.Answer.TheVariants as answers
use Rattle.user_model.specs.declared.entry.Entry.{Entry}
use Rattle.user_model.specs.declared.call.Call.{Call}
use Rattle.user_model.specs.declared.call.Call.TheVariants.{Send, SendTimeout, SendNotify, SendCallback}
use Rattle.user_model.specs.Past.{Past, is_refused, or_else, unless_refused, first_of}
use Rattle.user_model.specs.Stacks.{stack, stacked}
use Rattle.user_model.specs.Sends.{SentMsg, Outcome, sends, sends_by, sent_as, send, is_entered, enters, answer, answers, is_answered}
use Rattle.user_model.specs.Ready.{ready, arrives, departs}
use Rattle.user_model.proofs.PastLaws.{first_way, other_way, each_of-next, each_of-same, ever-next, ever-same, standing-next}
use Rattle.user_model.specs.Deeds.{SendParts, parts_of}

-- ---- stacks

-- a refused entry leaves the stacks
pub stack-refused : (e : Entry) (past : Past) (t : ℕ) → is_refused e ≡ true → stack (e ∷ past) t ≡ stack past t
stack-refused e past t h = first_way (is_refused e) (stack past t) (elim (eqb e.who.0 t) as (λ c. List Frame) [ true ↦ stacked e.call e.answer (stack past t) | false ↦ stack past t ]) h

-- the entry's own thread's stack is what its answer makes of it
pub stack-next : (e : Entry) (past : Past) (t : ℕ) → is_refused e ≡ false → eqb e.who.0 t ≡ true → stack (e ∷ past) t ≡ stacked e.call e.answer (stack past t)
stack-next e past t h own = other_way (is_refused e) (stack past t) (elim (eqb e.who.0 t) as (λ c. List Frame) [ true ↦ stacked e.call e.answer (stack past t) | false ↦ stack past t ]) h ∙ first_way (eqb e.who.0 t) (stacked e.call e.answer (stack past t)) (stack past t) own

same_way : {X : Type 0} (b : Bool) (x : X) → (elim b as (λ c. X) [ true ↦ x | false ↦ x ]) ≡ x
same_way true x = refl
same_way false x = refl

other_stack : (refused own : Bool) (x y : List Frame) → own ≡ false → (elim refused as (λ c. List Frame) [ true ↦ x | false ↦ elim own as (λ c. List Frame) [ true ↦ y | false ↦ x ] ]) ≡ x
other_stack refused true x y h = absurd (false≢true (sym h))
other_stack true false x y h = refl
other_stack false false x y h = refl

-- the stacks of other threads stay
pub stack-other : (e : Entry) (past : Past) (t : ℕ) → eqb e.who.0 t ≡ false → stack (e ∷ past) t ≡ stack past t
stack-other e past t other = other_stack (is_refused e) (eqb e.who.0 t) (stack past t) (stacked e.call e.answer (stack past t)) other

kept_stack : (refused own : Bool) (x y : List Frame) → y ≡ x → (elim refused as (λ c. List Frame) [ true ↦ x | false ↦ elim own as (λ c. List Frame) [ true ↦ y | false ↦ x ] ]) ≡ x
kept_stack true own x y h = refl
kept_stack false true x y h = h
kept_stack false false x y h = refl

-- an answer that leaves the frames leaves the stacks
pub stack-same : (e : Entry) (past : Past) (t : ℕ) → stacked e.call e.answer (stack past t) ≡ stack past t → stack (e ∷ past) t ≡ stack past t
stack-same e past t h = kept_stack (is_refused e) (eqb e.who.0 t) (stack past t) (stacked e.call e.answer (stack past t)) h

-- ---- sends

pub sends-refused : (e : Entry) (past : Past) → is_refused e ≡ true → sends (e ∷ past) ≡ sends past
sends-refused e past h = first_way (is_refused e) (sends past) (sends past ++ sends_by e.call e past) h

-- the sends with the one that the entry makes
pub sends-next : (e : Entry) (past : Past) → is_refused e ≡ false → sends (e ∷ past) ≡ sends past ++ sends_by e.call e past
sends-next e past h = each_of-next (λ (e : Entry) (before : Past). sends_by e.call e before) e past h

pub sends-same : (e : Entry) (past : Past) → sends_by e.call e past ≡ [] → sends (e ∷ past) ≡ sends past
sends-same e past h = each_of-same (λ (e : Entry) (before : Past). sends_by e.call e before) e past h

-- whether an answer says that a send was made
abbrev pub is_sent : Answer → Bool
is_sent (answers.Inside s proc_no) = true
is_sent (answers.Begun s) = true
is_sent _ = false

none_as : (a : Answer) (e : Entry) (past : Past) (of : SendParts) → is_sent a ≡ false → sent_as a e past of.hwnd of.message of.wparam of.lparam of.kind ≡ []
none_as (answers.Inside s proc_no) e past of h = absurd (false≢true (sym h))
none_as (answers.Begun s) e past of h = absurd (false≢true (sym h))
none_as _ e past of h = refl

by_parts : (call : Call) (e : Entry) (past : Past) (o : Option SendParts) → parts_of call ≡ o → sends_by call e past ≡ elim o as (λ _. List SentMsg) [ None ↦ [] | Some of ↦ sent_as e.answer e past of.hwnd of.message of.wparam of.lparam of.kind ]
by_parts (Send w m p q) e past o h = ap (λ o. elim o as (λ _. List SentMsg) [ None ↦ [] | Some of ↦ sent_as e.answer e past of.hwnd of.message of.wparam of.lparam of.kind ]) h
by_parts (SendTimeout w m p q flags ms) e past o h = ap (λ o. elim o as (λ _. List SentMsg) [ None ↦ [] | Some of ↦ sent_as e.answer e past of.hwnd of.message of.wparam of.lparam of.kind ]) h
by_parts (SendNotify w m p q) e past o h = ap (λ o. elim o as (λ _. List SentMsg) [ None ↦ [] | Some of ↦ sent_as e.answer e past of.hwnd of.message of.wparam of.lparam of.kind ]) h
by_parts (SendCallback w m p q proc_no extra) e past o h = ap (λ o. elim o as (λ _. List SentMsg) [ None ↦ [] | Some of ↦ sent_as e.answer e past of.hwnd of.message of.wparam of.lparam of.kind ]) h
by_parts _ e past o h = ap (λ o. elim o as (λ _. List SentMsg) [ None ↦ [] | Some of ↦ sent_as e.answer e past of.hwnd of.message of.wparam of.lparam of.kind ]) h

-- an answer that says nothing of a send makes none
pub makes_none : (e : Entry) (past : Past) → is_sent e.answer ≡ false → sends_by e.call e past ≡ []
makes_none e past h = by_parts e.call e past (parts_of e.call) refl ∙ by (parts_of e.call)
  where
    by : (o : Option SendParts) → (elim o as (λ _. List SentMsg) [ None ↦ [] | Some of ↦ sent_as e.answer e past of.hwnd of.message of.wparam of.lparam of.kind ]) ≡ []
    by None = refl
    by (Some of) = none_as e.answer e past of h

-- what a call that sends makes
pub makes_one : (e : Entry) (past : Past) (of : SendParts) → parts_of e.call ≡ Some of → sends_by e.call e past ≡ sent_as e.answer e past of.hwnd of.message of.wparam of.lparam of.kind
makes_one e past of h = by_parts e.call e past (Some of) h

find_here : (b : Bool) (x : SentMsg) (o p q : Option SentMsg) → o ≡ or_else p q → cond b (Some x) o ≡ or_else (cond b (Some x) p) q
find_here true x o p q h = refl
find_here false x o p q h = h

find_more : (test : SentMsg → Bool) (xs ys : List SentMsg) → find test (xs ++ ys) ≡ or_else (find test xs) (find test ys)
find_more test [] ys = refl
find_more test (x ∷ xs) ys = find_here (test x) x (find test (xs ++ ys)) (find test xs) (find test ys) (find_more test xs ys)

pub send-refused : (e : Entry) (past : Past) (s : ℕ) → is_refused e ≡ true → send (e ∷ past) s ≡ send past s
send-refused e past s h = ap (λ xs. find (λ x. eqb x.number s) xs) (sends-refused e past h)

-- a send is one that was there, or the one that the entry makes
pub send-next : (e : Entry) (past : Past) (s : ℕ) → is_refused e ≡ false → send (e ∷ past) s ≡ or_else (send past s) (find (λ x. eqb x.number s) (sends_by e.call e past))
send-next e past s h = ap (λ xs. find (λ x. eqb x.number s) xs) (sends-next e past h) ∙ find_more (λ x. eqb x.number s) (sends past) (sends_by e.call e past)

or_else-some : {A : Type 0} (o p : Option A) (a : A) → o ≡ Some a → or_else o p ≡ Some a
or_else-some None p a h = absurd cc
or_else-some (Some b) p a h = h

-- a send stays
pub send-stays : (e : Entry) (past : Past) (s : ℕ) (x : SentMsg) → send past s ≡ Some x → send (e ∷ past) s ≡ Some x
send-stays e past s x h = by (is_refused e) refl
  where
    by : (b : Bool) → is_refused e ≡ b → send (e ∷ past) s ≡ Some x
    by true r = send-refused e past s r ∙ h
    by false r = send-next e past s r ∙ or_else-some (send past s) (find (λ x. eqb x.number s) (sends_by e.call e past)) x h

-- ---- entering

pub is_entered-refused : (e : Entry) (past : Past) (s : ℕ) → is_refused e ≡ true → is_entered (e ∷ past) s ≡ is_entered past s
is_entered-refused e past s h = first_way (is_refused e) (is_entered past s) (elim (is_entered past s) as (λ c. Bool) [ true ↦ true | false ↦ enters e.answer s ]) h

-- a send is entered that was, or that the answer enters
pub is_entered-next : (e : Entry) (past : Past) (s : ℕ) → is_refused e ≡ false → is_entered (e ∷ past) s ≡ (is_entered past s || enters e.answer s)
is_entered-next e past s h = ever-next (λ (e : Entry) (before : Past). enters e.answer s) e past h

pub is_entered-same : (e : Entry) (past : Past) (s : ℕ) → enters e.answer s ≡ false → is_entered (e ∷ past) s ≡ is_entered past s
is_entered-same e past s h = ever-same (λ (e : Entry) (before : Past). enters e.answer s) e past h

-- ---- answers of sends

first_pick : {A : Type 0} (b : Bool) (rest o : Option A) → (elim b as (λ c. Option A) [ true ↦ rest | false ↦ elim rest as (λ c. Option A) [ Some a ↦ Some a | None ↦ o ] ]) ≡ or_else rest (elim b as (λ c. Option A) [ true ↦ None | false ↦ o ])
first_pick true None o = refl
first_pick true (Some a) o = refl
first_pick false None o = refl
first_pick false (Some a) o = refl

-- the first entry that says something is one before this, or this one
pub first_of-next : {A : Type 0} (says : Entry → Past → Option A) (e : Entry) (past : Past) → first_of says (e ∷ past) ≡ or_else (first_of says past) (unless_refused e (says e past))
first_of-next says e past = first_pick (is_refused e) (first_of says past) (says e past)

or_else-none : {A : Type 0} (o : Option A) → or_else o None ≡ o
or_else-none None = refl
or_else-none (Some a) = refl

pub answer-refused : (e : Entry) (past : Past) (s : ℕ) → is_refused e ≡ true → answer (e ∷ past) s ≡ answer past s
answer-refused e past s h = first_of-next (λ (e : Entry) (before : Past). answers e before s) e past ∙ ap (λ o. or_else (answer past s) o) (first_way (is_refused e) None (answers e past s) h) ∙ or_else-none (answer past s)

-- the answer of a send is the one that it had, or the one that this entry gives
pub answer-next : (e : Entry) (past : Past) (s : ℕ) → is_refused e ≡ false → answer (e ∷ past) s ≡ or_else (answer past s) (answers e past s)
answer-next e past s h = first_of-next (λ (e : Entry) (before : Past). answers e before s) e past ∙ ap (λ o. or_else (answer past s) o) (other_way (is_refused e) None (answers e past s) h)

-- an answer stays
pub answer-stays : (e : Entry) (past : Past) (s : ℕ) (o : Outcome) → answer past s ≡ Some o → answer (e ∷ past) s ≡ Some o
answer-stays e past s o h = first_of-next (λ (e : Entry) (before : Past). answers e before s) e past ∙ or_else-some (answer past s) (unless_refused e (answers e past s)) o h

some_or : {A : Type 0} (o p : Option A) → is_some (or_else o p) ≡ (is_some o || is_some p)
some_or None p = refl
some_or (Some x) p = refl

pub is_answered-next : (e : Entry) (past : Past) (s : ℕ) → is_refused e ≡ false → is_answered (e ∷ past) s ≡ (is_answered past s || is_some (answers e past s))
is_answered-next e past s h = ap (λ (o : Option Outcome). is_some o) (answer-next e past s h) ∙ some_or (answer past s) (answers e past s)

pub is_answered-refused : (e : Entry) (past : Past) (s : ℕ) → is_refused e ≡ true → is_answered (e ∷ past) s ≡ is_answered past s
is_answered-refused e past s h = ap (λ (o : Option Outcome). is_some o) (answer-refused e past s h)

-- ---- what is ready

pub ready-refused : (e : Entry) (past : Past) (t : ℕ) → is_refused e ≡ true → ready (e ∷ past) t ≡ ready past t
ready-refused e past t h = first_way (is_refused e) (ready past t) (filter (λ r. not (departs t e past r)) (ready past t) ++ arrives t e past) h

-- what was ready and doesn't leave, and what arrives
pub ready-next : (e : Entry) (past : Past) (t : ℕ) → is_refused e ≡ false → ready (e ∷ past) t ≡ filter (λ r. not (departs t e past r)) (ready past t) ++ arrives t e past
ready-next e past t h = standing-next (arrives t) (departs t) e past h
