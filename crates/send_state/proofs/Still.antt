-- Entries that say nothing of sends: what a past says of sends stays.
use Rattle.std.proofs.Common.{◌≡◌, ℕ, Bool, true, false, not, cond, eqb, List, [], ◌∷◌, ◌++◌, Option, Some, None, refl, ap, ◌∙◌, sym}
use Rattle.std.specs.Prelude.{◌&&◌, ◌||◌, filter, is_some, unwrap_or, option_map}
use Rattle.std.specs.List.{flat_map}
use Rattle.std.proofs.lemmas.Bool.{false≢true}
use Rattle.win_num.specs.declared.send.Cause.TheVariants.{Proc, Reply as ByReply, Loss, Timeout as ByTimeout}
use Rattle.user_model.specs.declared.call.Call.{Call}
use Rattle.user_model.specs.declared.call.Call.TheVariants.{Drop, Leave, Reply, Await}
use Rattle.user_model.specs.declared.entry.Entry.{Entry}
use Rattle.user_model.specs.declared.entry.Answer.{Answer}
use Rattle.user_model.specs.declared.entry.Answer.TheVariants as answers
use Rattle.user_model.specs.Past.{Past, is_refused, or_else, unless_refused}
use Rattle.user_model.specs.Places.{has_ended, is_end}
use Rattle.user_model.specs.Windows.{Window, live, window, drops, drops_kin, drops_window}
use Rattle.user_model.specs.Stacks.{top}
use Rattle.user_model.specs.Sends.{SentMsg, Outcome, outcome, sends, sends_by, send, answer, answers, answers_in, calls_back, enters, is_answered, is_callback_kind, is_entered, is_entered_frame, is_one, is_owed, is_stacked, is_timed_out, left_by, loses, was_called_back}
use Rattle.user_model.specs.Ready.{ReadyMsg, to_enter, to_call_back, arrives, begun, departs, is_answered_by, ready, result}
use Rattle.user_model.proofs.PastLaws.{either_way, ever-same, standing-same}
use Rattle.user_model.proofs.SendLaws.{first_of-next, is_sent, makes_none}
use Rattle.user_model.proofs.ThreadLaws.{has_ended-same}
use Rattle.send_state.specs.Standing.{as_told, known_at, known_of, row_of}

-- whether an answer neither makes, enters, answers nor hands on a send, and ends nothing; it may call a procedure
abbrev pub is_still : Answer → Bool
is_still (answers.Inside s proc_no) = false
is_still (answers.Begun s) = false
is_still (answers.Enter s proc_no w number wparam lparam) = false
is_still (answers.Callback s proc_no w number extra value) = false
is_still (answers.Left s) = false
is_still (answers.Done value cause) = false
is_still answers.Ended = false
is_still _ = true

abbrev pub is_drop : Call → Bool
is_drop (Drop w) = true
is_drop _ = false

-- whether the entry replies to a send
abbrev pub replies : Call → Answer → Bool
replies (Reply v) a = is_one a
replies _ a = false

-- an entry that says nothing of sends; it may push or keep frames
pub record IsStill (e : Entry) : Type 0 where
  pub answer : is_still e.answer ≡ true
  pub keeps_windows : is_drop e.call ≡ false
  pub answers_none : replies e.call e.answer ≡ false

-- ---- what a still answer doesn't say

pub sent-still : (a : Answer) → is_still a ≡ true → is_sent a ≡ false
sent-still (answers.Inside s proc_no) h = absurd (false≢true h)
sent-still (answers.Begun s) h = absurd (false≢true h)
sent-still _ h = refl

pub enters-still : (a : Answer) (s : ℕ) → is_still a ≡ true → enters a s ≡ false
enters-still (answers.Inside t proc_no) s h = absurd (false≢true h)
enters-still (answers.Enter t proc_no w number wparam lparam) s h = absurd (false≢true h)
enters-still _ s h = refl

pub calls_back-still : (a : Answer) (s : ℕ) → is_still a ≡ true → calls_back a s ≡ false
calls_back-still (answers.Callback t proc_no w number extra value) s h = absurd (false≢true h)
calls_back-still _ s h = refl

pub left_by-still : (a : Answer) (s : ℕ) → is_still a ≡ true → left_by a s ≡ false
left_by-still (answers.Left t) s h = absurd (false≢true h)
left_by-still (answers.Callback t proc_no w number extra value) s h = absurd (false≢true h)
left_by-still _ s h = refl

pub timed_out-still : (a : Answer) → is_still a ≡ true → is_timed_out a ≡ false
timed_out-still (answers.Done value cause) h = absurd (false≢true h)
timed_out-still _ h = refl

pub end-still : (a : Answer) → is_still a ≡ true → is_end a ≡ false
end-still answers.Ended h = absurd (false≢true h)
end-still _ h = refl

-- ---- windows that go

pub and-false : (b : Bool) → (b && false) ≡ false
and-false true = refl
and-false false = refl

drops_kin-none : (call : Call) (ws : List Window) (x : Window) → is_drop call ≡ false → drops_kin call ws x ≡ false
drops_kin-none (Drop w) ws x h = absurd (false≢true (sym h))
drops_kin-none _ ws x h = refl

pub drops-none : (e : Entry) (ws : List Window) (x : Window) → is_drop e.call ≡ false → is_end e.answer ≡ false → drops e ws x ≡ false
drops-none e ws x kept running = ap (λ b. b || (is_end e.answer && eqb e.who.0 x.thread)) (drops_kin-none e.call ws x kept) ∙ ap (λ b. b && eqb e.who.0 x.thread) running

pub drops_window-none : (e : Entry) (past : Past) (w : ℕ) → is_drop e.call ≡ false → is_end e.answer ≡ false → drops_window e past w ≡ false
drops_window-none e past w kept running = go (window past w)
  where
    go : (o : Option Window) → unwrap_or (option_map (drops e (live past)) o) false ≡ false
    go None = refl
    go (Some x) = drops-none e (live past) x kept running

pub loses-none : (e : Entry) (past : Past) (s : ℕ) → is_drop e.call ≡ false → is_end e.answer ≡ false → loses e past s ≡ false
loses-none e past s kept running = go (send past s)
  where
    go : (o : Option SentMsg) → (elim o as (λ _. Bool) [ Some x ↦ drops_window e past x.hwnd && not (is_entered past s) | None ↦ false ]) ≡ false
    go None = refl
    go (Some x) = ap (λ b. b && not (is_entered past s)) (drops_window-none e past x.hwnd kept running)

-- ---- answers

answers_in-still : (call : Call) (e : Entry) (past : Past) (s : ℕ) → is_still e.answer ≡ true → replies call e.answer ≡ false → answers_in call e past s ≡ None
answers_in-still (Leave v) e past s h r = ap (λ b. cond b (Some (outcome past v Proc)) None) (left_by-still e.answer s h)
answers_in-still (Reply v) e past s h r = ap (λ b. cond (b && is_entered_frame (top past e.who.0) s) (Some (outcome past v ByReply)) None) r
answers_in-still (Await t) e past s h r = ap (λ b. cond (b && eqb t s) (Some (outcome past 0 ByTimeout)) None) (timed_out-still e.answer h)
answers_in-still _ e past s h r = refl

pub answers-still : (e : Entry) (past : Past) (s : ℕ) → IsStill e → answers e past s ≡ None
answers-still e past s still =
    ap (λ b. cond b (Some (outcome past 0 Loss)) (answers_in e.call e past s)) (loses-none e past s still.keeps_windows (end-still e.answer still.answer))
    ∙ answers_in-still e.call e past s still.answer still.answers_none

or_none : {A : Type 0} (o : Option A) → or_else o None ≡ o
or_none None = refl
or_none (Some a) = refl

unless_none : (e : Entry) → unless_refused {A = Outcome} e None ≡ None
unless_none e = either_way (is_refused e) None None refl

-- an entry that gives a send no answer leaves its answer
pub answer-same : (e : Entry) (past : Past) (s : ℕ) → answers e past s ≡ None → answer (e ∷ past) s ≡ answer past s
answer-same e past s none =
    first_of-next (λ (e : Entry) (before : Past). answers e before s) e past
    ∙ ap (λ o. or_else (answer past s) o) (ap (unless_refused e) none ∙ unless_none e) ∙ or_none (answer past s)

-- ---- what is ready

pub filter_none : {X : Type 0} (test : X → Bool) → ((x : X) → test x ≡ false) → (xs : List X) → filter test xs ≡ []
filter_none test h [] = refl
filter_none test h (x ∷ xs) = ap (λ b. cond b (x ∷ filter test xs) (filter test xs)) (h x) ∙ filter_none test h xs

pub arrives-none : (t : ℕ) (e : Entry) (past : Past) → sends_by e.call e past ≡ [] → ((s : ℕ) → answers e past s ≡ None) → arrives t e past ≡ []
arrives-none t e past none_made none =
    let test : SentMsg → Bool = λ x. (eqb x.from t) && not (has_ended past t) && is_answered_by e past x in
    let fails : (x : SentMsg) → test x ≡ false = λ x. ap (λ (o : Option Outcome). (eqb x.from t) && not (has_ended past t) && (is_some o && not (is_answered past x.number))) (none x.number) ∙ and-false (eqb x.from t && not (has_ended past t)) in
    ap (λ l. flat_map begun (filter (λ (x : SentMsg). eqb x.to t) l) ++ flat_map (λ x. result past x) (filter test (sends past))) none_made
    ∙ ap (λ (l : List SentMsg). flat_map (λ x. result past x) l) (filter_none test fails (sends past))

pub departs-none : (t : ℕ) (e : Entry) (past : Past) (r : ReadyMsg) → is_end e.answer ≡ false → ((s : ℕ) → enters e.answer s ≡ false) → ((s : ℕ) → calls_back e.answer s ≡ false) → ((s : ℕ) → answers e past s ≡ None) → departs t e past r ≡ false
departs-none t e past (to_enter x) running enters_none hands none =
    ap (λ b. (b && eqb e.who.0 t) || (enters e.answer x.number || is_some (answers e past x.number))) running
    ∙ ap (λ b. b || is_some (answers e past x.number)) (enters_none x.number) ∙ ap (λ (o : Option Outcome). is_some o) (none x.number)
departs-none t e past (to_call_back x proc_no extra place) running enters_none hands none =
    ap (λ b. (b && eqb e.who.0 t) || (calls_back e.answer x.number && eqb e.who.0 x.from)) running ∙ ap (λ b. b && eqb e.who.0 x.from) (hands x.number)

pub ready-still : (e : Entry) (past : Past) (t : ℕ) → IsStill e → ready (e ∷ past) t ≡ ready past t
ready-still e past t still =
    standing-same (arrives t) (departs t) e past (arrives-none t e past (makes_none e past (sent-still e.answer still.answer)) (λ s. answers-still e past s still))
    (λ r. departs-none t e past r (end-still e.answer still.answer) (λ s. enters-still e.answer s still.answer) (λ s. calls_back-still e.answer s still.answer) (λ s. answers-still e past s still))

-- ---- what is known of a send

-- a send is owed as before, where nobody ends and its result isn't handed over
pub is_owed-same : (e : Entry) (past : Past) (x : SentMsg) → is_end e.answer ≡ false → calls_back e.answer x.number ≡ false → is_owed (e ∷ past) x ≡ is_owed past x
is_owed-same e past x running hands =
    ap (λ b. is_callback_kind x.kind && (not x.is_inside && (not b && not (was_called_back (e ∷ past) x)))) (has_ended-same e past x.from running)
    ∙ ap (λ b. is_callback_kind x.kind && (not x.is_inside && (not (has_ended past x.from) && not b)))
    (ever-same (λ (e : Entry) (before : Past). calls_back e.answer x.number && eqb e.who.0 x.from) e past (ap (λ b. b && eqb e.who.0 x.from) hands))

-- what is the same of a send at two pasts
pub record IsAlike (past later : Past) (x : SentMsg) : Type 0 where
  pub answer_same : answer later x.number ≡ answer past x.number
  pub stacked_same : is_stacked later x ≡ is_stacked past x
  pub owed_same : is_owed later x ≡ is_owed past x

pub known_of-alike : (past later : Past) (o : Option SentMsg) → ((x : SentMsg) → o ≡ Some x → IsAlike past later x) → known_of later o ≡ known_of past o
known_of-alike past later None alike = refl
known_of-alike past later (Some x) alike =
    let a = alike x refl in
    ap (λ (o : Option Outcome). cond (not (is_some o) || (is_stacked later x || is_owed later x)) (Some (record { row = row_of x; answer = option_map as_told o; owed = is_owed later x })) None) a.answer_same
    ∙ ap (λ b. cond (not (is_answered past x.number) || (b || is_owed later x)) (Some (record { row = row_of x; answer = option_map as_told (answer past x.number); owed = is_owed later x })) None) a.stacked_same
    ∙ ap (λ b. cond (not (is_answered past x.number) || (is_stacked past x || b)) (Some (record { row = row_of x; answer = option_map as_told (answer past x.number); owed = b })) None) a.owed_same

pub known_at-alike : (past later : Past) (s : ℕ) → send later s ≡ send past s → ((x : SentMsg) → send past s ≡ Some x → IsAlike past later x) → known_at later s ≡ known_at past s
known_at-alike past later s same alike = ap (known_of later) same ∙ known_of-alike past later (send past s) alike
