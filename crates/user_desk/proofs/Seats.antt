-- What a turn of the lock says of a seat of a desk.
use Rattle.std.proofs.Common.{◌≡◌, ◌⊎◌, inl, inr, ℕ, ◌+◌, Bool, true, false, cond, eqb, List, [], ◌∷◌, ◌++◌, length, map, refl, sym, ap, ◌∙◌, subst, arith}
use Rattle.std.specs.Prelude.{◌<◌, Option, Some, None, Result, Ok, Err, IfOk, MatchOption, All}
use Rattle.std.specs.declared.alloc.AllocError.{AllocError}
use Rattle.std.proofs.lemmas.List.{append-nil, length-reverse, reverse-append}
use Rattle.std.proofs.lemmas.List.Elements.{filter-append, All-nil, All-head, All-tail, All-push, All-same, All-weaker}
use Rattle.win_num.specs.declared.message.Thread.{Thread}
use Rattle.win_num.specs.declared.code.Code.TheVariants.{Full}
use Rattle.user_model.specs.declared.call.Call.{Call}
use Rattle.user_model.specs.declared.entry.Answer.{Answer}
use Rattle.user_model.specs.declared.entry.Answer.TheVariants.{Refused}
use Rattle.user_model.specs.declared.entry.Setup.{Setup}
use Rattle.user_model.specs.Past.{Past, is_full}
use Rattle.user_model.specs.Places.{mine as entries_of}
use Rattle.user_model.specs.Idle.{reply, is_barred}
use Rattle.user_model.specs.Legal.{IsLawful}
use Rattle.user_model.specs.Machines.{entry_of}
use Rattle.user_model.specs.Tellers.{HasGrown}
use Rattle.turn_lock.specs.Seats.{Lock, Sitting, Looks, Adds, Finds, Settles}
use Rattle.turn_lock.specs.Histories.{Begins, calls_of}
use Rattle.user_desk.specs.Journal.{Said, entry, past_of, said_in, actor, is_full_of, is_barred_after, reply_after, IsLegalLog}
use Rattle.user_desk.specs.Beginnings.{past-append}
use Rattle.user_desk.specs.Desks.{thread, seen_by, made_by, told_of, HasLooked, HasMade, HasFoundFull, CameTo, TurnCameTo, HasClosed}
use Rattle.user_desk.proofs.Logs.{past-said, legal_past}

-- the whole past where this log follows the opening
pub whole : (opening : Past) (log : List Said) → past_of (said_in opening ++ log) ≡ past_of log ++ opening
whole opening log = past-append (said_in opening) log ∙ ap (λ (l : Past). past_of log ++ l) (past-said opening)

-- what was seen later stands in front
pub grown : (early late : List Said) → Begins early late → HasGrown (past_of early) (past_of late)
grown early late begins = (past_of begins.0, ap past_of (sym begins.1) ∙ past-append early begins.0)

-- one more that is said comes to the front
pub past-first : (x : Said) (log : List Said) → past_of (x ∷ log) ≡ past_of log ++ entry x ∷ []
past-first x log = reverse-append (entry x ∷ []) (map entry log)

own_step : (k : ℕ) (x : Said) (log : List Said) (b : Bool) → entries_of (past_of log) k ≡ past_of (calls_of actor k log) → entries_of (past_of log) k ++ cond b (entry x ∷ []) [] ≡ past_of (cond b (x ∷ calls_of actor k log) (calls_of actor k log))
own_step k x log true own = ap (λ (l : Past). l ++ entry x ∷ []) own ∙ sym (past-first x (calls_of actor k log))
own_step k x log false own = append-nil (entries_of (past_of log) k) ∙ own

-- the entries of an actor are its calls
pub own_entries : (k : ℕ) (log : List Said) → entries_of (past_of log) k ≡ past_of (calls_of actor k log)
own_entries k [] = refl
own_entries k (x ∷ log) =
    ap (λ (l : Past). entries_of l k) (past-first x log) ∙ filter-append (λ e. eqb e.who.0 k) (past_of log) (entry x ∷ []) ∙ own_step k x log (eqb (actor x.0) k) (own_entries k log)

-- the seat has looked
pub looked : {S : Type 0} (setup : Setup) (opening : Past) (old new : Sitting S (Thread × Call) Answer) → new.looks ≡ old.looks + 1 → Begins old.seen new.seen → IsLegalLog setup (said_in opening ++ new.seen)
    → calls_of actor new.number new.seen ≡ new.mine → HasLooked setup opening old new
looked setup opening old new looks begins legal own = record {
  looks = looks;
  seen = grown old.seen new.seen begins;
  lawful = subst (IsLawful setup) (whole opening new.seen) legal.1;
  short = let n = length-reverse (map entry (said_in opening ++ new.seen)) in let m = ap (λ (l : Past). length l) (whole opening new.seen) in omega (arith, n, m, legal.0);
  own = own_entries new.number new.seen ∙ ap past_of own;
}

-- a call made its entry
pub made : {S : Type 0} (setup : Setup) (opening : Past) (old new : Sitting S (Thread × Call) Answer) (call : Call) (answer : Answer) (before : List Said) → HasLooked setup opening old new → Begins old.seen before → is_full_of (said_in opening ++ before) ≡ false
    → new.seen ≡ before ++ ((thread new.number, call), answer) ∷ [] → new.mine ≡ old.mine ++ ((thread new.number, call), answer) ∷ [] → HasMade setup opening old new call answer
made setup opening old new call answer before has begins room seen mine = record {
  since = past_of before;
  before = grown old.seen before begins;
  room = ap is_full (sym (whole opening before)) ∙ room;
  is_reply = (subst (λ (l : Past). IsLawful setup (l ++ opening)) newest has.lawful).1;
  seen = newest;
  made = ap past_of mine ∙ past-append old.mine _;
}
  where
    newest : seen_by new ≡ entry_of (thread new.number) call answer ∷ past_of before
    newest = ap past_of seen ∙ past-append before _

-- a full history answers that it is full
pub refused_full : (setup : Setup) (past : Past) (who : ℕ) (call : Call) → is_full past ≡ true → reply setup past who call ≡ Refused Full
unfolding reply
refused_full setup past who call full = rw full refl

-- a call found the history full
pub found_full : {S : Type 0} (setup : Setup) (opening : Past) (old new : Sitting S (Thread × Call) Answer) (call : Call) (answer : Answer) → is_full_of (said_in opening ++ new.seen) ≡ true → answer ≡ reply_after setup (said_in opening ++ new.seen) (thread new.number, call) → new.mine ≡ old.mine
    → HasFoundFull opening old new answer
found_full setup opening old new call answer full is mine = record { full = ap is_full (sym (whole opening new.seen)) ∙ full; is_refusal = is ∙ refused_full setup (past_of (said_in opening ++ new.seen)) new.number call full; made = ap past_of mine }

module _ {S : Type 0} (setup : S → Setup) (past : S → Past) (o : S) where
  -- a turn of the lock is a look
  pub has_looked : (old new : Sitting S (Thread × Call) Answer) → Looks (λ s. said_in (past s)) setup IsLegalLog actor o old new → HasLooked (setup o) (past o) old new
  has_looked old new looks = looked (setup o) (past o) old new looks.0 looks.1 looks.2 looks.3

  -- what a call of the lock came to
  pub came_to : (old new : Sitting S (Thread × Call) Answer) (who : Thread) (call : Call) → who ≡ thread new.number → (answer : Answer) → HasLooked (setup o) (past o) old new
      → Adds (λ s. said_in (past s)) setup (λ g h. is_full_of h ≡ false) o old new ((who, call), answer)
      ⊎ Finds (λ s. said_in (past s)) setup (λ g h. (is_full_of h ≡ true) × (answer ≡ reply_after g h (who, call))) o old new
      → CameTo (setup o) (past o) old new call answer
  came_to old new who call is answer has (inl adds) = inl (made (setup o) (past o) old new call answer adds.0 has adds.1 adds.2 (adds.3 ∙ ap (λ w. adds.0 ++ ((w, call), answer) ∷ []) is) (adds.4 ∙ ap (λ w. old.mine ++ ((w, call), answer) ∷ []) is))
  came_to old new who call is answer has (inr finds) =
      inr (found_full (setup o) (past o) old new call answer finds.0.0 (finds.0.1 ∙ ap (λ w. reply_after (setup o) (said_in (past o) ++ new.seen) (w, call)) is) finds.1)

  -- and where there is an answer
  pub if_came_to : (old new : Sitting S (Thread × Call) Answer) (who : Thread) (call : Call) → who ≡ thread new.number → HasLooked (setup o) (past o) old new → (r : Result Answer AllocError)
      → IfOk r (λ answer. Adds (λ s. said_in (past s)) setup (λ g h. is_full_of h ≡ false) o old new ((who, call), answer)
      ⊎ Finds (λ s. said_in (past s)) setup (λ g h. (is_full_of h ≡ true) × (answer ≡ reply_after g h (who, call))) o old new)
      → IfOk r (λ answer. CameTo (setup o) (past o) old new call answer)
  if_came_to old new who call is has (Ok answer) did = came_to old new who call is answer has did
  if_came_to old new who call is has (Err e) did = tt

  -- what a turn of the lock came to, whose call was made or not
  pub turn_came_to : (old new : Sitting S (Thread × Call) Answer) (who : Thread) (call : Call) → who ≡ thread new.number → HasLooked (setup o) (past o) old new → (r : Option Answer)
      → MatchOption r
      (Finds (λ s. said_in (past s)) setup (λ g h. is_barred_after g h (who, call) ≡ true) o old new)
      (λ a. Adds (λ s. said_in (past s)) setup (λ g h. (is_full_of h ≡ false) × (is_barred_after g h (who, call) ≡ false)) o old new ((who, call), a)
      ⊎ Finds (λ s. said_in (past s)) setup (λ g h. (is_full_of h ≡ true) × (is_barred_after g h (who, call) ≡ false) × (a ≡ reply_after g h (who, call))) o old new)
      → TurnCameTo (setup o) (past o) old new call (told_of r)
  unfolding made
  turn_came_to old new who call is has None finds = (ap (λ (p : Past). is_barred (setup o) p new.number) (sym (whole (past o) new.seen)) ∙ ap (λ (w : Thread). is_barred_after (setup o) (said_in (past o) ++ new.seen) (w, call)) (sym is) ∙ finds.0, ap past_of finds.1)
  turn_came_to old new who call is has (Some a) (inl adds) =
      inl (
        made (setup o) (past o) old new call a adds.0 has adds.1 adds.2.0 (adds.3 ∙ ap (λ w. adds.0 ++ ((w, call), a) ∷ []) is) (adds.4 ∙ ap (λ w. old.mine ++ ((w, call), a) ∷ []) is),
        ap (λ (p : Past). is_barred (setup o) p new.number) (sym (whole (past o) adds.0)) ∙ ap (λ (w : Thread). is_barred_after (setup o) (said_in (past o) ++ adds.0) (w, call)) (sym is) ∙ adds.2.1,
      )
  turn_came_to old new who call is has (Some a) (inr finds) =
      inr (
        found_full (setup o) (past o) old new call a finds.0.0 (finds.0.2 ∙ ap (λ w. reply_after (setup o) (said_in (past o) ++ new.seen) (w, call)) is) finds.1,
        ap (λ (p : Past). is_barred (setup o) p new.number) (sym (whole (past o) new.seen)) ∙ ap (λ (w : Thread). is_barred_after (setup o) (said_in (past o) ++ new.seen) (w, call)) (sym is) ∙ finds.0.1,
      )

-- the actors of a log are those of its past
pub all_known : (count : ℕ) (log : List Said) → All (λ x. actor x.0 < count) log → All (λ e. e.who.0 < count) (past_of log)
all_known count [] known = All-nil (λ e. e.who.0 < count)
all_known count (x ∷ log) known =
    All-same (λ e. e.who.0 < count) (past_of (x ∷ log)) (past_of log ++ entry x ∷ []) (past-first x log)
    (All-push (λ e. e.who.0 < count) (past_of log) (entry x) (all_known count log (All-tail (λ x. actor x.0 < count) x log known)) (All-head (λ x. actor x.0 < count) x log known))

-- what comes out of a lock is what comes out of a desk
pub closed : {S : Type 0} (setup : S → Setup) (past : S → Past) (lock : Lock S) (seats : List (Sitting S (Thread × Call) Answer)) (s : S) → Settles (λ s. said_in (past s)) setup IsLegalLog actor lock seats s
    → HasClosed (setup lock.opening) (past lock.opening) lock.seats seats (setup s) (past s)
closed setup past lock seats s ends =
    let legal = legal_past (setup s) (past s) ends.1 in
    let log = ends.2.0 in record {
      setup_stays = ends.0;
      lawful = legal.1;
      short = legal.0;
      since = past_of log;
      whole = sym (past-said (past s)) ∙ ap past_of ends.2.1 ∙ whole (past lock.opening) log;
      seen = All-weaker (λ seat. Begins seat.seen log × (calls_of actor seat.number log ≡ seat.mine)) (λ seat. HasGrown (seen_by seat) (past_of log)) (λ seat has. grown seat.seen log has.0) seats ends.2.2;
      own = All-weaker (λ seat. Begins seat.seen log × (calls_of actor seat.number log ≡ seat.mine)) (λ seat. entries_of (past_of log) seat.number ≡ made_by seat) (λ seat has. own_entries seat.number log ∙ ap past_of has.1) seats ends.2.2;
      known = all_known lock.seats log ends.2.3;
    }
