-- A call that waited waits no more where its actor isn't barred.
use Rattle.std.proofs.Common.{◌≡◌, ◌≢◌, inl, inr, ℕ, ◌+◌, Bool, true, false, cond, eqb, eq-eqb, not, [], ◌∷◌, ◌++◌, Option, Some, None, refl, sym, ap, ◌∙◌, subst, arith}
use Rattle.std.specs.Prelude.{if◌then◌else◌, ◌||◌}
use Rattle.std.proofs.lemmas.Bool.{false≢true}
use Rattle.std.proofs.lemmas.List.{append_assoc}
use Rattle.std.proofs.lemmas.List.Elements.{filter-append}
use Rattle.win_num.specs.declared.message.Thread.{Thread}
use Rattle.win_num.specs.declared.code.Code.{Code}
use Rattle.win_num.specs.declared.code.Code.TheVariants.{Full}
use Rattle.user_model.specs.declared.call.Call.{Call}
use Rattle.user_model.specs.declared.call.Call.TheVariants.{Tick, Advance}
use Rattle.user_model.specs.declared.entry.Answer.{Answer}
use Rattle.user_model.specs.declared.entry.Answer.TheVariants.{Wait, Value}
use Rattle.user_model.specs.declared.entry.Entry.{Entry}
use Rattle.user_model.specs.declared.entry.Setup.{Setup}
use Rattle.user_model.specs.declared.teller.Told.{Told}
use Rattle.user_model.specs.declared.teller.Told.TheVariants.{Answered, Barred}
use Rattle.user_model.specs.Past.{Past, is_full, first}
use Rattle.user_model.specs.Places.{mine as entries_of, has_ended, clock}
use Rattle.user_model.specs.Refusals.{refuse}
use Rattle.user_model.specs.Idle.{reply, is_barred, is_idle, is_quiet, have_all_ended, ends_stuck, is_wait, still_waits, last_entry, clock_row, advanced, busy_or, first_busy, soonest}
use Rattle.user_model.specs.Replies.{thread_reply}
use Rattle.user_model.specs.Machines.{entry_of}
use Rattle.turn_lock.specs.Seats.{Sitting}
use Rattle.user_desk.specs.Desks.{thread, seen_by, made_by, HasLooked, HasMade, WasFree, CameTo, TurnCameTo, CameToAtLast, Remembers}

refused_so : (b : Bool) (code : Code) (a : Answer) → is_wait a ≡ false → is_wait (refuse b code a) ≡ false
refused_so true code a goes = refl
refused_so false code a goes = goes

busy_so : (o : Option ℕ) (a : Answer) → is_wait a ≡ false → is_wait (busy_or o a) ≡ false
busy_so None a goes = goes
busy_so (Some t) a goes = refl

advanced_so : (o : Option ℕ) → is_wait (advanced o) ≡ false
advanced_so None = refl
advanced_so (Some time) = refl

-- the clock never waits
clock_goes_on : (setup : Setup) (past : Past) (call : Call) → is_wait (clock_row setup past call) ≡ false
clock_goes_on setup past (Tick ms) = refused_so _ _ (Value (clock past + ms)) refl
clock_goes_on setup past Advance = busy_so (first_busy setup past) (advanced (soonest setup past)) (advanced_so (soonest setup past))
clock_goes_on setup past _ = refl

alive : (b w : Bool) → (if b then true else w) ≡ false → w ≡ false
alive true w is = absurd (false≢true (sym is))
alive false w is = is

-- a thread that isn't idle and whose last entry waited would not wait with that call now
goes_on : (setup : Setup) (past : Past) (t : ℕ) (e : Entry) → last_entry past t ≡ Some e → is_wait e.answer ≡ true → is_full past ≡ false → is_idle setup past t ≡ false → is_wait (thread_reply setup past t e.call) ≡ false
goes_on setup past t e last waited room free =
    let now = is_wait (refuse (is_full past) Full (thread_reply setup past t e.call)) in
    let still : still_waits setup past t (Some e) ≡ false = ap (still_waits setup past t) (sym last) ∙ alive (has_ended past t) (still_waits setup past t (last_entry past t)) free in
    let waits : now ≡ false = ap (λ (b : Bool). if b then now else false) (sym waited) ∙ still in
    ap (λ (b : Bool). is_wait (refuse b Full (thread_reply setup past t e.call))) (sym room) ∙ waits

no_more_wait : (setup : Setup) (past : Past) (who : ℕ) (e : Entry) (zero : Bool) → eqb who 0 ≡ zero → last_entry past who ≡ Some e → is_wait e.answer ≡ true → is_full past ≡ false → is_barred setup past who ≡ false → is_wait (reply setup past who e.call) ≡ false
unfolding reply is_barred
no_more_wait setup past who e true is last waited room free =
    ap (λ (b : Bool). is_wait (refuse b Full (if eqb who 0 then clock_row setup past e.call else thread_reply setup past who e.call))) room ∙ ap (λ (b : Bool). is_wait (if b then clock_row setup past e.call else thread_reply setup past who e.call)) is ∙ clock_goes_on setup past e.call
no_more_wait setup past who e false is last waited room free =
    let bars = not (is_quiet setup past) || have_all_ended setup past || ends_stuck past in
    let idle : is_idle setup past who ≡ false = ap (λ (b : Bool). if b then bars else is_idle setup past who) (sym is) ∙ free in
    ap (λ (b : Bool). is_wait (refuse b Full (if eqb who 0 then clock_row setup past e.call else thread_reply setup past who e.call))) room ∙ ap (λ (b : Bool). is_wait (if b then clock_row setup past e.call else thread_reply setup past who e.call)) is
    ∙ goes_on setup past who e last waited room idle

abbrev rest : Past → Past
rest [] = []
rest (e ∷ past) = past

-- the entries of the actor before its newest one are those that it had made
own_before : (n : ℕ) (call : Call) (answer : Answer) (since made : Past) → entries_of (entry_of (thread n) call answer ∷ since) n ≡ entry_of (thread n) call answer ∷ made → entries_of since n ≡ made
own_before n call answer since made own =
    let e = entry_of (thread n) call answer in
    ap rest (ap (λ (b : Bool). cond b (e ∷ entries_of since n) (entries_of since n)) (sym (eq-eqb n n refl)) ∙ own)

module _ {S : Type 0} where
  -- a call whose seat waited with it, and which was then made, waits no more
  pub waits_no_more : (setup : Setup) (opening : Past) (old new : Sitting S (Thread × Call) Answer) (call : Call) (answer : Answer) (before : Past) → entries_of (seen_by new) new.number ≡ made_by new → made_by old ≡ entry_of (thread new.number) call Wait ∷ before
      → (made : HasMade setup opening old new call answer) → WasFree setup opening new.number made.since → answer ≢ Wait
  waits_no_more setup opening old new call answer before own waited made free = λ is. false≢true (sym (answered is))
    where
      n : ℕ
      n = new.number

      since : Past
      since = made.since

      wait : Entry
      wait = entry_of (thread n) call Wait

      mine : entries_of since n ≡ wait ∷ before
      mine = own_before n call answer since (made_by old) (ap (λ (l : Past). entries_of l n) (sym made.seen) ∙ own ∙ made.made) ∙ waited

      last : last_entry (since ++ opening) n ≡ Some wait
      last = ap first (filter-append (λ e. eqb e.who.0 n) since opening ∙ ap (λ (l : Past). l ++ entries_of opening n) mine)

      answered : answer ≡ Wait → true ≡ false
      answered is = ap is_wait (sym is) ∙ ap is_wait made.is_reply ∙ no_more_wait setup (since ++ opening) n wait (eqb n 0) refl last refl made.room free

  -- the seat that has looked remembers
  pub remembers_first : (setup : Setup) (opening : Past) (old new : Sitting S (Thread × Call) Answer) → HasLooked setup opening old new → Remembers setup opening old new
  remembers_first setup opening old new looked = record { looks = omega (arith, looked.looks); seen = looked.seen; lawful = looked.lawful; short = looked.short; own = looked.own }

  -- a call that didn't wait at first was made at last
  pub at_first : (setup : Setup) (opening : Past) (old new : Sitting S (Thread × Call) Answer) (call : Call) (answer : Answer) → CameTo setup opening old new call answer → answer ≢ Wait → CameToAtLast setup opening old new call answer
  at_first setup opening old new call answer came goes = record { between = old; seen = ([], refl); waited = inl refl; came_to = came; no_wait = goes }

  -- the seat that remembers and looks once more remembers
  pub remembers_more : (setup : Setup) (opening : Past) (old mid new : Sitting S (Thread × Call) Answer) → Remembers setup opening old mid → HasLooked setup opening mid new → Remembers setup opening old new
  remembers_more setup opening old mid new has looked = record {
    looks = omega (arith, has.looks, looked.looks);
    seen = (looked.seen.0 ++ has.seen.0, looked.seen.1 ∙ ap (λ (l : Past). looked.seen.0 ++ l) has.seen.1 ∙ sym (append_assoc looked.seen.0 has.seen.0 (seen_by old)));
    lawful = looked.lawful;
    short = looked.short;
    own = looked.own;
  }

  -- the call of a seat that waited with it was made at last
  pub at_last : (setup : Setup) (opening : Past) (old mid new : Sitting S (Thread × Call) Answer) (call : Call) (told : Told) (answer : Answer) → Remembers setup opening old mid → mid.number ≡ old.number → made_by mid ≡ entry_of (thread old.number) call Wait ∷ made_by old
      → new.number ≡ mid.number → HasLooked setup opening mid new → told ≡ Answered answer → TurnCameTo setup opening mid new call told → CameToAtLast setup opening old new call answer
  at_last setup opening old mid new call told answer has same waited same_now looked is came = by_way (subst (TurnCameTo setup opening mid new call) is came)
    where
      waited_now : made_by mid ≡ entry_of (thread new.number) call Wait ∷ made_by old
      waited_now = waited ∙ ap (λ n. entry_of (thread n) call Wait ∷ made_by old) (sym (same_now ∙ same))

      by_way : TurnCameTo setup opening mid new call (Answered answer) → CameToAtLast setup opening old new call answer
      by_way (inl made) = record { between = mid; seen = has.seen; waited = inr waited; came_to = inl made.0; no_wait = waits_no_more setup opening mid new call answer (made_by old) looked.own waited_now made.0 made.1 }
      by_way (inr full) = record { between = mid; seen = has.seen; waited = inr waited; came_to = inr full.0; no_wait = λ e. false≢true (ap is_wait (sym full.0.is_refusal ∙ e)) }

  -- a seat whose actor was barred has made nothing
  pub barred_makes_nothing : (setup : Setup) (opening : Past) (old new : Sitting S (Thread × Call) Answer) (call : Call) (told : Told) → ((answer : Answer) → told ≢ Answered answer) → TurnCameTo setup opening old new call told → made_by new ≡ made_by old
  barred_makes_nothing setup opening old new call Barred none came = came.1
  barred_makes_nothing setup opening old new call (Answered answer) none came = absurd (none answer refl)
