-- The counts of sends follow the past.
use Rattle.std.proofs.Common.{◌≡◌, ℕ, ◌<◌, ◌≤◌, ◌^◌, Bool, true, false, List, ◌∷◌, length, map, Option, refl, ap, ◌∙◌, sym, subst, arith}
use Rattle.std.specs.Prelude.{count_by}
use Rattle.std.proofs.lemmas.Bool.{false≢true}
use Rattle.std.proofs.lemmas.List.Sums.{count_by-le-length}
use Rattle.win_num.specs.declared.message.Thread.{Thread}
use Rattle.win_num.specs.declared.send.Cause.{Cause}
use Rattle.win_num.specs.declared.send.Cause.TheVariants as causes
use Rattle.win_rows.specs.declared.window.Window.{Window as KeptWindow}
use Rattle.win_rows.specs.Windows.{Windows}
use Rattle.user_model.specs.declared.call.Call.{Call}
use Rattle.user_model.specs.declared.call.Call.TheVariants as calls
use Rattle.user_model.specs.declared.entry.Answer.{Answer}
use Rattle.user_model.specs.declared.entry.Answer.TheVariants as answers
use Rattle.user_model.specs.declared.entry.Entry.{Entry}
use Rattle.user_model.specs.declared.entry.Setup.{Setup}
use Rattle.user_model.specs.Past.{Past, is_full, is_refusal, is_refused, place_after}
use Rattle.user_model.specs.Places.{is_end}
use Rattle.user_model.specs.Windows.{drops_window, live}
use Rattle.user_model.specs.Sends.{SentMsg, answer, is_entered, is_one, is_timed_out, sends}
use Rattle.user_model.specs.Counts.{has_cause}
use Rattle.user_model.specs.Idle.{reply}
use Rattle.user_model.specs.Legal.{IsLawful}
use Rattle.user_model.proofs.ReplyLaws.{by_call}
use Rattle.user_model.proofs.WindowReplies.{drop_okay}
use Rattle.send_state.specs.declared.tally.Tally.{Tally}
use Rattle.send_state.specs.Parts.{SendParts, lost_count}
use Rattle.send_state.specs.Standing.{PartsStand}
use Rattle.send_state.specs.Tallies.{FitsNaming, FitsTally, first_cause, tallied, tally_at}
use Rattle.send_state.proofs.LostSends.{IsLosing, few-losses, losses}
use Rattle.send_state.proofs.Still.{is_drop, loses-none}
use Rattle.send_state.proofs.Tallies.{lost-counted, tally-kept, tally-lost, tally-refused}
use Rattle.send_state.proofs.Told.{runs}
use Rattle.send_state.proofs.ToldDropped.{losing-dropped}
use Rattle.send_state.proofs.ToldEnded.{losing-ended}
use Rattle.thread_queues.specs.Deliveries.{goes_with}
use Rattle.window_state.specs.Effects.{IsAddedBy}
use Rattle.core_state.specs.Sendings.{added_sends, is_of, losses_by}
use Rattle.window_state.specs.Trees.{as_made}
use Rattle.core_state.proofs.GoingWindows.{dropped_goes, ended_goes, ending_call}
use Rattle.core_state.proofs.SendNeeds.{done_fits}
use Rattle.core_state.proofs.SendNumbers.{sends_bound}
use Rattle.core_state.proofs.Threads.{in_book}

-- ---- what the naming of a first answer needs

one_told : (a : Answer) → is_one a ≡ true → is_refusal a ≡ false
one_told (answers.Value v) h = refl
one_told _ h = absurd (false≢true h)

over_fits : (setup : Setup) (past : Past) (p : SendParts) (ws : List KeptWindow) (who : Thread) (s : ℕ) (a : Answer) → IsLawful setup past → is_full past ≡ false → PartsStand setup past p → map as_made ws ≡ live past → a ≡ reply setup past who.0 (calls.Await s) → is_timed_out a ≡ true → s < 2 ^ 32
over_fits setup past p ws who s (answers.Done v c) lawful room h at right over = (done_fits setup past p ws who lawful room h at v c (calls.Await s) right).1
over_fits setup past p ws who s _ lawful room h at right over = absurd (false≢true over)

naming_by : (setup : Setup) (past : Past) (p : SendParts) (ws : List KeptWindow) (who : Thread) (a : Answer) (call : Call) → IsLawful setup past → is_full past ≡ false → PartsStand setup past p → map as_made ws ≡ live past → a ≡ reply setup past who.0 call → FitsNaming p who.0 a call
naming_by setup past p ws who a (calls.Reply r) lawful room h at right = λ one.
    in_book setup past p who.0 h (runs setup past who.0 (by_call setup past who.0 (calls.Reply r) a (sym right) refl (one_told a one)).running).0
naming_by setup past p ws who a (calls.Await s) lawful room h at right = over_fits setup past p ws who s a lawful room h at right
naming_by setup past p ws who a _ lawful room h at right = tt

pub naming_fits : (setup : Setup) (past : Past) (e : Entry) (p : SendParts) (ws : List KeptWindow) → IsLawful setup past → is_full past ≡ false → PartsStand setup past p → map as_made ws ≡ live past → e.answer ≡ reply setup past e.who.0 e.call → FitsNaming p e.who.0 e.answer e.call
naming_fits setup past e p ws lawful room h at right = naming_by setup past p ws e.who e.answer e.call lawful room h at right

-- ---- one entry more

module _ (setup : Setup) (past : Past) (e : Entry) (p : SendParts) (ws : List KeptWindow) (lawful : IsLawful setup (e ∷ past)) (h : PartsStand setup past p) (at : map as_made ws ≡ live past) where
  abbrev first : Option Cause
  first = first_cause p e.who.0 e.answer e.call

  abbrev Counts : ℕ → Type 0
  Counts lost = tally_at (e ∷ past) ≡ tallied e.answer first lost (tally_at past)

  -- the windows that go with a dropped one
  module _ (w : ℕ) (is_call : e.call ≡ calls.Drop w) (is : e.answer ≡ answers.Okay) where
    pub dropped : (v : ℕ) → goes_with ws w v ≡ drops_window e past v
    dropped v = dropped_goes past e ws w v at is_call is

    pub dropping : IsLosing past e
    dropping = losing-dropped setup past e p w (goes_with ws w) dropped lawful h is_call is

    dropped_losses : lost_count (goes_with ws w) p (place_after past) ≡ losses e past (length (sends past))
    dropped_losses = lost-counted setup past e p (goes_with ws w) lawful.0 dropping h dropped

    dropped_few : lost_count (goes_with ws w) p (place_after past) ≤ 1024
    dropped_few = subst (λ n. n ≤ 1024) (sym dropped_losses) (few-losses setup past e lawful.0 (length (sends past)))

    dropped_counts : Counts (lost_count (goes_with ws w) p (place_after past))
    dropped_counts = tally-lost setup past e lawful (ap (λ a. is_refusal a) is) p h dropping (lost_count (goes_with ws w) p (place_after past)) dropped_losses (ap (λ c. first_cause p e.who.0 e.answer c) is_call)

  -- the windows of a thread that ends
  module _ (is : e.answer ≡ answers.Ended) where
    pub owned : (v : ℕ) → is_of ws e.who.0 v ≡ drops_window e past v
    owned v = ended_goes setup past e ws v lawful at is

    pub ending : IsLosing past e
    ending = losing-ended setup past e p (is_of ws e.who.0) owned lawful h is

    ended_losses : lost_count (is_of ws e.who.0) p (place_after past) ≡ losses e past (length (sends past))
    ended_losses = lost-counted setup past e p (is_of ws e.who.0) lawful.0 ending h owned

    ended_few : lost_count (is_of ws e.who.0) p (place_after past) ≤ 1024
    ended_few = subst (λ n. n ≤ 1024) (sym ended_losses) (few-losses setup past e lawful.0 (length (sends past)))

    ended_counts : Counts (lost_count (is_of ws e.who.0) p (place_after past))
    ended_counts = tally-lost setup past e lawful (ap (λ a. is_refusal a) is) p h ending (lost_count (is_of ws e.who.0) p (place_after past)) ended_losses (ap (λ c. first_cause p e.who.0 e.answer c) (ending_call setup past e lawful is))

  -- no window goes
  kept_counts : is_refused e ≡ false → is_drop e.call ≡ false → is_end e.answer ≡ false → Counts 0
  kept_counts right stays lives = tally-kept setup past e lawful right p h (λ s. loses-none e past s stays lives)

  pub undropped : (a : Answer) (call : Call) → e.answer ≡ a → e.call ≡ call → is_refusal a ≡ false → (a ≡ answers.Okay → ⊥) → is_drop call ≡ false
  undropped a (calls.Drop w) is k fine other = absurd (other (drop_okay setup past e.who.0 w a (ap (reply setup past e.who.0) (sym k) ∙ sym lawful.1 ∙ is) fine))
  undropped a _ is k fine other = refl

  okay_counts : (call : Call) → e.call ≡ call → e.answer ≡ answers.Okay → Counts (losses_by ws (place_after past) e.who.0 answers.Okay call p)
  okay_counts (calls.Drop w) k is = dropped_counts w k is
  okay_counts call k is = kept_counts (ap (λ a. is_refusal a) is) (ap is_drop k) (ap is_end is)

  counts_by : (a : Answer) → e.answer ≡ a → Counts (losses_by ws (place_after past) e.who.0 a e.call p)
  counts_by (answers.Refused code) is = tally-refused past e p (ap (λ a. is_refusal a) is)
  counts_by answers.Okay is = okay_counts e.call refl is
  counts_by answers.Ended is = ended_counts is
  counts_by a is = kept_counts (ap (λ b. is_refusal b) is) (undropped a e.call is refl refl (λ clash. cc)) (ap is_end is)

  pub counts_after : Counts (losses_by ws (place_after past) e.who.0 e.answer e.call p)
  counts_after = counts_by e.answer refl

  okay_few : (call : Call) → e.call ≡ call → e.answer ≡ answers.Okay → losses_by ws (place_after past) e.who.0 answers.Okay call p ≤ 1024
  okay_few (calls.Drop w) k is = dropped_few w k is
  okay_few call k is = omega arith

  few_by : (a : Answer) → e.answer ≡ a → losses_by ws (place_after past) e.who.0 a e.call p ≤ 1024
  few_by answers.Okay is = okay_few e.call refl is
  few_by answers.Ended is = ended_few is
  few_by a is = omega arith

  pub losses_few : losses_by ws (place_after past) e.who.0 e.answer e.call p ≤ 1024
  losses_few = few_by e.answer refl

-- ---- the counts fit

pub tally_fits : (past : Past) (t : Tally) (lost : ℕ) → t ≡ tally_at past → length past ≤ 2097152 → lost ≤ 1024 → FitsTally t lost
tally_fits past t lost is short few = subst (λ (u : Tally). FitsTally u lost) (sym is) (record {
  entered = low (λ x. is_entered past x.number);
  by_proc = low (λ x. has_cause causes.Proc (answer past x.number));
  by_reply = low (λ x. has_cause causes.Reply (answer past x.number));
  by_loss = low (λ x. has_cause causes.Loss (answer past x.number));
  by_timeout = low (λ x. has_cause causes.Timeout (answer past x.number));
  few = omega (arith, few);
})
  where
    low : (f : SentMsg → Bool) → count_by f (sends past) < 2 ^ 31
    low f = omega (arith, count_by-le-length f (sends past), sends_bound past, short)

-- ---- what grows first loses nothing

pub grown_losses : (ws : List KeptWindow) (time place : ℕ) (who : Thread) (a : Answer) (call : Call) (p : SendParts) → losses_by ws place who.0 a call (added_sends ws time place who a call p) ≡ losses_by ws place who.0 a call p
grown_losses ws time place who (answers.Inside s n) call p = refl
grown_losses ws time place who (answers.Begun s) call p = refl
grown_losses ws time place who _ call p = refl

pub same_losses : (old new : Windows) (place who : ℕ) (a : Answer) (call : Call) (p : SendParts) → IsAddedBy who a call old new → losses_by new.live place who a call p ≡ losses_by old.live place who a call p
same_losses old new place who (answers.Window w) call p made = refl
same_losses old new place who a call p made = ap (λ (t : Windows). losses_by t.live place who a call p) made
