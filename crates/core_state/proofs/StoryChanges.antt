-- The stories of sends follow the past.
use Rattle.std.proofs.Common.{◌≡◌, ℕ, false, List, ◌∷◌, map, refl, ap, ◌∙◌}
use Rattle.win_num.specs.declared.message.Thread.{Thread}
use Rattle.win_rows.specs.declared.window.Window.{Window as KeptWindow}
use Rattle.win_rows.specs.Windows.{Windows}
use Rattle.user_model.specs.declared.call.Call.{Call}
use Rattle.user_model.specs.declared.call.Call.TheVariants as calls
use Rattle.user_model.specs.declared.entry.Answer.{Answer}
use Rattle.user_model.specs.declared.entry.Answer.TheVariants as answers
use Rattle.user_model.specs.declared.entry.Entry.{Entry}
use Rattle.user_model.specs.declared.entry.Setup.{Setup}
use Rattle.user_model.specs.Past.{Past, is_refusal, is_refused, place_after}
use Rattle.user_model.specs.Places.{is_end}
use Rattle.user_model.specs.Windows.{live}
use Rattle.user_model.specs.Legal.{IsLawful}
use Rattle.user_model.proofs.SendLaws.{is_sent}
use Rattle.send_state.specs.Parts.{SendParts}
use Rattle.send_state.specs.Standing.{PartsStand}
use Rattle.send_state.specs.Stories.{EachStory, StoriesStand, noted_answer, with_begun}
use Rattle.send_state.specs.Tallies.{named_send}
use Rattle.user_model.specs.declared.story.SendStory.{SendStory}
use Rattle.send_state.proofs.Still.{is_drop, loses-none}
use Rattle.send_state.proofs.Stories.{stories-kept, stories-lost, stories-refused}
use Rattle.thread_queues.specs.Deliveries.{goes_with}
use Rattle.window_state.specs.Effects.{IsAddedBy}
use Rattle.core_state.specs.Sendings.{added_sends, is_of, noted_losses}
use Rattle.window_state.specs.Trees.{as_made}
use Rattle.core_state.proofs.GoingWindows.{ending_call}
use Rattle.core_state.proofs.SendCounts.{dropped, dropping, ending, owned, undropped}

module _ (setup : Setup) (past : Past) (e : Entry) (p : SendParts) (ws : List KeptWindow) (lawful : IsLawful setup (e ∷ past)) (h : PartsStand setup past p) (at : map as_made ws ≡ live past)
    (old mid new : List SendStory) (stands : StoriesStand past old) (noted : EachStory (noted_answer e.answer (named_send p e.who.0 e.answer e.call) (place_after past)) mid new) where
  -- no window goes
  kept : is_refused e ≡ false → is_drop e.call ≡ false → is_end e.answer ≡ false → EachStory (λ s x. x) (with_begun e.answer old) mid → StoriesStand (e ∷ past) new
  kept right stays lives none = stories-kept setup past e lawful p h old stands mid new right (λ s. loses-none e past s stays lives) none noted

  okay : (call : Call) → e.call ≡ call → e.answer ≡ answers.Okay → EachStory (noted_losses ws (place_after past) e.who.0 answers.Okay call p) (with_begun e.answer old) mid → StoriesStand (e ∷ past) new
  okay (calls.Drop w) k is lost =
      stories-lost setup past e lawful p h old stands mid new (goes_with ws w) (dropping setup past e p ws lawful h at w k is) (dropped setup past e p ws lawful h at w k is)
      (ap (named_send p e.who.0 e.answer) k) (ap is_sent is) lost noted
  okay call k is lost = kept (ap (λ a. is_refusal a) is) (ap is_drop k) (ap is_end is) lost

  by : (a : Answer) → e.answer ≡ a → EachStory (noted_losses ws (place_after past) e.who.0 a e.call p) (with_begun e.answer old) mid → StoriesStand (e ∷ past) new
  by (answers.Refused code) is none = stories-refused setup past e lawful p h old stands mid new (ap (λ a. is_refusal a) is) none noted
  by answers.Okay is lost = okay e.call refl is lost
  by answers.Ended is lost =
      stories-lost setup past e lawful p h old stands mid new (is_of ws e.who.0) (ending setup past e p ws lawful h at is) (owned setup past e p ws lawful h at is)
      (ap (named_send p e.who.0 e.answer) (ending_call setup past e lawful is)) (ap is_sent is) lost noted
  by a is none = kept (ap (λ b. is_refusal b) is) (undropped setup past e p ws lawful h at a e.call is refl refl (λ clash. cc)) (ap is_end is) none

  pub stories_after : EachStory (noted_losses ws (place_after past) e.who.0 e.answer e.call p) (with_begun e.answer old) mid → StoriesStand (e ∷ past) new
  stories_after lost = by e.answer refl lost

-- ---- what grows first loses nothing

grown_losses : (ws : List KeptWindow) (time place : ℕ) (who : Thread) (a : Answer) (call : Call) (p : SendParts) → noted_losses ws place who.0 a call (added_sends ws time place who a call p) ≡ noted_losses ws place who.0 a call p
grown_losses ws time place who (answers.Inside s n) call p = refl
grown_losses ws time place who (answers.Begun s) call p = refl
grown_losses ws time place who _ call p = refl

same_losses : (old new : Windows) (place who : ℕ) (a : Answer) (call : Call) (p : SendParts) → IsAddedBy who a call old new → noted_losses new.live place who a call p ≡ noted_losses old.live place who a call p
same_losses old new place who (answers.Window w) call p made = refl
same_losses old new place who a call p made = ap (λ (t : Windows). noted_losses t.live place who a call p) made

-- what is noted of the sends that are lost, after what grew
pub losses_noted : (e : Entry) (time place : ℕ) (old tree : Windows) (p sends : SendParts) → IsAddedBy e.who.0 e.answer e.call old tree → sends ≡ added_sends old.live time place e.who e.answer e.call p
    → noted_losses tree.live place e.who.0 e.answer e.call sends ≡ noted_losses old.live place e.who.0 e.answer e.call p
losses_noted e time place old tree p sends made begun =
    same_losses old tree place e.who.0 e.answer e.call sends made
    ∙ ap (noted_losses old.live place e.who.0 e.answer e.call) begun ∙ grown_losses old.live time place e.who e.answer e.call p
