-- The sends to windows that go are lost.
use Rattle.std.proofs.Common.{◌≡◌, ℕ, Bool, false, List, ◌∷◌, map}
use Rattle.win_rows.specs.declared.window.Window.{Window as KeptWindow}
use Rattle.user_model.specs.declared.call.Call.TheVariants as calls
use Rattle.user_model.specs.declared.entry.Answer.TheVariants as answers
use Rattle.user_model.specs.declared.entry.Entry.{Entry}
use Rattle.user_model.specs.declared.entry.Setup.{Setup}
use Rattle.user_model.specs.Past.{Past, is_full, place_after}
use Rattle.user_model.specs.Windows.{drops_window, live}
use Rattle.user_model.specs.Legal.{IsLawful}
use Rattle.user_model.proofs.SendLawful.{lawful_standing}
use Rattle.send_state.specs.Parts.{SendParts, ended, lost}
use Rattle.send_state.specs.Standing.{PartsStand}
use Rattle.send_state.proofs.LostSends.{IsLosing, can-lose-stands}
use Rattle.send_state.proofs.ToldDropped.{losing-dropped, told-dropped}
use Rattle.send_state.proofs.ToldEnded.{losing-ended, told-ended}
use Rattle.thread_queues.specs.Deliveries.{goes_with}
use Rattle.core_state.specs.Sendings.{FitsLosing, is_of}
use Rattle.window_state.specs.Trees.{as_made}
use Rattle.core_state.proofs.GoingWindows.{dropped_goes, ended_goes}
use Rattle.core_state.proofs.SendNumbers.{early}

-- ---- what the losses need

fits_losing : (setup : Setup) (past : Past) (e : Entry) (p : SendParts) (test : ℕ → Bool) → IsLawful setup past → is_full past ≡ false → PartsStand setup past p → IsLosing past e → ((w : ℕ) → test w ≡ drops_window e past w) → FitsLosing test p (place_after past)
fits_losing setup past e p test lawful room h losing same = record {
  early = early past room;
  joins = can-lose-stands setup past e lawful (lawful_standing setup past lawful) losing p h test same (early past room);
}

pub dropped_fits : (setup : Setup) (past : Past) (e : Entry) (p : SendParts) (ws : List KeptWindow) (w : ℕ) → IsLawful setup (e ∷ past) → is_full past ≡ false → PartsStand setup past p → map as_made ws ≡ live past → e.call ≡ calls.Drop w → e.answer ≡ answers.Okay → FitsLosing (goes_with ws w) p (place_after past)
dropped_fits setup past e p ws w lawful room h at is_call is =
    let same : (v : ℕ) → goes_with ws w v ≡ drops_window e past v = λ v. dropped_goes past e ws w v at is_call is in
    fits_losing setup past e p (goes_with ws w) lawful.0 room h (losing-dropped setup past e p w (goes_with ws w) same lawful h is_call is) same

pub ended_fits : (setup : Setup) (past : Past) (e : Entry) (p : SendParts) (ws : List KeptWindow) → IsLawful setup (e ∷ past) → is_full past ≡ false → PartsStand setup past p → map as_made ws ≡ live past → e.answer ≡ answers.Ended → FitsLosing (is_of ws e.who.0) p (place_after past)
ended_fits setup past e p ws lawful room h at is =
    let same : (v : ℕ) → is_of ws e.who.0 v ≡ drops_window e past v = λ v. ended_goes setup past e ws v lawful at is in
    fits_losing setup past e p (is_of ws e.who.0) lawful.0 room h (losing-ended setup past e p (is_of ws e.who.0) same lawful h is) same

-- ---- what they leave

-- the unentered sends to the windows that go with a dropped one are lost
pub dropped_stand : (setup : Setup) (past : Past) (e : Entry) (p : SendParts) (ws : List KeptWindow) (w : ℕ) → IsLawful setup (e ∷ past) → PartsStand setup past p → map as_made ws ≡ live past → e.call ≡ calls.Drop w → e.answer ≡ answers.Okay → PartsStand setup (e ∷ past) (lost (goes_with ws w) p (place_after past))
dropped_stand setup past e p ws w lawful h at is_call is = told-dropped setup past e p w (goes_with ws w) (λ v. dropped_goes past e ws w v at is_call is) lawful h is_call is

-- those to the windows of a thread that ends too, and nothing is ready for it
pub ended_stand : (setup : Setup) (past : Past) (e : Entry) (p : SendParts) (ws : List KeptWindow) → IsLawful setup (e ∷ past) → PartsStand setup past p → map as_made ws ≡ live past → e.answer ≡ answers.Ended → PartsStand setup (e ∷ past) (ended (lost (is_of ws e.who.0) p (place_after past)) e.who.0)
ended_stand setup past e p ws lawful h at is = told-ended setup past e p (is_of ws e.who.0) (λ v. ended_goes setup past e ws v lawful at is) lawful h is
