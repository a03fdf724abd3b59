-- A lawful drop of windows: the parts stand on.
use Rattle.std.proofs.Common.{◌≡◌, ℕ, Bool, false, eqb, ◌∷◌, map as each, Option, Some, None, refl, ap, ◌∙◌, sym}
use Rattle.std.specs.Prelude.{◌&&◌}
use Rattle.user_model.specs.declared.call.Call.TheVariants.{Drop}
use Rattle.user_model.specs.declared.entry.Entry.{Entry}
use Rattle.user_model.specs.declared.entry.Setup.{Setup}
use Rattle.user_model.specs.declared.entry.Answer.TheVariants as answers
use Rattle.user_model.specs.Past.{Past, is_refused, place_after}
use Rattle.user_model.specs.Places.{is_end}
use Rattle.user_model.specs.Windows.{drops_window}
use Rattle.user_model.specs.Stacks.{stacked}
use Rattle.user_model.specs.Sends.{SentMsg, answers_in, calls_back, enters, send}
use Rattle.user_model.specs.Legal.{IsLawful}
use Rattle.user_model.proofs.SendLaws.{is_sent, makes_none}
use Rattle.user_model.proofs.SendLawful.{lawful_standing}
use Rattle.user_model.proofs.SendStanding.{Standing}
use Rattle.send_state.specs.Parts.{SendParts, lost, lost_to, rank}
use Rattle.send_state.specs.Standing.{PartsStand, item_as, known_of}
use Rattle.send_state.proofs.Still.{is_owed-same}
use Rattle.send_state.proofs.LostSends.{IsLosing, LostTo, few-losses, lost-stands, mid_of}
use Rattle.send_state.proofs.AfterLosses.{below-after, book-after, mid-later, ready-running}

module _ (setup : Setup) (past : Past) (e : Entry) (p : SendParts) (w : ℕ) (test : ℕ → Bool) (same : (v : ℕ) → test v ≡ drops_window e past v) (lawful : IsLawful setup (e ∷ past)) (h : PartsStand setup past p) (is_call : e.call ≡ Drop w) (is : e.answer ≡ answers.Okay) where
  standing : Standing setup past
  standing = lawful_standing setup past lawful.0

  running : is_end e.answer ≡ false
  running = ap is_end is

  pub losing-dropped : IsLosing past e
  losing-dropped = record {
    right = ap (λ a. is_refused (record e { answer = a })) is;
    none_made = makes_none e past (ap is_sent is);
    tells_none = λ q. ap (λ c. answers_in c e past q) is_call;
    keeps_frames = λ l. ap (λ a. stacked e.call a l) is;
    enters_none = λ q. ap (λ a. enters a q) is;
    hands_none = λ q. ap (λ a. calls_back a q) is;
  }

  later : (o : Option SentMsg) → mid_of e past o ≡ known_of (e ∷ past) o
  later None = refl
  later (Some x) = mid-later setup past e standing losing-dropped p h x (is_owed-same e past x running (ap (λ a. calls_back a x.number) is))

  -- the sends to the windows that go are lost
  pub told-dropped : PartsStand setup (e ∷ past) (lost test p (place_after past))
  told-dropped =
      let at : LostTo setup past e p p.book.begun (lost_to test (p, rank (place_after past) 0) p.book.begun) = lost-stands setup past e lawful.0 standing losing-dropped p h test same p.book.begun in
      let few = few-losses setup past e lawful.0 p.book.begun in
      record {
        book = book-after setup past e standing losing-dropped p h (lost test p (place_after past)).book at.begun at.stacks (λ s low. at.known_low s low ∙ later (send past s)) at.known_high;
        lists = record {
          threads = at.threads;
          ready = λ t ours. at.ready t ours ∙ sym (ap (each item_as) (ready-running setup past e standing losing-dropped p h t (ap (λ b. b && eqb e.who.0 t) running)));
          below = below-after setup past e standing losing-dropped p h (lost_to test (p, rank (place_after past) 0) p.book.begun) at few;
          sound = at.sound;
        };
      }
