-- Threads of a setup, among those of a state.
use Rattle.std.proofs.Common.{◌≡◌, ℕ, ◌<◌, ◌≤◌, arith, subst, sym}
use Rattle.user_model.specs.declared.entry.Setup.{Setup}
use Rattle.user_model.specs.Past.{Past}
use Rattle.send_frames.specs.Book.{IsThread}
use Rattle.send_state.specs.Parts.{SendParts}
use Rattle.send_state.specs.Standing.{IsOurs, PartsStand}
use Rattle.core_state.specs.States.{Seen}

-- a thread of what is seen is one of the setup's
pub is_ours : (v : Seen) (setup : Setup) (past : Past) (t : ℕ) → {n : ℕ} → record { setup = setup; past = past; spare = n } ≡ v → 0 < t → t ≤ v.setup.threads → IsOurs setup t
is_ours v setup past t view some known =
    let here : t ≤ setup.threads = subst (λ (s : Seen). t ≤ s.setup.threads) (sym view) known in
    (omega (arith, some), here)

-- and has a stack
pub in_book : (setup : Setup) (past : Past) (p : SendParts) (t : ℕ) → PartsStand setup past p → IsOurs setup t → IsThread p.book t
in_book setup past p t h ours = (ours.0, omega (arith, ours.1, h.book.threads))
