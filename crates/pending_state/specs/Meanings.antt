-- What is handed in of an injection is what the past says.
use Rattle.std.specs.Prelude.{◌≡◌, ◌==◌, false, Some}
use Rattle.user_model.specs.declared.call.Call.{Call}
use Rattle.user_model.specs.declared.entry.Setup.{Setup}
use Rattle.user_model.specs.Past.{Past}
use Rattle.user_model.specs.Places.{clock, cursor}
use Rattle.user_model.specs.Inputs.{Injection, home_of, injection}
use Rattle.pending_state.specs.declared.changes.Meant.{Meant}
use Rattle.pending_state.specs.Pending.{IsGroupOf}

-- whom it is meant for, that one's group, the cursor and the clock
pub record IsMeantAt (setup : Setup) (past : Past) (i : Injection) (meant : Meant) : Type 0 where
  pub home : meant.home.0 ≡ home_of setup past i
  pub group : IsGroupOf past (home_of setup past i) meant.group
  pub cursor : meant.cursor ≡ cursor past
  pub time : meant.time ≡ clock past

-- the same of what a call injects, where it is meant for a thread
abbrev pub IsMeantBy : Setup → Past → Call → Meant → Type 0
IsMeantBy setup past call meant = (i : Injection) → injection call ≡ Some i → (home_of setup past i == 0) ≡ false → IsMeantAt setup past i meant
