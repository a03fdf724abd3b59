-- The threads of a setup, which have the numbers from 1 on.
use Rattle.std.specs.Prelude.{ℕ, zero, suc, Bool, nat_le, not, ◌&&◌, if◌then◌else◌, List, [], ◌++◌, Option, Some, None}
use Rattle.user_model.specs.declared.entry.Setup.{Setup}
use Rattle.user_model.specs.Past.{Past, or_else}
use Rattle.user_model.specs.Places.{has_ended}

-- the least number from 1 to n that passes
abbrev pub lowest : (ℕ → Bool) → ℕ → Option ℕ
lowest test zero = None
lowest test (suc n) = or_else (lowest test n) (if test (suc n) then Some (suc n) else None)

-- what each number from 1 to n gives, in order
abbrev pub from_each : {A : Type 0} → (ℕ → List A) → ℕ → List A
from_each gives zero = []
from_each gives (suc n) = from_each gives n ++ gives (suc n)

-- whether t is the number of a thread
abbrev pub is_thread : Setup → ℕ → Bool
is_thread setup t = nat_le 1 t && nat_le t setup.threads

-- whether t is a thread that hasn't ended
abbrev pub is_running : Setup → Past → ℕ → Bool
is_running setup past t = is_thread setup t && not (has_ended past t)
