-- The numbers of refusals.
use Rattle.std.specs.Prelude.{ℕ}
use Rattle.win_num.specs.declared.code.Code.{Code}
use Rattle.win_num.specs.declared.code.Code.TheVariants.{Win, Full, NotNow, NoTarget}

-- a Win32 error keeps its number, and this project's own codes come after them
abbrev pub number_of : Code → ℕ
number_of (Win n) = n
number_of Full = 60000
number_of NotNow = 60001
number_of NoTarget = 60002
