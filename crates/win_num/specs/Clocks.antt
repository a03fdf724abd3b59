-- How late the clock can be.
use Rattle.std.specs.Prelude.{ℕ, ◌^◌}

-- the clock stays below this, in milliseconds: a history has at most 2,097,152 entries, and each moves it by at most 4,294,967,295
abbrev pub clock_limit : ℕ
clock_limit = 2 ^ 54
