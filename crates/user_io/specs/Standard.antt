-- What the adapters over std's reader and writer show to contracts.
use Rattle.std.specs.Prelude.{ℕ, List, Option}

-- what std's reader has left or its writer holds, where it tells that, and how many calls failed
pub record Adapted : Type 0 where
  pub known : Option (List ℕ)
  pub faults : ℕ
