-- What is kept beside a list that is written anew, so that its windows are found at once.
use Rattle.std.specs.Prelude.{◌≡◌, ℕ, false, nat_eq, List, []}
use Rattle.std.specs.List.{list_any}
use Rattle.win_order.specs.declared.top_level.TopLevel.{TopLevel}
use Rattle.win_order.specs.Mending.{has, owned_by}

-- the marked numbers are those of the written windows, and held windows wait for awaited owners alone
pub record IsMarked (written held : List TopLevel) (marked awaited : List ℕ) : Type 0 where
  pub are_written : (o : ℕ) → list_any (nat_eq o) marked ≡ has o written
  pub wait : (o : ℕ) → list_any (nat_eq o) awaited ≡ false → owned_by o held ≡ []
