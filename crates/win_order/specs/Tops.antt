-- The numbers of the windows that are topmost, kept beside what is known of each window.
use Rattle.std.specs.Prelude.{◌≡◌, if◌then◌else◌, ℕ, ◌||◌, nat_eq, List}
use Rattle.std.specs.List.{list_any}
use Rattle.indexmap.specs.IndexSet.{insert_key}
use Rattle.win_order.specs.declared.standings.Known.{Known}
use Rattle.win_order.specs.Standing.{Standing}
use Rattle.win_order.specs.Standings.{is_topmost}

-- these are the windows that are topmost, by their own flag or by that of an owner up the chain
pub record AreTopmost (ks : List ℕ) (ss : List Standing) : Type 0 where
  pub each : (w : ℕ) → list_any (nat_eq w) ks ≡ is_topmost ss w

-- the numbers, with that of a new window if it is topmost or its owner is among them
abbrev pub marked : List ℕ → ℕ → Known → List ℕ
marked ks w k = if k.topmost || list_any (nat_eq k.owner.0) ks then insert_key nat_eq ks w else ks
