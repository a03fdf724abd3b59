use Rattle.std.proofs.Common.{◌≡◌, map, take}
use Rattle.std.specs.List.{All}
use Rattle.screen_owners.specs.Owners.{owned_window, IsOwned}
use Rattle.screen_owners.specs.Shares.{share_window}
use Rattle.screen_owners.proofs.owners.owners_of.Given as goal

abbrev pub invariant-loop-share : goal.invariant-loop-share
invariant-loop-share l = record {
  windows : map owned_window l.entries.items ≡ map share_window (take l.share-index l.shares);
  owned : All (IsOwned l.tree.live l.order l.part) l.entries.items;
}
