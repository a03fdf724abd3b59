use Rattle.std.proofs.Common.{◌≡◌, [], ◌∷◌, ◌++◌, map, length, All, Some}
use Rattle.turn_lock.specs.Views.{member}
use Rattle.turn_lock.specs.Seats.{IsSeatOf, as_member}
use Rattle.turn_lock.specs.declared.view.Stage.TheVariants.{Away}
use Rattle.turn_lock.proofs.close.gather.Given as goal

abbrev pub invariant-loop-other : goal.invariant-loop-other
invariant-loop-other g l = let o = l.fn.top.key.state.value in
    (l.place.table_id ≡ l.fn.top.table_id) × (l.place.me.0.stage ≡ Away) × (l.place.me.1 ≡ []) × (l.place.me.0.opening ≡ Some o)
    × (map as_member l.fn.seats.items ≡ map as_member l.seats.items ++ (l.place.me.0.joined ++ member l.place.me.0 ∷ []))
    × All (IsSeatOf (record { table = l.fn.top.table_id; opening = o; seats = l.fn.top.key.seats })) l.seats.items

abbrev pub decreases-loop-other : goal.decreases-loop-other
decreases-loop-other g l = length l.seats.items
