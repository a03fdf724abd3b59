-- The count of the messages of a list.
use Rattle.std.specs.Prelude.{◌+◌, Bool, List, length}
use Rattle.std.specs.List.{count_by}
use Rattle.queue_status.specs.declared.count.Count.{Count}

-- how many there are in a list, and how many of them came since the last look
abbrev pub counted : {A : Type 0} → (A → Bool) → List A → Count
counted is_new xs = record { there = length xs; fresh = count_by is_new xs }

-- two counts taken as one
abbrev pub both : Count → Count → Count
both a b = record { there = a.there + b.there; fresh = a.fresh + b.fresh }
