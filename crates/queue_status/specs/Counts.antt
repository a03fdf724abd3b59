-- What comes and goes of one kind of messages, and what is there.
use Rattle.std.specs.Prelude.{◌+◌, ◌-◌, ◌<◌, nat_lt, Bool, true, false}
use Rattle.queue_status.specs.declared.count.Count.{Count}

-- no message of a kind
abbrev pub none_there : Count
none_there = record { there = 0; fresh = 0 }

-- one comes, one of the fresh or another
abbrev pub one_more : Bool → Count → Count
one_more true c = record { there = c.there + 1; fresh = c.fresh + 1 }
one_more false c = record c { there = c.there + 1 }

-- one goes, one of the fresh or another
abbrev pub one_less : Bool → Count → Count
one_less true c = record { there = c.there - 1; fresh = c.fresh - 1 }
one_less false c = record c { there = c.there - 1 }

-- none is fresh any more
abbrev pub none_fresh : Count → Count
none_fresh c = record c { fresh = 0 }

-- there is one of the fresh, or another, that may go
abbrev pub MayGo : Bool → Count → Type 0
MayGo true c = 0 < c.fresh
MayGo false c = c.fresh < c.there

-- whether one is there
abbrev pub is_there : Count → Bool
is_there c = nat_lt 0 c.there

-- whether one came since the last look
abbrev pub is_fresh : Count → Bool
is_fresh c = nat_lt 0 c.fresh
