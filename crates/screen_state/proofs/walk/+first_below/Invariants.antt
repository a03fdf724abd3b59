use Rattle.std.proofs.Common.{◌≡◌, ◌-◌, take, reverse}
use Rattle.user_model.specs.declared.entry.Setup.{Setup}
use Rattle.user_model.specs.Past.{Past}
use Rattle.window_state.specs.Orders.{IsOrderAt}
use Rattle.screen_state.specs.Walks.{first_painted, IsSeen}
use Rattle.screen_state.proofs.Walking.{walked}
use Rattle.screen_state.proofs.walk.+first_below.Given as goal

abbrev pub decreases-first_below : goal.decreases-first_below
decreases-first_below l = l.depth

-- what is found below the window is what is found among the siblings that are left
abbrev pub invariant-loop-i : goal.invariant-loop-i
invariant-loop-i l = (setup : Setup) (past : Past) → IsSeen setup past l.tree l.dirty → IsOrderAt past l.order → walked setup past l.asked.thread.0 l.asked.filter (l.depth - 1) (reverse (take l.i l.siblings)) ≡ first_painted setup past l.asked.thread.0 l.asked.filter l.depth l.fn.w.0
