-- The top-level windows as mending sees them.
use Rattle.std.specs.Prelude.{List, map}
use Rattle.win_order.specs.declared.top_level.TopLevel.{TopLevel}
use Rattle.win_order.specs.Standings.{top_level}
use Rattle.user_model.specs.Past.{Past}
use Rattle.user_model.specs.ZOrder.{siblings, standings}

-- the top-level windows from the bottom to the top, each with its owner and whether it is topmost, by its own flag or an owner's
abbrev pub top_levels : Past → List TopLevel
top_levels past = map (top_level (standings past)) (siblings past 0)
