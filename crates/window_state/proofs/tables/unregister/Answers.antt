use Rattle.window_state.proofs.Outcomes.{done}
use Rattle.window_state.proofs.tables.unregister.Goals as goal

pub unwrap-requires : goal.unwrap-requires
unwrap-requires c = done c.unregister.result _ c.unregister.ensures.refused c.requires
