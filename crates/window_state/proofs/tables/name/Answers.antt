use Rattle.window_state.proofs.Outcomes.{answered}
use Rattle.window_state.proofs.tables.name.Goals as goal

pub fault_of-requires : goal.fault_of-requires
fault_of-requires c = answered c.register.result _ c.register.ensures.refused (rw c.in-Register.is at c.requires).0

pub fault_of-requires-in-Message : goal.fault_of-requires-in-Message
fault_of-requires-in-Message c = answered c.message_number.result _ c.message_number.ensures.refused (rw c.in-Message.is at c.requires)
