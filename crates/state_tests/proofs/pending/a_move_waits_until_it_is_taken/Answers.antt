use Rattle.pending_state.proofs.FirstInput.{fits_first}
use Rattle.state_tests.proofs.pending.a_move_waits_until_it_is_taken.Goals as goal

pub add_input-requires : goal.add_input-requires
add_input-requires g c = record { fits = fits_first _ c.new-inputs.ensures }
