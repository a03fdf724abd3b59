-- What is asked of the state for the status of a queue.
use Rattle.std.specs.Prelude.{◌≡◌, ℕ, ◌+◌, Bool, true, false}
use Rattle.win_num.specs.declared.names.TheConstants.{QS_KEY, QS_MOUSEBUTTON, QS_MOUSEMOVE, QS_PAINT, QS_POSTMESSAGE, QS_SENDMESSAGE, QS_TIMER}
use Rattle.user_model.specs.declared.entry.Setup.{Setup}
use Rattle.user_model.specs.Past.{Past}
use Rattle.user_model.specs.Places.{clock}
use Rattle.user_model.specs.Legal.{IsLawful}
use Rattle.user_model.specs.Since.{IsTail, has_due_after}
use Rattle.user_model.specs.Status.{bit_where, has_timer, is_move, is_of_button, is_of_key}
use Rattle.core_state.specs.declared.kinds.Found.{Found}
use Rattle.core_state.specs.declared.kinds.InputKind.{InputKind}
use Rattle.core_state.specs.declared.kinds.InputKind.TheVariants.{Button, Key, Move}
use Rattle.queue_status.specs.declared.count.Count.{Count}
use Rattle.queue_status.specs.Counts.{one_more}
use Rattle.look_state.specs.Looks.{IsLookAt, LookView}

-- whether a message is of a kind
abbrev pub is_of_kind : InputKind → ℕ → Bool
is_of_kind Key = is_of_key
is_of_kind Move = is_move
is_of_kind Button = is_of_button

-- the bits of what there is
abbrev pub bits_of : Found → ℕ
bits_of f = bit_where f.key QS_KEY + bit_where f.moved QS_MOUSEMOVE + bit_where f.button QS_MOUSEBUTTON + bit_where f.posted QS_POSTMESSAGE + bit_where f.timer QS_TIMER + bit_where f.paint QS_PAINT + bit_where f.sent QS_SENDMESSAGE

-- one of a kind comes, where there is what it stands for
abbrev pub one_where : Bool → Count → Count
one_where true c = one_more true c
one_where false c = c

-- what is kept is what there was for t at an earlier past of a lawful one, and tells which due timers came since
pub record IsBefore (setup : Setup) (past look : Past) (t : ℕ) (k : LookView) : Type 0 where
  pub lawful : IsLawful setup past
  pub tail : IsTail look past
  pub kept : IsLookAt setup look t k
  pub timers : has_timer past t look ≡ has_due_after past t (clock look)
