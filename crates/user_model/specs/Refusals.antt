-- The codes of refusals, and the tests that calls share.
use Rattle.std.specs.Prelude.{ℕ, ◌==◌, nat_lt, Bool, true, false, not, ◌||◌, ℤ, pos, negsuc, ◌-ℤ◌, int_lt, bit_and}
use Rattle.win_num.specs.declared.code.Code.{Code}
use Rattle.win_num.specs.declared.code.Code.TheVariants.{Win}
use Rattle.user_model.specs.declared.entry.Answer.{Answer}
use Rattle.user_model.specs.declared.entry.Answer.TheVariants.{Refused}
use Rattle.user_model.specs.Past.{Past}
use Rattle.user_model.specs.Windows.{is_live, thread_of}

-- the window is another thread's
abbrev pub access_denied : Code
access_denied = Win 5

-- a number is out of its range, or the window isn't ready for the call
abbrev pub invalid_parameter : Code
invalid_parameter = Win 87

-- the stack has 64 frames
abbrev pub stack_overflow : Code
stack_overflow = Win 1001

-- no live window, or one that is marked
abbrev pub invalid_window_handle : Code
invalid_window_handle = Win 1400

-- a child without a parent
abbrev pub child_without_parent : Code
child_without_parent = Win 1406

-- a window of no class
abbrev pub cannot_find_class : Code
cannot_find_class = Win 1407

-- the class is there
abbrev pub class_already_exists : Code
class_already_exists = Win 1410

-- the class isn't there
abbrev pub class_does_not_exist : Code
class_does_not_exist = Win 1411

-- a live window has the class
abbrev pub class_has_windows : Code
class_has_windows = Win 1412

-- no thread, or one that has ended
abbrev pub invalid_thread_id : Code
invalid_thread_id = Win 1444

-- the queue of posted messages is full
abbrev pub not_enough_quota : Code
not_enough_quota = Win 1816

-- refused with the code where the test holds, else the answer
abbrev pub refuse : Bool → Code → Answer → Answer
refuse true code a = Refused code
refuse false code a = a

-- the answer where w is a live window
abbrev pub if_live : Past → ℕ → Answer → Answer
if_live past w a = refuse (not (is_live past w)) invalid_window_handle a

-- the answer where w is a live window of the caller
abbrev pub if_own : Past → ℕ → ℕ → Answer → Answer
if_own past who w a = if_live past w (refuse (not (thread_of past w == who)) access_denied a)

-- numbers of messages fit in 16 bits
abbrev pub is_no_message : ℕ → Bool
is_no_message number = nat_lt 65535 number

-- whether a left or top edge is too far away
abbrev pub is_outside : ℤ → Bool
is_outside z = int_lt z (negsuc 4095) || int_lt (pos 4096) z

-- whether the edges are no rectangle of a window
abbrev pub is_no_rect : ℤ → ℤ → ℤ → ℤ → Bool
is_no_rect l t r b = is_outside l || (is_outside t || (int_lt r l || (int_lt b t || (int_lt (pos 4096) (r -ℤ l) || int_lt (pos 4096) (b -ℤ t)))))

-- whether the flags have a bit beyond these
abbrev pub has_beyond : ℕ → ℕ → Bool
has_beyond flags allowed = not (bit_and flags allowed == flags)
