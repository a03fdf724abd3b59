-- Input as it is kept, and what the past says of it.
use Rattle.std.specs.Prelude.{if◌then◌else◌, ◌≡◌, ◌⊎◌, ◌<◌, ◌&&◌, ℕ, Bool, true}
use Rattle.win_num.specs.declared.message.Filter.{Filter}
use Rattle.win_num.specs.declared.message.Msg.{Msg}
use Rattle.win_num.specs.declared.message.Thread.{Thread}
use Rattle.win_num.specs.declared.shapes.Point.{Point}
use Rattle.win_num.specs.Numbers.{passes_range}
use Rattle.input_queue.specs.declared.element.Element.{Element as KeptElement}
use Rattle.user_model.specs.declared.entry.Setup.{Setup}
use Rattle.user_model.specs.Past.{Past}
use Rattle.user_model.specs.Threads.{is_thread}
use Rattle.user_model.specs.Windows.{is_live}
use Rattle.user_model.specs.Filters.{passes_window}
use Rattle.user_model.specs.Focus.{capture, foreground, value_of}
use Rattle.user_model.specs.Inputs.{Element, or_window}
use Rattle.user_model.specs.Pixels.{owner}
use Rattle.user_model.specs.Targets.{message_for, taker_at, target}

-- an element from what is kept of it, which is all but its place
abbrev pub element_of : KeptElement → Element
element_of x = record { number = x.number; home = x.home.0; message = x.message; key = x.key; point = x.point; time = x.time; place = 0 }

-- the window that it goes to; 0 where its home is no thread
abbrev pub target_in : Setup → Past → KeptElement → ℕ
target_in setup past x = if is_thread setup x.home.0 then target setup past (element_of x) else 0

-- the thread that takes it
abbrev pub taker_in : Setup → Past → KeptElement → Thread
taker_in setup past x = record { 0 = taker_at past (element_of x) (target_in setup past x) }

-- whether a filter lets it pass
abbrev pub passes_in : Setup → Past → Filter → KeptElement → Bool
passes_in setup past f x = passes_range f.min f.max x.message && passes_window past f.hwnd (target_in setup past x)

-- its message
abbrev pub handed_out : Setup → Past → KeptElement → Msg
handed_out setup past x = message_for past (element_of x) (target_in setup past x)

-- its number and its message
abbrev pub told_of : Setup → Past → KeptElement → ℕ × Msg
told_of setup past x = (x.number, handed_out setup past x)

-- the same of an element of the past
abbrev pub told_input : Setup → Past → Element → ℕ × Msg
told_input setup past x = (x.number, message_for past x (target setup past x))

-- the window that the mouse is over: the capture of the foreground thread's group, else the owner of the pixel
abbrev pub mouse_over : Setup → Past → Point → ℕ
mouse_over setup past p = or_window (value_of past (foreground past) capture) (owner setup past p).0

-- no window, or a live one
abbrev pub IsNoneOrLive : Past → ℕ → Type 0
IsNoneOrLive past w = (w ≡ 0) ⊎ (is_live past w ≡ true)

-- its home is a thread
pub record IsAtHome (setup : Setup) (x : Element) : Type 0 where
  pub thread : is_thread setup x.home ≡ true
  pub low : x.home < 16
