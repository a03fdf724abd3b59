-- Mouse and keyboard input from its injection until a thread takes it.
use Rattle.std.specs.Prelude.{if◌then◌else◌, ℕ, ◌==◌, Bool, true, false, not, ◌||◌, List, [], ◌∷◌, ◌++◌, filter, Option, Some, None}
use Rattle.win_num.specs.declared.shapes.Point.{Point}
use Rattle.win_num.specs.declared.names.TheConstants.{WM_KEYDOWN, WM_KEYUP, WM_MOUSEMOVE}
use Rattle.user_model.specs.declared.call.Call.{Call}
use Rattle.user_model.specs.declared.call.Call.TheVariants.{Mouse, Key}
use Rattle.user_model.specs.declared.entry.Entry.{Entry}
use Rattle.user_model.specs.declared.entry.Setup.{Setup}
use Rattle.user_model.specs.declared.entry.Answer.{Answer}
use Rattle.user_model.specs.declared.entry.Answer.TheVariants.{Input as InputMade}
use Rattle.user_model.specs.Past.{Past, is_refused, place_after, each_of}
use Rattle.user_model.specs.Places.{clock, cursor, has_ended, ends_thread}
use Rattle.user_model.specs.Windows.{thread_of}
use Rattle.user_model.specs.Pixels.{point, owner}
use Rattle.user_model.specs.Retrievals.{is_number, takes_input}
use Rattle.user_model.specs.Groups.{is_in_group}
use Rattle.user_model.specs.Focus.{capture, value_of, foreground}

-- what a call injects: a message of the mouse at a pixel, or of a key
pub data Injection : Type 0 where
  of_mouse : (message : ℕ) (pixel : Point) → Injection
  of_key : (message key : ℕ) → Injection

-- the message of a key that goes down (1) or up
abbrev pub key_message : ℕ → ℕ
key_message down = if down == 1 then WM_KEYDOWN else WM_KEYUP

-- what this call injects
abbrev pub injection : Call → Option Injection
injection (Mouse number x y) = Some (of_mouse number (point x y))
injection (Key down key) = Some (of_key (key_message down) key)
injection _ = None

-- its message
abbrev pub message_in : Injection → ℕ
message_in (of_mouse number p) = number
message_in (of_key number key) = number

-- its key, or 0
abbrev pub key_in : Injection → ℕ
key_in (of_mouse number p) = 0
key_in (of_key number key) = key

-- where the cursor is then
abbrev pub point_in : Past → Injection → Point
point_in before (of_mouse number p) = p
point_in before (of_key number key) = cursor before

-- w, or for 0 the other window
abbrev pub or_window : ℕ → ℕ → ℕ
or_window w v = if w == 0 then v else w

-- the thread of the foreground group's capture, or without one that of the window that owns the pixel
abbrev pub mouse_home : Setup → Past → Point → ℕ
mouse_home setup past p = thread_of past (or_window (value_of past (foreground past) capture) (owner setup past p).0)

-- t where it hasn't ended, else 0
abbrev pub if_lives : Past → ℕ → ℕ
if_lives past t = if has_ended past t then 0 else t

-- the thread that an injection is meant for, or 0: for a key the foreground thread
abbrev pub home_of : Setup → Past → Injection → ℕ
home_of setup past (of_mouse number p) = if_lives past (mouse_home setup past p)
home_of setup past (of_key number key) = if_lives past (foreground past)

-- an input that was injected: its number, the thread that it was meant for, its message, the key or 0 for the mouse, the cursor and
-- the clock then, and the place at which it came
pub record Element : Type 0 where
  pub number : ℕ
  pub home : ℕ
  pub message : ℕ
  pub key : ℕ
  pub point : Point
  pub time : ℕ
  pub place : ℕ

-- what is injected after this past, under its number
abbrev pub element_after : Setup → Past → ℕ → Injection → Element
element_after setup before k i = record { number = k; home = home_of setup before i; message = message_in i; key = key_in i; point = point_in before i; time = clock before; place = place_after before }

-- the same of what a call may inject
abbrev pub elements_by : Setup → Past → ℕ → Option Injection → List Element
elements_by setup before k None = []
elements_by setup before k (Some i) = element_after setup before k i ∷ []

-- the last of a list
abbrev pub last_element : List Element → Option Element
last_element [] = None
last_element (x ∷ []) = Some x
last_element (x ∷ y ∷ xs) = last_element (y ∷ xs)

-- those that were meant for threads of t's group
abbrev pub of_group : Past → ℕ → List Element → List Element
of_group past t xs = filter (λ x. is_in_group past t x.home) xs

-- the number of the element, where it is a move of the mouse
abbrev pub move_number : Option Element → Option ℕ
move_number None = None
move_number (Some x) = if x.message == WM_MOUSEMOVE then Some x.number else None

-- the number of the element that an injection replaces: a move replaces a move that is the last of the group it is meant for
abbrev pub replaced_by : Setup → Past → List Element → Option Injection → Option ℕ
replaced_by setup before xs None = None
replaced_by setup before xs (Some i) = if message_in i == WM_MOUSEMOVE then move_number (last_element (of_group before (home_of setup before i) xs)) else None

-- the elements that an entry adds
abbrev pub injects : Setup → Answer → Call → Past → List Element
injects setup (InputMade k) call before = elements_by setup before k (injection call)
injects setup _ call before = []

-- the number of the element that it replaces
abbrev pub replaces : Setup → Answer → Call → Past → List Element → Option ℕ
replaces setup (InputMade k) call before xs = replaced_by setup before xs (injection call)
replaces setup _ call before xs = None

-- an element ends where a retrieval takes it, its home ends or a move replaces it
abbrev pub ends_element : Setup → Entry → Past → List Element → Element → Bool
ends_element setup e before xs x = takes_input e x.number || ends_thread e x.home || is_number (replaces setup e.answer e.call before xs) x.number

-- the elements after an entry, from those before it
abbrev pub still_untaken : Setup → Entry → Past → List Element → List Element
still_untaken setup e before xs = filter (λ x. not (ends_element setup e before xs x)) xs ++ injects setup e.answer e.call before

-- the elements that were injected and that nothing ended, in order
abbrev pub untaken : Setup → Past → List Element
untaken setup [] = []
untaken setup (e ∷ past) = elim (is_refused e) [ true ↦ untaken setup past | false ↦ still_untaken setup e past (untaken setup past) ]

-- those of t's group
abbrev pub untaken_of : Setup → Past → ℕ → List Element
untaken_of setup past t = of_group past t (untaken setup past)

-- the number that an answer gives an input
abbrev pub number_of_input : Answer → List ℕ
number_of_input (InputMade k) = k ∷ []
number_of_input _ = []

-- the numbers of all that was ever injected, in order
abbrev pub inputs : Past → List ℕ
inputs past = each_of (λ e before. number_of_input e.answer) past
