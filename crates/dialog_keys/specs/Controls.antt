-- The controls of a dialog, and which of them is next.
use Rattle.std.specs.Prelude.{◌≡◌, if◌then◌else◌, ℕ, ◌==◌, ◌&&◌, nat_lt, max, Bool, true, false, not, List, [], ◌∷◌, map, filter, Option, Some, None}
use Rattle.win_num.specs.declared.names.TheConstants.{WS_DISABLED, WS_VISIBLE}
use Rattle.user_model.specs.declared.entry.Entry.{Entry}
use Rattle.user_model.specs.Past.{Past, or_else}
use Rattle.user_model.specs.Windows.{Window, has_flag, live}
use Rattle.user_model.specs.Looks.{style_of}
use Rattle.user_model.specs.Idle.{least_with, least_of}

-- the greater of a number and one that there may be
abbrev pub greatest_with : ℕ → Option ℕ → ℕ
greatest_with n None = n
greatest_with n (Some m) = max n m

-- the greatest of the numbers, if there are any
abbrev pub greatest_of : List ℕ → Option ℕ
greatest_of [] = None
greatest_of (n ∷ ns) = Some (greatest_with n (greatest_of ns))

-- the first of some windows, forwards the one of least number and backwards that of greatest
abbrev pub foremost : Bool → List ℕ → Option ℕ
foremost true ws = least_of ws
foremost false ws = greatest_of ws

-- the first of a window and of one that there may be
abbrev pub first_with : Bool → ℕ → Option ℕ → ℕ
first_with true w o = least_with w o
first_with false w o = greatest_with w o

-- whether w comes behind the focus f, forwards or backwards
abbrev pub is_behind : Bool → ℕ → ℕ → Bool
is_behind forwards f w = if forwards then nat_lt f w else nat_lt w f

-- the windows that come behind the focus f
abbrev pub those_behind : Bool → ℕ → List ℕ → List ℕ
those_behind forwards f ws = filter (is_behind forwards f) ws

-- the windows other than the focus f
abbrev pub others : ℕ → List ℕ → List ℕ
others f ws = filter (λ w. not (w == f)) ws

-- the next control, where these are open: the first behind the focus, else the first of all others; forwards that is the one of least number above the focus, else the one of least number, and backwards the one of greatest number below the focus, else the one of greatest number
abbrev pub next_control : Bool → ℕ → List ℕ → Option ℕ
next_control forwards f ws = or_else (foremost forwards (those_behind forwards f ws)) (foremost forwards (others f ws))

-- a child of a dialog with its style bits
pub record Control : Type 0 where
  pub number : ℕ
  pub style : ℕ

-- whether a control of that style is open to the focus: it has WS_VISIBLE and not WS_DISABLED
abbrev pub is_open : ℕ → Bool
is_open style = has_flag style WS_VISIBLE && not (has_flag style WS_DISABLED)

-- a window as it stands
abbrev pub control : Past → Window → Control
control past x = record { number = x.number; style = style_of past x.number }

-- the live children of a dialog as they stand, by rising number
abbrev pub controls : Past → ℕ → List Control
controls past dialog = map (control past) (filter (λ x. x.parent == dialog) (live past))

-- the numbers of those that are open
abbrev pub open_of : List Control → List ℕ
open_of cs = map (λ (c : Control). c.number) (filter (λ (c : Control). is_open c.style) cs)

-- the live children of a dialog that have WS_VISIBLE and not WS_DISABLED
abbrev pub open_controls : Past → ℕ → List ℕ
open_controls past dialog = open_of (controls past dialog)

-- the entry leaves the children of the dialog and their styles as they are
abbrev pub KeepsControls : ℕ → Entry → Past → Type 0
KeepsControls dialog e past = controls (e ∷ past) dialog ≡ controls past dialog
