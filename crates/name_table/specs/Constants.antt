-- The constants that have names.
use Rattle.std.specs.Prelude.{ℕ, List, [], ◌∷◌}
use lib.Chars.{codes}
use Rattle.name_table.specs.Rows.{Named, row}

-- each with its ordinal
abbrev pub constant_rows : List Named
constant_rows =
    row (codes "WS_CHILD") 0 ∷
    row (codes "WS_POPUP") 1 ∷
    row (codes "WS_VISIBLE") 2 ∷
    row (codes "WS_DISABLED") 3 ∷
    row (codes "WS_EX_TOPMOST") 4 ∷
    row (codes "HWND_TOP") 5 ∷
    row (codes "HWND_BOTTOM") 6 ∷
    row (codes "HWND_TOPMOST") 7 ∷
    row (codes "HWND_NOTOPMOST") 8 ∷
    row (codes "SWP_NOSIZE") 9 ∷
    row (codes "SWP_NOMOVE") 10 ∷
    row (codes "SWP_NOZORDER") 11 ∷
    row (codes "SWP_NOACTIVATE") 12 ∷
    row (codes "SWP_SHOWWINDOW") 13 ∷
    row (codes "SWP_HIDEWINDOW") 14 ∷
    row (codes "SWP_NOCOPYBITS") 15 ∷
    row (codes "PM_NOREMOVE") 16 ∷
    row (codes "PM_REMOVE") 17 ∷
    row (codes "PM_NOYIELD") 18 ∷
    row (codes "SMTO_NORMAL") 19 ∷
    row (codes "SMTO_BLOCK") 20 ∷
    row (codes "WA_INACTIVE") 21 ∷
    row (codes "WA_ACTIVE") 22 ∷
    row (codes "WA_CLICKACTIVE") 23 ∷
    row (codes "QS_KEY") 24 ∷
    row (codes "QS_MOUSEMOVE") 25 ∷
    row (codes "QS_MOUSEBUTTON") 26 ∷
    row (codes "QS_POSTMESSAGE") 27 ∷
    row (codes "QS_TIMER") 28 ∷
    row (codes "QS_PAINT") 29 ∷
    row (codes "QS_SENDMESSAGE") 30 ∷ []

-- the value of each, by its ordinal
abbrev pub constant_values : List ℕ
constant_values =
    1073741824 ∷
    2147483648 ∷
    268435456 ∷
    134217728 ∷
    8 ∷
    0 ∷
    1 ∷
    18446744073709551615 ∷
    18446744073709551614 ∷
    1 ∷
    2 ∷
    4 ∷
    16 ∷
    64 ∷
    128 ∷
    256 ∷
    0 ∷
    1 ∷
    2 ∷
    0 ∷
    1 ∷
    0 ∷
    1 ∷
    2 ∷
    1 ∷
    2 ∷
    4 ∷
    8 ∷
    16 ∷
    32 ∷
    64 ∷ []
