-- The messages that have names.
use Rattle.std.specs.Prelude.{List, [], ◌∷◌}
use lib.Chars.{codes}
use Rattle.name_table.specs.Rows.{Named, row}

-- each with its number
abbrev pub message_rows : List Named
message_rows =
    row (codes "WM_NULL") 0 ∷
    row (codes "WM_CREATE") 1 ∷
    row (codes "WM_DESTROY") 2 ∷
    row (codes "WM_MOVE") 3 ∷
    row (codes "WM_SIZE") 5 ∷
    row (codes "WM_ACTIVATE") 6 ∷
    row (codes "WM_SETFOCUS") 7 ∷
    row (codes "WM_KILLFOCUS") 8 ∷
    row (codes "WM_ENABLE") 10 ∷
    row (codes "WM_PAINT") 15 ∷
    row (codes "WM_CLOSE") 16 ∷
    row (codes "WM_QUIT") 18 ∷
    row (codes "WM_ERASEBKGND") 20 ∷
    row (codes "WM_SHOWWINDOW") 24 ∷
    row (codes "WM_CANCELMODE") 31 ∷
    row (codes "WM_NCCREATE") 129 ∷
    row (codes "WM_NCDESTROY") 130 ∷
    row (codes "WM_KEYDOWN") 256 ∷
    row (codes "WM_KEYUP") 257 ∷
    row (codes "WM_CHAR") 258 ∷
    row (codes "WM_COMMAND") 273 ∷
    row (codes "WM_TIMER") 275 ∷
    row (codes "WM_MOUSEMOVE") 512 ∷
    row (codes "WM_LBUTTONDOWN") 513 ∷
    row (codes "WM_LBUTTONUP") 514 ∷
    row (codes "WM_RBUTTONDOWN") 516 ∷
    row (codes "WM_RBUTTONUP") 517 ∷
    row (codes "WM_CAPTURECHANGED") 533 ∷
    row (codes "WM_RENDERFORMAT") 773 ∷
    row (codes "WM_DESTROYCLIPBOARD") 775 ∷
    row (codes "WM_DDE_INITIATE") 992 ∷
    row (codes "WM_DDE_TERMINATE") 993 ∷
    row (codes "WM_DDE_ACK") 996 ∷
    row (codes "WM_DDE_DATA") 997 ∷
    row (codes "WM_DDE_REQUEST") 998 ∷
    row (codes "WM_DDE_POKE") 999 ∷
    row (codes "WM_DDE_EXECUTE") 1000 ∷
    row (codes "WM_USER") 1024 ∷
    row (codes "WM_APP") 32768 ∷ []
