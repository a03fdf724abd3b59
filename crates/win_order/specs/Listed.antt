-- The lists of siblings as the code keeps them: each under the number of its parent.
use Rattle.std.specs.Prelude.{if◌then◌else◌, ℕ, ◌==◌, List}
use Rattle.win_num.specs.declared.message.Hwnd.{Hwnd}
use Rattle.win_order.specs.Families.{without_window}
use Rattle.win_order.specs.Siblings.{Siblings}

-- a parent with its children
abbrev pub siblings : (ℕ × List Hwnd) → Siblings
siblings e = record { parent = record { 0 = e.0 }; windows = e.1 }

-- a list of siblings, without the window if the parent is p
abbrev pub without_child : ℕ → ℕ → Siblings → Siblings
without_child p w f = if f.parent.0 == p then without_window w f else f
