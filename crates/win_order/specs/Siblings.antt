-- The children of one parent.
use Rattle.std.specs.Prelude.{List}
use Rattle.win_num.specs.declared.message.Hwnd.{Hwnd}

-- the children of one window, or for 0 the top-level windows, from the bottom to the top
pub record Siblings : Type 0 where
  pub parent : Hwnd
  pub windows : List Hwnd
