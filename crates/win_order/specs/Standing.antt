-- What is known of one window that stands in the order.
use Rattle.std.specs.Prelude.{Bool}
use Rattle.win_num.specs.declared.message.Hwnd.{Hwnd}

-- its parent, or 0 for a top-level window; the window that owns it, or 0; its own topmost flag
pub record Standing : Type 0 where
  pub window : Hwnd
  pub parent : Hwnd
  pub owner : Hwnd
  pub topmost : Bool
