-- A window that goes alone.
use Rattle.std.specs.Prelude.{◌≡◌, ℕ, ◌==◌, true, List}
use Rattle.std.specs.List.{list_any}
use Rattle.win_num.specs.declared.message.Hwnd.{Hwnd}
use Rattle.win_order.specs.Layers.{is_gone}
use Rattle.win_order.specs.Standing.{Standing}

-- where these stay, the window goes, which stands, and no other that stands does
pub record GoesAlone (staying : List Hwnd) (w : ℕ) (ss : List Standing) : Type 0 where
  pub stands : list_any (λ s. s.window.0 == w) ss ≡ true
  pub alone : (v : ℕ) → list_any (λ s. s.window.0 == v) ss ≡ true → is_gone staying v ≡ (v == w)
