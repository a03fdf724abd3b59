-- What adding to a text does.
use Rattle.std.specs.Prelude.{◌≡◌, ℕ, List, ◌∷◌, ◌++◌, decimal}

-- the new text is the old one with the piece at its end
pub record Adds (old new piece : List ℕ) : Type 0 where
  pub is : new ≡ old ++ piece

-- a blank and a number in decimal
abbrev pub operand : ℕ → List ℕ
operand n = 32 ∷ decimal n
