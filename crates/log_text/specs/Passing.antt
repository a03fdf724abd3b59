-- A text that goes on into a sink.
use Rattle.std.specs.Prelude.{◌≡◌, ℕ, List, ◌++◌, Option}
use Rattle.std.specs.Io.KnownBytes.{Appends}

-- a front of the old text and the piece was appended to what is held, and the new text is what is left of them
pub record Passes (holds holds' : Option (List ℕ)) (old new piece : List ℕ) : Type 0 where
  pub gone : List ℕ
  pub written : Appends holds holds' gone
  pub is : gone ++ new ≡ old ++ piece
