-- The names of a script.
use Rattle.std.specs.Prelude.{ℕ, List, [], map}
use Rattle.script_tree.specs.Tree.{Tree}

-- the names of classes, titles and messages, and the names of procedures; a place in a list is from 0
pub record Known : Type 0 where
  pub names : List (List ℕ)
  pub procedures : List (List ℕ)

-- none yet
abbrev pub nothing_known : Known
nothing_known = record { names = []; procedures = [] }

-- those of a script
abbrev pub known_of : Tree → Known
known_of s = record { names = s.names; procedures = map (λ p. p.name) s.procedures }
