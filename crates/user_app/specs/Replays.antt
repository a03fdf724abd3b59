-- The order in which the threads of a run moved, in the place of a script's order list.
use Rattle.std.specs.Prelude.{ℕ, ◌==◌, if◌then◌else◌, List, [], ◌∷◌, ◌++◌}
use Rattle.user_model.specs.Past.{Past}
use Rattle.script_tree.specs.Tree.{Tree}

-- the threads that moved, the first mover first; the entries of the clock are passed over
abbrev pub movers : Past → List ℕ
movers [] = []
movers (e ∷ past) = if e.who.0 == 0 then movers past else movers past ++ e.who.0 ∷ []

-- the script with these numbers as its order list
abbrev pub ordered : Tree → List ℕ → Tree
ordered s numbers = record { width = s.width; height = s.height; budget = s.budget; order = numbers; names = s.names; procedures = s.procedures; threads = s.threads }
