-- What is still to be listed of a destruction.
use Rattle.std.specs.Prelude.{ℕ, List, [], ◌∷◌, map}
use Rattle.win_rows.specs.declared.row.Unmade.{Unmade}
use Rattle.win_rows.specs.declared.row.Unmade.TheVariants.{Tell}
use Rattle.win_rows.specs.declared.order.Kind.{Kind}
use Rattle.win_rows.specs.declared.order.Kind.TheVariants.{Whole, Told, Alone, Ended}
use Rattle.win_rows.specs.declared.order.Part.{Part}
use Rattle.win_rows.specs.declared.window.Window.{Window}
use Rattle.win_rows.specs.Destruction.{told, ended, preorder, postorder, destruction, answer_of}

-- the steps of x of this kind
abbrev pub kind_steps : List Window → Kind → ℕ → Window → List Unmade
kind_steps ws Whole n x = map answer_of (destruction n ws x)
kind_steps ws Told n x = map answer_of (map told (preorder n ws x))
kind_steps ws Alone n x = Tell x.number ∷ []
kind_steps ws Ended n x = map answer_of (map ended (postorder n ws x))

-- the steps of the part
abbrev pub part_steps : List Window → Part → List Unmade
part_steps ws p = kind_steps ws p.kind p.depth p.window

-- a part of each of these windows
abbrev pub parts_of : Kind → ℕ → List Window → List Part
parts_of kind n us = map (λ x. record { kind = kind; window = x; depth = n }) us
