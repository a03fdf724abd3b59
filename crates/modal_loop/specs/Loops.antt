-- The loops of messages by the table of steps.
use Rattle.std.specs.Prelude.{ℕ, List, [], ◌∷◌}
use Rattle.user_model.specs.declared.call.Call.TheVariants.{Dispatch, BeginDialog}
use Rattle.script_tree.specs.Compounds.{pumping, dialog_begin}
use Rattle.script_tree.specs.Pieces.{Piece, Settle}
use Rattle.script_tree.specs.Steps.{begun_over}

-- the pieces of `pump`, as its line in the table has them; a refused one gives 0, as a refused `dispatch` does
abbrev pub pump_pieces : List Piece
pump_pieces = begun_over pumping (Settle (Dispatch 0 0 0 0) ∷ [])

-- those of `dialog` on that window
abbrev pub dialog_pieces : ℕ → List Piece
dialog_pieces w = begun_over (dialog_begin w) (Settle (BeginDialog w) ∷ [])
