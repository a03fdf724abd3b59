-- The text of a frame, and where it stands.
use Rattle.std.specs.Prelude.{ℕ, zero, suc, ◌+◌, if◌then◌else◌, nat_lt, List, [], ◌∷◌, ◌++◌, codes, map, take, drop, Option, Some, None}
use Rattle.std.specs.List.{flat_map}
use Rattle.user_model.specs.declared.entry.Answer.{Answer}
use Rattle.user_model.specs.declared.entry.Answer.TheVariants.{Snap}
use Rattle.user_model.specs.declared.entry.Setup.{Setup}
use Rattle.user_model.specs.Past.{Past}
use Rattle.user_model.specs.Colours.{frame}
use Rattle.script_tree.specs.Tree.{Tree}

-- the digit of a colour, 0 to 9 and a to f; a number above 15 is no colour
abbrev pub digit : ℕ → ℕ
digit colour = if nat_lt colour 10 then 48 + colour else if nat_lt colour 16 then 87 + colour else 63

-- colours in rows of this width, so many rows, the top one first
abbrev pub rows : ℕ → ℕ → List ℕ → List (List ℕ)
rows width zero colours = []
rows width (suc more) colours = take width colours ∷ rows width more (drop width colours)

-- the line of a row
abbrev pub row_line : List ℕ → List ℕ
row_line row = map digit row ++ codes "\n"

-- the lines of a frame of this width and height
abbrev pub frame_text : ℕ → ℕ → List ℕ → List ℕ
frame_text width height colours = flat_map row_line (rows width height colours)

-- the frame that stands behind an entry after this past: where the number of a frame was answered, the colours of the screen before the entry
abbrev pub shown : Setup → Past → Answer → Option (List ℕ)
shown setup past (Snap k) = Some (frame setup past)
shown setup past _ = None

-- its lines on a script's screen
abbrev pub frame_lines : Tree → Option (List ℕ) → List ℕ
frame_lines s None = []
frame_lines s (Some colours) = frame_text s.width s.height colours
