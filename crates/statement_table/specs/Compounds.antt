-- Compound statements whose words are operands alone, one row each.
use Rattle.std.specs.Prelude.{ℕ, List, [], ◌∷◌, codes, map}
use Rattle.script_tree.specs.declared.operand.Operand.{Operand}
use Rattle.script_tree.specs.declared.statement.CompoundStatement.{CompoundStatement}
use Rattle.script_tree.specs.declared.statement.CompoundStatement.TheVariants as statements
use Rattle.statement_table.specs.declared.compounds.CompoundName.{CompoundName}
use Rattle.statement_table.specs.declared.compounds.CompoundName.TheVariants as names
use Rattle.statement_table.specs.declared.part.Part.{Part}
use Rattle.statement_table.specs.declared.part.Part.TheVariants as parts
use Rattle.statement_table.specs.declared.part.Place.{Place}
use Rattle.statement_table.specs.declared.part.Place.TheVariants as places
use Rattle.statement_table.specs.Parts.{operand_in}

-- its word
abbrev pub compound_word : CompoundName → List ℕ
compound_word names.ShowWindow = codes "show_window"
compound_word names.EnableWindow = codes "enable_window"
compound_word names.SetWindowPos = codes "set_window_pos"
compound_word names.SetFocus = codes "set_focus"
compound_word names.SetActive = codes "set_active"
compound_word names.SetCapture = codes "set_capture"
compound_word names.ReleaseCapture = codes "release_capture"
compound_word names.BeginPaint = codes "begin_paint"
compound_word names.UpdateWindow = codes "update_window"
compound_word names.PostAll = codes "post_all"
compound_word names.NotifyAll = codes "notify_all"
compound_word names.Pump = codes "pump"
compound_word names.Dialog = codes "dialog"

-- the places of the words behind it
abbrev pub compound_places : CompoundName → List Place
compound_places names.ShowWindow = places.Operand ∷ places.Operand ∷ []
compound_places names.EnableWindow = places.Operand ∷ places.Operand ∷ []
compound_places names.SetWindowPos = places.Operand ∷ places.Operand ∷ places.Operand ∷ places.Operand ∷ places.Operand ∷ places.Operand ∷ places.Operand ∷ []
compound_places names.SetFocus = places.Operand ∷ []
compound_places names.SetActive = places.Operand ∷ []
compound_places names.SetCapture = places.Operand ∷ []
compound_places names.ReleaseCapture = []
compound_places names.BeginPaint = places.Operand ∷ []
compound_places names.UpdateWindow = places.Operand ∷ []
compound_places names.PostAll = places.Operand ∷ places.Operand ∷ places.Operand ∷ []
compound_places names.NotifyAll = places.Operand ∷ places.Operand ∷ places.Operand ∷ []
compound_places names.Pump = []
compound_places names.Dialog = places.Operand ∷ []

-- which compound statement it is
abbrev pub compound_name : CompoundStatement → CompoundName
compound_name (statements.ShowWindow w on) = names.ShowWindow
compound_name (statements.EnableWindow w on) = names.EnableWindow
compound_name (statements.SetWindowPos w after l t r b flags) = names.SetWindowPos
compound_name (statements.SetFocus w) = names.SetFocus
compound_name (statements.SetActive w) = names.SetActive
compound_name (statements.SetCapture w) = names.SetCapture
compound_name statements.ReleaseCapture = names.ReleaseCapture
compound_name (statements.BeginPaint w) = names.BeginPaint
compound_name (statements.UpdateWindow w) = names.UpdateWindow
compound_name (statements.PostAll m p q) = names.PostAll
compound_name (statements.NotifyAll m p q) = names.NotifyAll
compound_name statements.Pump = names.Pump
compound_name (statements.Dialog w) = names.Dialog

-- its operands
abbrev pub compound_operands : CompoundStatement → List Operand
compound_operands (statements.ShowWindow w on) = w ∷ on ∷ []
compound_operands (statements.EnableWindow w on) = w ∷ on ∷ []
compound_operands (statements.SetWindowPos w after l t r b flags) = w ∷ after ∷ l ∷ t ∷ r ∷ b ∷ flags ∷ []
compound_operands (statements.SetFocus w) = w ∷ []
compound_operands (statements.SetActive w) = w ∷ []
compound_operands (statements.SetCapture w) = w ∷ []
compound_operands statements.ReleaseCapture = []
compound_operands (statements.BeginPaint w) = w ∷ []
compound_operands (statements.UpdateWindow w) = w ∷ []
compound_operands (statements.PostAll m p q) = m ∷ p ∷ q ∷ []
compound_operands (statements.NotifyAll m p q) = m ∷ p ∷ q ∷ []
compound_operands statements.Pump = []
compound_operands (statements.Dialog w) = w ∷ []

-- its parts in their places
abbrev pub compound_parts : CompoundStatement → List Part
compound_parts c = map (λ a. parts.Operand a) (compound_operands c)

-- the compound statement of this name, of the parts in their places
abbrev pub made_compound : CompoundName → List Part → CompoundStatement
made_compound names.ShowWindow ps = statements.ShowWindow (operand_in ps 0) (operand_in ps 1)
made_compound names.EnableWindow ps = statements.EnableWindow (operand_in ps 0) (operand_in ps 1)
made_compound names.SetWindowPos ps = statements.SetWindowPos (operand_in ps 0) (operand_in ps 1) (operand_in ps 2) (operand_in ps 3) (operand_in ps 4) (operand_in ps 5) (operand_in ps 6)
made_compound names.SetFocus ps = statements.SetFocus (operand_in ps 0)
made_compound names.SetActive ps = statements.SetActive (operand_in ps 0)
made_compound names.SetCapture ps = statements.SetCapture (operand_in ps 0)
made_compound names.ReleaseCapture ps = statements.ReleaseCapture
made_compound names.BeginPaint ps = statements.BeginPaint (operand_in ps 0)
made_compound names.UpdateWindow ps = statements.UpdateWindow (operand_in ps 0)
made_compound names.PostAll ps = statements.PostAll (operand_in ps 0) (operand_in ps 1) (operand_in ps 2)
made_compound names.NotifyAll ps = statements.NotifyAll (operand_in ps 0) (operand_in ps 1) (operand_in ps 2)
made_compound names.Pump ps = statements.Pump
made_compound names.Dialog ps = statements.Dialog (operand_in ps 0)
