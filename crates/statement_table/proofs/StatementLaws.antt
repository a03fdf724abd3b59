-- A statement is made of its parts again.
use Rattle.std.proofs.Common.{◌≡◌, List, Some, refl, ap, sym, ◌∙◌}
use Rattle.std.specs.Prelude.{map}
use Rattle.call_table.specs.declared.calls.CallName.{CallName}
use Rattle.script_tree.specs.declared.statement.CallStatement.{CallStatement}
use Rattle.script_tree.specs.declared.statement.CallStatement.TheVariants as calls
use Rattle.statement_table.specs.declared.part.Part.{Part}
use Rattle.statement_table.specs.Parts.{place_of_part}
use Rattle.statement_table.specs.Places.{statement_places}
use Rattle.statement_table.specs.Statements.{found_split, statement_name, statement_parts, made_statement}

-- no statement is left out
pub is_found : (c : CallStatement) → found_split c ≡ Some (record { name = statement_name c; parts = statement_parts c })
is_found calls.Clock = refl
is_found c = refl

-- ---- calls and parts

pub statement_fits : (c : CallStatement) → map place_of_part (statement_parts c) ≡ statement_places (statement_name c)
statement_fits calls.Clock = refl
statement_fits c = refl

pub statement_again : (c : CallStatement) → made_statement (statement_name c) (statement_parts c) ≡ Some c
statement_again calls.Clock = refl
statement_again c = refl

pub statement_of : (name : CallName) (ps : List Part) (c : CallStatement) → statement_name c ≡ name → statement_parts c ≡ ps → made_statement name ps ≡ Some c
statement_of name ps c named same = ap (λ (n : CallName). made_statement n ps) (sym named) ∙ ap (made_statement (statement_name c)) (sym same) ∙ statement_again c
