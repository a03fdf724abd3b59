-- A compound statement is made of its parts again.
use Rattle.std.proofs.Common.{◌≡◌, List, refl, ap, sym, ◌∙◌}
use Rattle.std.specs.Prelude.{map}
use Rattle.script_tree.specs.declared.statement.CompoundStatement.{CompoundStatement}
use Rattle.script_tree.specs.declared.statement.CompoundStatement.TheVariants as statements
use Rattle.statement_table.specs.declared.compounds.CompoundName.{CompoundName}
use Rattle.statement_table.specs.declared.part.Part.{Part}
use Rattle.statement_table.specs.Parts.{place_of_part}
use Rattle.statement_table.specs.Compounds.{compound_places, compound_name, compound_parts, made_compound}

pub compound_fits : (c : CompoundStatement) → map place_of_part (compound_parts c) ≡ compound_places (compound_name c)
compound_fits statements.ReleaseCapture = refl
compound_fits c = refl

pub compound_again : (c : CompoundStatement) → made_compound (compound_name c) (compound_parts c) ≡ c
compound_again statements.ReleaseCapture = refl
compound_again c = refl

pub compound_of : (name : CompoundName) (ps : List Part) (c : CompoundStatement) → compound_name c ≡ name → compound_parts c ≡ ps → made_compound name ps ≡ c
compound_of name ps c named same = ap (λ (n : CompoundName). made_compound n ps) (sym named) ∙ ap (made_compound (compound_name c)) (sym same) ∙ compound_again c
