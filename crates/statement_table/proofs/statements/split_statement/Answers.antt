use Rattle.std.proofs.Common.{◌≡◌, Option, Some, ap, sym, ◌∙◌}
use Rattle.std.specs.Prelude.{map, option_map}
use Rattle.statement_table.specs.Parts.{place_of_part}
use Rattle.statement_table.specs.Places.{statement_places}
use Rattle.statement_table.specs.Splits.{Split, read_split}
use Rattle.statement_table.specs.Statements.{found_split, split_or_none, statement_name, statement_parts}
use Rattle.statement_table.proofs.StatementLaws.{statement_fits}
use Rattle.statement_table.proofs.statements.split_statement.Goals as goal

pub returns-clause-fit : goal.returns-clause-fit
returns-clause-fit c =
    let found : option_map read_split (Some c.in-Some.split) ≡ found_split c.args.call = sym (ap (option_map read_split) c.in-Some.is) ∙ c.found_split.ensures in
    let parts : c.in-Some.split.parts.items ≡ statement_parts c.args.call = ap (λ (o : Option Split). (split_or_none o).parts) found in
    let name : c.in-Some.split.name ≡ statement_name c.args.call = ap (λ (o : Option Split). (split_or_none o).name) found in
    ap (map place_of_part) parts ∙ statement_fits c.args.call ∙ ap statement_places (sym name)
