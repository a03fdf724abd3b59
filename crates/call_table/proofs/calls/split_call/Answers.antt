use Rattle.std.proofs.Common.{◌≡◌, Option, Some, ap, sym, ◌∙◌}
use Rattle.std.specs.Prelude.{map, option_map}
use Rattle.call_fields.specs.Values.{field_of}
use Rattle.call_table.specs.declared.calls.CallName.{CallName}
use Rattle.call_table.specs.Calls.{call_name, call_parts, call_row, found_split, split_or_none}
use Rattle.call_table.specs.Splits.{Split, read_split}
use Rattle.call_table.proofs.CallLaws.{parts_fit}
use Rattle.call_table.proofs.calls.split_call.Goals as goal

pub returns-clause-fit : goal.returns-clause-fit
returns-clause-fit c =
    let found : option_map read_split (Some c.in-Some.split) ≡ found_split c.args.call = sym (ap (option_map read_split) c.in-Some.is) ∙ c.found_split.ensures in
    let parts : c.in-Some.split.values.items ≡ call_parts c.args.call = ap (λ (o : Option Split). (split_or_none o).values) found in
    let name : c.in-Some.split.name ≡ call_name c.args.call = ap (λ (o : Option Split). (split_or_none o).name) found in
    ap (map field_of) parts ∙ parts_fit c.args.call ∙ ap (λ (n : CallName). (call_row n).fields) (sym name)
