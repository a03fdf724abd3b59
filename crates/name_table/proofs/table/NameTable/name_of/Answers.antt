use Rattle.std.proofs.Common.{◌≡◌, ◌≢◌, ◌↔◌, ℕ, true, List, Option, sym, ap, subst, ◌∙◌}
use Rattle.std.specs.Prelude.{All, IsNone, option_map}
use Rattle.name_table.specs.Rows.{Named, is_one_to_one, name_in}
use Rattle.name_table.proofs.RowsLemmas.{name_in-all_named, name_in-row, name_in-none, number_in-name_in, mapped-IsNone}
use Rattle.name_table.proofs.table.NameTable.name_of.Goals as goal

pub returns : goal.returns
returns c =
    let number : ℕ = c.args.number in
    let rows : List Named = c.args.self.now in
    let name : Option (List ℕ) = option_map (λ s. s.now) c.name_in_rows.result in
    let value : name ≡ name_in rows number = c.name_in_rows.ensures ∙ name_in-all_named c.self.inside.rows.now number ∙ ap (λ (rs : List Named). name_in rs number) c.self.view_is in
    let once : is_one_to_one rows ≡ true = subst (λ (rs : List Named). is_one_to_one rs ≡ true) c.self.view_is c.self.invariant in
    let none : IsNone name ↔ All (λ r. r.number ≢ number) rows = subst (λ (o : Option (List ℕ)). IsNone o ↔ All (λ r. r.number ≢ number) rows) (sym value) (name_in-none rows number) in
    record {
      value = value;
      row = λ s. (λ e. (name_in-row rows s number once).0 (sym value ∙ e), λ has. value ∙ (name_in-row rows s number once).1 has);
      none = (λ h. none.0 ((mapped-IsNone (λ s. s.now) c.name_in_rows.result).1 h), λ all. (mapped-IsNone (λ s. s.now) c.name_in_rows.result).0 (none.1 all));
      back = λ s. (λ e. (number_in-name_in rows s number once).1 (sym value ∙ e), λ e. value ∙ (number_in-name_in rows s number once).0 e);
    }
