use Rattle.std.proofs.Common.{◌≡◌, ◌≢◌, ◌↔◌, ℕ, true, List, Option, sym, ap, subst, ◌∙◌}
use Rattle.std.specs.Prelude.{All, IsNone}
use Rattle.name_table.specs.Rows.{Named, is_one_to_one, number_in}
use Rattle.name_table.proofs.RowsLemmas.{number_in-all_named, number_in-row, number_in-none, number_in-name_in}
use Rattle.name_table.proofs.table.NameTable.number_of.Goals as goal

pub returns : goal.returns
returns c =
    let name : List ℕ = c.args.name.now in
    let rows : List Named = c.args.self.now in
    let value : c.number_in_rows.result ≡ number_in rows name = c.number_in_rows.ensures ∙ number_in-all_named c.self.inside.rows.now name ∙ ap (λ (rs : List Named). number_in rs name) c.self.view_is in
    let once : is_one_to_one rows ≡ true = subst (λ (rs : List Named). is_one_to_one rs ≡ true) c.self.view_is c.self.invariant in
    record {
      value = value;
      row = λ n. (λ e. (number_in-row rows name n once).0 (sym value ∙ e), λ has. value ∙ (number_in-row rows name n once).1 has);
      none = subst (λ (o : Option ℕ). IsNone o ↔ All (λ r. r.name ≢ name) rows) (sym value) (number_in-none rows name);
      back = λ n. (λ e. (number_in-name_in rows name n once).0 (sym value ∙ e), λ e. value ∙ (number_in-name_in rows name n once).1 e);
    }
