use Rattle.std.proofs.Common.{ℕ, ◌+◌, Option, Some, ap, sym, ◌∙◌}
use Rattle.win_class.proofs.TableLemmas.{number_in-last}
use Rattle.win_class.proofs.classes.Classes.message_number.Goals as goal

pub returns-clause-number : goal.returns-clause-number
returns-clause-number c =
    number_in-last c.self.inside.classes.entries c.self.inside.registered c.self.inside.messages.keys c.insert.new.self.keys c.args.name (sym c.get_index_of.ensures.index ∙ c.in_default.is) c.in-Ok.ensures.keys
    ∙ ap (λ (k : ℕ). let o : Option ℕ = Some (49152 + k) in o) (sym c.len-place.ensures.len)
