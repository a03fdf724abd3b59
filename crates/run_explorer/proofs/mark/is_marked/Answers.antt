use Rattle.std.proofs.Common.{ℕ, List, Option, reverse, sym, ap, ◌∙◌}
use Rattle.std.specs.Prelude.{option_copied}
use Rattle.run_explorer.specs.Marks.{makes_message, is_marked}
use Rattle.run_explorer.proofs.Marking.{any_reverse}
use Rattle.run_explorer.proofs.mark.is_marked.Goals as goal

pub returns-in-Some : goal.returns-in-Some
returns-in-Some c =
    c.has_message.ensures ∙ any_reverse (λ e. makes_message c.args.script.now.names c.in-Some.name.now e.call) c.args.history.now
    ∙ ap (λ (o : Option (List ℕ)). is_marked c.args.script.now o (reverse c.args.history.now)) (sym (ap option_copied c.in-Some.is))
