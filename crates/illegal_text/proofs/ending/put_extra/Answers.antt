use Rattle.std.proofs.Common.{◌++◌, reverse, sym, ap, ◌∙◌}
use Rattle.std.proofs.lemmas.List.{reverse-reverse}
use Rattle.user_model.specs.Past.{Past}
use Rattle.log_text.specs.declared.end.End.TheVariants.{Stuck}
use Rattle.log_read.specs.Logs.{extra_of}
use Rattle.illegal_text.proofs.Endings.{back_again}
use Rattle.illegal_text.proofs.ending.put_extra.Goals as goal

pub returns-in_ok-put_waiting-in-Stuck : goal.returns-in_ok-put_waiting-in-Stuck
returns-in_ok-put_waiting-in-Stuck g c = λ s same.
    c.in_ok-put_waiting-in-Stuck.ensures s
    ∙ ap (λ (h : Past). c.args.extras.now.items ++ extra_of s h Stuck c.args.thread) (back_again (g.M.Machine.past c.args.machine.now) c.history.result.now c.history.ensures)
    ∙ ap (λ end. c.args.extras.now.items ++ extra_of s (g.M.Machine.past c.args.machine.now) end c.args.thread) (sym c.in-Stuck.is)
