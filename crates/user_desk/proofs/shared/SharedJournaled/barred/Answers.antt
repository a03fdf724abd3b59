use Rattle.std.proofs.Common.{sym, ap, ◌∙◌}
use Rattle.user_model.specs.Idle.{is_barred}
use Rattle.user_desk.proofs.Logs.{past-said}
use Rattle.user_desk.proofs.shared.SharedJournaled.barred.Goals as goal

pub returns : goal.returns
returns g c =
    let setup = g.M.Machine.setup c.args.self.now.machine in
    let past = g.M.Machine.past c.args.self.now.machine in
    c.barred.ensures ∙ ap (λ p. is_barred setup p c.args.call.now.0.0) (sym (past-said past))
