use Rattle.user_desk.proofs.Logs.{legal_log}
use Rattle.user_desk.proofs.desk.Desk.new.Goals as goal

pub new-requires-clause-lawful : goal.new-requires-clause-lawful
new-requires-clause-lawful g c = legal_log (g.M.Machine.setup c.args.machine) (g.M.Machine.past c.args.machine) c.requires.legal.0 c.requires.legal.1
