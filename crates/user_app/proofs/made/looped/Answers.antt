use Rattle.user_app.proofs.MadeScripts.{loop_lines}
use Rattle.user_app.proofs.made.looped.Goals as goal

pub returns : goal.returns
returns c = loop_lines c.args.test c.args.pass
