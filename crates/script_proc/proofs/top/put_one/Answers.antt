use Rattle.std.proofs.Common.{◌∙◌}
use Rattle.script_proc.proofs.Lasts.{set_only}
use Rattle.script_proc.proofs.top.put_one.Goals as goal

pub returns-clause-items : goal.returns-clause-items
returns-clause-items c below item e =
    set_only c.args.items.now.items below item c.args.first c.len-last.result e (c.len-last.ensures ∙ c.args.items.now.ok.0)
