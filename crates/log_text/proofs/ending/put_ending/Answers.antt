use Rattle.std.proofs.Common.{◌++◌, subst}
use Rattle.user_io.specs.Text.{Adds}
use Rattle.user_io.proofs.Texts.{two}
use Rattle.user_model.specs.declared.entry.SendCount.{SendCount}
use Rattle.log_text.specs.Endings.{end_line, extras, counts_line, sends_line}
use Rattle.log_text.proofs.ending.put_ending.Goals as goal

pub returns : goal.returns
returns g c =
    let past = g.M.Machine.past c.args.machine.now in
    let sends = subst (λ (n : SendCount). Adds c.put_extras.new.out.items c.put_sends_line.new.out.items (counts_line n)) c.send_count.ensures c.in_ok-put_sends_line.ensures in
    two {a = end_line c.args.end} {b = extras c.args.words.now.script.now past c.args.end ++ sends_line past} c.in_ok-put_end_line.ensures
    (two {a = extras c.args.words.now.script.now past c.args.end} {b = sends_line past} c.in_ok-put_extras.ensures sends)
