use Rattle.user_io.proofs.Texts.{two}
use Rattle.log_read.proofs.LineWords.{from_nothing, of_parts}
use Rattle.log_read.proofs.writer.write.Goals as goal

pub returns : goal.returns
returns c =
    from_nothing _ _ _ _
    (two c.in_ok-put_text.ensures (two c.in_ok-put_entries.ensures (two c.in_ok-put_end_line.ensures (two c.in_ok-put_extras.ensures c.in_ok-put_sends_line.ensures))))
    c.new-out.ensures.items
    (of_parts c.args.words.now.script.now c.args.log.now c.entries.result.now c.end.result c.extras.result.now c.sends.result c.entries.ensures c.end.ensures c.extras.ensures c.sends.ensures)
