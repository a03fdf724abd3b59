use Rattle.script_text.proofs.FirstBad.{nothing_read, nothing_sound, nothing_built}
use Rattle.script_text.proofs.reading.Reading.new.Goals as goal

pub returns : goal.returns
returns c =
    let b = c.new-2.result in
    let none = c.new-2.ensures in
    record {
      front = nothing_read c.new.result b.procedures.items b.threads.items b.blocks.items c.new.ensures none.0 none.1 none.2;
      sound = nothing_sound b.procedures.items b.threads.items b.blocks.items none.2;
      built = nothing_built c.new.result b.procedures.items b.threads.items b.blocks.items c.new.ensures none.0 none.1 none.2;
    }
