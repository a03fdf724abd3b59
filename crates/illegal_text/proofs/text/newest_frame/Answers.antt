use Rattle.std.proofs.Common.{sym}
use Rattle.std.specs.Prelude.{option_copied}
use Rattle.illegal_text.proofs.Newest.{newest_told}
use Rattle.illegal_text.proofs.text.newest_frame.Goals as goal

pub returns : goal.returns
returns g c = newest_told (g.M.Machine.setup c.args.machine.now) (g.M.Machine.past c.args.machine.now) c.history.result.now c.in_ok-entry.entry.now (option_copied c.frame_at.result) c.history.ensures (sym c.in_ok-entry.ensures.value) c.frame_at.ensures c.requires.lawful
