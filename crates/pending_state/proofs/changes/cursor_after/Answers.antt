use Rattle.std.proofs.Common.{◌∙◌}
use Rattle.pending_state.proofs.Cursors.{fits_of, moved_of}
use Rattle.pending_state.proofs.changes.cursor_after.Goals as goal

pub moved_by-requires : goal.moved_by-requires
moved_by-requires c = fits_of c.args.entry.answer c.args.entry.call c.in_default.not-Refused c.requires

pub returns-in_default : goal.returns-in_default
returns-in_default c = c.moved_by.ensures ∙ moved_of c.args.entry.answer c.args.entry.call c.args.cursor c.in_default.not-Refused
