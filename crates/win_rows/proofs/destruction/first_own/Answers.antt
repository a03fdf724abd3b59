use Rattle.std.proofs.Common.{◌∙◌, option_map, ap, sym}
use Rattle.win_rows.specs.declared.row.Unmade.TheVariants.{Last}
use Rattle.win_rows.proofs.Searches.{own_told, own_ended}
use Rattle.win_rows.proofs.destruction.first_own.Goals as goal

pub returns-in-Some : goal.returns-in-Some
returns-in-Some c = sym (own_told c.args.depth c.args.rows.now c.args.x.now c.in-Some.w (sym c.in-Some.ensures))

pub returns-in-Some-first_due : goal.returns-in-Some-first_due
returns-in-Some-first_due c = ap (option_map Last) c.in-Some-first_due.ensures ∙ sym (own_ended c.args.depth c.args.rows.now c.args.x.now (sym c.in_default.ensures))

pub returns-in-None : goal.returns-in-None
returns-in-None c = ap (option_map Last) c.in-None.ensures ∙ sym (own_ended c.args.depth c.args.rows.now c.args.x.now (sym c.in_default.ensures))
