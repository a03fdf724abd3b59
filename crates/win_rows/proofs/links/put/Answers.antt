use Rattle.win_rows.proofs.Listing.{on_some}
use Rattle.std.proofs.Common.{arith}
use Rattle.win_rows.proofs.Grouping.{put_found, put_none}
use Rattle.win_rows.proofs.links.put.Goals as goal

pub put_at-requires : goal.put_at-requires
put_at-requires c = omega (arith, c.requires, c.in-Some.ensures.place.within)

pub returns-in-Some : goal.returns-in-Some
returns-in-Some c = on_some (put_found c.args.rows.now c.args.above.0 c.in-Some.p c.args.x.now c.args.groups.now.items _ c.in-Some.ensures.rising c.requires c.in-Some.ensures.place) c.put_at.result c.put_at.ensures

pub returns-in-None : goal.returns-in-None
returns-in-None c = put_none 0 c.args.rows.now c.args.above.0 c.args.x.now c.args.groups.now.items c.requires c.in-None.ensures.place
