use Rattle.std.proofs.Common.{◌≡◌, ◌++◌, ◌∷◌, [], rules, tests}
use Rattle.win_rows.specs.declared.links.Group.{Group}
use Rattle.win_rows.proofs.Grouping.{put_set}
use Rattle.win_rows.proofs.links.put_at.Goals as goal

pub returns : goal.returns
returns c =
    let more : c.push.new.self.items ≡ c.index_mut.result.now.windows.items ++ c.args.x.now ∷ [] = search (rules, tests) in
    let group : Group = record { windows = c.push.new.self } in
    put_set c.args.p c.args.x.now c.args.groups.now.items c.index_mut.result.now group c.requires c.index_mut.ensures.value more
