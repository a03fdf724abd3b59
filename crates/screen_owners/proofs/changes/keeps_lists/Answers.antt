use Rattle.std.proofs.Common.{◌≡◌, true}
use Rattle.std.proofs.lemmas.Result.{IfOk-weaker}
use Rattle.screen_owners.specs.Shown.{ListsSame, ListsSameOf}
use Rattle.screen_owners.proofs.ChangedParts.{all_lists}
use Rattle.screen_owners.proofs.changes.keeps_lists.Goals as goal

pub returns : goal.returns
returns c =
    IfOk-weaker c.each_list_same.result (λ b. b ≡ true → ListsSameOf c.args.changed.now c.args.old.now c.args.new.now c.windows.result.now) (λ b. b ≡ true → ListsSame c.args.changed.now c.args.old.now c.args.tree.now.live c.args.new.now)
    (λ b lists h. all_lists c.args.changed.now c.args.old.now c.args.tree.now.live c.args.new.now c.windows.result.now c.windows.ensures.numbers (c.in_ok-same.ensures c.if-not-same.false) (lists h))
    c.each_list_same.ensures
