use Rattle.std.proofs.Common.{[], ◌∷◌, ◌++◌}
use Rattle.std.proofs.lemmas.List.Elements.{All-push, All-same}
use Rattle.screen_owners.specs.Shares.{IsLeft}
use Rattle.screen_owners.proofs.lefts.lefts_of.Goals as goal

pub loop-alloc-preserved : goal.loop-alloc-preserved
loop-alloc-preserved c =
    let P = IsLeft c.args.whole.now c.args.covers.now in
    let ls = c.loop-alloc.lefts.items in
    record {
      lefts = All-same P c.push.new.self.items (ls ++ c.loop-alloc.last ∷ []) c.in_ok-push.ensures.items (All-push P ls c.loop-alloc.last c.loop-alloc.invariant.lefts c.loop-alloc.invariant.last);
      last = c.in_ok-next.ensures.left c.args.whole.now c.loop-alloc.invariant.last;
    }
