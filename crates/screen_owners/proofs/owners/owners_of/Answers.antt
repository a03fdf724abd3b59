use Rattle.std.proofs.Common.{◌∙◌, [], ◌∷◌, ◌++◌, ap, arith, map}
use Rattle.std.proofs.lemmas.List.{take_all}
use Rattle.std.proofs.lemmas.List.Elements.{All-push, All-same}
use Rattle.screen_owners.specs.Owners.{IsOwned}
use Rattle.screen_owners.specs.Shares.{share_window}
use Rattle.screen_owners.proofs.Shared.{are_owners, entries_rise, more_entries}
use Rattle.screen_owners.proofs.owners.owners_of.Goals as goal

pub loop-share-preserved : goal.loop-share-preserved
loop-share-preserved c =
    let P = IsOwned c.args.tree.now.live c.args.order.now c.args.part.now in
    let es = c.loop-share.entries.items in
    let o = c.in_ok-owned_of.field-0 in
    record {
      windows = more_entries es c.push.new.self.items c.args.shares.now c.loop-share.share-index c.share-item.result o c.in_ok-push.ensures.items (omega arith) c.share-item.is c.in_ok-owned_of.ensures.window c.loop-share.invariant.windows;
      owned = All-same P c.push.new.self.items (es ++ o ∷ []) c.in_ok-push.ensures.items (All-push P es o c.loop-share.invariant.owned c.in_ok-owned_of.ensures.owned);
    }

pub invariant_of-result : goal.invariant_of-result
invariant_of-result c = entries_rise c.loop-share.entries.items c.args.shares.now (c.loop-share.invariant.windows ∙ ap (map share_window) (take_all c.loop-share.share-index c.args.shares.now (omega arith))) c.requires.shares.older

pub returns : goal.returns
returns c = are_owners c.args.tree.now.live c.args.order.now c.args.tree.now.last c.args.part.now c.requires.ordered c.requires.children c.args.shares.now c.loop-share.entries.items c.requires.shares (c.loop-share.invariant.windows ∙ ap (map share_window) (take_all c.loop-share.share-index c.args.shares.now (omega arith))) c.loop-share.invariant.owned
