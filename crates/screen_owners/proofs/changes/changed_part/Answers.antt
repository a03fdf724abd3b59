use Rattle.std.proofs.Common.{List, subst}
use Rattle.win_num.specs.declared.message.Hwnd.{Hwnd}
use Rattle.screen_owners.specs.Shown.{HasWays, ListsSame}
use Rattle.screen_owners.proofs.ChangedParts.{boxes_keep, whole_keeps}
use Rattle.screen_owners.proofs.changes.changed_part.Goals as goal

pub returns-clause-kept : goal.returns-clause-kept
returns-clause-kept c =
    boxes_keep c.in_ok-changed.changed.items c.args.old.now.live c.args.old_order.now c.args.old.now.last c.args.new.now.live c.args.new_order.now c.args.new.now.last (record { screen = c.args.screen; region = c.in_ok-region.region })
    c.in_ok-changed.ensures.older c.requires.before c.in_ok-changed.ensures.newer c.requires.after c.in_ok-changed.ensures.changed
    (subst (λ (hs : List Hwnd). ListsSame hs c.args.old_order.now c.args.new.now.live c.args.new_order.now) c.deref.ensures.value (c.in_ok-keeps.ensures c.if-not-keeps.false))
    (subst (λ (hs : List Hwnd). HasWays c.args.old.now.live c.args.screen.width c.args.screen.height hs c.in_ok-region.region) c.deref-2.ensures.value c.in_ok-region.ensures.before)
    (subst (λ (hs : List Hwnd). HasWays c.args.new.now.live c.args.screen.width c.args.screen.height hs c.in_ok-region.region) c.deref-2.ensures.value c.in_ok-region.ensures.after)

pub returns-then-not-keeps-clause-kept : goal.returns-then-not-keeps-clause-kept
returns-then-not-keeps-clause-kept c = whole_keeps c.args.old.now.live c.args.old_order.now c.args.new.now.live c.args.new_order.now c.in_ok-whole.whole c.args.screen c.in_ok-whole.ensures.screen c.in_ok-whole.ensures.pixels
