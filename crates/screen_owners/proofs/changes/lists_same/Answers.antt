use Rattle.std.proofs.Common.{◌∙◌, ap, sym}
use Rattle.screen_owners.specs.Shown.{others}
use Rattle.screen_owners.proofs.changes.lists_same.Goals as goal

pub returns : goal.returns
returns c h =
    let one = c.deref.ensures.value ∙ (c.in_ok-before.ensures ∙ ap (others c.args.changed.now) c.siblings.ensures) in
    let other = c.deref-2.ensures.value ∙ (c.in_ok-after.ensures ∙ ap (others c.args.changed.now) c.siblings-2.ensures) in
    sym one ∙ (c.list_same.ensures h ∙ other)
