use Rattle.screen_owners.proofs.ChangedParts.{keeps_push, push_looks}
use Rattle.screen_owners.proofs.changes.push_changed.Goals as goal

pub returns-clause-kept : goal.returns-clause-kept
returns-clause-kept c = keeps_push c.args.changed.now.items _ c.args.w c.in_ok-push.ensures.items

pub returns-clause-added : goal.returns-clause-added
returns-clause-added c = push_looks c.args.changed.now.items _ c.args.w _ c.in_ok-push.ensures.items
